use Rattle.std.proofs.Common.{ℕ, ◌++◌, codes, ◌∙◌, ap}
use Rattle.std.specs.Fmt.{decimal}
use Rattle.ept_run.specs.Lines.{key_text}
use Rattle.ept_run.proofs.Texts.{three_pieces}
use Rattle.ept_run.proofs.lines.append_key.Goals as goal

pub returns : goal.returns
unfolding key_text
returns c =
    three_pieces c.args.line.now.items c.append_number.new.line.items c.append.new.line.items c.append-2.new.line.items (codes "error 3 config ") (decimal c.args.code) (codes " ") c.args.key.now
    (c.in_ok-append_number.ensures ∙ ap (λ (n : ℕ). c.args.line.now.items ++ codes "error 3 config " ++ decimal n) c.from.ensures) c.in_ok-append.ensures c.in_ok-append-2.ensures
