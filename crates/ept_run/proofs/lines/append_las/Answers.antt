use Rattle.std.proofs.Common.{ℕ, ◌++◌, codes, ◌∙◌, ap}
use Rattle.std.specs.Fmt.{decimal}
use Rattle.ept_las.specs.LasHeader.{code_of}
use Rattle.ept_run.specs.Lines.{las_text, number_text}
use Rattle.ept_run.proofs.Texts.{two_numbers}
use Rattle.ept_run.proofs.lines.append_las.Goals as goal

pub returns : goal.returns
unfolding las_text
returns c =
    two_numbers c.args.line.now.items c.append_number.new.line.items c.append_input.new.line.items c.append_end.new.line.items (codes "error 4 las ") (decimal (code_of c.args.fault)) (codes " source ") (decimal c.args.source)
    (number_text c.args.fault)
    (c.in_ok-append_number.ensures ∙ ap (λ (n : ℕ). c.args.line.now.items ++ codes "error 4 las " ++ decimal n) (c.from.ensures ∙ c.code.ensures)) c.in_ok-append_input.ensures c.in_ok-append_end.ensures
