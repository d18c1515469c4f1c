use Rattle.std.proofs.Common.{ap, ◌∙◌, arith}
use Rattle.std.specs.Result.{result_ok}
use Rattle.std.proofs.lemmas.Fmt.{parse-decimal}
use Rattle.ept_space.proofs.text.number.Goals as goal

pub returns : goal.returns
returns c = λ n small spelled.
    c.ok.ensures.value ∙ ap result_ok (parse-decimal 32 n c.args.text.now c.parse.result small (omega arith) spelled c.parse.ensures.value.0)
