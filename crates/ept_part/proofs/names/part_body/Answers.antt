use Rattle.std.proofs.Common.{◌∙◌}
use Rattle.std.proofs.lemmas.Result.{IfOk-weaker}
use Rattle.ept_part.proofs.Digits.{body-of}
use Rattle.ept_part.proofs.names.part_body.Goals as goal

pub returns : goal.returns
returns c =
    IfOk-weaker c.path_in.result _ _ (λ path is. is ∙ body-of c.args.octants c.as_str.result.now (c.as_str.ensures.value ∙ c.in_ok-folder.ensures)) c.path_in.ensures
