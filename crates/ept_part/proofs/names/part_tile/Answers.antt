use Rattle.std.proofs.Common.{◌∙◌}
use Rattle.std.proofs.lemmas.Result.{IfOk-weaker}
use Rattle.ept_part.proofs.Digits.{tile-of}
use Rattle.ept_part.proofs.names.part_tile.Goals as goal

pub returns : goal.returns
returns c =
    IfOk-weaker c.tile_in.result _ _ (λ path is. is ∙ tile-of c.args.octants c.as_str.result.now c.args.key.now (c.as_str.ensures.value ∙ c.in_ok-folder.ensures)) c.tile_in.ensures
