use Rattle.std.proofs.Common.{◌-◌, length, refl, subst}
use Rattle.ept_merge.specs.declared.bodies.PartBody.{PartBody}
use Rattle.ept_merge.specs.Putting.{IsLastPart}
use Rattle.ept_merge.proofs.Loads.{last-part}
use Rattle.ept_merge.proofs.joining.last_of.Goals as goal

pub returns : goal.returns
returns c =
    subst (λ (part : PartBody). IsLastPart c.args.parts.now part.octants) c.index-parts-parts.is
    (last-part c.args.parts.now (length c.args.parts.now - 1) c.index-parts-parts.result c.requires refl c.index-parts-parts.is)
