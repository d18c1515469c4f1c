use Rattle.std.proofs.Common.{◌∙◌, ap, Option}
use Rattle.std.specs.Prelude.{Ok}
use Rattle.std.proofs.lemmas.Bool.{false≢true}
use Rattle.ept_config_diff.specs.declared.differing.Difference.{Difference}
use Rattle.ept_merge.proofs.Alike.{none-differs, like-tested, like-has}
use Rattle.ept_merge.proofs.bodies.is_like.Goals as goal

pub returns-in-Ok-None : goal.returns-in-Ok-None
returns-in-Ok-None c =
    let kept = c.args.plan.now.kept in
    let counts = c.args.plan.now.counts in
    let found = c.args.found.now in
    let none = c.first_difference.ensures.none (c.in-Ok-None.is ∙ ap (λ (o : Option Difference). Ok o) c.in-Ok-None.field-0-is) in (
      λ is. like-tested kept counts found c.requires none (c.has_inputs.ensures.0 is),
      λ like. c.has_inputs.ensures.1 (like-has kept counts found c.requires like),
    )

pub returns-in-Ok-Some : goal.returns-in-Ok-Some
returns-in-Ok-Some c = (
  λ is. absurd (false≢true is),
  λ like. absurd (none-differs c.args.found.now.kept c.args.plan.now.kept c.in-Ok-Some.field-0-0 like.kept_is (rw c.in-Ok-Some.field-0-is at c.in-Ok-Some.ensures.some)),
)
