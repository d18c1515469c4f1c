use Rattle.std.proofs.Common.{subst, Option}
use Rattle.std.specs.Prelude.{IfSome}
use Rattle.ept_space.specs.declared.bounds.Bounds.{Bounds}
use Rattle.ept_config.specs.KeptOf.{IsKeptOf}
use Rattle.ept_config_diff.specs.declared.differing.Difference.{Difference}
use Rattle.ept_config_diff.specs.Differing.{IsDifference}
use Rattle.ept_plan.proofs.given.given_of.Goals as goal

pub returns-in-Some-clause-refused : goal.returns-in-Some-clause-refused
returns-in-Some-clause-refused c = (c.in_ok-given.given, subst (λ (b : Bounds). IsKeptOf c.args.config.now b c.in_ok-given.given) c.bounds_or-bounds.ensures.value c.in_ok-given.ensures.kept, subst (λ (o : Option Difference). IfSome o (IsDifference c.args.kept.now c.in_ok-given.given)) c.in-Some.is c.in_ok-found.ensures.some)
