use Rattle.std.proofs.Common.{subst, Option}
use Rattle.ept_ckpt.specs.declared.letter.Letter.TheVariants.{A, B}
use Rattle.ept_ckpt.specs.declared.checkpoint.Checkpoint.{Checkpoint}
use Rattle.ept_save.specs.Opening.{IsFound}
use Rattle.ept_save.proofs.Newer.{alike}
use Rattle.ept_save.proofs.opening.current_of.Goals as goal

pub returns-in-Ok-clause-current : goal.returns-in-Ok-clause-current
returns-in-Ok-clause-current c = λ files a b.
    c.in-Ok.ensures.current files (subst (λ (o : Option Checkpoint). IsFound files A o) c.in-Some-Some.is-0 a) (subst (λ (o : Option Checkpoint). IsFound files B o) c.in-Some-Some.is-1 b)

pub returns-in-Err-clause-alike : goal.returns-in-Err-clause-alike
returns-in-Err-clause-alike c = (
  c.in-Err.ensures.alike.0,
  (λ files a b. alike files c.in-Some-Some.a c.in-Some-Some.b c.in-Err.ensures.alike.1 (subst (λ (o : Option Checkpoint). IsFound files A o) c.in-Some-Some.is-0 a) (subst (λ (o : Option Checkpoint). IsFound files B o) c.in-Some-Some.is-1 b)),
)
