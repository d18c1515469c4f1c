use Rattle.std.proofs.Common.{◌≡◌, ◌∙◌, ◌⊎◌, inr, refl, ap}
use Rattle.std.specs.Prelude.{Err}
use Rattle.ept_conn.specs.declared.end.Fault.TheVariants as fault
use Rattle.ept_conn.proofs.LastWords.{stops-as, stops-alone}
use Rattle.ept_conn.proofs.session.Session.get_file.Goals as goal

pub returns-in-Err-clause-out : goal.returns-in-Err-clause-out
returns-in-Err-clause-out g c = λ going. absurd (c.stop.ensures.ends going)

pub returns-in-Err-clause-only : goal.returns-in-Err-clause-only
returns-in-Err-clause-only g c =
    stops-as (λ cause. (cause ≡ fault.Store) ⊎ (cause ≡ fault.Memory)) c.in-Err.fault c.stop.new.self.fault c.stop.ensures.cause c.in-Err.ensures.only (inr refl)

pub returns-in-Err-clause-stores : goal.returns-in-Err-clause-stores
returns-in-Err-clause-stores g c = λ fixed.
    c.content_of.ensures.cause.failed (c.in-Err.is ∙ ap Err (stops-alone c.in-Err.fault fault.Store c.stop.new.self.fault c.stop.ensures.cause (λ same. absurd cc) fixed))
