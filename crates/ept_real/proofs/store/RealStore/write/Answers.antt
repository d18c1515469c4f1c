use Rattle.std.proofs.Common.{subst, sym}
use Rattle.std.specs.Prelude.{Contains}
use Rattle.ept_real.specs.Flushing.{names_to_flush}
use Rattle.ept_real.proofs.store.RealStore.write.Goals as goal

pub returns-in-Err-clause-still : goal.returns-in-Err-clause-still
returns-in-Err-clause-still g c = λ other ne has. subst (λ store. Contains (names_to_flush store) other) (sym c.fault.ensures.same) (c.forget_absent.ensures.still other ne (c.add.ensures.still other has))
