-- A device whose count of faults stays 0 has not failed.
use Rattle.std.proofs.Common.{◌≡◌, Result, Err, arith}
use Rattle.ept_base.specs.Causes.{HasCauseOf}

pub no-fault : {T E : Type 0} (e : E) (result : Result T E) → HasCauseOf e 0 0 result → result ≡ Err e → ⊥
no-fault e result cause is = (let rose = cause.failed is in omega (arith, rose))
