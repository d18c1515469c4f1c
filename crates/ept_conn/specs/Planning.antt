-- Why the plan of a query is refused.
use Rattle.std.specs.Prelude.{ℕ, ⊤, Option}
use Rattle.ept_base.specs.Files.{Files, Tells}
use Rattle.ept_space.specs.declared.box3.Box3.{Box3}
use Rattle.ept_http.specs.declared.asked.Asked.TheVariants.{Query}
use Rattle.ept_query.specs.declared.query_error.QueryError.{QueryError}
use Rattle.ept_query.specs.declared.query_error.QueryError.TheVariants as error
use Rattle.ept_conn.specs.declared.end.Fault.{Fault}
use Rattle.ept_conn.specs.declared.end.Fault.TheVariants.{Link, Store, Damaged, Memory}
use Rattle.ept_conn.specs.Works.{IsDamagedFor}

-- what is known when a plan is refused for this cause
abbrev pub Refuses : Box3 → ℕ → ℕ → Option Files → Fault → Type 0
Refuses area first second files Link = ⊥
Refuses area first second files Store = ⊤
Refuses area first second files (Damaged found) = Tells (IsDamagedFor (Query area first second) found) files
Refuses area first second files Memory = ⊤

-- the cause that a session reports if a query is refused
abbrev pub told_as : QueryError → Fault
told_as error.NotComplete = Memory
told_as error.StoreFault = Store
told_as (error.Damaged file) = Damaged file
told_as error.SinkFault = Memory
told_as error.Memory = Memory
