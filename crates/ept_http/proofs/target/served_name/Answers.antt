use Rattle.std.proofs.Common.{refl}
use Rattle.ept_http.proofs.TargetLemmas.{name-IsUtf8}
use Rattle.ept_http.proofs.target.served_name.Goals as goal

pub returns-in_default-clause-none : goal.returns-in_default-clause-none
returns-in_default-clause-none c = λ name spelled served.
    c.in_default.ensures.cases.0 (name-IsUtf8 c.in_ok-name.name.now (c.if-not-is_served_name.ensures.0 refl))
