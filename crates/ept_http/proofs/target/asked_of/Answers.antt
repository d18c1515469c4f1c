use Rattle.std.proofs.Common.{refl}
use Rattle.ept_http.proofs.TargetLemmas.{none-named}
use Rattle.ept_http.proofs.target.asked_of.Goals as goal

pub returns-clause-ok : goal.returns-clause-ok
returns-clause-ok c = (refl, none-named c.args.target.now c.in_default.ensures.none c.in_default-query_of.ensures.none c.in_default-select_of.ensures.none)
