use Rattle.std.proofs.Common.{sym, subst}
use Rattle.ept_http.specs.declared.asked.Asked.{Asked}
use Rattle.ept_conn.specs.Wanted.{wanted}
use Rattle.ept_conn.specs.Whole.{HasPlanIfOpen}
use Rattle.ept_conn.specs.Works.{Gets, HasPlanOf, IsDamagedFor}
use Rattle.ept_conn.proofs.session.Session.get.Goals as goal

pub returns-in-Query-clause-works : goal.returns-in-Query-clause-works
returns-in-Query-clause-works g c = λ going files told served is.
    let begins = c.make_plan.ensures.begins going files told served is in
    (c.make_plan.ensures.same.0, subst (λ (a : Asked). Gets served c.args.turn a c.make_plan.new.self) (sym c.in-Query.is) begins)

pub returns-in-Query-clause-plans : goal.returns-in-Query-clause-plans
returns-in-Query-clause-plans g c = λ files told. c.make_plan.ensures.plans files told

pub returns-in-Select-clause-works : goal.returns-in-Select-clause-works
returns-in-Select-clause-works g c = λ going files told served is.
    let begins = c.make_plan-in-Select.ensures.begins going files told served is in
    (c.make_plan-in-Select.ensures.same.0, subst (λ (a : Asked). Gets served c.args.turn a c.make_plan-in-Select.new.self) (sym c.in-Select.is) begins)

pub returns-in-Select-clause-plans : goal.returns-in-Select-clause-plans
returns-in-Select-clause-plans g c = λ files told. c.make_plan-in-Select.ensures.plans files told

pub returns-in-Select-clause-undamaged : goal.returns-in-Select-clause-undamaged
returns-in-Select-clause-undamaged g c = λ going files told. c.make_plan-in-Select.ensures.undamaged going files told

pub returns-in-File-clause-plans : goal.returns-in-File-clause-plans
returns-in-File-clause-plans g c = λ files told. subst (HasPlanOf files) (sym c.get_file.ensures.hand) tt

pub returns-in-Refuse-clause-plans : goal.returns-in-Refuse-clause-plans
returns-in-Refuse-clause-plans g c = λ files told. subst (HasPlanOf files) (sym c.refuse.ensures.hand) tt

pub returns-in-Query-clause-undamaged : goal.returns-in-Query-clause-undamaged
returns-in-Query-clause-undamaged g c = λ going files told. c.make_plan.ensures.undamaged going files told

pub returns-in-File-clause-undamaged : goal.returns-in-File-clause-undamaged
returns-in-File-clause-undamaged g c = λ going files told found damaged. subst (λ (a : Asked). IsDamagedFor a found files) c.in-File.is damaged

pub returns-in-Refuse-clause-undamaged : goal.returns-in-Refuse-clause-undamaged
returns-in-Refuse-clause-undamaged g c = λ going files told found damaged. subst (λ (a : Asked). IsDamagedFor a found files) c.in-Refuse.is damaged

pub returns-in-Query-clause-found : goal.returns-in-Query-clause-found
returns-in-Query-clause-found g c = λ going files told.
    subst (λ (a : Asked). HasPlanIfOpen files c.args.turn (wanted a) c.make_plan.new.self) (sym c.in-Query.is) (c.make_plan.ensures.found going files told)

pub returns-in-Select-clause-found : goal.returns-in-Select-clause-found
returns-in-Select-clause-found g c = λ going files told.
    subst (λ (a : Asked). HasPlanIfOpen files c.args.turn (wanted a) c.make_plan-in-Select.new.self) (sym c.in-Select.is) (c.make_plan-in-Select.ensures.found going files told)

pub returns-in-File-clause-found : goal.returns-in-File-clause-found
returns-in-File-clause-found g c = λ going files told.
    subst (λ (a : Asked). HasPlanIfOpen files c.args.turn (wanted a) c.get_file.new.self) (sym c.in-File.is) tt

pub returns-in-Refuse-clause-found : goal.returns-in-Refuse-clause-found
returns-in-Refuse-clause-found g c = λ going files told.
    subst (λ (a : Asked). HasPlanIfOpen files c.args.turn (wanted a) c.refuse.new.self) (sym c.in-Refuse.is) tt
