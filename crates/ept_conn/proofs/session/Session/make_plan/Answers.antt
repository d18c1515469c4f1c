use Rattle.std.proofs.Common.{inl, inr, ◌≡◌, ◌∙◌, ◌++◌, List, Option, sym, ap, subst}
use Rattle.ept_hier.specs.Hierarchy.{Node}
use Rattle.ept_http.specs.declared.answer.HeadKind.TheVariants as head
use Rattle.ept_http.specs.AnswerHead.{head_text}
use Rattle.ept_query.specs.Parts.{Plan}
use Rattle.ept_conn.specs.Wanted.{Wanted, Wants}
use Rattle.std.specs.Prelude.{Err}
use Rattle.ept_base.specs.Files.{Tells}
use Rattle.ept_conn.specs.declared.end.Fault.TheVariants as fault
use Rattle.ept_conn.specs.Planning.{Refuses}
use Rattle.ept_conn.specs.State.{State}
use Rattle.ept_conn.specs.Works.{HasPlanOf, IsDamagedOf, Begins, hand_at, end_at}
use Rattle.ept_conn.proofs.LastWords.{stops-with, stops-alone}
use Rattle.ept_query.specs.Planning.{IsPlanFor}
use Rattle.ept_conn.proofs.Plans.{plan-served, tiles-plan}
use Rattle.ept_conn.proofs.Undamaged.{plan-undamaged, shut-undamaged}
use Rattle.ept_conn.proofs.session.Session.make_plan.Goals as goal

pub returns-in-Ok-Some-clause-begins : goal.returns-in-Ok-Some-clause-begins
returns-in-Ok-Some-clause-begins g c = λ going files told served is.
    let plan = c.in-Ok-Some.plan in
    let found = rw (c.in-Ok-Some.field-0-is, c.in-Ok-Some.plan-is, told) at c.in-Ok-Some.ensures.plan in
    let area = rw (c.in-Ok-Some.field-0-is, c.in-Ok-Some.plan-is) at c.in-Ok-Some.ensures.area in
    let served_plan = plan-served files served c.args.area.now c.args.depths.0 c.args.depths.1 plan is c.requires.ordered c.requires.depths found in
    let same : plan ≡ record { area = c.args.area.now; tiles = plan.tiles } = ap (λ a. record { area = a; tiles = plan.tiles }) area in
    subst (λ (p : Option (List Node)). Begins c.args.turn c.args.area.now p c.begin.new.self) (sym served_plan)
    (subst (λ (p : Plan). (c.begin.new.self.hand ≡ hand_at c.args.turn p 0) × (c.begin.new.self.out ≡ head_text (head.Query c.args.turn.last) ++ end_at p 0)) same (c.begin.ensures.hand going, c.begin.ensures.out going))

pub returns-in-Ok-Some-clause-plans : goal.returns-in-Ok-Some-clause-plans
returns-in-Ok-Some-clause-plans g c = λ files told.
    let plan = c.in-Ok-Some.plan in
    let found = rw (c.in-Ok-Some.field-0-is, c.in-Ok-Some.plan-is, told) at c.in-Ok-Some.ensures.plan in
    let area = rw (c.in-Ok-Some.field-0-is, c.in-Ok-Some.plan-is) at c.in-Ok-Some.ensures.area in
    tiles-plan files c.args.turn plan 0 c.begin.new.self.hand c.begin.ensures.either (record {
      first = c.args.depths.0;
      second = c.args.depths.1;
      wants = subst (λ a. Wants c.args.turn.asked a c.args.depths.0 c.args.depths.1) (sym area) c.requires.wanted;
      is_plan = subst (λ a. IsPlanFor a c.args.depths.0 c.args.depths.1 plan files) (sym area) found;
    })

pub returns-in-Ok-Some-clause-undamaged : goal.returns-in-Ok-Some-clause-undamaged
returns-in-Ok-Some-clause-undamaged g c = λ going files told.
    let plan = c.in-Ok-Some.plan in
    let found = rw (c.in-Ok-Some.field-0-is, c.in-Ok-Some.plan-is, told) at c.in-Ok-Some.ensures.plan in
    plan-undamaged files c.args.area.now c.args.depths.0 c.args.depths.1 plan c.args.turn.asked c.requires.wanted found

pub returns-in-Ok-None-clause-undamaged : goal.returns-in-Ok-None-clause-undamaged
returns-in-Ok-None-clause-undamaged g c = λ going files told.
    let none = rw (c.in-Ok-None.field-0-is, told) at c.in-Ok-None.ensures.plan in
    shut-undamaged files c.args.area.now c.args.depths.0 c.args.depths.1 c.args.turn.asked c.requires.wanted none

pub returns-in-Ok-Some-clause-found : goal.returns-in-Ok-Some-clause-found
returns-in-Ok-Some-clause-found g c = λ going files told.
    let found = rw (c.in-Ok-Some.field-0-is, c.in-Ok-Some.plan-is, told) at c.in-Ok-Some.ensures.plan in
    inr (record { plan = c.in-Ok-Some.plan; is_plan = found; hand = c.begin.ensures.hand going })

pub returns-in-Ok-None-clause-found : goal.returns-in-Ok-None-clause-found
returns-in-Ok-None-clause-found g c = λ going files told.
    let none = rw (c.in-Ok-None.field-0-is, told) at c.in-Ok-None.ensures.plan in
    inl none

pub returns-in-Err-clause-begins : goal.returns-in-Err-clause-begins
returns-in-Err-clause-begins g c = λ going. absurd (c.stop.ensures.ends going)

pub returns-in-Err-clause-begun : goal.returns-in-Err-clause-begun
returns-in-Err-clause-begun g c = λ going. absurd (c.stop.ensures.ends going)

pub returns-in-Err-clause-found : goal.returns-in-Err-clause-found
returns-in-Err-clause-found g c = λ going. absurd (c.stop.ensures.ends going)

pub returns-in-Err-clause-undamaged : goal.returns-in-Err-clause-undamaged
returns-in-Err-clause-undamaged g c = λ going. absurd (c.stop.ensures.ends going)

pub returns-in-Err-clause-plans : goal.returns-in-Err-clause-plans
returns-in-Err-clause-plans g c = λ files told.
    subst (HasPlanOf files) (sym (ap (λ (s : State). s.hand) c.stop.ensures.same ∙ c.requires.ready.hand)) tt

pub returns-in-Err-clause-stops : goal.returns-in-Err-clause-stops
returns-in-Err-clause-stops g c =
    stops-with c.args.turn c.stop.new.self c.in-Err.fault (ap (λ (s : State). s.hand) c.stop.ensures.same ∙ c.requires.ready.hand) c.stop.ensures.words c.stop.ensures.cause
    (λ link. subst (Refuses c.args.area.now c.args.depths.0 c.args.depths.1 (g.T.Store.files c.args.store.now)) link c.in-Err.ensures.refused)

pub returns-in-Err-clause-damaged : goal.returns-in-Err-clause-damaged
returns-in-Err-clause-damaged g c = λ file fixed.
    let files = g.T.Store.files c.args.store.now in
    let same = stops-alone c.in-Err.fault (fault.Damaged file) c.stop.new.self.fault c.stop.ensures.cause (λ memory. absurd cc) fixed in
    subst (λ (w : Option Wanted). Tells (IsDamagedOf w file) files) (sym c.requires.wanted)
    (subst (Refuses c.args.area.now c.args.depths.0 c.args.depths.1 files) same c.in-Err.ensures.refused)

pub returns-in-Err-clause-stores : goal.returns-in-Err-clause-stores
returns-in-Err-clause-stores g c = λ fixed.
    c.plan_of.ensures.cause.failed (c.in-Err.is ∙ ap Err (stops-alone c.in-Err.fault fault.Store c.stop.new.self.fault c.stop.ensures.cause (λ same. absurd cc) fixed))
