use Rattle.std.proofs.Common.{rules, ℕ, ◌≡◌, ◌<◌, length, get_or, subst, sym, arith}
use Rattle.std.proofs.lemmas.Result.{err_from_is_err_and}
use Rattle.ept_space.specs.declared.cube.Rules.{Rules}
use Rattle.ept_core.specs.Steps.{Step}
use Rattle.ept_core.specs.Refusals.{HasActor, Refuses}
use Rattle.ept_core.specs.Shown.{shown, rules_of, actors_of}
use Rattle.ept_core.proofs.Runs.{run-next, actors-next, stops}
use Rattle.ept_core.proofs.play.run_events.Goals as goal

pub returns-in_err-step-clause-refused : goal.returns-in_err-step-clause-refused
returns-in_err-step-clause-refused c =
    let l = c.loop-event in
    let event = c.event-item.result in
    let low : l.event-index < length c.args.events.now = search (rules, arith) in
    let at : event ≡ get_or c.args.events.now l.event-index event = search rules in
    let p = err_from_is_err_and c.from_residual.result c.from_residual.ensures.1 in
    let refuses : Refuses (shown l.core) (actors_of c.args.core.now) event c.in_err-step.field-0.0 = subst (λ (n : ℕ). Refuses (shown l.core) n event c.in_err-step.field-0.0) l.invariant.4 c.in_err-step.ensures.refused in
    rw (p.1, p.2) (stops (rules_of c.args.core.now) (actors_of c.args.core.now) (shown c.args.core.now) (shown l.core) (shown c.step.new.self) c.args.events.now l.event-index event low at l.invariant.0 c.in_err-step.field-0.0 l.invariant.1 refuses c.in_err-step.ensures.unchanged)

pub loop-event-preserved : goal.loop-event-preserved
loop-event-preserved c =
    let l = c.loop-event in
    let event = c.event-item.result in
    let low : l.event-index < length c.args.events.now = search (rules, arith) in
    let at : event ≡ get_or c.args.events.now l.event-index event = search rules in
    let step : Step (rules_of c.args.core.now) (shown l.core) event (shown c.step.new.self) = subst (λ (r : Rules). Step r (shown l.core) event (shown c.step.new.self)) l.invariant.2 c.in_ok-step.ensures.ok in
    let has : HasActor (actors_of c.args.core.now) event = rw (sym l.invariant.4) c.in_ok-step.ensures.actor in (
      run-next (rules_of c.args.core.now) (actors_of c.args.core.now) (shown c.args.core.now) (shown l.core) (shown c.step.new.self) c.args.events.now l.event-index event low at l.invariant.0 step,
      actors-next (rules_of c.args.core.now) (actors_of c.args.core.now) (shown c.args.core.now) (shown l.core) (shown c.step.new.self) c.args.events.now l.event-index event low at l.invariant.0 l.invariant.1 has,
      search rules,
      search rules,
      search rules,
    )
