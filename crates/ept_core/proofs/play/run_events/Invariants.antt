use Rattle.std.proofs.Common.{◌≡◌, All, take}
use Rattle.ept_core.specs.Steps.{Run}
use Rattle.ept_core.specs.Refusals.{HasActor}
use Rattle.ept_core.specs.Shown.{shown, rules_of, points_of, actors_of}
use Rattle.ept_core.proofs.play.run_events.Given as goal

abbrev pub invariant-loop-event : goal.invariant-loop-event
invariant-loop-event l =
    Run (rules_of l.initial.core) (shown l.initial.core) (take l.event-index l.events) (shown l.core)
    × All (HasActor (actors_of l.initial.core)) (take l.event-index l.events)
    × (rules_of l.core ≡ rules_of l.initial.core)
    × (points_of l.core ≡ points_of l.initial.core)
    × (actors_of l.core ≡ actors_of l.initial.core)
