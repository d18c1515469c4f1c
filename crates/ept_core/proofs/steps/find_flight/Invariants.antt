use Rattle.std.proofs.Common.{◌≡◌, ◌≤◌, take, count_by}
use Rattle.ept_core.specs.Steps.{is_of}
use Rattle.ept_core.proofs.steps.find_flight.Given as goal

abbrev pub invariant-loop-index : goal.invariant-loop-index
invariant-loop-index l =
    (l.before ≡ count_by (is_of l.actor) (take l.index l.flights)) × (l.before ≤ l.number)
