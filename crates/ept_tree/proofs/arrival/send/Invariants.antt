use Rattle.std.proofs.Common.{◌≡◌, ◌++◌, take}
use Rattle.ept_tree.specs.Sending.{arrivals_to}
use Rattle.ept_tree.proofs.arrival.send.Given as goal

abbrev pub invariant-loop-point : goal.invariant-loop-point
invariant-loop-point l =
    l.arrivals.items ≡ l.initial.arrivals.items ++ arrivals_to l.key (take l.point-index l.points)
