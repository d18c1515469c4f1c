use Rattle.std.proofs.Common.{◌≡◌, ◌++◌}
use Rattle.std.specs.List.{flat_map}
use Rattle.ept_space.specs.VoxelKey.{child}
use Rattle.ept_sample.proofs.Parts.{numbers_below}
use Rattle.ept_grid.specs.Outgoing.{points_at}
use Rattle.ept_tree.specs.Sending.{arrivals_to}
use Rattle.ept_tree.proofs.arrival.send_on.Given as goal

abbrev pub invariant-loop-octant : goal.invariant-loop-octant
invariant-loop-octant l =
    l.arrivals.items ≡ l.initial.arrivals.items ++ flat_map (λ o. arrivals_to (child l.key o) (points_at l.leaving o)) (numbers_below l.octant)
