use Rattle.ept_octree.specs.Index.{in_slots, AreSites}
use Rattle.ept_octree.proofs.resting.slots_of.Given as goal

abbrev pub invariant-loop-place : goal.invariant-loop-place
invariant-loop-place g l = AreSites l.place (in_slots g.F.SpillFile.held l.nodes) l.slots.entries
