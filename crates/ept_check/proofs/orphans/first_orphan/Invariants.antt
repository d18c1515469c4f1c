use Rattle.std.proofs.Common.{take}
use Rattle.std.specs.List.{All}
use Rattle.ept_hier.specs.Hierarchy.{keys_of}
use Rattle.ept_fit.specs.Fit.{HasParent}
use Rattle.ept_check.proofs.orphans.first_orphan.Given as goal

abbrev pub invariant-loop-node : goal.invariant-loop-node
invariant-loop-node l = All (HasParent (keys_of l.nodes)) (keys_of (take l.node-index l.nodes))
