use Rattle.std.proofs.Common.{◌≡◌, take}
use Rattle.ept_merge.specs.Joining.{all_below}
use Rattle.ept_merge.proofs.joining.nodes_below.Given as goal

abbrev pub invariant-loop-part : goal.invariant-loop-part
invariant-loop-part l = l.nodes.items ≡ all_below (take l.part-index l.parts)
