use Rattle.std.specs.List.{AllWithin}
use Rattle.ept_ckpt.specs.Octree.{keys_of, TellsChildren}
use Rattle.ept_ckpt.proofs.whole_octree.tell_children.Given as goal

abbrev pub invariant-loop-line : goal.invariant-loop-line
invariant-loop-line l = AllWithin (TellsChildren (keys_of l.nodes)) l.nodes 0 l.line-index
