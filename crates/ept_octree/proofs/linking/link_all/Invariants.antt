use Rattle.std.proofs.Common.{◌≡◌, length, map, None}
use Rattle.std.specs.List.{All}
use Rattle.ept_forest.specs.Slots.{nodes_of, used_of, residents_of}
use Rattle.ept_node.specs.Shown.{file_of, fault_of, AgreesWithFile}
use Rattle.ept_octree.specs.Index.{in_slots}
use Rattle.ept_octree.specs.Linking.{MayAllLink, HaveChildren}
use Rattle.ept_octree.proofs.linking.link_all.Given as goal

abbrev pub invariant-loop-place : goal.invariant-loop-place
invariant-loop-place g l = record {
  children : HaveChildren g.F.SpillFile.held l.slots.entries (nodes_of l.forest) l.place;
  may : MayAllLink g.F.SpillFile.held (nodes_of l.forest) (used_of l.initial.forest);
  nodes : in_slots g.F.SpillFile.held (nodes_of l.forest) ≡ in_slots g.F.SpillFile.held (nodes_of l.initial.forest);
  used : used_of l.forest ≡ used_of l.initial.forest;
  long : length (nodes_of l.forest) ≡ length (nodes_of l.initial.forest);
  files : map file_of (nodes_of l.forest) ≡ map file_of (nodes_of l.initial.forest);
  unbroken : All (λ node. fault_of node ≡ None) (nodes_of l.forest);
  residents : residents_of (nodes_of l.forest) ≡ residents_of (nodes_of l.initial.forest);
  agrees : All (AgreesWithFile g.F.SpillFile.held g.F.SpillFile.faults g.F.SpillFile.keeps) (nodes_of l.initial.forest) → All (AgreesWithFile g.F.SpillFile.held g.F.SpillFile.faults g.F.SpillFile.keeps) (nodes_of l.forest);
}
