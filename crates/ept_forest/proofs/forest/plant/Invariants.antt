use Rattle.std.proofs.Common.{◌≡◌, ◌≤◌, length, vec_capacity}
use Rattle.std.specs.List.{All}
use Rattle.ept_node.specs.Shown.{file_of}
use Rattle.ept_forest.specs.Slots.{IsBlank}
use Rattle.ept_forest.proofs.forest.plant.Given as goal

abbrev pub invariant-loop-place : goal.invariant-loop-place
invariant-loop-place g l = record {
  many : length l.nodes.items ≡ l.place;
  room : l.slots ≤ vec_capacity l.nodes;
  blank : All IsBlank l.nodes.items;
  fresh : All (λ node. g.F.SpillFile.faults (file_of node) ≡ 0) l.nodes.items;
  unused : All (λ node. g.F.SpillFile.keeps (file_of node) ≡ 0) l.nodes.items;
  counted : g.R.Room.keeps l.room ≡ g.R.Room.keeps l.initial.room;
  later : g.R.Room.faults l.initial.room ≤ g.R.Room.faults l.room;
}
