use Rattle.std.proofs.Common.{◌≡◌}
use Rattle.ept_node.specs.Shown.{file_of, node_of}
use Rattle.ept_table.specs.Permits.{spare_of}
use Rattle.ept_table.specs.Standing.{known}
use Rattle.ept_table.specs.Table.{IsSeat}
use Rattle.ept_table.specs.Item.{cell_of}
use Rattle.ept_work.specs.Visiting.{IsOpening}
use Rattle.ept_work.specs.Opening.{MayOpen, HasOpened}
use Rattle.ept_work.proofs.opening.open_children.Given as goal

abbrev pub invariant-loop-octant : goal.invariant-loop-octant
invariant-loop-octant g l = record {
  seat : IsSeat g.J.Scan.told l.table l.seat;
  view : IsOpening (known g.F.SpillFile.held g.S.Source.whole l.initial.seat.me.0) (known g.F.SpillFile.held g.S.Source.whole l.seat.me.0);
  may : MayOpen g.F.SpillFile.held g.J.Scan.told (known g.F.SpillFile.held g.S.Source.whole l.seat.me.0) l.slot l.before l.opening.node;
  node : node_of g.F.SpillFile.held l.opening.node ≡ node_of g.F.SpillFile.held l.initial.opening.node;
  file : file_of l.opening.node ≡ file_of l.initial.opening.node;
  held : l.seat.me.0.hold ≡ l.initial.seat.me.0.hold;
  permits : spare_of l.seat.me.0 ≡ spare_of l.initial.seat.me.0;
  opened : HasOpened g.J.Scan.told (known g.F.SpillFile.held g.S.Source.whole l.seat.me.0) (cell_of g.F.SpillFile.held l.opening.node) l.octant l.opening.is_full;
}
