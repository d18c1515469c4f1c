use Rattle.std.proofs.Common.{◌≡◌, ◌≤◌, length, drop, vec_len}
use Rattle.std.specs.Prelude.{vec_capacity}
use Rattle.ept_scan.specs.Opening.{HasOpened}
use Rattle.ept_scan.specs.Asking.{paths_left}
use Rattle.ept_scan.proofs.Asked.{HasAsked}
use Rattle.ept_scan.proofs.open.open_parts.Given as goal

abbrev pub invariant-loop-index : goal.invariant-loop-index
invariant-loop-index g l = record {
  opened : HasOpened g.S.Source.whole g.S.Source.left g.S.Source.given g.S.Source.faults (g.H.Shelf.files l.initial.shelf) l.kept l.counts l.from l.index l.parts.items;
  size : vec_len l.parts ≤ l.index;
  room : length l.counts ≤ vec_capacity l.parts;
  asked : HasAsked (paths_left (drop l.from l.kept.inputs) (drop l.from l.counts) 0) (paths_left (drop l.index l.kept.inputs) (drop l.index l.counts) 0) (g.H.Shelf.asked l.initial.shelf) (g.H.Shelf.asked l.shelf);
  files : g.H.Shelf.files l.shelf ≡ g.H.Shelf.files l.initial.shelf;
  later : g.H.Shelf.faults l.initial.shelf ≤ g.H.Shelf.faults l.shelf;
}
