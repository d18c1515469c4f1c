use Rattle.std.proofs.Common.{◌≡◌, ◌≤◌}
use Rattle.ept_base.specs.Files.{Tells}
use Rattle.ept_scan.specs.Found.{FindsLists}
use Rattle.ept_scan.specs.Reach.{ReadsUpTo}
use Rattle.ept_scan.specs.Asking.{paths_from}
use Rattle.ept_scan.proofs.Asked.{HasAsked}
use Rattle.ept_scan.proofs.first_reading.scan_inputs.Given as goal

abbrev pub invariant-loop-index : goal.invariant-loop-index
invariant-loop-index g l = record {
  found : FindsLists (g.H.Shelf.files l.initial.shelf) l.config.scale l.limits l.config.inputs l.from l.index l.counts.items;
  far : Tells (λ all. ReadsUpTo all l.config.scale l.limits l.config.inputs l.from l.index (g.H.Shelf.given l.initial.shelf) (g.H.Shelf.given l.shelf)) (g.H.Shelf.files l.initial.shelf);
  asked : HasAsked (paths_from l.config.inputs l.from) (paths_from l.config.inputs l.index) (g.H.Shelf.asked l.initial.shelf) (g.H.Shelf.asked l.shelf);
  files : g.H.Shelf.files l.shelf ≡ g.H.Shelf.files l.initial.shelf;
  later : g.H.Shelf.faults l.initial.shelf ≤ g.H.Shelf.faults l.shelf;
}
