use Rattle.std.proofs.Common.{◌≡◌, ◌⊎◌, ◌≤◌}
use Rattle.ept_base.specs.Causes.{Rose}
use Rattle.ept_scan.specs.Opening.{HasFailed}
use Rattle.ept_scan.proofs.open.retire_parts.Given as goal

abbrev pub invariant-loop-part : goal.invariant-loop-part
invariant-loop-part g l = record {
  later : g.H.Shelf.faults l.initial.shelf ≤ g.H.Shelf.faults l.shelf;
  failed : HasFailed g.S.Source.faults l.initial.parts.items → HasFailed g.S.Source.faults l.parts.items ⊎ Rose (g.H.Shelf.faults l.initial.shelf) (g.H.Shelf.faults l.shelf);
  sound : (HasFailed g.S.Source.faults l.initial.parts.items → ⊥) → (HasFailed g.S.Source.faults l.parts.items → ⊥) × (g.H.Shelf.faults l.shelf ≡ g.H.Shelf.faults l.initial.shelf);
  asked : g.H.Shelf.asked l.shelf ≡ g.H.Shelf.asked l.initial.shelf;
  files : g.H.Shelf.files l.shelf ≡ g.H.Shelf.files l.initial.shelf;
}

abbrev pub decreases-loop-part : goal.decreases-loop-part
decreases-loop-part g l = goal.left-loop-part g l
