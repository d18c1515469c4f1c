use Rattle.std.proofs.Common.{◌≡◌, ◌⊎◌, ℕ, List}
use Rattle.std.specs.Prelude.{Contains}
use Rattle.std.specs.Path.Iter.{ancestors_next}
use Rattle.ept_real.specs.Joined.{folder_path}
use Rattle.ept_real.specs.Ways.{Keeps, IsAbove}
use Rattle.ept_real.proofs.Climbs.{IsLeft}
use Rattle.ept_real.proofs.unsynced.Unsynced.note_above.Given as goal

abbrev pub invariant-loop-above : goal.invariant-loop-above
invariant-loop-above l = record {
  way : (path : List ℕ) → IsAbove l.folder path → Contains l.self.folders (folder_path path) ⊎ IsLeft (ancestors_next l.above-iterator) path;
  still : Keeps l.initial.self.folders l.self.folders;
  names : l.self.names ≡ l.initial.self.names;
}
