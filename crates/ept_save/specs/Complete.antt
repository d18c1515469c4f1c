-- When the files of a build are complete: the done gate is open, and the output of the points is all there.
use Rattle.std.specs.Prelude.{◌≡◌, ℕ, ◌<◌, ◌^◌, List, length, Some, None, All, Contains}
use Rattle.ept_base.specs.Files.{Files}
use Rattle.ept_point.specs.declared.point.Point.{Point}
use Rattle.ept_point.specs.Order.{IsAscending}
use Rattle.ept_config.specs.Extents.{IsWithin}
use Rattle.ept_config.specs.declared.kept.Kept.{Kept}
use Rattle.ept_meta.specs.Output.{File, IsOutput, IsOutsideWork, names_of, points_from}
use Rattle.ept_save.specs.Done.{IsDone}

-- points that the inputs may have: in the order of their ids, each once, within the bounds
pub record AreOfInputs (kept : Kept) (points : List Point) : Type 0 where
  pub ascend : IsAscending points
  pub inside : All (IsWithin kept.bounds) points
  pub origins : All (λ p. p.origin < length kept.inputs) points
  pub few : (source : ℕ) → length (points_from source points) < 2 ^ 40

-- the files of an output are there
abbrev pub HasAllOf : List File → Files → Type 0
HasAllOf output files = All (λ (f : File). files f.0 ≡ Some f.1) output

-- outside a build's own folders there is no file but those of an output
abbrev pub HasNoOther : List File → Files → Type 0
HasNoOther output files = (name : List ℕ) → IsOutsideWork name → ¬ Contains (names_of output) name → files name ≡ None

-- the files are complete for these points
pub record IsComplete (kept : Kept) (points : List Point) (files : Files) : Type 0 where
  pub points_are : AreOfInputs kept points
  pub done : IsDone files
  pub output : List File
  pub is_output : IsOutput kept points output
  pub there : HasAllOf output files
  pub no_other : HasNoOther output files
