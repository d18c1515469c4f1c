-- How far a file was read.
use Rattle.std.specs.Prelude.{ℕ, ◌⊎◌, ◌+◌, ◌*◌, ◌<◌, ◌≤◌, List, Option, Some, None, length, drop, sum, slice_index, ⊤, ◌≡◌}
use Rattle.ept_base.specs.Files.{Files}
use Rattle.ept_point.specs.declared.point.Point.{Point}
use Rattle.ept_space.specs.declared.bounds.Bounds.{Bounds}
use Rattle.ept_config.specs.declared.input.Input.{Input}
use Rattle.ept_las.specs.declared.header.Header.{Header}
use Rattle.ept_scan.specs.declared.reading.Reading.{Reading}
use Rattle.ept_scan.specs.LasFile.{longest_header, HasHeader}
use Rattle.ept_scan.specs.Scans.{IsInput, HasPointsAt}

-- At most `most` bytes of what was left were read, if the source makes them visible.
abbrev pub HasLeftOf : Option (List ℕ) → Option (List ℕ) → ℕ → Type 0
HasLeftOf None new most = ⊤
HasLeftOf (Some old) None most = ⊤
HasLeftOf (Some old) (Some new) most = length old ≤ length new + most

-- `count` of the known bytes were passed over
abbrev pub Skips : Option (List ℕ) → Option (List ℕ) → ℕ → Type 0
Skips None new count = ⊤
Skips (Some old) None count = ⊥
Skips (Some old) (Some new) count = new ≡ drop count old

-- where the last record that a header states ends, counted from the first byte of the file
abbrev pub end_of : Header → ℕ
end_of header = header.offset + header.length * header.points

-- At most the bytes that may belong to a header were read, or those up to the end of the last record. The latter were
-- read only if the header is accepted and states a record.
abbrev pub IsWithinRecords : Reading → List ℕ → List ℕ → Type 0
IsWithinRecords reading file left =
    (length file ≤ length left + longest_header)
    ⊎ ((header : Header) × HasHeader reading file header × (0 < header.points)
    × (length file ≤ length left + end_of header))

-- the same of a source, if it makes its bytes visible
abbrev pub ReadsNoFurther : Reading → Option (List ℕ) → Option (List ℕ) → Type 0
ReadsNoFurther reading None left = ⊤
ReadsNoFurther reading (Some file) None = ⊤
ReadsNoFurther reading (Some file) (Some left) = IsWithinRecords reading file left

-- At most `most` bytes of a file may be read: those of the longest header, or those up to the end of its last record.
-- The latter may be read only if the header is accepted and states a record.
abbrev pub IsReach : Reading → List ℕ → ℕ → Type 0
IsReach reading file most =
    (most ≤ longest_header)
    ⊎ ((header : Header) × HasHeader reading file header × (0 < header.points)
    × (most ≤ end_of header))

-- at most the bytes that may be read of this file were given
pub record TakesOfFile (reading : Reading) (file : List ℕ) (before now : ℕ) : Type 0 where
  pub most : ℕ
  pub reach : IsReach reading file most
  pub taken : now ≤ before + most

-- no byte was given, or at most those that may be read of the file of this path
abbrev pub TakesOfPath : Files → List ℕ → Reading → ℕ → ℕ → Type 0
TakesOfPath all path reading before now =
    (now ≤ before)
    ⊎ ((file : List ℕ) × (all path ≡ Some file) × TakesOfFile reading file before now)

module _ (all : Files) (scale : ℕ) (limits : Option Bounds) (inputs : List Input) where
  -- `most` bytes may be read of input i
  pub record IsReachOf (i most : ℕ) : Type 0 where
    pub input : Input
    pub reading : Reading
    pub is_input : IsInput all scale limits inputs i input reading
    pub file : List ℕ
    pub content : all input.path ≡ Some file
    pub reach : IsReach reading file most

  -- at most the bytes that may be read of the inputs from one up to another, each once, were given
  pub record ReadsUpTo (from end before now : ℕ) : Type 0 where
    pub mosts : List ℕ
    pub count : from + length mosts ≡ end
    pub each : (k : ℕ) → k < length mosts → IsReachOf (from + k) (slice_index mosts k)
    pub taken : now ≤ before + sum mosts

  -- The same up to an end, such that each input but the last one read reads as points. So no input after a refused one
  -- is read.
  pub record ReadsWithin (from before now : ℕ) : Type 0 where
    pub end : ℕ
    pub within : end ≤ length inputs
    pub reads : ReadsUpTo from end before now
    pub good : (i : ℕ) → from ≤ i → i + 1 < end
        → (points : List Point) × HasPointsAt all scale limits inputs i points
