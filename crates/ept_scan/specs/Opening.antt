-- The place at which the second reading begins, and the files that it has.
use Rattle.std.specs.Prelude.{◌≡◌, ◌≢◌, ◌⊎◌, ℕ, ◌+◌, ◌<◌, ◌≤◌, List, [], ◌∷◌, ◌++◌, Option, Some, None, length, take, drop, map, sum_by, IsSome, slice_get, All, Any}
use Rattle.std.specs.List.{AllZip}
use Rattle.ept_base.specs.Files.{Files, Tells}
use Rattle.ept_base.specs.Devices.{Opens}
use Rattle.ept_space.specs.declared.bounds.Bounds.{Bounds}
use Rattle.ept_config.specs.declared.input.Input.{Input}
use Rattle.ept_point.specs.declared.point.Point.{Point}
use Rattle.ept_config.specs.declared.kept.Kept.{Kept}
use Rattle.ept_config.specs.declared.source_count.SourceCount.{SourceCount}
use Rattle.ept_config.specs.Counts.{total, IsCountOf}
use Rattle.ept_scan.specs.declared.part.Part.{Part}
use Rattle.ept_scan.specs.declared.reading.Reading.{Reading}
use Rattle.ept_scan.specs.Changes.{HeaderDiffers, RecordDiffers}
use Rattle.ept_scan.specs.Scans.{in_order, IsReadingOf, ArePointsFrom, IsScan}
use Rattle.ept_scan.specs.Queue.{Held, HoldsPoints, held, IsUnread, IsLimited}

-- the inputs that are kept have these counts, and these points, all in order
abbrev pub IsKeptScan : Files → Kept → List SourceCount → List Point → Type 0
IsKeptScan all kept counts points = IsScan all kept.scale (Some kept.bounds) kept.inputs 0 points
    (record { counts = counts; bounds = kept.bounds })

-- After the first `drawn` records comes record `number` of input `index`. After the last record there is no input.
pub record StartsAt (counts : List SourceCount) (drawn index number : ℕ) : Type 0 where
  pub within : index ≤ length counts
  pub passed : total (take index counts) + number ≡ drawn
  pub more : (count : SourceCount) → slice_get counts index ≡ Some count → number < count.points
  pub end : length counts ≤ index → number ≡ 0

-- a source has failed
abbrev pub HasFailed : {S : Type 0} → (S → ℕ) → List (Part S) → Type 0
HasFailed faults parts = Any (λ part. faults part.source ≢ 0) parts

-- These files hold the points of these lists. The lists without points are left out.
pub record AreHeld {S : Type 0} (whole : S → Option (List ℕ)) (parts : List (Part S))
    (lists : List (List Point)) : Type 0 where
  pub mine : List (List Point)
  pub hold : AllZip HoldsPoints (map (held whole) parts) mine
  pub same : in_order mine ≡ in_order lists

-- input i was opened: nothing of it was read, and its points have to lie within this extent
pub record IsOpened {S : Type 0} (whole left : S → Option (List ℕ)) (given : S → ℕ) (faults : S → ℕ)
    (files : Option Files) (kept : Kept) (i points : ℕ) (extent : Bounds) (part : Part S) : Type 0 where
  pub input : Input
  pub is : slice_get kept.inputs i ≡ Some input
  pub reads : IsReadingOf kept.scale (Some extent) i input part.reading
  pub points_are : part.points ≡ points
  pub opens : Opens files input.path (whole part.source) (left part.source)
  pub fresh : faults part.source ≡ 0
  pub unread : given part.source ≡ 0

-- an input with an extent is opened; an input without one has no points and is left out
abbrev pub AddsInput : {S : Type 0} (whole left : S → Option (List ℕ)) (given : S → ℕ) (faults : S → ℕ)
    → Option Files → Kept → ℕ → ℕ → Option Bounds → List (Part S) → List (Part S) → Type 0
AddsInput whole left given faults files kept i points None old new = new ≡ old
AddsInput {S} whole left given faults files kept i points (Some extent) old new = (part : Part S)
    × (new ≡ old ++ part ∷ []) × IsOpened whole left given faults files kept i points extent part

-- The file is an input of this place. It is read within the extent and with the number of points that were found in it.
pub record IsFileOf (kept : Kept) (counts : List SourceCount) (file : Held) : Type 0 where
  pub input : Input
  pub is_input : slice_get kept.inputs file.reading.origin ≡ Some input
  pub count : SourceCount
  pub is_count : slice_get counts file.reading.origin ≡ Some count
  pub reads : IsReadingOf kept.scale count.extent file.reading.origin input file.reading
  pub points_are : file.points ≡ count.points

-- the file has the bytes that a shelf has under the path of its input
pub record HasBytesOf (all : Files) (inputs : List Input) (file : Held) : Type 0 where
  pub input : Input
  pub is_input : slice_get inputs file.reading.origin ≡ Some input
  pub there : IsSome file.file
  pub bytes : file.file ≡ all input.path

-- Input `source` of a shelf is not as it was counted. Either n is 0 and its header differs, or record n differs.
pub record InputDiffers (all : Files) (kept : Kept) (counts : List SourceCount) (source n : ℕ) : Type 0 where
  pub input : Input
  pub is_input : slice_get kept.inputs source ≡ Some input
  pub count : SourceCount
  pub is_count : slice_get counts source ≡ Some count
  pub reading : Reading
  pub reads : IsReadingOf kept.scale count.extent source input reading
  pub file : List ℕ
  pub content : all input.path ≡ Some file
  pub differs : ((n ≡ 0) × HeaderDiffers reading count.points file)
      ⊎ RecordDiffers reading count.points file n

-- the inputs with points from one up to another were opened
pub record HasOpened {S : Type 0} (whole left : S → Option (List ℕ)) (given : S → ℕ) (faults : S → ℕ)
    (files : Option Files) (kept : Kept) (counts : List SourceCount) (from end : ℕ)
    (parts : List (Part S)) : Type 0 where
  pub unread : All (IsUnread whole left given) parts
  pub limited : All IsLimited parts
  pub known : All (λ part. IsFileOf kept counts (held whole part)) parts
  pub bytes : Tells (λ all. All (λ part. HasBytesOf all kept.inputs (held whole part)) parts) files
  pub fresh : All (λ part. faults part.source ≡ 0) parts
  pub sum : sum_by (λ part. part.points) parts + total (take from counts) ≡ total (take end counts)
  pub none : end ≡ from → parts ≡ []
  pub first : (count : SourceCount) → slice_get counts from ≡ Some count → 0 < count.points
      → from < end → (part : Part S) × (others : List (Part S)) × (parts ≡ part ∷ others)
      × (part.points ≡ count.points)
  pub holds : Tells (λ all. (lists : List (List Point))
      → ArePointsFrom all kept.scale (Some kept.bounds) kept.inputs 0 (length kept.inputs) lists
      → AllZip IsCountOf lists counts → AreHeld whole parts (drop from (take end lists))) files
