-- Inputs are scanned in one way, or are refused in one way. Each statement is a clause of a function of `laws`.
use Rattle.std.specs.Prelude.{◌≡◌, ℕ, List, Option}
use Rattle.ept_base.specs.Files.{Files}
use Rattle.ept_point.specs.declared.point.Point.{Point}
use Rattle.ept_point.specs.Order.{id, IsAscending}
use Rattle.ept_space.specs.declared.bounds.Bounds.{Bounds}
use Rattle.ept_config.specs.declared.input.Input.{Input}
use Rattle.ept_config.specs.declared.kept.Kept.{Kept}
use Rattle.ept_config.specs.declared.source_count.SourceCount.{SourceCount}
use Rattle.ept_scan.specs.declared.reading.Reading.{Reading}
use Rattle.ept_scan.specs.declared.scan_error.ScanError.{ScanError}
use Rattle.ept_scan.specs.declared.scan_done.ScanDone.{ScanDone}
use Rattle.ept_config.specs.Extents.{IsWithin}
use Rattle.ept_config.specs.Counts.{total}
use Rattle.ept_scan.specs.LasFile.{ArePointsOf}
use Rattle.ept_scan.specs.Refusals.{FileIsRefused}
use Rattle.ept_scan.specs.Scans.{Blames, IsScan, ScanIsRefused}
use Rattle.ept_scan.specs.Queue.{Held, IsFirstChanged}
use Rattle.ept_scan.specs.Opening.{IsFileOf, HasBytesOf, InputDiffers}
use Rattle.std.specs.Prelude.{◌<◌, ◌≤◌, ◌++◌, Some, length, take, drop, slice_index_or, All}

-- a file reads as one list of points
abbrev pub FileInOneWay : Type 0
FileInOneWay = (reading : Reading) (file : List ℕ) (xs ys : List Point)
    → ArePointsOf reading file xs → ArePointsOf reading file ys → xs ≡ ys

-- a file that reads as points is not refused
abbrev pub FileOrRefusal : Type 0
FileOrRefusal = (reading : Reading) (file : List ℕ) (xs : List Point) (e : ScanError)
    → ArePointsOf reading file xs → FileIsRefused reading file e → Blames e ⊥

-- a file is refused for one cause
abbrev pub FileForOneCause : Type 0
FileForOneCause = (reading : Reading) (file : List ℕ) (e f : ScanError)
    → FileIsRefused reading file e → FileIsRefused reading file f → Blames e (Blames f (e ≡ f))

-- inputs have one list of points
abbrev pub ScanInOneWay : Type 0
ScanInOneWay =
    (all : Files) (scale : ℕ) (limits : Option Bounds) (inputs : List Input) (from : ℕ)
    (xs ys : List Point) (a b : ScanDone) → IsScan all scale limits inputs from xs a
    → IsScan all scale limits inputs from ys b → xs ≡ ys

-- inputs that have points and bounds are not refused
abbrev pub ScanOrRefusal : Type 0
ScanOrRefusal = (all : Files) (scale : ℕ) (limits : Option Bounds) (inputs : List Input) (from : ℕ)
    (xs : List Point) (a : ScanDone) (e : ScanError) → IsScan all scale limits inputs from xs a
    → ScanIsRefused all scale limits inputs from e → Blames e ⊥

-- inputs are refused for one cause
abbrev pub ScanForOneCause : Type 0
ScanForOneCause = (all : Files) (scale : ℕ) (limits : Option Bounds) (inputs : List Input) (from : ℕ)
    (e f : ScanError) → ScanIsRefused all scale limits inputs from e
    → ScanIsRefused all scale limits inputs from f → Blames e (Blames f (e ≡ f))

-- what was scanned is read the same within the bounds that were found
abbrev pub ScanIsKept : Type 0
ScanIsKept = (all : Files) (scale : ℕ) (limits : Option Bounds) (inputs : List Input) (from : ℕ)
    (points : List Point) (done : ScanDone) → IsScan all scale limits inputs from points done
    → IsScan all scale (Some done.bounds) inputs from points done

-- what was scanned lies within the bounds that were found
abbrev pub ScanLiesWithin : Type 0
ScanLiesWithin = (all : Files) (scale : ℕ) (limits : Option Bounds) (inputs : List Input) (from : ℕ)
    (points : List Point) (done : ScanDone) → IsScan all scale limits inputs from points done
    → All (IsWithin done.bounds) points

-- no two items of a list have the same id
abbrev pub HaveDistinctIds : List Point → Type 0
HaveDistinctIds points = (i j : ℕ) (d : Point) → i < length points → j < length points
    → id (slice_index_or points i d) ≡ id (slice_index_or points j d) → i ≡ j

-- the points that were scanned are in the order of their ids: by the place of the input, then by the record
abbrev pub ScanAscends : Type 0
ScanAscends = (all : Files) (scale : ℕ) (limits : Option Bounds) (inputs : List Input) (from : ℕ)
    (points : List Point) (done : ScanDone) → IsScan all scale limits inputs from points done
    → IsAscending points

-- no two points that were scanned have the same id
abbrev pub ScanHasDistinctIds : Type 0
ScanHasDistinctIds = (all : Files) (scale : ℕ) (limits : Option Bounds) (inputs : List Input)
    (from : ℕ) (points : List Point) (done : ScanDone)
    → IsScan all scale limits inputs from points done → HaveDistinctIds points

-- each point that was scanned comes from one of the inputs
abbrev pub ScanComesFromInputs : Type 0
ScanComesFromInputs = (all : Files) (scale : ℕ) (limits : Option Bounds) (inputs : List Input)
    (from : ℕ) (points : List Point) (done : ScanDone)
    → IsScan all scale limits inputs from points done → All (λ p. p.origin < length inputs) points

-- if no input has more than `most` points, each point has a number below `most`
abbrev pub ScanIsNumbered : Type 0
ScanIsNumbered = (all : Files) (scale : ℕ) (limits : Option Bounds) (inputs : List Input)
    (from : ℕ) (points : List Point) (done : ScanDone) (most : ℕ)
    → IsScan all scale limits inputs from points done → All (λ count. count.points ≤ most) done.counts
    → All (λ p. p.number < most) points

-- Each file has the bytes of its input on a shelf, and is read as that was counted. Then the first change is one of
-- these inputs.
abbrev pub ChangeIsOfInput : Type 0
ChangeIsOfInput = (all : Files) (kept : Kept) (counts : List SourceCount) (files : List Held)
    (left most source n : ℕ) → All (IsFileOf kept counts) files → All (HasBytesOf all kept.inputs) files
    → IsFirstChanged files left most source n → InputDiffers all kept counts source n

-- The first inputs and the later ones, scanned within the same bounds, are the scan of all inputs. It has the points
-- and the counts of both, in order.
abbrev pub ScansJoin : Type 0
ScansJoin = (all : Files) (scale : ℕ) (bounds : Bounds) (first others : List Input)
    (xs ys : List Point) (front back : ScanDone) → IsScan all scale (Some bounds) first 0 xs front
    → IsScan all scale (Some bounds) (first ++ others) (length first) ys back
    → IsScan all scale (Some bounds) (first ++ others) 0 (xs ++ ys)
    (record { counts = front.counts ++ back.counts; bounds = bounds })

-- In a scan of all inputs within bounds, the first inputs have the first counts. They have the first points, in the
-- total number of these counts.
abbrev pub ScanFront : Type 0
ScanFront = (all : Files) (scale : ℕ) (bounds : Bounds) (first others : List Input)
    (points : List Point) (done : ScanDone)
    → IsScan all scale (Some bounds) (first ++ others) 0 points done
    → IsScan all scale (Some bounds) first 0 (take (total (take (length first) done.counts)) points)
    (record { counts = take (length first) done.counts; bounds = bounds })

-- and the later inputs have the other counts and points
abbrev pub ScanBack : Type 0
ScanBack = (all : Files) (scale : ℕ) (bounds : Bounds) (first others : List Input)
    (points : List Point) (done : ScanDone)
    → IsScan all scale (Some bounds) (first ++ others) 0 points done
    → IsScan all scale (Some bounds) (first ++ others) (length first)
    (drop (total (take (length first) done.counts)) points)
    (record { counts = drop (length first) done.counts; bounds = bounds })

-- after a scan of the first inputs, the cause for which the later inputs are refused is one for which all are refused
abbrev pub RefusedBehind : Type 0
RefusedBehind = (all : Files) (scale : ℕ) (bounds : Bounds) (first others : List Input)
    (points : List Point) (done : ScanDone) (e : ScanError)
    → IsScan all scale (Some bounds) first 0 points done
    → ScanIsRefused all scale (Some bounds) (first ++ others) (length first) e
    → ScanIsRefused all scale (Some bounds) (first ++ others) 0 e
