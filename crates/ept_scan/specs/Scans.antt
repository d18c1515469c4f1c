-- The inputs of a build, read one after the other: a function of the files on the shelf.
use Rattle.std.specs.Prelude.{◌≡◌, ℕ, ◌+◌, ◌-◌, ◌^◌, ◌<◌, pos, List, [], Option, Some, None, length, slice_get, slice_index_or, ⊤}
use Rattle.std.specs.List.{flat_map, AllZip}
use Rattle.ept_base.specs.Files.{Files}
use Rattle.ept_point.specs.declared.point.Point.{Point}
use Rattle.ept_space.specs.declared.bounds.Bounds.{Bounds}
use Rattle.ept_config.specs.declared.input.Input.{Input}
use Rattle.ept_scan.specs.declared.reading.Reading.{Reading}
use Rattle.ept_scan.specs.declared.scan_error.ScanError.{ScanError}
use Rattle.ept_scan.specs.declared.scan_error.ScanError.TheVariants.{SourceFault, BadLas, OutOfBounds, TooManyPoints, NoBounds, Memory}
use Rattle.ept_scan.specs.declared.scan_done.ScanDone.{ScanDone}
use Rattle.ept_config.specs.Extents.{IsExtentOf}
use Rattle.ept_scan.specs.LasFile.{ArePointsOf}
use Rattle.ept_scan.specs.Refusals.{FileIsRefused}
use Rattle.ept_config.specs.Counts.{IsCountOf}

-- the points of some lists, one list after the other
abbrev pub in_order : List (List Point) → List Point
in_order lists = flat_map (λ points. points) lists

-- How the input of this place is read, if a stored unit is 10^-scale native units. A raw coordinate is multiplied by
-- 10^(scale - its own scale) and shifted.
pub record IsReadingOf (scale : ℕ) (limits : Option Bounds) (origin : ℕ) (input : Input)
    (reading : Reading) : Type 0 where
  pub origin_is : reading.origin ≡ origin
  pub factor_is : reading.shift.factor ≡ pos (10 ^ (scale - input.scale))
  pub shift_is : reading.shift.by ≡ input.shift
  pub expect_is : reading.expect ≡ input.expect
  pub limits_are : reading.limits ≡ limits

-- what refuses a file, if the refusal is one of a file
abbrev pub Blames : ScanError → Type 0 → Type 0
Blames SourceFault fact = ⊤
Blames Memory fact = ⊤
Blames (BadLas source fault) fact = fact
Blames (OutOfBounds source number) fact = fact
Blames (TooManyPoints source) fact = fact
Blames NoBounds fact = fact

-- the file of this path reads as these points
pub record HasPoints (all : Files) (path : List ℕ) (reading : Reading) (points : List Point) : Type 0 where
  pub file : List ℕ
  pub content : all path ≡ Some file
  pub are : ArePointsOf reading file points

-- the file of this path is refused
pub record PathIsRefused (all : Files) (path : List ℕ) (reading : Reading) (error : ScanError) : Type 0 where
  pub file : List ℕ
  pub content : all path ≡ Some file
  pub refused : FileIsRefused reading file error

-- the bounds: those that limit the points, or if there are none the extent of all points
abbrev pub AreBounds : Option Bounds → List Point → Bounds → Type 0
AreBounds None points bounds = IsExtentOf points bounds
AreBounds (Some limits) points bounds = bounds ≡ limits

module _ (all : Files) (scale : ℕ) (limits : Option Bounds) (inputs : List Input) where
  -- input i is this one, and is read in this way
  pub record IsInput (i : ℕ) (input : Input) (reading : Reading) : Type 0 where
    pub is : slice_get inputs i ≡ Some input
    pub reading_is : IsReadingOf scale limits i input reading

  -- the file of input i reads as these points
  pub record HasPointsAt (i : ℕ) (points : List Point) : Type 0 where
    pub input : Input
    pub reading : Reading
    pub is_input : IsInput i input reading
    pub has : HasPoints all input.path reading points

  -- the points of each input from one up to another
  pub record ArePointsFrom (from end : ℕ) (lists : List (List Point)) : Type 0 where
    pub count : from + length lists ≡ end
    pub each : (k : ℕ) (d : List Point) → k < length lists → HasPointsAt (from + k) (slice_index_or lists k d)

  -- the first input that is refused
  pub record IsFirstRefused (from : ℕ) (error : ScanError) : Type 0 where
    pub at : ℕ
    pub within : at < length inputs
    pub before : List (List Point)
    pub good : ArePointsFrom from at before
    pub input : Input
    pub reading : Reading
    pub is_input : IsInput at input reading
    pub refused : PathIsRefused all input.path reading error

  -- there are no bounds, and no input has a point
  pub record LacksBounds (from : ℕ) : Type 0 where
    pub unlimited : limits ≡ None
    pub lists : List (List Point)
    pub are : ArePointsFrom from (length inputs) lists
    pub none : in_order lists ≡ []

  -- why the inputs from the place `from` on are refused
  abbrev pub ScanIsRefused : ℕ → ScanError → Type 0
  ScanIsRefused from NoBounds = LacksBounds from
  ScanIsRefused from SourceFault = ⊤
  ScanIsRefused from Memory = ⊤
  ScanIsRefused from (BadLas source fault) = IsFirstRefused from (BadLas source fault)
  ScanIsRefused from (OutOfBounds source number) = IsFirstRefused from (OutOfBounds source number)
  ScanIsRefused from (TooManyPoints source) = IsFirstRefused from (TooManyPoints source)

  -- the inputs from the place `from` on have these points, all in order, these counts and these bounds
  pub record IsScan (from : ℕ) (points : List Point) (done : ScanDone) : Type 0 where
    pub lists : List (List Point)
    pub are : ArePointsFrom from (length inputs) lists
    pub points_are : points ≡ in_order lists
    pub counts_are : AllZip IsCountOf lists done.counts
    pub bounds_are : AreBounds limits points done.bounds
