-- The scan of some inputs on another shelf, and without limits.
use Rattle.std.proofs.Common.{◌≡◌, ◌∙◌, ◌+◌, ℕ, List, Option, Some, None, refl, sym, subst}
use Rattle.std.specs.Prelude.{slice_get}
use Rattle.ept_base.specs.Files.{Files}
use Rattle.ept_point.specs.declared.point.Point.{Point}
use Rattle.ept_space.specs.declared.bounds.Bounds.{Bounds}
use Rattle.ept_config.specs.declared.config.Config.{Config}
use Rattle.ept_config.specs.declared.input.Input.{Input}
use Rattle.ept_config.specs.declared.kept.Kept.{Kept}
use Rattle.ept_config.specs.Extents.{IsExtentOf}
use Rattle.ept_scan.specs.declared.reading.Reading.{Reading}
use Rattle.ept_scan.specs.declared.scan_done.ScanDone.{ScanDone}
use Rattle.ept_scan.specs.LasFile.{ArePointsOf}
use Rattle.ept_scan.specs.Laws.{ScanInOneWay, ScanIsKept}
use Rattle.ept_scan.specs.Scans.{HasPointsAt, IsScan}
use Rattle.ept_ckpt.specs.declared.checkpoint.Checkpoint.{Checkpoint}
use Rattle.ept_save.specs.Current.{Current}
use Rattle.ept_save.specs.Sound.{HasPointsOf}
use Rattle.ept_build.specs.Building.{HasPoints}

-- ---- on a shelf with the same bytes under the paths of the inputs

module _ (one two : Files) (scale : ℕ) (limits : Option Bounds) (inputs : List Input) (same : (i : ℕ) (input : Input) → slice_get inputs i ≡ Some input → two input.path ≡ one input.path) where
  points-there : (i : ℕ) (points : List Point) → HasPointsAt one scale limits inputs i points → HasPointsAt two scale limits inputs i points
  points-there i points has = record {
    input = has.input;
    reading = has.reading;
    is_input = record { is = has.is_input.is; reading_is = has.is_input.reading_is };
    has = record {
      file = has.has.file;
      content = same i has.input has.is_input.is ∙ has.has.content;
      are = has.has.are;
    };
  }

  pub scan-there : (from : ℕ) (points : List Point) (done : ScanDone) → IsScan one scale limits inputs from points done → IsScan two scale limits inputs from points done
  scan-there from points done scan = record {
    lists = scan.lists;
    are = record { count = scan.are.count; each = λ k d h. points-there (from + k) _ (scan.are.each k d h) };
    points_are = scan.points_are;
    counts_are = scan.counts_are;
    bounds_are = scan.bounds_are;
  }

-- ---- without limits

abbrev free : Reading → Reading
free r = record { origin = r.origin; shift = r.shift; expect = r.expect; limits = None; origin_fits = r.origin_fits }

file-free : (r : Reading) (file : List ℕ) (points : List Point) → ArePointsOf r file points → ArePointsOf (free r) file points
file-free r file points reads = record {
  header = reads.header;
  has_header = reads.has_header;
  few = reads.few;
  are = record {
    count = reads.are.count;
    each = λ k d lt. let at = reads.are.each k d lt in record { whole = at.whole; point = at.point; allowed = tt };
  };
}

module _ (all : Files) (scale : ℕ) (limits : Option Bounds) (inputs : List Input) where
  points-free : (i : ℕ) (points : List Point) → HasPointsAt all scale limits inputs i points → HasPointsAt all scale None inputs i points
  points-free i points has =
      let was = has.is_input.reading_is in
      record {
        input = has.input;
        reading = free has.reading;
        is_input = record {
          is = has.is_input.is;
          reading_is = record { origin_is = was.origin_is; factor_is = was.factor_is; shift_is = was.shift_is; expect_is = was.expect_is; limits_are = refl };
        };
        has = record { file = has.has.file; content = has.has.content; are = file-free has.reading has.has.file points has.has.are };
      }

  -- if the bounds are the extent of the points
  pub scan-free : (from : ℕ) (points : List Point) (done : ScanDone) → IsExtentOf points done.bounds → IsScan all scale limits inputs from points done → IsScan all scale None inputs from points done
  scan-free from points done extent scan = record {
    lists = scan.lists;
    are = record { count = scan.are.count; each = λ k d h. points-free (from + k) _ (scan.are.each k d h) };
    points_are = scan.points_are;
    counts_are = scan.counts_are;
    bounds_are = extent;
  }

-- ---- the points of a checkpoint that keeps what a build has

-- what a build has of its inputs is read the same within the bounds that it keeps
has-kept : ScanIsKept → (shelf : Files) (config : Config) (current : Current) (kept : Kept) (points : List Point) → (has : HasPoints shelf config current kept points) → IsScan shelf kept.scale (Some kept.bounds) kept.inputs 0 points has.done
has-kept keeps shelf config current kept points has =
    let is = has.kept_is in
    let scan = keeps shelf config.scale _ config.inputs 0 points has.done has.scan in
    let at_bounds = subst (λ (b : Bounds). IsScan shelf config.scale (Some b) config.inputs 0 points has.done) (sym is.bounds_is) scan in
    let at_scale = subst (λ (k : ℕ). IsScan shelf k (Some kept.bounds) config.inputs 0 points has.done) (sym is.scale_is) at_bounds in
    subst (λ (w : List Input). IsScan shelf kept.scale (Some kept.bounds) w 0 points has.done) (sym is.inputs_is) at_scale

pub points-alike : ScanInOneWay → ScanIsKept → (shelf : Files) (config : Config) (current : Current) (kept : Kept) (points : List Point) → HasPoints shelf config current kept points → (c : Checkpoint) → c.kept ≡ kept → (others : List Point) → HasPointsOf shelf c others → points ≡ others
points-alike once keeps shelf config current kept points has c same others scan =
    once shelf kept.scale (Some kept.bounds) kept.inputs 0 points others has.done (record { counts = c.counts; bounds = kept.bounds }) (has-kept keeps shelf config current kept points has)
    (subst (λ (k : Kept). IsScan shelf k.scale (Some k.bounds) k.inputs 0 others (record { counts = c.counts; bounds = k.bounds })) same scan)
