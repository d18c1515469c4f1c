-- A file that was read within some limits is read the same within the extent of its points.
use Rattle.std.proofs.Common.{◌≡◌, Ok, ℕ, ◌^◌, ◌-◌, pos, List, Option, Some, get_or, sym, ◌∙◌, ap, subst, arith}
use Rattle.std.specs.Prelude.{All, slice_get}
use Rattle.ept_base.specs.Files.{Files}
use Rattle.ept_point.specs.declared.point.Point.{Point}
use Rattle.ept_space.specs.declared.bounds.Bounds.{Bounds}
use Rattle.ept_config.specs.declared.input.Input.{Input}
use Rattle.ept_config.specs.declared.source_count.SourceCount.{SourceCount}
use Rattle.ept_las.specs.declared.shift.Shift.{Shift}
use Rattle.ept_las.specs.LasHeader.{HeaderReadsAs}
use Rattle.ept_las.specs.PointRecord.{IsPointOf}
use Rattle.ept_scan.specs.declared.reading.Reading.{Reading}
use Rattle.ept_scan.specs.Extents.{IsAllowed}
use Rattle.ept_scan.specs.LasFile.{head_of, records_of, record_at, ArePointsOf}
use Rattle.ept_config.specs.Counts.{IsCountOf}
use Rattle.ept_scan.specs.Scans.{IsReadingOf, HasPointsAt}
use Rattle.ept_scan.specs.Queue.{HoldsPoints}
use Rattle.ept_scan.proofs.Spans.{extent_at}
use Rattle.ept_scan.proofs.Sound.{all_within}

-- two shifts with the same effect
pub point_shifted : (format : ℕ) (a b : Shift) (origin other n : ℕ) (bytes : List ℕ) (p : Point) → b.factor ≡ a.factor → b.by ≡ a.by → other ≡ origin → IsPointOf format a origin n bytes p → IsPointOf format b other n bytes p
point_shifted format a b origin other n bytes p factor by same is = record {
  x_is = rw (factor, by) is.x_is;
  y_is = rw (factor, by) is.y_is;
  z_is = rw (factor, by) is.z_is;
  intensity_is = is.intensity_is;
  return_number_is = is.return_number_is;
  number_of_returns_is = is.number_of_returns_is;
  scan_direction_is = is.scan_direction_is;
  edge_is = is.edge_is;
  class_is = is.class_is;
  class_flags_is = is.class_flags_is;
  channel_is = is.channel_is;
  angle_rank_is = is.angle_rank_is;
  angle_is = is.angle_is;
  user_is = is.user_is;
  source_id_is = is.source_id_is;
  gps_is = is.gps_is;
  red_is = is.red_is;
  green_is = is.green_is;
  blue_is = is.blue_is;
  origin_is = is.origin_is ∙ sym same;
  number_is = is.number_is;
}

module _ (first second : Reading) (factor : second.shift.factor ≡ first.shift.factor) (by : second.shift.by ≡ first.shift.by) (origin : second.origin ≡ first.origin) (expect : second.expect ≡ first.expect) where
  pub reread : (file : List ℕ) (points : List Point) → ArePointsOf first file points → All (IsAllowed second.limits) points → ArePointsOf second file points
  reread file points are allowed = record {
    header = are.header;
    has_header = subst (λ (e : Option (List ℕ)). HeaderReadsAs (head_of file) e (Ok are.header)) (sym expect) are.has_header;
    few = are.few;
    are = record {
      count = are.are.count;
      each = λ k d lt. record {
        whole = (are.are.each k d lt).whole;
        point = point_shifted are.header.format first.shift second.shift first.origin second.origin k (record_at are.header (records_of are.header file) k) (get_or points k d) factor by origin (are.are.each k d lt).point;
        allowed = allowed k d (omega (arith, lt, are.are.count));
      };
    };
  }

pub one_input : (inputs : List Input) (i : ℕ) (a b : Input) → slice_get inputs i ≡ Some a → slice_get inputs i ≡ Some b → a ≡ b
one_input inputs i a b is_a is_b = cc

-- what was opened of an input holds its points
pub part_holds : (all : Files) (scale : ℕ) (limits : Option Bounds) (inputs : List Input) (i : ℕ) (points : List Point) (count : SourceCount) (extent : Bounds) (input : Input) (reading : Reading) (whole : Option (List ℕ)) (stated : ℕ)
    → HasPointsAt all scale limits inputs i points → IsCountOf points count → count.extent ≡ Some extent → slice_get inputs i ≡ Some input → IsReadingOf scale (Some extent) i input reading → whole ≡ all input.path → stated ≡ count.points
    → HoldsPoints (record { reading = reading; points = stated; file = whole }) points
part_holds all scale limits inputs i points count extent input reading whole stated has is_count is_extent is reads same number =
    let old = has.reading in
    let one : has.input ≡ input = one_input inputs i has.input input has.is_input.is is in
    let was = has.is_input.reading_is in
    let within : All (IsAllowed reading.limits) points = subst (λ (o : Option Bounds). All (IsAllowed o) points) (sym reads.limits_are) (all_within points extent (extent_at count.extent extent points is_extent is_count.has_extent)) in
    record {
      file = has.has.file;
      told = same ∙ ap (λ (q : Input). all q.path) (sym one) ∙ has.has.content;
      are = reread old reading (reads.factor_is ∙ ap (λ (q : Input). pos (10 ^ (scale - q.scale))) (sym one) ∙ sym was.factor_is) (reads.shift_is ∙ ap (λ (q : Input). q.shift) (sym one) ∙ sym was.shift_is) (reads.origin_is ∙ sym was.origin_is) (reads.expect_is ∙ ap (λ (q : Input). q.expect) (sym one) ∙ sym was.expect_is) has.has.file points has.has.are within;
      count = sym is_count.number ∙ sym number;
    }
