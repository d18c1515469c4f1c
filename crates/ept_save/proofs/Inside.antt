-- A point of the second reading lies in the cube.
use Rattle.std.proofs.Common.{◌≡◌, ◌∙◌, ℕ, List, sym, subst, arith, Some}
use Rattle.std.specs.Prelude.{All, Contains, slice_get}
use Rattle.std.proofs.lemmas.Int.{ints}
use Rattle.std.proofs.lemmas.Option.{slice_get_within, get_or_from_slice_get}
use Rattle.ept_point.specs.declared.point.Point.{Point}
use Rattle.ept_space.specs.declared.bounds.Bounds.{Bounds}
use Rattle.ept_space.specs.OctreeCube.{OctreeCube, InCube}
use Rattle.ept_space.specs.CubeOfBounds.{InBounds, IsInside, IsCubeOf}
use Rattle.ept_space.proofs.Extents.{InCube-bounds}
use Rattle.ept_sample.specs.Place.{place}
use Rattle.ept_config.specs.declared.kept.Kept.{Kept}
use Rattle.ept_config.specs.declared.source_count.SourceCount.{SourceCount}
use Rattle.ept_config.specs.Extents.{IsWithin}
use Rattle.ept_config.specs.Counts.{IsCount}
use Rattle.ept_scan.specs.Opening.{IsFileOf}
use Rattle.ept_scan.specs.Queue.{Held, LiesIn}

all_at : {X : Type 0} (P : X → Type 0) (xs : List X) (x : X) → All P xs → Contains xs x → P x
all_at P xs x every among = subst P among.2 (every among.0 x among.1)

all_got : {X : Type 0} (P : X → Type 0) (xs : List X) (i : ℕ) (x : X) → All P xs → slice_get xs i ≡ Some x → P x
all_got P xs i x every is = subst P (get_or_from_slice_get xs i x x is) (every i x (slice_get_within xs i x is))

inside_within : (bounds extent : Bounds) (p : Point) → IsInside bounds extent → IsWithin extent p → InBounds bounds (place p)
inside_within bounds extent p inside w = record {
  x = (omega (arith, ints, inside.x_min, w.x.0), omega (arith, ints, inside.x_max, w.x.1));
  y = (omega (arith, ints, inside.y_min, w.y.0), omega (arith, ints, inside.y_max, w.y.1));
  z = (omega (arith, ints, inside.z_min, w.z.0), omega (arith, ints, inside.z_max, w.z.1));
}

pub lies-in-cube : (kept : Kept) (counts : List SourceCount) (files : List Held) (cube : OctreeCube) → IsCubeOf kept.bounds kept.s kept.max_depth cube → All (IsCount kept.bounds) counts → All (IsFileOf kept counts) files → (p : Point) → LiesIn files p → InCube cube (place p)
lies-in-cube kept counts files cube of_bounds sound known p lies =
    let file = all_at (IsFileOf kept counts) files lies.held known lies.among in
    let count = all_got (IsCount kept.bounds) counts lies.held.reading.origin file.count sound file.is_count in
    let extent : file.count.extent ≡ Some lies.extent = sym file.reads.limits_are ∙ lies.kept in
    InCube-bounds kept.bounds kept.s kept.max_depth cube (place p) of_bounds (inside_within kept.bounds lies.extent p (count.inside lies.extent extent) lies.within)
