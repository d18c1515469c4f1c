-- A reader of counted inputs gives a valid ghost input of a table.
use Rattle.std.proofs.Common.{◌≡◌, ◌∙◌, ℕ, ◌<◌, List, map, sym, ap, subst, arith, Option, Some}
use Rattle.std.specs.Prelude.{All, slice_get}
use Rattle.std.proofs.lemmas.Int.{ints}
use Rattle.std.proofs.lemmas.Option.{slice_get_within, get_or_from_slice_get}
use Rattle.ept_point.specs.declared.point.Point.{Point}
use Rattle.ept_space.specs.declared.bounds.Bounds.{Bounds}
use Rattle.ept_space.specs.OctreeCube.{OctreeCube, InCube}
use Rattle.ept_space.specs.CubeOfBounds.{InBounds, IsInside, IsCubeOf}
use Rattle.ept_space.specs.VoxelKey.{root}
use Rattle.ept_space.proofs.Extents.{InCube-bounds}
use Rattle.ept_sample.specs.Place.{place}
use Rattle.ept_sample.proofs.Members.{member-map, all-member}
use Rattle.ept_config.specs.declared.kept.Kept.{Kept}
use Rattle.ept_config.specs.declared.source_count.SourceCount.{SourceCount}
use Rattle.ept_config.specs.Extents.{IsWithin}
use Rattle.ept_config.specs.Counts.{IsCount}
use Rattle.ept_scan.specs.declared.second_reading.Reader.{Reader}
use Rattle.ept_scan.specs.Opening.{IsFileOf}
use Rattle.ept_scan.specs.Reader.{files_of}
use Rattle.ept_scan.specs.Queue.{Held}
use Rattle.ept_table.specs.declared.note.Counted.{Counted}
use Rattle.ept_table.specs.declared.note.Told.{Told}
use Rattle.ept_table.specs.At.{At}
use Rattle.ept_table.specs.Shown.{LiesInInput, IsTold, FitsReader}
use Rattle.ept_table.specs.Item.{counted, seen_reader}
use Rattle.ept_table.specs.Scanned.{told_of}

all_got : {X : Type 0} (P : X → Type 0) (xs : List X) (i : ℕ) (x : X) → All P xs → slice_get xs i ≡ Some x → P x
all_got P xs i x every is = subst P (get_or_from_slice_get xs i x x is) (every i x (slice_get_within xs i x is))

inside_within : (bounds extent : Bounds) (p : Point) → IsInside bounds extent → IsWithin extent p → InBounds bounds (place p)
inside_within bounds extent p inside w = record {
  x = (omega (arith, ints, inside.x_min, w.x.0), omega (arith, ints, inside.x_max, w.x.1));
  y = (omega (arith, ints, inside.y_min, w.y.0), omega (arith, ints, inside.y_max, w.y.1));
  z = (omega (arith, ints, inside.z_min, w.z.0), omega (arith, ints, inside.z_max, w.z.1));
}

-- a point that lies in an input lies in the cube of the bounds within which the inputs were counted
counted_inside : (kept : Kept) (counts : List SourceCount) (files : List Held) (cube : OctreeCube) → IsCubeOf kept.bounds kept.s kept.max_depth cube → All (IsCount kept.bounds) counts → All (IsFileOf kept counts) files → (p : Point) → LiesInInput (map counted files) p → InCube cube (place p)
counted_inside kept counts files cube of_bounds sound known p lies =
    let found = member-map counted lies.input files lies.among in
    let file : IsFileOf kept counts found.0 = all-member (IsFileOf kept counts) found.0 files known found.1 in
    let count = all_got (IsCount kept.bounds) counts found.0.reading.origin file.count sound file.is_count in
    let limits : found.0.reading.limits ≡ Some lies.extent = ap (λ (c : Counted). c.limits) found.2 ∙ lies.limits in
    let extent : file.count.extent ≡ Some lies.extent = sym file.reads.limits_are ∙ limits in
    InCube-bounds kept.bounds kept.s kept.max_depth cube (place p) of_bounds (inside_within kept.bounds lies.extent p (count.inside lies.extent extent) lies.within)

module _ {S : Type 0} (whole : S → Option (List ℕ)) (told : Told) (reader : Reader S) (is : told ≡ told_of whole reader told.rules told.most told.cache told.begun told.tells told.points) where
  pub scanned-fits : FitsReader told (seen_reader whole reader)
  scanned-fits = record {
    inputs = ap (λ (t : Told). t.inputs) (sym is);
    end = ap (λ (t : Told). t.end) (sym is);
    total = ap (λ (t : Told). t.total) (sym is);
  }

  pub scanned-told : (kept : Kept) (counts : List SourceCount) → 0 < told.most → At told.begun 0 root → IsCubeOf kept.bounds kept.s kept.max_depth told.rules.cube → All (IsCount kept.bounds) counts → All (IsFileOf kept counts) (files_of whole reader) → IsTold told
  scanned-told kept counts some top of_bounds sound known = record {
    some = some;
    top = top;
    in_cube = λ p lies. counted_inside kept counts (files_of whole reader) told.rules.cube of_bounds sound known p (subst (λ (w : List Counted). LiesInInput w p) (sym scanned-fits.inputs) lies);
  }
