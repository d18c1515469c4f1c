-- Points within the bounds can be sampled.
use Rattle.std.proofs.Common.{◌<◌, ◌^◌, ℤ, List, arith, unsigned_abs}
use Rattle.std.specs.Prelude.{◌-ℤ◌, FitsSigned}
use Rattle.std.specs.List.{All}
use Rattle.std.specs.Int.{w32}
use Rattle.std.proofs.lemmas.Int.{ints}
use Rattle.std.proofs.lemmas.List.Elements.{All-weaker}
use Rattle.ept_point.specs.declared.point.Point.{Point}
use Rattle.ept_space.specs.declared.bounds.Bounds.{Bounds}
use Rattle.ept_space.specs.Place.{coordinate}
use Rattle.ept_space.specs.OctreeCube.{IsCube, InCube}
use Rattle.ept_space.specs.CubeOfBounds.{IsCubeOf, longest}
use Rattle.ept_space.proofs.Extents.{IsCube-cube_of, IsCubeOf-cube_of, InCube-bounds}
use Rattle.ept_sample.specs.Place.{place}
use Rattle.ept_sample.specs.Ids.{HasDistinctIds}
use Rattle.ept_sample.specs.SamplingLaws.{CanBeSampled}
use Rattle.ept_config.specs.declared.kept.Kept.{Kept}
use Rattle.ept_config.specs.Ranges.{BoundsInRange}
use Rattle.ept_config.specs.Extents.{IsWithin}
use Rattle.ept_meta.specs.Output.{rules_of}

-- numbers of 32 bits are less than 2 ^ 32 apart
near : (a b : ℤ) → FitsSigned w32 a → FitsSigned w32 b → unsigned_abs (b -ℤ a) < 2 ^ 32
near a b fits_a fits_b = omega (arith, ints)

longest_small : (bounds : Bounds) → BoundsInRange bounds → longest bounds < 2 ^ 32
longest_small bounds range =
    omega (arith, near (coordinate bounds.min 0) (coordinate bounds.max 0) range.min_is.x range.max_is.x, near (coordinate bounds.min 1) (coordinate bounds.max 1) range.min_is.y range.max_is.y, near (coordinate bounds.min 2) (coordinate bounds.max 2) range.min_is.z range.max_is.z)

pub cube-of-kept : (kept : Kept) → IsCube (rules_of kept).cube
cube-of-kept kept =
    IsCube-cube_of kept.bounds kept.s kept.max_depth kept.layout.span_least kept.layout.span_most kept.has_bounds.min_is.x kept.has_bounds.min_is.y kept.has_bounds.min_is.z

of_bounds : (kept : Kept) → IsCubeOf kept.bounds kept.s kept.max_depth (rules_of kept).cube
of_bounds kept = IsCubeOf-cube_of kept.bounds kept.s kept.max_depth kept.has_bounds.ordered (longest_small kept.bounds kept.has_bounds)

pub all-in-cube : (kept : Kept) (points : List Point) → All (IsWithin kept.bounds) points → All (λ p. InCube (rules_of kept).cube (place p)) points
all-in-cube kept points within =
    All-weaker (IsWithin kept.bounds) (λ p. InCube (rules_of kept).cube (place p)) (λ p w. InCube-bounds kept.bounds kept.s kept.max_depth (rules_of kept).cube (place p) (of_bounds kept) (record { x = w.x; y = w.y; z = w.z })) points within

pub can-be-sampled : (kept : Kept) (points : List Point) → All (IsWithin kept.bounds) points → HasDistinctIds points → CanBeSampled (rules_of kept) points
can-be-sampled kept points within distinct = record {
  cube = cube-of-kept kept;
  inside = all-in-cube kept points within;
  distinct = distinct;
}
