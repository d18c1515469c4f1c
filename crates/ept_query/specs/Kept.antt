-- What is kept of the points of a part, with a selection or without one.
use Rattle.std.specs.Prelude.{ℕ, List, length, filter, Option, Some, None}
use Rattle.std.specs.List.{flat_map}
use Rattle.ept_point.specs.declared.point.Point.{Point}
use Rattle.ept_point.specs.Packed.{tile}
use Rattle.ept_filter.specs.declared.sift.Sift.{Sift}
use Rattle.ept_filter.specs.Sifting.{passes, cut}

-- the bytes: all points packed, or the dimensions that are asked for of the points that pass
abbrev pub kept_bytes : Option Sift → List Point → List ℕ
kept_bytes None points = tile points
kept_bytes (Some sift) points = flat_map (cut sift) (filter (passes sift) points)

-- how many points these are
abbrev pub kept_count : Option Sift → List Point → ℕ
kept_count None points = length points
kept_count (Some sift) points = length (filter (passes sift) points)
