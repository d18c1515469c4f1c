-- The points of a dataset that a query asks for.
use Rattle.std.specs.Prelude.{ℕ, ℤ, Bool, ◌&&◌, nat_le, List, map, filter}
use Rattle.std.specs.List.{flat_map}
use Rattle.std.specs.Int.Signed.{le_z}
use Rattle.ept_point.specs.declared.point.Point.{Point}
use Rattle.ept_point.specs.Packed.{tile}
use Rattle.ept_space.specs.declared.box3.Box3.{Box3}
use Rattle.ept_space.specs.Place.{Place, coordinate}
use Rattle.ept_space.specs.VoxelKey.{VoxelKey}
use Rattle.ept_sample.specs.declared.tiles.Tile.{Tile}
use Rattle.ept_sample.specs.Nodes.{sampled}
use Rattle.ept_sample.specs.Place.{place}
use Rattle.ept_config.specs.declared.kept.Kept.{Kept}
use Rattle.ept_meta.specs.Output.{rules_of}
use Rattle.ept_filter.specs.declared.sift.Sift.{Sift}
use Rattle.ept_filter.specs.Sifting.{passes, cut}

-- a point of a node
abbrev pub Row : Type 0
Row = VoxelKey × Point

-- all of them, by key and then by id, since the tiles are by key and the points of each by id
abbrev pub rows_of : List Tile → List Row
rows_of tiles = flat_map (λ (t : Tile). map (λ (p : Point). (t.key, p)) t.points) tiles

-- a coordinate is from a least to a greatest value, both included
abbrev pub is_between : ℤ → ℤ → ℤ → Bool
is_between least greatest at = le_z least at && le_z at greatest

-- a place lies in a closed box
unfoldable pub is_in : Box3 → Place → Bool
is_in area at =
    is_between (coordinate area.min 0) (coordinate area.max 0) (coordinate at 0)
    && is_between (coordinate area.min 1) (coordinate area.max 1) (coordinate at 1)
    && is_between (coordinate area.min 2) (coordinate area.max 2) (coordinate at 2)

-- a point lies in it
abbrev pub is_inside : Box3 → Point → Bool
is_inside area p = is_in area (place p)

-- a row is asked for: its node is of one of the depths, and its point lies in the area
abbrev pub is_asked : Box3 → ℕ → ℕ → Row → Bool
is_asked area first last row = nat_le first row.0.depth && nat_le row.0.depth last && is_inside area row.1

-- the rows of the sampling of some points that are asked for, in order
abbrev pub asked_rows : Kept → List Point → Box3 → ℕ → ℕ → List Row
asked_rows kept points area first last =
    filter (is_asked area first last) (rows_of (sampled (rules_of kept) points))

-- their points
abbrev pub asked_points : Kept → List Point → Box3 → ℕ → ℕ → List Point
asked_points kept points area first last = map (λ (row : Row). row.1) (asked_rows kept points area first last)

-- the result of a query: the packed points, one after another
abbrev pub answer : Kept → List Point → Box3 → ℕ → ℕ → List ℕ
answer kept points area first last = tile (asked_points kept points area first last)

-- the points of these that pass a selection, in the same order
abbrev pub passing_points : Sift → Kept → List Point → Box3 → ℕ → ℕ → List Point
passing_points sift kept points area first last = filter (passes sift) (asked_points kept points area first last)

-- the result of a selection: the dimensions that are asked for of each point, one after another
abbrev pub selection : Sift → Kept → List Point → Box3 → ℕ → ℕ → List ℕ
selection sift kept points area first last = flat_map (cut sift) (passing_points sift kept points area first last)
