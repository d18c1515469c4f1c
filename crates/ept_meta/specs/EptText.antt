-- The metadata of a dataset (Entwine Point Tile 1.1.0, "ept.json").
use Rattle.std.specs.Prelude.{ℕ, ◌^◌, List, ◌++◌, codes, Option, unwrap_or}
use Rattle.ept_space.specs.declared.bounds.Bounds.{Bounds}
use Rattle.ept_config.specs.declared.kept.Kept.{Kept}
use Rattle.ept_meta.specs.Json.{number_member}
use Rattle.ept_meta.specs.Units.{cube_text, bounds_text}
use Rattle.ept_meta.specs.Dimensions.{schema_text}
use Rattle.ept_meta.specs.SrsObject.{srs_text}

-- where the points lie: the cube, and the extent of the points, or the bounds if there is no extent
unfoldable pub place_text : Kept → Option Bounds → List ℕ
place_text kept extent =
    codes "{\"bounds\":" ++ cube_text kept ++ codes ",\"boundsConforming\":"
    ++ bounds_text kept (unwrap_or extent kept.bounds)

-- what the tiles have: the number of points, and the dimensions of a point
unfoldable pub points_text : Kept → ℕ → List ℕ
points_text kept points =
    codes ",\"dataType\":\"binary\",\"hierarchyType\":\"json\""
    ++ number_member (codes "points") points ++ codes ",\"schema\":" ++ schema_text kept

-- the metadata of this number of points with this extent, built of what is kept
unfoldable pub ept_text : Kept → Option Bounds → ℕ → List ℕ
ept_text kept extent points =
    place_text kept extent ++ points_text kept points ++ number_member (codes "span") (2 ^ kept.s)
    ++ codes ",\"srs\":" ++ srs_text kept.srs ++ codes ",\"version\":\"1.1.0\"}"
