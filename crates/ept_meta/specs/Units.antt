-- Stored coordinates in native units.
use Rattle.std.specs.Prelude.{ℕ, ◌^◌, pos, ◌+ℤ◌, ◌*ℤ◌, List, [], ◌∷◌, ◌++◌, codes}
use Rattle.ept_num.specs.Decimals.{decimal_text_of}
use Rattle.ept_space.specs.declared.bounds.Bounds.{Bounds}
use Rattle.ept_space.specs.Place.{Place, coordinate}
use Rattle.ept_space.specs.OctreeCube.{OctreeCube}
use Rattle.ept_space.specs.CubeOfBounds.{cube_of}
use Rattle.ept_config.specs.declared.kept.Kept.{Kept}

-- The coordinate of a place on an axis: 10 ^ scale stored units are one native unit, and 0 is at the offset.
unfoldable pub coordinate_text : Kept → Place → ℕ → List ℕ
coordinate_text kept place axis =
    decimal_text_of (coordinate place axis +ℤ coordinate kept.offset axis *ℤ pos (10 ^ kept.scale)) kept.scale

-- the coordinates of a place, with commas between them
unfoldable pub corner_text : Kept → Place → List ℕ
corner_text kept place =
    coordinate_text kept place 0 ++ codes "," ++ coordinate_text kept place 1 ++ codes ","
    ++ coordinate_text kept place 2

-- a box from its least corner to its greatest one
unfoldable pub box_text : Kept → Place → Place → List ℕ
box_text kept least greatest =
    codes "[" ++ corner_text kept least ++ codes "," ++ corner_text kept greatest ++ codes "]"

-- the box of bounds
unfoldable pub bounds_text : Kept → Bounds → List ℕ
bounds_text kept bounds = box_text kept bounds.min bounds.max

-- the corner of a cube whose coordinates exceed those of the least corner by the side
unfoldable pub far_corner : OctreeCube → Place
far_corner cube =
    (coordinate cube.corner 0 +ℤ pos (2 ^ cube.e))
    ∷ (coordinate cube.corner 1 +ℤ pos (2 ^ cube.e))
    ∷ (coordinate cube.corner 2 +ℤ pos (2 ^ cube.e))
    ∷ []

-- the box of the octree's cube
unfoldable pub cube_text : Kept → List ℕ
cube_text kept =
    let cube = cube_of kept.bounds kept.s kept.max_depth in
    box_text kept cube.corner (far_corner cube)
