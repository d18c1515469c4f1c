-- The cube of an octree, the boxes of its keys and the cells of its boxes.
use Rattle.std.specs.Prelude.{ℕ, ◌+◌, ◌-◌, ◌*◌, ◌/◌, ◌^◌, ◌≤◌, List, [], ◌∷◌, ℤ, pos, ◌+ℤ◌, ◌-ℤ◌, ◌*ℤ◌, ◌≤ℤ◌, ◌<ℤ◌, unsigned_abs, FitsSigned, slice_index, Bool, ◌&&◌, ◌==◌}
use Rattle.std.specs.Int.{w32}
use Rattle.ept_space.specs.Place.{Place, coordinate}
use Rattle.ept_space.specs.VoxelKey.{VoxelKey, octant_of}

-- a cube of side 2 ^ e at its corner, whose boxes have 2 ^ s cells an axis, and whose nodes go down to a depth
pub record OctreeCube : Type 0 where
  pub corner : Place
  pub e : ℕ
  pub s : ℕ
  pub depth : ℕ

-- the span is 2 to 1024 cells and the side 2 ^ s to 2 ^ 32. A cell has at least one unit. Each number of the corner has
-- 32 bits.
pub record IsCube (cube : OctreeCube) : Type 0 where
  pub span_low : 1 ≤ cube.s
  pub span_high : cube.s ≤ 10
  pub side_high : cube.e ≤ 32
  pub cells_whole : cube.depth + cube.s ≤ cube.e
  pub corner_x : FitsSigned w32 (coordinate cube.corner 0)
  pub corner_y : FitsSigned w32 (coordinate cube.corner 1)
  pub corner_z : FitsSigned w32 (coordinate cube.corner 2)

-- ---- boxes: at depth d the cube is divided into 2 ^ d boxes an axis

-- the side of a box at a depth
abbrev pub box_side : OctreeCube → ℕ → ℕ
box_side cube depth = 2 ^ (cube.e - depth)

-- a coordinate lies in the half-open interval of that length that starts at the least one
abbrev pub IsFrom : ℤ → ℕ → ℤ → Type 0
IsFrom least length at = (least ≤ℤ at) × (at <ℤ (least +ℤ pos length))

-- a place lies in the box of a key: the half-open cube of the box's side at corner + index * side
unfoldable pub InBox : OctreeCube → VoxelKey → Place → Type 0
InBox cube key place = record {
  x : IsFrom (coordinate cube.corner 0 +ℤ pos (key.x * box_side cube key.depth)) (box_side cube key.depth) (coordinate place 0);
  y : IsFrom (coordinate cube.corner 1 +ℤ pos (key.y * box_side cube key.depth)) (box_side cube key.depth) (coordinate place 1);
  z : IsFrom (coordinate cube.corner 2 +ℤ pos (key.z * box_side cube key.depth)) (box_side cube key.depth) (coordinate place 2);
}

-- a place lies in the cube: the half-open cube of side 2 ^ e at the corner
unfoldable pub InCube : OctreeCube → Place → Type 0
InCube cube place = record {
  x : IsFrom (coordinate cube.corner 0) (2 ^ cube.e) (coordinate place 0);
  y : IsFrom (coordinate cube.corner 1) (2 ^ cube.e) (coordinate place 1);
  z : IsFrom (coordinate cube.corner 2) (2 ^ cube.e) (coordinate place 2);
}

-- how far a place is from the cube's corner on an axis
abbrev pub offset : OctreeCube → Place → ℕ → ℕ
offset cube place axis = unsigned_abs (coordinate place axis -ℤ coordinate cube.corner axis)

-- the key of that depth whose box the place lies in
unfoldable pub key_at : OctreeCube → ℕ → Place → VoxelKey
key_at cube depth place = record {
  depth = depth;
  x = offset cube place 0 / box_side cube depth;
  y = offset cube place 1 / box_side cube depth;
  z = offset cube place 2 / box_side cube depth;
}

-- the octant in which the place lies of the box of that depth
unfoldable pub octant_at : OctreeCube → ℕ → Place → ℕ
octant_at cube depth place = octant_of (key_at cube (depth + 1) place)

-- ---- cells: a box is divided into 2 ^ s cells an axis

-- the side of a cell at a depth
abbrev pub cell_side : OctreeCube → ℕ → ℕ
cell_side cube depth = 2 ^ (cube.e - depth - cube.s)

-- the index on an axis, counted from the cube's corner, of the cell that the place lies in
abbrev pub cell_index : OctreeCube → ℕ → Place → ℕ → ℕ
cell_index cube depth place axis = offset cube place axis / cell_side cube depth

-- the cell of that depth that the place lies in: its index on each axis
unfoldable pub cell_at : OctreeCube → ℕ → Place → List ℕ
cell_at cube depth place =
    cell_index cube depth place 0 ∷ cell_index cube depth place 1 ∷ cell_index cube depth place 2 ∷ []

-- a place lies in a cell of that depth: the half-open cube of the cell's side at corner + index * side
unfoldable pub InCell : OctreeCube → ℕ → List ℕ → Place → Type 0
InCell cube depth cell place = record {
  x : IsFrom (coordinate cube.corner 0 +ℤ pos (slice_index cell 0 * cell_side cube depth)) (cell_side cube depth) (coordinate place 0);
  y : IsFrom (coordinate cube.corner 1 +ℤ pos (slice_index cell 1 * cell_side cube depth)) (cell_side cube depth) (coordinate place 1);
  z : IsFrom (coordinate cube.corner 2 +ℤ pos (slice_index cell 2 * cell_side cube depth)) (cell_side cube depth) (coordinate place 2);
}

-- two places lie in one cell of that depth
unfoldable pub same_cell : OctreeCube → ℕ → Place → Place → Bool
same_cell cube depth p q =
    (cell_index cube depth p 0 == cell_index cube depth q 0) && (cell_index cube depth p 1 == cell_index cube depth q 1) && (cell_index cube depth p 2 == cell_index cube depth q 2)

-- twice how far, on an axis, a place is from the centre of its cell: 2 * (place - cell corner) - side
abbrev pub off_centre : OctreeCube → ℕ → Place → ℕ → ℤ
off_centre cube depth place axis =
    let cell_corner = coordinate cube.corner axis +ℤ pos (cell_index cube depth place axis * cell_side cube depth) in
    pos 2 *ℤ (coordinate place axis -ℤ cell_corner) -ℤ pos (cell_side cube depth)

-- the sum over the axes of the square of that
unfoldable pub distance_at : OctreeCube → ℕ → Place → ℕ
distance_at cube depth place =
    unsigned_abs (off_centre cube depth place 0) ^ 2 + unsigned_abs (off_centre cube depth place 1) ^ 2 + unsigned_abs (off_centre cube depth place 2) ^ 2
