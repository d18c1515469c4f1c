-- The octant of a point from its cell.
use Rattle.std.proofs.Common.{◌≡◌, ◌∙◌, ℕ, ◌+◌, ◌-◌, ◌*◌, ◌/◌, ◌%◌, ◌^◌, ◌≤◌, List, sym, ap, arith, get_or}
use Rattle.ept_space.specs.Place.{Place}
use Rattle.ept_space.specs.VoxelKey.{octant_of}
use Rattle.ept_space.specs.OctreeCube.{OctreeCube, offset, cell_at, key_at, octant_at, box_side}
use Rattle.ept_space.proofs.Axis.{index-coarser}
use Rattle.ept_space.proofs.Shifts.{ap3}

-- a cell's index, halved this number of times, is the index of the half box
half : (cube : OctreeCube) (depth : ℕ) (place : Place) (axis shift index bit : ℕ) → 1 ≤ cube.s → depth + cube.s ≤ cube.e → shift ≡ cube.s - 1 → index ≡ offset cube place axis / 2 ^ (cube.e - depth - cube.s) → bit ≡ index / 2 ^ shift % 2 → bit ≡ offset cube place axis / box_side cube (depth + 1) % 2
half cube depth place axis shift index bit span whole is_shift is_index is_bit =
    let n : ℕ = offset cube place axis in
    let j : ℕ = cube.e - depth - cube.s in
    let k : ℕ = cube.e - (depth + 1) in
    let steps : shift ≡ k - j = omega arith in
    is_bit ∙ ap (λ m. m / 2 ^ shift % 2) is_index ∙ ap (λ m. n / 2 ^ j / 2 ^ m % 2) steps ∙ ap (λ m. m % 2) (sym (index-coarser n j k (omega arith)))

pub octant-cell : (cube : OctreeCube) (depth : ℕ) (place : Place) (cell : List ℕ) (shift x y z : ℕ) → 1 ≤ cube.s → depth + cube.s ≤ cube.e → shift ≡ cube.s - 1 → cell ≡ cell_at cube depth place → x ≡ get_or cell 0 0 / 2 ^ shift % 2 → y ≡ get_or cell 1 0 / 2 ^ shift % 2 → z ≡ get_or cell 2 0 / 2 ^ shift % 2 → x + 2 * y + 4 * z ≡ octant_at cube depth place
unfolding octant_at octant_of key_at cell_at
octant-cell cube depth place cell shift x y z span whole is_shift is is_x is_y is_z =
    ap3 (λ a b c. a + 2 * b + 4 * c) (half cube depth place 0 shift (get_or cell 0 0) x span whole is_shift (ap (λ c. get_or c 0 0) is) is_x) (half cube depth place 1 shift (get_or cell 1 0) y span whole is_shift (ap (λ c. get_or c 1 0) is) is_y) (half cube depth place 2 shift (get_or cell 2 0) z span whole is_shift (ap (λ c. get_or c 2 0) is) is_z)
