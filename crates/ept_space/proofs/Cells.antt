-- The cells of places, and how far a place is from the centre of its cell.
use Rattle.std.proofs.Common.{◌≡◌, ℕ, ◌+◌, ◌*◌, ◌/◌, ◌^◌, ◌<◌, ◌≤◌, true, ◌&&◌, ◌==◌, [], ◌∷◌, ℤ, pos, ◌+ℤ◌, ◌-ℤ◌, ◌*ℤ◌, ◌≤ℤ◌, refl, sym, ap, ◌∙◌, arith, slice_index, lit<}
use Rattle.std.specs.Prelude.{unsigned_abs}
use Rattle.std.proofs.lemmas.Bool.Decides.{nat_tests}
use Rattle.std.proofs.lemmas.Int.{ints}
use Rattle.std.proofs.lemmas.Nat.{pow_pos}
use Rattle.std.proofs.Math.Nat.{div-mul-le_self, lt-div-mul-add, pow-le-pow_left, pow-le-pow_right}
use Rattle.ept_space.specs.Place.{Place}
use Rattle.ept_space.specs.VoxelKey.{octant_of}
use Rattle.ept_space.specs.OctreeCube.{OctreeCube, IsCube, InCube, InCell, cell_side, offset, key_at, octant_at, cell_at, cell_index, same_cell, off_centre, distance_at}
use Rattle.ept_space.proofs.Axis.{far, index-of-interval, interval-of-index, coarser-same}
use Rattle.ept_space.proofs.Family.{same-parts}
use Rattle.ept_space.proofs.PlaceKeys.{above-cube}

-- ---- the cell of a place

-- a place of the cube lies in its cell
pub InCell-cell_at : (cube : OctreeCube) (depth : ℕ) (place : Place) → InCube cube place → InCell cube depth (cell_at cube depth place) place
unfolding cell_at InCell
InCell-cell_at cube depth place inside =
    let h = above-cube cube place inside in
    record {
      x = interval-of-index _ _ (cell_side cube depth) h.x (pow_pos _);
      y = interval-of-index _ _ (cell_side cube depth) h.y (pow_pos _);
      z = interval-of-index _ _ (cell_side cube depth) h.z (pow_pos _);
    }

-- and in no other
pub cell_at-unique : (cube : OctreeCube) (depth : ℕ) (x y z : ℕ) (place : Place) → InCell cube depth (x ∷ y ∷ z ∷ []) place → cell_at cube depth place ≡ x ∷ y ∷ z ∷ []
unfolding cell_at InCell
cell_at-unique cube depth x y z place h =
    let in_x = index-of-interval _ _ x (cell_side cube depth) h.x in
    let in_y = index-of-interval _ _ y (cell_side cube depth) h.y in
    let in_z = index-of-interval _ _ z (cell_side cube depth) h.z in
    cc

-- ---- places in one cell

-- what being in one cell says of the indices
pub record IsSameCell (cube : OctreeCube) (depth : ℕ) (p q : Place) : Type 0 where
  pub x : cell_index cube depth p 0 ≡ cell_index cube depth q 0
  pub y : cell_index cube depth p 1 ≡ cell_index cube depth q 1
  pub z : cell_index cube depth p 2 ≡ cell_index cube depth q 2

equal-three : (a b c p q r : ℕ) → ((a == p) && (b == q) && (c == r)) ≡ true → (a ≡ p) × (b ≡ q) × (c ≡ r)
equal-three a b c p q r h = (grind (arith, nat_tests), grind (arith, nat_tests), grind (arith, nat_tests))

three-equal : (a b c p q r : ℕ) → a ≡ p → b ≡ q → c ≡ r → ((a == p) && (b == q) && (c == r)) ≡ true
three-equal a b c p q r ha hb hc = grind (arith, nat_tests)

pub IsSameCell-from : (cube : OctreeCube) (depth : ℕ) (p q : Place) → same_cell cube depth p q ≡ true → IsSameCell cube depth p q
unfolding same_cell
IsSameCell-from cube depth p q h =
    let t = equal-three (cell_index cube depth p 0) (cell_index cube depth p 1) (cell_index cube depth p 2) (cell_index cube depth q 0) (cell_index cube depth q 1) (cell_index cube depth q 2) h in
    record { x = t.0; y = t.1; z = t.2 }

pub same_cell-from : (cube : OctreeCube) (depth : ℕ) (p q : Place) → IsSameCell cube depth p q → same_cell cube depth p q ≡ true
unfolding same_cell
same_cell-from cube depth p q h = three-equal _ _ _ _ _ _ h.x h.y h.z

-- places that are in one cell have equal cells
pub cell_at-same : (cube : OctreeCube) (depth : ℕ) (p q : Place) → same_cell cube depth p q ≡ true → cell_at cube depth p ≡ cell_at cube depth q
unfolding cell_at
cell_at-same cube depth p q h =
    let same = IsSameCell-from cube depth p q h in
    let x = same.x in
    let y = same.y in
    let z = same.z in
    cc

pub same_cell-cell_at : (cube : OctreeCube) (depth : ℕ) (p q : Place) → cell_at cube depth p ≡ cell_at cube depth q → same_cell cube depth p q ≡ true
unfolding cell_at
same_cell-cell_at cube depth p q h =
    same_cell-from cube depth p q (record {
      x = ap (λ cell. slice_index cell 0) h;
      y = ap (λ cell. slice_index cell 1) h;
      z = ap (λ cell. slice_index cell 2) h;
    })

pub same_cell-self : (cube : OctreeCube) (depth : ℕ) (p : Place) → same_cell cube depth p p ≡ true
same_cell-self cube depth p = same_cell-cell_at cube depth p p refl

pub same_cell-sym : (cube : OctreeCube) (depth : ℕ) (p q : Place) → same_cell cube depth p q ≡ true → same_cell cube depth q p ≡ true
same_cell-sym cube depth p q h = same_cell-cell_at cube depth q p (sym (cell_at-same cube depth p q h))

pub same_cell-trans : (cube : OctreeCube) (depth : ℕ) (p q r : Place) → same_cell cube depth p q ≡ true → same_cell cube depth q r ≡ true → same_cell cube depth p r ≡ true
same_cell-trans cube depth p q r pq qr =
    same_cell-cell_at cube depth p r (cell_at-same cube depth p q pq ∙ cell_at-same cube depth q r qr)

-- ---- a cell lies in one cell of each less depth, in one box, and in one octant

pub same_cell-coarser : (cube : OctreeCube) (upper lower : ℕ) (p q : Place) → upper ≤ lower → same_cell cube lower p q ≡ true → same_cell cube upper p q ≡ true
same_cell-coarser cube upper lower p q h same =
    let fine = IsSameCell-from cube lower p q same in
    same_cell-from cube upper p q (record {
      x = coarser-same (offset cube p 0) (offset cube q 0) _ _ (omega arith) fine.x;
      y = coarser-same (offset cube p 1) (offset cube q 1) _ _ (omega arith) fine.y;
      z = coarser-same (offset cube p 2) (offset cube q 2) _ _ (omega arith) fine.z;
    })

-- the key of each depth down to that of the cell's own side
pub key_at-same_cell : (cube : OctreeCube) (upper depth : ℕ) (p q : Place) → upper ≤ depth + cube.s → same_cell cube depth p q ≡ true → key_at cube upper p ≡ key_at cube upper q
unfolding key_at
key_at-same_cell cube upper depth p q h same =
    let fine = IsSameCell-from cube depth p q same in
    same-parts _ _ refl (coarser-same (offset cube p 0) (offset cube q 0) _ _ (omega arith) fine.x) (coarser-same (offset cube p 1) (offset cube q 1) _ _ (omega arith) fine.y) (coarser-same (offset cube p 2) (offset cube q 2) _ _ (omega arith) fine.z)

pub octant_at-same_cell : (cube : OctreeCube) (upper depth : ℕ) (p q : Place) → 1 ≤ cube.s → upper ≤ depth → same_cell cube depth p q ≡ true → octant_at cube upper p ≡ octant_at cube upper q
unfolding octant_at
octant_at-same_cell cube upper depth p q span h same =
    ap octant_of (key_at-same_cell cube (upper + 1) depth p q (omega arith) same)

-- ---- the distance from the centre

-- on one axis a place is at most half a cell from the centre
near-centre : (corner at : ℤ) (side : ℕ) → corner ≤ℤ at → 0 < side → unsigned_abs (pos 2 *ℤ (at -ℤ (corner +ℤ pos (unsigned_abs (at -ℤ corner) / side * side))) -ℤ pos side) ≤ side
near-centre corner at side above positive =
    let here = far corner at above in
    let n : ℕ = unsigned_abs (at -ℤ corner) in
    let low : n / side * side ≤ n = div-mul-le_self n side in
    let high : n < n / side * side + side = lt-div-mul-add positive in
    omega (arith, ints)

-- a number of at most 31 bits has a square of at most 62
square-small : (n k : ℕ) → n ≤ 2 ^ k → k ≤ 31 → n ^ 2 ≤ 2 ^ 62
square-small n k small short =
    let bits : 2 ^ k ≤ 2 ^ 31 = pow-le-pow_right (lit< tt) short in
    let at_most : n ≤ 2 ^ 31 = omega arith in
    pow-le-pow_left at_most 2

pub distance_at-small : (cube : OctreeCube) (depth : ℕ) (place : Place) → IsCube cube → InCube cube place → distance_at cube depth place < 2 ^ 64
unfolding distance_at
distance_at-small cube depth place h inside =
    let above = above-cube cube place inside in
    let near_x : unsigned_abs (off_centre cube depth place 0) ^ 2 ≤ 2 ^ 62 = square-small _ _ (near-centre _ _ _ above.x (pow_pos _)) (omega arith) in
    let near_y : unsigned_abs (off_centre cube depth place 1) ^ 2 ≤ 2 ^ 62 = square-small _ _ (near-centre _ _ _ above.y (pow_pos _)) (omega arith) in
    let near_z : unsigned_abs (off_centre cube depth place 2) ^ 2 ≤ 2 ^ 62 = square-small _ _ (near-centre _ _ _ above.z (pow_pos _)) (omega arith) in
    omega arith
