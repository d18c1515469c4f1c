-- The key, the octant and the box of a place.
use Rattle.std.proofs.Common.{◌≡◌, ℕ, ◌+◌, ◌-◌, ◌*◌, ◌/◌, ◌^◌, ◌<◌, ◌≤◌, true, ℤ, pos, ◌+ℤ◌, ◌-ℤ◌, ◌≤ℤ◌, refl, sym, ap, subst, ◌∙◌, arith}
use Rattle.std.specs.Prelude.{unsigned_abs}
use Rattle.std.proofs.lemmas.Int.{ints}
use Rattle.std.proofs.lemmas.Nat.{pow_pos, shr_below}
use Rattle.std.proofs.Math.Nat.{div-eq_of_lt}
use Rattle.ept_space.specs.Place.{Place, coordinate}
use Rattle.ept_space.specs.VoxelKey.{VoxelKey, IsKey, root, child, parent, octant_of, is_within, is_below}
use Rattle.ept_space.specs.OctreeCube.{OctreeCube, IsCube, IsFrom, InBox, InCube, box_side, offset, key_at, octant_at}
use Rattle.ept_space.proofs.Axis.{far, index-of-interval, interval-of-index, side-halves, index-halves, index-coarser}
use Rattle.ept_space.proofs.Family.{same-parts, octant_of-child, child-parent, octant_of-below, depth-child}
use Rattle.ept_space.proofs.Within.{is_within-from, depth-within, is_within-unique, is_within-child, is_within-root, is_below-deeper, is_below-within}

-- ---- the key at a depth

pub depth-key_at : (cube : OctreeCube) (depth : ℕ) (place : Place) → (key_at cube depth place).depth ≡ depth
unfolding key_at
depth-key_at cube depth place = refl

-- a place in the box of a key has that key
pub key_at-box : (cube : OctreeCube) (key : VoxelKey) (place : Place) → InBox cube key place → key_at cube key.depth place ≡ key
unfolding key_at InBox
key_at-box cube key place h =
    same-parts _ _ refl (index-of-interval _ _ key.x (box_side cube key.depth) h.x) (index-of-interval _ _ key.y (box_side cube key.depth) h.y) (index-of-interval _ _ key.z (box_side cube key.depth) h.z)

-- a place is not below the cube's corner
pub record IsAbove (cube : OctreeCube) (place : Place) : Type 0 where
  pub x : coordinate cube.corner 0 ≤ℤ coordinate place 0
  pub y : coordinate cube.corner 1 ≤ℤ coordinate place 1
  pub z : coordinate cube.corner 2 ≤ℤ coordinate place 2

pub above-box : (cube : OctreeCube) (key : VoxelKey) (place : Place) → InBox cube key place → IsAbove cube place
unfolding InBox
above-box cube key place h =
    record { x = from_corner _ _ _ _ h.x; y = from_corner _ _ _ _ h.y; z = from_corner _ _ _ _ h.z }
  where
    from_corner : (corner at : ℤ) (n side : ℕ) → IsFrom (corner +ℤ pos n) side at → corner ≤ℤ at
    from_corner corner at n side (low, high) = omega (arith, ints)

pub above-cube : (cube : OctreeCube) (place : Place) → InCube cube place → IsAbove cube place
unfolding InCube
above-cube cube place h = record { x = h.x.0; y = h.y.0; z = h.z.0 }

pub box-above : (cube : OctreeCube) (depth : ℕ) (place : Place) → IsAbove cube place → InBox cube (key_at cube depth place) place
unfolding key_at InBox
box-above cube depth place h =
    record {
      x = interval-of-index _ _ (box_side cube depth) h.x (pow_pos _);
      y = interval-of-index _ _ (box_side cube depth) h.y (pow_pos _);
      z = interval-of-index _ _ (box_side cube depth) h.z (pow_pos _);
    }

-- a place of the cube lies in the box of its key at each depth
pub InBox-key_at : (cube : OctreeCube) (depth : ℕ) (place : Place) → InCube cube place → InBox cube (key_at cube depth place) place
InBox-key_at cube depth place h = box-above cube depth place (above-cube cube place h)

-- the parent of the key of one depth more
pub parent-key_at : (cube : OctreeCube) (depth : ℕ) (place : Place) → depth < cube.e → parent (key_at cube (depth + 1) place) ≡ key_at cube depth place
unfolding key_at parent
parent-key_at cube depth place h =
    same-parts _ _ (omega arith) (halved (offset cube place 0)) (halved (offset cube place 1)) (halved (offset cube place 2))
  where
    halved : (n : ℕ) → n / 2 ^ (cube.e - (depth + 1)) / 2 ≡ n / 2 ^ (cube.e - depth)
    halved n = sym (ap (λ side. n / side) (side-halves cube.e depth h) ∙ index-halves n _)

-- the key of one depth more is the child of the octant that the place lies in
pub key_at-suc : (cube : OctreeCube) (depth : ℕ) (place : Place) → depth < cube.e → key_at cube (depth + 1) place ≡ child (key_at cube depth place) (octant_at cube depth place)
unfolding octant_at
key_at-suc cube depth place h =
    let deep = depth-key_at cube (depth + 1) place in
    sym (child-parent (key_at cube (depth + 1) place) (omega arith)) ∙ ap (λ k. child k (octant_of (key_at cube (depth + 1) place))) (parent-key_at cube depth place h)

pub octant_of-key_at : (cube : OctreeCube) (depth : ℕ) (place : Place) → octant_of (key_at cube (depth + 1) place) ≡ octant_at cube depth place
unfolding octant_at
octant_of-key_at cube depth place = refl

pub octant_at-below : (cube : OctreeCube) (depth : ℕ) (place : Place) → octant_at cube depth place < 8
unfolding octant_at
octant_at-below cube depth place = octant_of-below (key_at cube (depth + 1) place)

-- a place of the cube is less than the side from the corner
offset-within : (corner at : ℤ) (side : ℕ) → IsFrom corner side at → unsigned_abs (at -ℤ corner) < side
offset-within corner at side (low, high) =
    let above = far corner at low in omega (arith, ints)

pub offset-x : (cube : OctreeCube) (place : Place) → InCube cube place → offset cube place 0 < 2 ^ cube.e
unfolding InCube
offset-x cube place h = offset-within _ _ _ h.x

pub offset-y : (cube : OctreeCube) (place : Place) → InCube cube place → offset cube place 1 < 2 ^ cube.e
unfolding InCube
offset-y cube place h = offset-within _ _ _ h.y

pub offset-z : (cube : OctreeCube) (place : Place) → InCube cube place → offset cube place 2 < 2 ^ cube.e
unfolding InCube
offset-z cube place h = offset-within _ _ _ h.z

-- the key of depth 0 of a place of the cube is the root
pub key_at-root : (cube : OctreeCube) (place : Place) → InCube cube place → key_at cube 0 place ≡ root
unfolding key_at
key_at-root cube place h =
    same-parts _ _ refl (none (offset cube place 0) (offset-x cube place h)) (none (offset cube place 1) (offset-y cube place h)) (none (offset cube place 2) (offset-z cube place h))
  where
    none : (n : ℕ) → n < 2 ^ cube.e → n / 2 ^ (cube.e - 0) ≡ 0
    none n small =
        let whole : cube.e - 0 ≡ cube.e = omega arith in ap (λ k. n / 2 ^ k) whole ∙ div-eq_of_lt small

-- the key at a depth is a key
pub IsKey-key_at : (cube : OctreeCube) (depth : ℕ) (place : Place) → IsCube cube → InCube cube place → depth ≤ cube.depth → IsKey (key_at cube depth place)
unfolding key_at
IsKey-key_at cube depth place h inside low =
    record {
      shallow = omega arith;
      x_in = index_below (offset cube place 0) (offset-x cube place inside);
      y_in = index_below (offset cube place 1) (offset-y cube place inside);
      z_in = index_below (offset cube place 2) (offset-z cube place inside);
    }
  where
    index_below : (n : ℕ) → n < 2 ^ cube.e → n / 2 ^ (cube.e - depth) < 2 ^ depth
    index_below n small =
        let whole : cube.e ≡ depth + (cube.e - depth) = omega arith in
        shr_below n depth (cube.e - depth) (subst (λ k. n < 2 ^ k) whole small)

-- the keys of a place, each within those of less depth
pub is_within-key_at : (cube : OctreeCube) (upper lower : ℕ) (place : Place) → upper ≤ lower → lower ≤ cube.e → is_within (key_at cube upper place) (key_at cube lower place) ≡ true
unfolding key_at
is_within-key_at cube upper lower place h deep =
    is_within-from _ _ (record {
      deeper = h;
      x_same = up (offset cube place 0);
      y_same = up (offset cube place 1);
      z_same = up (offset cube place 2);
    })
  where
    up : (n : ℕ) → n / 2 ^ (cube.e - lower) / 2 ^ (lower - upper) ≡ n / 2 ^ (cube.e - upper)
    up n =
        let split : cube.e - upper - (cube.e - lower) ≡ lower - upper = omega arith in
        ap (λ k. n / 2 ^ (cube.e - lower) / 2 ^ k) (sym split) ∙ sym (index-coarser n (cube.e - lower) (cube.e - upper) (omega arith))

-- a key that the key of a place is within is the place's key of its depth
pub key_at-unique : (cube : OctreeCube) (top : VoxelKey) (depth : ℕ) (place : Place) → is_within top (key_at cube depth place) ≡ true → depth ≤ cube.e → key_at cube top.depth place ≡ top
key_at-unique cube top depth place h deep =
    let at_depth = depth-key_at cube depth place in
    let shallower = depth-within top (key_at cube depth place) h in
    is_within-unique (key_at cube top.depth place) top (key_at cube depth place) (is_within-key_at cube top.depth depth place (omega arith) deep) h (depth-key_at cube top.depth place)

-- a place in a box lies in each box that the key is within
pub InBox-within : (cube : OctreeCube) (top key : VoxelKey) (place : Place) → is_within top key ≡ true → key.depth ≤ cube.e → InBox cube key place → InBox cube top place
InBox-within cube top key place h deep inside =
    let here = key_at-box cube key place inside in
    let above = key_at-unique cube top key.depth place (subst (λ k. is_within top k ≡ true) (sym here) h) deep in
    subst (λ k. InBox cube k place) above (box-above cube top.depth place (above-box cube key place inside))

-- ---- the root's box is the cube

pub InBox-root : (cube : OctreeCube) (place : Place) → InCube cube place → InBox cube root place
InBox-root cube place h =
    subst (λ k. InBox cube k place) (key_at-root cube place h) (InBox-key_at cube 0 place h)

pub InCube-root : (cube : OctreeCube) (place : Place) → InBox cube root place → InCube cube place
unfolding InBox InCube
InCube-root cube place h =
    record { x = whole _ _ h.x; y = whole _ _ h.y; z = whole _ _ h.z }
  where
    whole : (corner at : ℤ) → IsFrom (corner +ℤ pos (0 * 2 ^ (cube.e - 0))) (2 ^ (cube.e - 0)) at → IsFrom corner (2 ^ cube.e) at
    whole corner at (low, high) =
        let exponent : cube.e - 0 ≡ cube.e = omega arith in
        let side : 2 ^ (cube.e - 0) ≡ 2 ^ cube.e = ap (λ k. 2 ^ k) exponent in
        (omega (arith, ints), omega (arith, ints))

pub InCube-box : (cube : OctreeCube) (key : VoxelKey) (place : Place) → IsKey key → key.depth ≤ cube.e → InBox cube key place → InCube cube place
InCube-box cube key place h deep inside =
    InCube-root cube place (InBox-within cube root key place (is_within-root key h) deep inside)

-- ---- the boxes of children

pub InBox-child_within : (cube : OctreeCube) (key : VoxelKey) (octant : ℕ) (place : Place) → key.depth < cube.e → InBox cube (child key octant) place → InBox cube key place
InBox-child_within cube key octant place h inside =
    let deeper = depth-child key octant in
    InBox-within cube key (child key octant) place (is_within-child key octant) (omega arith) inside

-- a place in a box lies in the child's box of its octant
pub InBox-child : (cube : OctreeCube) (key : VoxelKey) (place : Place) → key.depth < cube.e → InBox cube key place → InBox cube (child key (octant_at cube key.depth place)) place
InBox-child cube key place h inside =
    let here = key_at-box cube key place inside in
    let below = key_at-suc cube key.depth place h in
    subst (λ k. InBox cube k place) (below ∙ ap (λ k. child k (octant_at cube key.depth place)) here) (box-above cube (key.depth + 1) place (above-box cube key place inside))

-- and in no other
pub octant_at-child : (cube : OctreeCube) (key : VoxelKey) (octant : ℕ) (place : Place) → octant < 8 → InBox cube (child key octant) place → octant_at cube key.depth place ≡ octant
octant_at-child cube key octant place small inside =
    let deeper = depth-child key octant in
    let below = key_at-box cube (child key octant) place inside in
    sym (octant_of-key_at cube key.depth place) ∙ ap (λ d. octant_of (key_at cube d place)) (sym deeper) ∙ ap octant_of below ∙ octant_of-child key octant small

-- below a key of a place, the keys of the place are within the child of its octant
pub is_within-child_at : (cube : OctreeCube) (top : VoxelKey) (depth : ℕ) (place : Place) → is_below top (key_at cube depth place) ≡ true → depth ≤ cube.e → is_within (child top (octant_at cube top.depth place)) (key_at cube depth place) ≡ true
is_within-child_at cube top depth place h deep =
    let level = depth-key_at cube depth place in
    let deeper = is_below-deeper top (key_at cube depth place) h in
    let here = key_at-unique cube top depth place (is_below-within top (key_at cube depth place) h) deep in
    let next : key_at cube (top.depth + 1) place ≡ child top (octant_at cube top.depth place) = key_at-suc cube top.depth place (omega arith) ∙ ap (λ k. child k (octant_at cube top.depth place)) here in
    subst (λ k. is_within k (key_at cube depth place) ≡ true) next (is_within-key_at cube (top.depth + 1) depth place (omega arith) deep)
