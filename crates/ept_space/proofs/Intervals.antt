-- Closed boxes, an axis at a time.
use Rattle.std.proofs.Common.{◌≡◌, ℕ, ◌+◌, ◌-◌, ◌*◌, ◌%◌, ◌^◌, ◌<◌, ◌≤◌, Bool, true, false, ◌&&◌, [], ◌∷◌, ℤ, pos, ◌+ℤ◌, ◌≤ℤ◌, ◌↔◌, to_z, of_z, w32, w64, refl, sym, ap, subst, ◌∙◌, arith}
use Rattle.std.specs.Prelude.{FitsSigned, IsTrue, int_le}
use Rattle.std.specs.Int.{int_max, int_min}
use Rattle.std.proofs.lemmas.Int.{ints, clamps, to_z-of_z}
use Rattle.std.proofs.lemmas.Nat.{pow_pos, pow-add, mul-le}
use Rattle.std.proofs.Math.Pow.{pow_mono}
use Rattle.ept_space.proofs.Shifts.{side-code}
use Rattle.ept_space.specs.Place.{Place, coordinate}
use Rattle.ept_space.specs.VoxelKey.{VoxelKey}
use Rattle.ept_space.specs.OctreeCube.{OctreeCube, IsFrom, InBox}
use Rattle.ept_space.specs.declared.box3.Box3.{Box3}
use Rattle.ept_space.specs.ClosedBox.{IsBetween, Overlap, IsIn, Meet}

-- a half-open interval of whole numbers is a closed one that ends one before
pub between-code : (corner at : ℤ) (m n low side : ℕ) → FitsSigned w32 corner → m ≡ low → n ≡ side → 0 < side → low + side ≤ 2 ^ 32 → IsBetween (to_z w64 (of_z w64 (to_z w64 (of_z w64 corner) +ℤ to_z w64 m))) (to_z w64 (of_z w64 (to_z w64 (of_z w64 (to_z w64 (of_z w64 corner) +ℤ to_z w64 m)) +ℤ to_z w64 (n - 1)))) at ↔ IsFrom (corner +ℤ pos low) side at
between-code corner at m n low side fits is_m is_n positive near = (
  (λ (from, to). (omega (arith, ints), omega (arith, ints))),
  (λ (from, to). (omega (arith, ints), omega (arith, ints))),
)

pub interval-code : (corner at : ℤ) (read index shift : ℕ) → FitsSigned w32 corner → shift ≤ 32 → read ≡ index → index * 2 ^ shift + 2 ^ shift ≤ 2 ^ 32 → IsBetween (to_z w64 (of_z w64 (to_z w64 (of_z w64 corner) +ℤ to_z w64 (read * (1 * 2 ^ shift % 18446744073709551616))))) (to_z w64 (of_z w64 (to_z w64 (of_z w64 (to_z w64 (of_z w64 corner) +ℤ to_z w64 (read * (1 * 2 ^ shift % 18446744073709551616)))) +ℤ to_z w64 (1 * 2 ^ shift % 18446744073709551616 - 1)))) at ↔ IsFrom (corner +ℤ pos (index * 2 ^ shift)) (2 ^ shift) at
interval-code corner at read index shift fits short is_read near =
    let side = side-code shift (omega arith) in
    between-code corner at (read * (1 * 2 ^ shift % 18446744073709551616)) (1 * 2 ^ shift % 18446744073709551616) (index * 2 ^ shift) (2 ^ shift) fits (ap (λ i. i * (1 * 2 ^ shift % 18446744073709551616)) is_read ∙ ap (λ s. index * s) side) side (pow_pos shift) near

-- two closed intervals meet if the greater of their least numbers is at most the lesser of their greatest
pub overlap-code : (a_min a_max b_min b_max high low : ℤ) → FitsSigned w64 a_min → FitsSigned w64 a_max → FitsSigned w64 b_min → FitsSigned w64 b_max → FitsSigned w64 high → FitsSigned w64 low → high ≡ int_max (to_z w64 (of_z w64 a_min)) (to_z w64 (of_z w64 b_min)) → low ≡ int_min (to_z w64 (of_z w64 a_max)) (to_z w64 (of_z w64 b_max)) → IsTrue (int_le (to_z w64 (of_z w64 high)) (to_z w64 (of_z w64 low))) ↔ Overlap a_min a_max b_min b_max
overlap-code a_min a_max b_min b_max high low fa fb fc fd fits_high fits_low is_high is_low = (
  (λ h. let order : high ≤ℤ low = grind (arith, ints) in
      (high, ((omega (arith, ints, clamps), omega (arith, ints, clamps)), (omega (arith, ints, clamps), omega (arith, ints, clamps))))),
  (λ w. let a_from = w.1.0.0 in
      let a_to = w.1.0.1 in
      let b_from = w.1.1.0 in
      let b_to = w.1.1.1 in
      let order : high ≤ℤ low = omega (arith, ints, clamps) in
      grind (arith, ints)),
)

-- three tests, together
pub all-three : (x y z : Bool) (P Q R : Type 0) → IsTrue x ↔ P → IsTrue y ↔ Q → IsTrue z ↔ R → IsTrue (x && y && z) ↔ (P × Q × R)
all-three true true true P Q R p q r = ((λ h. (p.0 refl, q.0 refl, r.0 refl)), (λ h. refl))
all-three false y z P Q R p q r = ((λ h. cc), (λ h. p.1 h.0))
all-three true false z P Q R p q r = ((λ h. cc), (λ h. q.1 h.1))
all-three true true false P Q R p q r = ((λ h. cc), (λ h. r.1 h.2))

-- what the tests of an axis say of the numbers that were read
pub read-between : (test : Bool) (least greatest at : ℤ) → FitsSigned w64 least → FitsSigned w64 greatest → FitsSigned w32 at → IsTrue test ↔ IsBetween (to_z w64 (of_z w64 least)) (to_z w64 (of_z w64 greatest)) (to_z w32 (of_z w32 at)) → IsTrue test ↔ IsBetween least greatest at
read-between test least greatest at fits_least fits_greatest fits_at h =
    subst (λ p. IsTrue test ↔ IsBetween p greatest at) (to_z-of_z w64 least fits_least) (subst (λ p. IsTrue test ↔ IsBetween (to_z w64 (of_z w64 least)) p at) (to_z-of_z w64 greatest fits_greatest) (subst (λ p. IsTrue test ↔ IsBetween (to_z w64 (of_z w64 least)) (to_z w64 (of_z w64 greatest)) p) (to_z-of_z w32 at fits_at) h))

pub read-overlap : (test : Bool) (a b c d : ℤ) → FitsSigned w64 a → FitsSigned w64 b → FitsSigned w64 c → FitsSigned w64 d → IsTrue test ↔ Overlap (to_z w64 (of_z w64 a)) (to_z w64 (of_z w64 b)) (to_z w64 (of_z w64 c)) (to_z w64 (of_z w64 d)) → IsTrue test ↔ Overlap a b c d
read-overlap test a b c d fa fb fc fd h =
    simp to_z-of_z at h

-- a place is in a box if its coordinates are in the box's intervals
pub contains-code : (area : Box3) (place : Place) (x y z : Bool) → IsTrue x ↔ IsBetween (coordinate area.min 0) (coordinate area.max 0) (coordinate place 0) → IsTrue y ↔ IsBetween (coordinate area.min 1) (coordinate area.max 1) (coordinate place 1) → IsTrue z ↔ IsBetween (coordinate area.min 2) (coordinate area.max 2) (coordinate place 2) → IsTrue (x && y && z) ↔ IsIn area place
contains-code area place x y z in_x in_y in_z =
    let all = all-three x y z _ _ _ in_x in_y in_z in
    ((λ h. let t = all.0 h in record { x = t.0; y = t.1; z = t.2 }), (λ h. all.1 (h.x, h.y, h.z)))

-- two boxes meet if their intervals do
pub meets-code : (a b : Box3) (x y z : Bool) → IsTrue x ↔ Overlap (coordinate a.min 0) (coordinate a.max 0) (coordinate b.min 0) (coordinate b.max 0) → IsTrue y ↔ Overlap (coordinate a.min 1) (coordinate a.max 1) (coordinate b.min 1) (coordinate b.max 1) → IsTrue z ↔ Overlap (coordinate a.min 2) (coordinate a.max 2) (coordinate b.min 2) (coordinate b.max 2) → IsTrue (x && y && z) ↔ Meet a b
meets-code a b x y z on_x on_y on_z =
    let all = all-three x y z _ _ _ on_x on_y on_z in (
      (λ h. let t = all.0 h in
          (t.0.0 ∷ t.1.0 ∷ t.2.0 ∷ [], (record { x = t.0.1.0; y = t.1.1.0; z = t.2.1.0 }, record { x = t.0.1.1; y = t.1.1.1; z = t.2.1.1 }))),
      (λ w. all.1 ((coordinate w.0 0, (w.1.0.x, w.1.1.x)), (coordinate w.0 1, (w.1.0.y, w.1.1.y)), (coordinate w.0 2, (w.1.0.z, w.1.1.z)))),
    )

-- the index of a box fits, on one axis
pub near-code : (index depth e shift : ℕ) → index < 2 ^ depth → shift ≡ e - depth → depth ≤ e → e ≤ 32 → index * 2 ^ shift + 2 ^ shift ≤ 4294967296
near-code index depth e shift small is_shift low short =
    let whole : depth + shift ≡ e = omega arith in
    let bound : 2 ^ e ≤ 2 ^ 32 = pow_mono short in
    let product : 2 ^ (depth + shift) ≡ 2 ^ depth * 2 ^ shift = pow-add 2 depth shift in
    let power : 2 ^ (depth + shift) ≡ 2 ^ e = ap (λ k. 2 ^ k) whole in
    let rows : (index + 1) * 2 ^ shift ≤ 2 ^ depth * 2 ^ shift = mul-le (index + 1) (2 ^ shift) (2 ^ depth) (2 ^ shift) (omega arith) (omega arith) in
    omega arith

-- what the intervals of the axes say of the box, if the code has seen the cube and the key
pub read-interval : (least greatest corner : ℤ) (low side : ℕ) → FitsSigned w64 least → FitsSigned w64 greatest → FitsSigned w32 corner → ((at : ℤ) → IsBetween least greatest at ↔ IsFrom (to_z w64 (of_z w64 corner) +ℤ pos low) side at) → (at : ℤ) → IsBetween (to_z w64 (of_z w64 least)) (to_z w64 (of_z w64 greatest)) at ↔ IsFrom (corner +ℤ pos low) side at
read-interval least greatest corner low side fits_least fits_greatest fits_corner h at =
    let both = h at in (
      (λ (from, to). let t = both.0 (omega (arith, ints), omega (arith, ints)) in (omega (arith, ints, t.0), omega (arith, ints, t.1))),
      (λ (from, to). let t = both.1 (omega (arith, ints), omega (arith, ints)) in (omega (arith, ints, t.0), omega (arith, ints, t.1))),
    )

box-intervals : (cube : OctreeCube) (key : VoxelKey) (area : Box3) (shift : ℕ) → shift ≡ cube.e - key.depth → ((at : ℤ) → IsBetween (coordinate area.min 0) (coordinate area.max 0) at ↔ IsFrom (coordinate cube.corner 0 +ℤ pos (key.x * 2 ^ shift)) (2 ^ shift) at) → ((at : ℤ) → IsBetween (coordinate area.min 1) (coordinate area.max 1) at ↔ IsFrom (coordinate cube.corner 1 +ℤ pos (key.y * 2 ^ shift)) (2 ^ shift) at) → ((at : ℤ) → IsBetween (coordinate area.min 2) (coordinate area.max 2) at ↔ IsFrom (coordinate cube.corner 2 +ℤ pos (key.z * 2 ^ shift)) (2 ^ shift) at) → (place : Place) → IsIn area place ↔ InBox cube key place
unfolding InBox
box-intervals cube key area shift is_shift along_x along_y along_z place = (
  (λ h. record {
    x = shifted (coordinate cube.corner 0) key.x (coordinate place 0) ((along_x (coordinate place 0)).0 h.x);
    y = shifted (coordinate cube.corner 1) key.y (coordinate place 1) ((along_y (coordinate place 1)).0 h.y);
    z = shifted (coordinate cube.corner 2) key.z (coordinate place 2) ((along_z (coordinate place 2)).0 h.z);
  }),
  (λ h. record {
    x = (along_x (coordinate place 0)).1 (unshifted (coordinate cube.corner 0) key.x (coordinate place 0) h.x);
    y = (along_y (coordinate place 1)).1 (unshifted (coordinate cube.corner 1) key.y (coordinate place 1) h.y);
    z = (along_z (coordinate place 2)).1 (unshifted (coordinate cube.corner 2) key.z (coordinate place 2) h.z);
  }),
)
  where
    shifted : (corner : ℤ) (index : ℕ) (at : ℤ) → IsFrom (corner +ℤ pos (index * 2 ^ shift)) (2 ^ shift) at → IsFrom (corner +ℤ pos (index * 2 ^ (cube.e - key.depth))) (2 ^ (cube.e - key.depth)) at
    shifted corner index at h = subst (λ k. IsFrom (corner +ℤ pos (index * 2 ^ k)) (2 ^ k) at) is_shift h

    unshifted : (corner : ℤ) (index : ℕ) (at : ℤ) → IsFrom (corner +ℤ pos (index * 2 ^ (cube.e - key.depth))) (2 ^ (cube.e - key.depth)) at → IsFrom (corner +ℤ pos (index * 2 ^ shift)) (2 ^ shift) at
    unshifted corner index at h = subst (λ k. IsFrom (corner +ℤ pos (index * 2 ^ k)) (2 ^ k) at) (sym is_shift) h

pub node_box-code : (seen_cube cube : OctreeCube) (seen_key key : VoxelKey) (area : Box3) (shift : ℕ) → seen_cube ≡ cube → seen_key ≡ key → shift ≡ seen_cube.e - seen_key.depth → ((at : ℤ) → IsBetween (coordinate area.min 0) (coordinate area.max 0) at ↔ IsFrom (coordinate seen_cube.corner 0 +ℤ pos (seen_key.x * 2 ^ shift)) (2 ^ shift) at) → ((at : ℤ) → IsBetween (coordinate area.min 1) (coordinate area.max 1) at ↔ IsFrom (coordinate seen_cube.corner 1 +ℤ pos (seen_key.y * 2 ^ shift)) (2 ^ shift) at) → ((at : ℤ) → IsBetween (coordinate area.min 2) (coordinate area.max 2) at ↔ IsFrom (coordinate seen_cube.corner 2 +ℤ pos (seen_key.z * 2 ^ shift)) (2 ^ shift) at) → (place : Place) → IsIn area place ↔ InBox cube key place
node_box-code seen_cube cube seen_key key area shift same_cube same_key is_shift along_x along_y along_z place =
    subst (λ c. IsIn area place ↔ InBox c key place) same_cube (subst (λ k. IsIn area place ↔ InBox seen_cube k place) same_key (box-intervals seen_cube seen_key area shift is_shift along_x along_y along_z place))
