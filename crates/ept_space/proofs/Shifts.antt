-- The code's shifts and masks are the definitions' quotients and remainders.
use Rattle.std.proofs.Common.{◌≡◌, ℕ, suc, ◌+◌, ◌-◌, ◌*◌, ◌/◌, ◌%◌, ◌^◌, ◌<◌, ◌≤◌, bit_and, Fits, w32, w64, to_z, of_z, [], ◌∷◌, ℤ, pos, ◌+ℤ◌, ◌-ℤ◌, ◌*ℤ◌, ◌≤ℤ◌, refl, sym, ap, ◌∙◌, arith, lit<}
use Rattle.std.specs.Prelude.{unsigned_abs, FitsSigned, T}
use lib.Signed.{non_neg}
use Rattle.std.specs.Int.{abs_diff}
use Rattle.std.proofs.lemmas.Int.{ints}
use Rattle.std.proofs.lemmas.Nat.{and_mask, pow_pos, shr_split, one_shl, mod_below, mul-le}
use Rattle.std.proofs.Math.Nat.{pow-le-pow_right, pow-suc, pow-zero}
use Rattle.ept_space.specs.Place.{Place, coordinate}
use Rattle.ept_space.specs.VoxelKey.{VoxelKey, child, octant_of}
use Rattle.ept_space.specs.OctreeCube.{OctreeCube, InCube, offset, key_at, octant_at, cell_at, off_centre, distance_at}
use Rattle.ept_space.proofs.Axis.{far}
use Rattle.ept_space.proofs.Family.{same-parts}
use Rattle.ept_space.proofs.PlaceKeys.{above-cube}

pub ap3 : {A B C D : Type 0} (f : A → B → C → D) {a a' : A} {b b' : B} {c c' : C} → a ≡ a' → b ≡ b' → c ≡ c' → f a b c ≡ f a' b' c'
ap3 f p q r = λ i. f (p i) (q i) (r i)

-- how far a place is above a corner of 32 bits fits
pub cast-code : (corner at read : ℤ) → FitsSigned w32 corner → FitsSigned w32 at → read ≡ to_z w32 (of_z w32 at) → corner ≤ℤ at → T (non_neg (to_z w64 (of_z w64 (to_z w64 (of_z w64 read) -ℤ to_z w64 (of_z w64 corner))))) × Fits w64 (unsigned_abs (to_z w64 (of_z w64 (to_z w64 (of_z w64 read) -ℤ to_z w64 (of_z w64 corner)))))
cast-code corner at read fits_corner fits_at is_read above = (grind (arith, ints), grind (arith, ints))

-- the lowest bit
low-bit : (n : ℕ) → bit_and n 1 ≡ n % 2
low-bit n = and_mask n 1

pub child-code : (seen key : VoxelKey) (octant x y z : ℕ) → seen ≡ key → x ≡ bit_and octant 1 → y ≡ bit_and (octant / 2) 1 → z ≡ bit_and (octant / 4) 1 → ◌≡◌ {A = VoxelKey} (record { depth = seen.depth + 1; x = 2 * seen.x + x; y = 2 * seen.y + y; z = 2 * seen.z + z }) (child key octant)
unfolding child
child-code seen key octant x y z same is_x is_y is_z =
    same-parts _ _ refl (bit seen.x octant x is_x) (bit seen.y (octant / 2) y is_y) (bit seen.z (octant / 4) z is_z) ∙ ap (λ k. child k octant) same
  where
    bit : (n o b : ℕ) → b ≡ bit_and o 1 → 2 * n + b ≡ 2 * n + o % 2
    bit n o b is = ap (λ m. 2 * n + m) (is ∙ low-bit o)

pub octant-code : (cube : OctreeCube) (depth : ℕ) (place : Place) (x y z shift : ℕ) → x ≡ offset cube place 0 → y ≡ offset cube place 1 → z ≡ offset cube place 2 → shift ≡ cube.e - (depth + 1) → bit_and (x / 2 ^ shift) 1 + 2 * bit_and (y / 2 ^ shift) 1 + 4 * bit_and (z / 2 ^ shift) 1 ≡ octant_at cube depth place
unfolding octant_at octant_of key_at
octant-code cube depth place x y z shift is_x is_y is_z is_shift =
    let bit_x = low-bit (x / 2 ^ shift) in
    let bit_y = low-bit (y / 2 ^ shift) in
    let bit_z = low-bit (z / 2 ^ shift) in
    cc

pub cell-code : (cube : OctreeCube) (depth : ℕ) (place : Place) (x y z shift : ℕ) → x ≡ offset cube place 0 → y ≡ offset cube place 1 → z ≡ offset cube place 2 → shift ≡ cube.e - depth - cube.s → x / 2 ^ shift ∷ y / 2 ^ shift ∷ z / 2 ^ shift ∷ [] ≡ cell_at cube depth place
unfolding cell_at
cell-code cube depth place x y z shift is_x is_y is_z is_shift = cc

-- on one axis, what the code squares is how far the definition is from the centre
off-centre-code : (corner at : ℤ) (shift : ℕ) → corner ≤ℤ at → let n = unsigned_abs (at -ℤ corner) in abs_diff (2 * (n % 2 ^ shift)) (2 ^ shift) ≡ unsigned_abs (pos 2 *ℤ (at -ℤ (corner +ℤ pos (n / 2 ^ shift * 2 ^ shift))) -ℤ pos (2 ^ shift))
off-centre-code corner at shift above =
    let here = far corner at above in
    let n : ℕ = unsigned_abs (at -ℤ corner) in
    let split = shr_split n shift in
    omega (arith, ints)

pub distance-code : (cube : OctreeCube) (depth : ℕ) (place : Place) (x y z shift : ℕ) → InCube cube place → x ≡ offset cube place 0 → y ≡ offset cube place 1 → z ≡ offset cube place 2 → shift ≡ cube.e - depth - cube.s → (a b c : ℕ) → a ≡ abs_diff (2 * (x % 2 ^ shift)) (2 ^ shift) ^ 2 → b ≡ abs_diff (2 * (y % 2 ^ shift)) (2 ^ shift) ^ 2 → c ≡ abs_diff (2 * (z % 2 ^ shift)) (2 ^ shift) ^ 2 → a + b + c ≡ distance_at cube depth place
unfolding distance_at
distance-code cube depth place x y z shift inside is_x is_y is_z is_shift a b c is_a is_b is_c =
    let above = above-cube cube place inside in
    ap3 (λ p q r. p + q + r) (axis 0 x a above.x is_x is_a) (axis 1 y b above.y is_y is_b) (axis 2 z c above.z is_z is_c)
  where
    axis : (k n squared : ℕ) → coordinate cube.corner k ≤ℤ coordinate place k → n ≡ offset cube place k → squared ≡ abs_diff (2 * (n % 2 ^ shift)) (2 ^ shift) ^ 2 → squared ≡ unsigned_abs (off_centre cube depth place k) ^ 2
    axis k n squared above is_n is_squared =
        is_squared ∙ ap (λ m. abs_diff (2 * (m % 2 ^ shift)) (2 ^ shift) ^ 2) is_n ∙ ap (λ t. abs_diff (2 * (offset cube place k % 2 ^ t)) (2 ^ t) ^ 2) is_shift ∙ ap (λ m. m ^ 2) (off-centre-code (coordinate cube.corner k) (coordinate place k) (cube.e - depth - cube.s) above)

-- a side that is shifted into place, and the mask of the lower bits
pub side-code : (shift : ℕ) → shift < 64 → 1 * 2 ^ shift % 18446744073709551616 ≡ 2 ^ shift
side-code shift small = one_shl shift 64 small

mask-code : (n shift : ℕ) → shift < 32 → abs_diff (2 * bit_and n (1 * 2 ^ shift % 18446744073709551616 - 1)) (1 * 2 ^ shift % 18446744073709551616) ≡ abs_diff (2 * (n % 2 ^ shift)) (2 ^ shift)
mask-code n shift small =
    ap (λ side. abs_diff (2 * bit_and n (side - 1)) side) (side-code shift (omega arith)) ∙ ap (λ low. abs_diff (2 * low) (2 ^ shift)) (and_mask n shift)

squared : (n : ℕ) → n * n ≡ n ^ 2
squared n =
    let once : n ^ suc 1 ≡ n ^ 1 * n = pow-suc n 1 in
    let none : n ^ suc 0 ≡ n ^ 0 * n = pow-suc n 0 in
    let start : n ^ 0 ≡ 1 = pow-zero n in
    let one : n ^ 1 ≡ n = none ∙ ap (λ m. m * n) start ∙ omega arith in
    sym (once ∙ ap (λ m. m * n) one)

pub square-code : (n shift off : ℕ) → shift < 32 → off ≡ abs_diff (2 * bit_and n (1 * 2 ^ shift % 18446744073709551616 - 1)) (1 * 2 ^ shift % 18446744073709551616) → off * off ≡ abs_diff (2 * (n % 2 ^ shift)) (2 ^ shift) ^ 2
square-code n shift off small is =
    let off_is = is ∙ mask-code n shift small in squared off ∙ ap (λ m. m ^ 2) off_is

pub square-small : (n shift off : ℕ) → shift < 32 → off ≡ abs_diff (2 * bit_and n (1 * 2 ^ shift % 18446744073709551616 - 1)) (1 * 2 ^ shift % 18446744073709551616) → off * off ≤ 4611686018427387904
square-small n shift off small is =
    let off_is : off ≡ abs_diff (2 * (n % 2 ^ shift)) (2 ^ shift) = is ∙ mask-code n shift small in
    let low : n % 2 ^ shift < 2 ^ shift = mod_below n (2 ^ shift) (pow_pos shift) in
    let short : shift ≤ 31 = omega arith in
    let side : 2 ^ shift ≤ 2 ^ 31 = pow-le-pow_right (lit< tt) short in
    mul-le off off 2147483648 2147483648 (omega arith) (omega arith)
