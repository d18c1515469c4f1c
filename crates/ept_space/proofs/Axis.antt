-- One axis: where a coordinate lies above a corner, by divisions into equal sides.
use Rattle.std.proofs.Common.{◌≡◌, ℕ, suc, ◌+◌, ◌-◌, ◌*◌, ◌/◌, ◌^◌, ◌<◌, ◌≤◌, ℤ, pos, ◌+ℤ◌, ◌-ℤ◌, ◌≤ℤ◌, sym, ap, ◌∙◌, arith}
use Rattle.std.specs.Prelude.{unsigned_abs}
use Rattle.std.proofs.Math.Nat.{div-eq_of_lt-le, div-div-eq-div-mul, div-mul-le_self, lt-div-mul-add, pow-suc}
use Rattle.std.proofs.lemmas.Int.{ints}
use Rattle.std.proofs.lemmas.Nat.{shr-shr}
use Rattle.ept_space.specs.OctreeCube.{IsFrom}

-- how far a coordinate is above a corner
pub far : (corner place : ℤ) → corner ≤ℤ place → place ≡ corner +ℤ pos (unsigned_abs (place -ℤ corner))
far corner place h = omega (arith, ints)

-- a coordinate in the interval of an index has that index
pub index-of-interval : (corner place : ℤ) (index side : ℕ) → IsFrom (corner +ℤ pos (index * side)) side place → unsigned_abs (place -ℤ corner) / side ≡ index
index-of-interval corner place index side (from, to) =
    let above : corner ≤ℤ place = omega (arith, ints) in
    let at = far corner place above in
    div-eq_of_lt-le side (omega (arith, ints)) (omega (arith, ints))

-- a coordinate lies in the interval of its index
pub interval-of-index : (corner place : ℤ) (side : ℕ) → corner ≤ℤ place → 0 < side → IsFrom (corner +ℤ pos (unsigned_abs (place -ℤ corner) / side * side)) side place
interval-of-index corner place side above positive =
    let at = far corner place above in
    let n : ℕ = unsigned_abs (place -ℤ corner) in
    let low : n / side * side ≤ n = div-mul-le_self n side in
    let high : n < n / side * side + side = lt-div-mul-add positive in
    (omega (arith, ints), omega (arith, ints))

-- the sides of one depth are two of the next
pub side-halves : (e depth : ℕ) → depth < e → 2 ^ (e - depth) ≡ 2 ^ (e - (depth + 1)) * 2
side-halves e depth h =
    let one_more : e - depth ≡ suc (e - (depth + 1)) = omega arith in
    ap (λ k. 2 ^ k) one_more ∙ pow-suc 2 _

-- an index is half that of half the side
pub index-halves : (n side : ℕ) → n / (side * 2) ≡ n / side / 2
index-halves n side = sym (div-div-eq-div-mul n side 2)

-- indices of one side are indices of each side that is a greater power of two
pub index-coarser : (n j k : ℕ) → j ≤ k → n / 2 ^ k ≡ n / 2 ^ j / 2 ^ (k - j)
index-coarser n j k h =
    let split : k ≡ j + (k - j) = omega arith in
    ap (λ m. n / 2 ^ m) split ∙ sym (shr-shr n j (k - j))

-- so what is equal at one side is equal at each such side
pub coarser-same : (n m j k : ℕ) → j ≤ k → n / 2 ^ j ≡ m / 2 ^ j → n / 2 ^ k ≡ m / 2 ^ k
coarser-same n m j k h same =
    index-coarser n j k h ∙ ap (λ q. q / 2 ^ (k - j)) same ∙ sym (index-coarser m j k h)
