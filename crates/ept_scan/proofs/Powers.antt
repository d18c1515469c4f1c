-- Powers of ten.
use Rattle.std.proofs.Common.{◌≡◌, ℕ, ◌^◌, ◌≤◌, arith, pos, FitsSigned}
use Rattle.std.specs.Prelude.{ℤ, ◌≤ℤ◌}
use Rattle.std.specs.Int.{w64}
use Rattle.std.proofs.lemmas.Int.{ints}
use Rattle.std.proofs.Math.Facts.{to_z-of_z}
use Rattle.std.proofs.Math.Nat.{one-le-pow, pow-le-pow_right}
use mir.Val.{to_z, of_z}

small : (e : ℕ) → e ≤ 9 → 10 ^ e ≤ 10 ^ 9
small e within = pow-le-pow_right {n = 10} (omega arith) within

pub power_least : (z : ℤ) (e : ℕ) → z ≡ pos (10 ^ e) → e ≤ 9 → pos 1 ≤ℤ to_z w64 (of_z w64 z)
power_least z e is within =
    let low : 1 ≤ 10 ^ e = one-le-pow e 10 (omega arith) in
    let high : 10 ^ e ≤ 10 ^ 9 = small e within in
    let fits : FitsSigned w64 (pos (10 ^ e)) = omega (arith, ints, high) in
    rw is (rw (to_z-of_z fits) (omega (arith, ints, low)))

pub same_factor : (z : ℤ) → pos 1 ≤ℤ z → z ≤ℤ pos (10 ^ 9) → to_z w64 (of_z w64 z) ≡ z
same_factor z low high = to_z-of_z (fits z low high)
  where
    fits : (z : ℤ) → pos 1 ≤ℤ z → z ≤ℤ pos (10 ^ 9) → FitsSigned w64 z
    fits z low high = omega (arith, ints)
