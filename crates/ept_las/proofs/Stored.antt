-- Stored coordinates, as the code computes them in 64 bits.
use Rattle.std.proofs.Common.{◌≡◌, ℤ, pos, ◌+ℤ◌, ◌*ℤ◌, ◌≤ℤ◌, ◌≤◌, ◌^◌, Result, Ok, Err, FitsSigned, unsigned_abs, sym, ◌∙◌, subst, arith, ◌*◌}
use Rattle.std.specs.Int.{w32, w64, cast_signed, cast_unsigned}
use Rattle.std.specs.Option.{SomeIff}
use Rattle.std.specs.Result.{OkIff, result_ok}
use Rattle.std.proofs.lemmas.Int.{ints, to_z-of_z, unsigned_abs-mul}
use Rattle.std.proofs.Math.Nat.{mul-le-mul_left, mul-le-mul_right}

abs_factor : (z : ℤ) → pos 1 ≤ℤ z → z ≤ℤ pos (10 ^ 9) → unsigned_abs z ≤ 10 ^ 9
abs_factor z low high = omega (arith, ints)

abs_raw : (z : ℤ) → FitsSigned w32 z → unsigned_abs z ≤ 2 ^ 31
abs_raw z fits = omega (arith, ints)

fits_by_abs : (z : ℤ) → unsigned_abs z ≤ 10 ^ 15 → FitsSigned w64 z
fits_by_abs z h = omega (arith, ints)

fits_wider : (z : ℤ) → FitsSigned w32 z → FitsSigned w64 z
fits_wider z h = omega (arith, ints)

fits_factor : (z : ℤ) → pos 1 ≤ℤ z → z ≤ℤ pos (10 ^ 9) → FitsSigned w64 z
fits_factor z low high = omega (arith, ints)

abs_product : (y z : ℤ) → unsigned_abs y ≤ 2 ^ 31 → unsigned_abs z ≤ 10 ^ 9 → unsigned_abs (y *ℤ z) ≤ 2 ^ 31 * 10 ^ 9
abs_product y z hy hz =
    let first : unsigned_abs y * unsigned_abs z ≤ 2 ^ 31 * unsigned_abs z = mul-le-mul_right (unsigned_abs z) hy in
    let second : 2 ^ 31 * unsigned_abs z ≤ 2 ^ 31 * 10 ^ 9 = mul-le-mul_left (2 ^ 31) hz in
    rw (unsigned_abs-mul y z) (omega (arith, first, second))

fits_sum : (y z : ℤ) → unsigned_abs y ≤ 2 ^ 31 * 10 ^ 9 → unsigned_abs z ≤ 10 ^ 15 → FitsSigned w64 (y +ℤ z)
fits_sum y z hy hz = omega (arith, ints)

-- no step of the computation loses anything
pub stored_is : (raw wide factor by : ℤ) → wide ≡ cast_signed w32 (cast_unsigned w32 raw) → FitsSigned w32 raw → pos 1 ≤ℤ factor → factor ≤ℤ pos (10 ^ 9) → unsigned_abs by ≤ 10 ^ 15 → cast_signed w64 (cast_unsigned w64 (cast_signed w64 (cast_unsigned w64 (cast_signed w64 (cast_unsigned w64 wide) *ℤ cast_signed w64 (cast_unsigned w64 factor))) +ℤ cast_signed w64 (cast_unsigned w64 by))) ≡ (raw *ℤ factor) +ℤ by
stored_is raw wide factor by e raw_fits low high by_bound =
    let raw_wide = fits_wider raw raw_fits in
    let factor_fits = fits_factor factor low high in
    let by_fits = fits_by_abs by by_bound in
    let product = abs_product raw factor (abs_raw raw raw_fits) (abs_factor factor low high) in
    let product_fits : FitsSigned w64 (raw *ℤ factor) = omega (arith, ints) in
    let sum_fits = fits_sum (raw *ℤ factor) by product by_bound in
    rw (e, to_z-of_z w32 raw raw_fits, to_z-of_z w64 raw raw_wide, to_z-of_z w64 factor factor_fits, to_z-of_z w64 (raw *ℤ factor) product_fits, to_z-of_z w64 by by_fits) (to_z-of_z w64 _ sum_fits)

-- a checked cast, as an option
pub some_of_ok : {E : Type 0} (r : Result ℤ E) (x v : ℤ) → OkIff r (FitsSigned w32 x) x → x ≡ v → SomeIff (result_ok r) (FitsSigned w32 v) v
some_of_ok (Ok y) x v h e = (subst (FitsSigned w32) e h.0, h.1 ∙ e)
some_of_ok (Err f) x v h e = λ fits. h (subst (FitsSigned w32) (sym e) fits)
