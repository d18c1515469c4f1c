-- What the record of a generated point reads as.
use Rattle.std.proofs.Common.{◌≡◌, ◌∙◌, ℕ, zero, suc, ℤ, pos, ◌+◌, ◌%◌, ◌<◌, ◌^◌, List, [], ◌∷◌, ◌++◌, FitsSigned, ap, arith}
use Rattle.std.specs.Prelude.{replicate, ◌+ℤ◌, ◌*ℤ◌, slice_index_or}
use Rattle.std.specs.Int.{w32, cast_signed}
use Rattle.std.proofs.lemmas.Int.{ints}
use Rattle.byteorder.specs.Endian.{little_bytes, little_number}
use Rattle.byteorder.specs.Numbers.{little_number-reads_back}
use Rattle.ept_num.specs.Generator.{after}
use Rattle.ept_las.specs.declared.shift.Shift.{Shift}
use Rattle.ept_las.specs.Words.{u16_at, i32_at}
use Rattle.ept_las.specs.PointRecord.{coordinate, intensity_of, IsOutOfUnits, IsPointOf}
use Rattle.ept_point.specs.declared.point.Point.{Point}
use Rattle.ept_space.specs.ClosedBox.{IsBetween}
use Rattle.ept_config.specs.Extents.{IsWithin}
use Rattle.ept_trial.specs.Trials.{trial_bounds}
use Rattle.ept_trial.specs.Scans.{drawn, record_bytes}

pub drawn-small : (at below : ℕ) → 0 < below → drawn at below < below
drawn-small at below some = omega (arith, some)

-- a small number is itself in two's complement
signed-small : (n : ℕ) → n < 100000 → cast_signed w32 n ≡ pos n
signed-small n small = omega (arith, ints, small)

word-at : (n : ℕ) (rest : List ℕ) → n < 100000 → cast_signed w32 (little_number 4 (little_bytes 4 n ++ rest)) ≡ pos n
word-at n rest small =
    let wide : n < 256 ^ 4 = omega (arith, small) in
    ap (λ (m : ℕ). cast_signed w32 m) (little_number-reads_back 4 n rest wide) ∙ signed-small n small

module _ (at i : ℕ) where
  -- the bytes after X, Y, Z and the intensity
  behind-z : List ℕ
  behind-z = little_bytes 2 (i % 65536) ++ replicate 6 0

  behind-y : List ℕ
  behind-y = little_bytes 4 (drawn (after (after (after at))) 1000) ++ behind-z

  behind-x : List ℕ
  behind-x = little_bytes 4 (drawn (after (after at)) 100000) ++ behind-y

  pub x-at : i32_at (record_bytes at i) 0 ≡ pos (drawn (after at) 100000)
  unfolding record_bytes i32_at behind-x behind-y behind-z
  x-at = word-at (drawn (after at) 100000) behind-x (drawn-small (after at) 100000 (omega arith))

  pub y-at : i32_at (record_bytes at i) 4 ≡ pos (drawn (after (after at)) 100000)
  unfolding record_bytes i32_at behind-x behind-y behind-z
  y-at = word-at (drawn (after (after at)) 100000) behind-y (drawn-small (after (after at)) 100000 (omega arith))

  pub z-at : i32_at (record_bytes at i) 8 ≡ pos (drawn (after (after (after at))) 1000)
  unfolding record_bytes i32_at behind-y behind-z
  z-at =
      let small = drawn-small (after (after (after at))) 1000 (omega arith) in
      word-at (drawn (after (after (after at))) 1000) behind-z (omega (arith, small))

  pub intensity-at : intensity_of (record_bytes at i) ≡ i % 65536
  unfolding record_bytes u16_at
  intensity-at =
      let wide : i % 65536 < 256 ^ 2 = omega arith in
      little_number-reads_back 2 (i % 65536) (replicate 6 0) wide

-- ---- if raw coordinates are stored as they are

pub record KeepsPlaces (shift : Shift) : Type 0 where
  pub factor_is : shift.factor ≡ pos 1
  pub by_is : shift.by ≡ pos 0 ∷ pos 0 ∷ pos 0 ∷ []

stored-same : (raw factor by : ℤ) → factor ≡ pos 1 → by ≡ pos 0 → (raw *ℤ factor) +ℤ by ≡ raw
stored-same raw factor by one none = (λ i. (raw *ℤ one i) +ℤ none i) ∙ itself raw
  where
    itself : (z : ℤ) → (z *ℤ pos 1) +ℤ pos 0 ≡ z
    itself z = omega (arith, ints)

module _ (shift : Shift) (keeps : KeepsPlaces shift) (at i : ℕ) where
  pub x-stored : coordinate shift (record_bytes at i) 0 ≡ pos (drawn (after at) 100000)
  x-stored = stored-same _ shift.factor (slice_index_or shift.by 0 (pos 0)) keeps.factor_is (ap (λ (b : List ℤ). slice_index_or b 0 (pos 0)) keeps.by_is) ∙ x-at at i

  pub y-stored : coordinate shift (record_bytes at i) 1 ≡ pos (drawn (after (after at)) 100000)
  y-stored = stored-same _ shift.factor (slice_index_or shift.by 1 (pos 0)) keeps.factor_is (ap (λ (b : List ℤ). slice_index_or b 1 (pos 0)) keeps.by_is) ∙ y-at at i

  pub z-stored : coordinate shift (record_bytes at i) 2 ≡ pos (drawn (after (after (after at))) 1000)
  z-stored = stored-same _ shift.factor (slice_index_or shift.by 2 (pos 0)) keeps.factor_is (ap (λ (b : List ℤ). slice_index_or b 2 (pos 0)) keeps.by_is) ∙ z-at at i

  -- no coordinate is out of units
  fits-small : (n : ℕ) (z : ℤ) → n < 100000 → z ≡ pos n → FitsSigned w32 z
  fits-small n z small is = omega (arith, ints, small, is)

  pub in-units : ¬ IsOutOfUnits shift (record_bytes at i)
  in-units out = by-axis out.0 out.1 out.2
    where
      by-axis : (axis : ℕ) → axis < 3 → (FitsSigned w32 (coordinate shift (record_bytes at i) axis) → ⊥) → ⊥
      by-axis zero within refuse = refuse (fits-small _ _ (drawn-small (after at) 100000 (omega arith)) x-stored)
      by-axis (suc zero) within refuse = refuse (fits-small _ _ (drawn-small (after (after at)) 100000 (omega arith)) y-stored)
      by-axis (suc (suc zero)) within refuse = (let small = drawn-small (after (after (after at))) 1000 (omega arith) in refuse (fits-small _ _ (omega (arith, small)) z-stored))
      by-axis (suc (suc (suc n))) within refuse = absurd (omega (arith, within))

  -- the point lies within the bounds of a trial
  between-small : (n most : ℕ) (z : ℤ) → n < most + 1 → z ≡ pos n → IsBetween (pos 0) (pos most) z
  between-small n most z small is = (omega (arith, ints, is), omega (arith, ints, small, is))

  pub in-bounds : (format source number : ℕ) (p : Point) → IsPointOf format shift source number (record_bytes at i) p → IsWithin trial_bounds p
  in-bounds format source number p is = record {
    x = between-small _ 99999 p.x (drawn-small (after at) 100000 (omega arith)) (is.x_is ∙ x-stored);
    y = between-small _ 99999 p.y (drawn-small (after (after at)) 100000 (omega arith)) (is.y_is ∙ y-stored);
    z = between-small _ 999 p.z (drawn-small (after (after (after at))) 1000 (omega arith)) (is.z_is ∙ z-stored);
  }
