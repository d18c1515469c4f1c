-- How a raw coordinate becomes a stored one.
use Rattle.std.specs.Prelude.{ℕ, ℤ, pos, ◌≡◌, ◌+ℤ◌, ◌*ℤ◌, slice_index_or}
use Rattle.ept_las.specs.declared.shift.Shift.{Shift}

-- the raw number times the factor, plus the shift, on an axis from 0 to 2
abbrev pub stored : Shift → ℕ → ℤ → ℤ
stored shift axis raw = (raw *ℤ shift.factor) +ℤ slice_index_or shift.by axis (pos 0)

-- raw coordinates are stored unchanged
pub record IsIdentity (shift : Shift) : Type 0 where
  pub once : shift.factor ≡ pos 1
  pub unmoved : (axis : ℕ) → slice_index_or shift.by axis (pos 0) ≡ pos 0
