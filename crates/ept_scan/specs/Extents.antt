-- The places where points may lie, and the lesser and the greater of two coordinates.
use Rattle.std.specs.Prelude.{◌≡◌, ◌⊎◌, ℤ, ◌≤ℤ◌, Option, Some, None, ⊤}
use Rattle.ept_point.specs.declared.point.Point.{Point}
use Rattle.ept_space.specs.declared.bounds.Bounds.{Bounds}
use Rattle.ept_config.specs.Extents.{IsWithin}

-- within the bounds, if there are any
abbrev pub IsAllowed : Option Bounds → Point → Type 0
IsAllowed None p = ⊤
IsAllowed (Some bounds) p = IsWithin bounds p

-- the lesser and the greater of two coordinates
pub record IsLeast (a b least : ℤ) : Type 0 where
  pub of_a : least ≤ℤ a
  pub of_b : least ≤ℤ b
  pub one : (least ≡ a) ⊎ (least ≡ b)

pub record IsGreatest (a b greatest : ℤ) : Type 0 where
  pub of_a : a ≤ℤ greatest
  pub of_b : b ≤ℤ greatest
  pub one : (greatest ≡ a) ⊎ (greatest ≡ b)
