-- The ranges of what is kept of the configuration except the inputs.
use Rattle.std.specs.Prelude.{ℕ, ℤ, ◌≤◌, ◌^◌, List}
use Rattle.ept_space.specs.declared.bounds.Bounds.{Bounds}
use Rattle.ept_config.specs.InputRanges.{AreThreeWithin}
use Rattle.ept_config.specs.Ranges.{BoundsInRange}

pub record SettingsInRange (scale s max_depth step threshold : ℕ) (offset : List ℤ) (bounds : Bounds) : Type 0 where
  pub scale_most : scale ≤ 9
  pub span_least : 1 ≤ s
  pub span_most : s ≤ 10
  pub depth_most : max_depth ≤ 32
  pub step_most : step ≤ 32
  pub threshold_most : threshold ≤ 2 ^ 31
  pub offset_within : AreThreeWithin (10 ^ 9) offset
  pub bounds_are : BoundsInRange bounds
