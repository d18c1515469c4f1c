-- What a build keeps of its configuration.
use Rattle.std.specs.Prelude.{◌≡◌}
use Rattle.ept_space.specs.declared.bounds.Bounds.{Bounds}
use Rattle.ept_config.specs.declared.config.Config.{Config}
use Rattle.ept_config.specs.declared.kept.Kept.{Kept}

-- everything with these bounds, except how much of the machine is used
pub record IsKeptOf (config : Config) (bounds : Bounds) (kept : Kept) : Type 0 where
  pub scale_is : kept.scale ≡ config.scale
  pub offset_is : kept.offset ≡ config.offset
  pub bounds_is : kept.bounds ≡ bounds
  pub s_is : kept.s ≡ config.s
  pub threshold_is : kept.threshold ≡ config.threshold
  pub max_depth_is : kept.max_depth ≡ config.max_depth
  pub step_is : kept.step ≡ config.step
  pub srs_is : kept.srs ≡ config.srs
  pub first_is : kept.first ≡ config.first
  pub withheld_last_is : kept.withheld_last ≡ config.withheld_last
  pub inputs_is : kept.inputs ≡ config.inputs
