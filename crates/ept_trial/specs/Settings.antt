-- The configuration of a trial.
use Rattle.std.specs.Prelude.{◌≡◌, ℕ, false, pos, List, [], ◌∷◌, Some, None}
use Rattle.std.specs.List.{AllZip}
use Rattle.ept_class.specs.NoClass.{no_class}
use Rattle.ept_config.specs.declared.config.Config.{Config}
use Rattle.ept_config.specs.declared.input.Input.{Input}
use Rattle.ept_trial.specs.Trials.{trial_bounds}
use Rattle.ept_trial.specs.Scans.{paths}

-- the input of a path, whose raw coordinates are stored as they are
pub record IsTrialInput (path : List ℕ) (input : Input) : Type 0 where
  pub path_is : input.path ≡ path
  pub scale_is : input.scale ≡ 2
  pub shift_is : input.shift ≡ pos 0 ∷ pos 0 ∷ pos 0 ∷ []
  pub expect_is : input.expect ≡ None

-- the four inputs, in order
abbrev pub AreTrialInputs : List Input → Type 0
AreTrialInputs inputs = AllZip IsTrialInput paths inputs

-- the configuration, except for the threads and the nodes in memory
pub record IsTrialConfig (config : Config) : Type 0 where
  pub scale_is : config.scale ≡ 2
  pub bounds_is : config.bounds ≡ Some trial_bounds
  pub s_is : config.s ≡ 7
  pub threshold_is : config.threshold ≡ 4096
  pub max_depth_is : config.max_depth ≡ 32
  pub first_is : config.first ≡ no_class
  pub withheld_last_is : config.withheld_last ≡ false
  pub inputs_are : AreTrialInputs config.inputs
  pub nodes_is : config.max_nodes ≡ 65536
