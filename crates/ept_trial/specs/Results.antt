-- The files that the build of a trial leaves, and what they come to.
use Rattle.std.specs.Prelude.{◌≡◌, ℕ, ◌%◌, ◌^◌, List, [], length, map, sum_by, unwrap_or}
use Rattle.std.specs.List.{flat_map}
use Rattle.ept_base.specs.Files.{Files}
use Rattle.ept_point.specs.declared.point.Point.{Point}
use Rattle.ept_space.specs.VoxelKey.{VoxelKey}
use Rattle.ept_config.specs.declared.kept.Kept.{Kept}
use Rattle.ept_meta.specs.Output.{rules_of, tile_name}
use Rattle.ept_save.specs.Complete.{IsComplete}
use Rattle.ept_trial.specs.declared.trial.Trial.{Trial}
use Rattle.ept_trial.specs.Trials.{AreTrialPoints, trial_rules, greatest}

-- they are complete for the points of the generated scans, by the rules of a trial
pub record HasTrial (count : ℕ) (files : Files) : Type 0 where
  pub points : List Point
  pub are : AreTrialPoints count points
  pub kept : Kept
  pub rules_are : rules_of kept ≡ trial_rules
  pub complete : IsComplete kept points files

-- the bytes of the tile of a key, none if it is not there
abbrev pub bytes_at : Files → VoxelKey → List ℕ
bytes_at files key = unwrap_or (files (tile_name key)) []

-- how many keys there are, how deep the deepest is, and the sum of the bytes of their tiles
pub record IsTallyOf (files : Files) (keys : List VoxelKey) (trial : Trial) : Type 0 where
  pub nodes_are : trial.nodes ≡ length keys
  pub depth_is : trial.depth ≡ greatest (map (λ key. key.depth) keys)
  pub sum_is : trial.sum ≡ sum_by (λ byte. byte) (flat_map (bytes_at files) keys) % 2 ^ 64
