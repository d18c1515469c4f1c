-- The steps of a plan: what is given, what is found of the new inputs, and why there is no plan.
use Rattle.std.specs.Prelude.{◌≡◌, ◌≢◌, ◌+◌, List, [], ◌++◌, Option, Some, None, length, All}
use Rattle.ept_base.specs.Files.{Files, Tells}
use Rattle.ept_point.specs.declared.point.Point.{Point}
use Rattle.ept_space.specs.declared.bounds.Bounds.{Bounds}
use Rattle.ept_config.specs.declared.config.Config.{Config}
use Rattle.ept_config.specs.declared.kept.Kept.{Kept}
use Rattle.ept_config.specs.declared.source_count.SourceCount.{SourceCount}
use Rattle.ept_config.specs.Counts.{IsCount}
use Rattle.ept_scan.specs.declared.scan_error.ScanError.TheVariants as scan
use Rattle.ept_scan.specs.Scans.{IsScan}
use Rattle.ept_ckpt.specs.Valid.{ExtentInRange}
use Rattle.ept_ckpt.specs.declared.checkpoint.Checkpoint.{Checkpoint}
use Rattle.ept_save.specs.Current.{Current}
use Rattle.ept_config_diff.specs.Differing.{IsDifference}
use Rattle.ept_plan.specs.declared.error.PlanError.{PlanError}
use Rattle.ept_plan.specs.declared.error.PlanError.TheVariants.{Differs, Scan}
use Rattle.ept_plan.specs.declared.plan.Plan.{Plan}
use Rattle.ept_plan.specs.Plans.{inputs_by, limits_by, IsGiven, GoesOn, DiffersBy, AreRefused, IsPlan}

-- Why a configuration does not continue what is kept. Either a field differs, or memory ran out before that was known.
abbrev pub DoesNotGoOn : Config → Kept → PlanError → Type 0
DoesNotGoOn config kept (Differs d) = (given : Kept) × IsGiven config kept given × IsDifference kept given d
DoesNotGoOn config kept (Scan e) = e ≡ scan.Memory

-- the new inputs have these counts, and points within these bounds
abbrev pub ScansNew : Files → Config → Current → List SourceCount → Bounds → Type 0
ScansNew shelf config current more bounds = (points : List Point)
    × IsScan shelf config.scale (limits_by config.bounds current) config.inputs (inputs_by current) points (record { counts = more; bounds = bounds })

-- after the counts of the checkpoint come those of the new inputs, which are scanned within its bounds
pub record AddsCounts (files : Option Files) (config : Config) (c : Checkpoint) (counts : List SourceCount) : Type 0 where
  pub more : List SourceCount
  pub counts_are : counts ≡ c.counts ++ more
  pub each : length c.kept.inputs + length more ≡ length config.inputs
  pub counted : All (IsCount c.kept.bounds) more
  pub extents : All ExtentInRange more
  pub scan : Tells (λ all. (points : List Point) × IsScan all config.scale (Some c.kept.bounds) config.inputs (length c.kept.inputs) points (record { counts = more; bounds = c.kept.bounds })) files

-- the counts of the checkpoint
abbrev pub counts_by : Current → List SourceCount
counts_by None = []
counts_by (Some (letter, c)) = c.counts

-- the plan, and the new inputs that it adds
pub record IsFound (files : Option Files) (config : Config) (current : Current) (plan : Plan) : Type 0 where
  pub is_plan : IsPlan config current plan
  pub more : List SourceCount
  pub counts_are : plan.counts ≡ counts_by current ++ more
  pub scan : Tells (λ all. ScansNew all config current more plan.kept.bounds) files

-- Why there is no plan. Which field differs does not depend on the shelf.
abbrev pub WhyNot : Option Files → Config → Current → PlanError → Type 0
WhyNot files config current (Differs d) = DiffersBy config current d
WhyNot files config current (Scan e) = Tells (λ all. AreRefused all config current e) files × (e ≢ scan.Memory → GoesOn config current)
