-- What a build has to do: which inputs the current checkpoint does not have, and what is known of all inputs.
use Rattle.std.specs.Prelude.{◌≡◌, ◌≢◌, ◌⊎◌, ℕ, ◌≤◌, List, [], ◌++◌, length, take, Option, Some, None, Result, Err, All, ⊤}
use Rattle.ept_base.specs.Files.{Files}
use Rattle.ept_point.specs.declared.point.Point.{Point}
use Rattle.ept_space.specs.declared.bounds.Bounds.{Bounds}
use Rattle.ept_config.specs.declared.config.Config.{Config}
use Rattle.ept_config.specs.declared.kept.Kept.{Kept}
use Rattle.ept_config.specs.declared.source_count.SourceCount.{SourceCount}
use Rattle.ept_config.specs.Counts.{IsCount, total}
use Rattle.ept_config.specs.KeptOf.{IsKeptOf}
use Rattle.ept_scan.specs.declared.scan_error.ScanError.{ScanError}
use Rattle.ept_scan.specs.declared.scan_error.ScanError.TheVariants as scan
use Rattle.ept_scan.specs.Scans.{IsScan, ScanIsRefused}
use Rattle.ept_scan.specs.Asking.{paths_from}
use Rattle.ept_ckpt.specs.Valid.{ExtentInRange}
use Rattle.ept_save.specs.Current.{Current}
use Rattle.ept_save.specs.Sound.{HasPointsOf}
use Rattle.ept_config_diff.specs.declared.differing.Difference.{Difference}
use Rattle.ept_config_diff.specs.Differing.{GoesOnFrom, IsDifference}
use Rattle.ept_meta.specs.Output.{rules_of}
use Rattle.ept_plan.specs.declared.error.PlanError.{PlanError}
use Rattle.ept_plan.specs.declared.error.PlanError.TheVariants.{Differs, Scan}
use Rattle.ept_plan.specs.declared.plan.Plan.{Plan}

-- ---- what the current checkpoint keeps

-- how many inputs it has, and how many points are inserted
abbrev pub inputs_by : Current → ℕ
inputs_by None = 0
inputs_by (Some (letter, c)) = length c.kept.inputs

abbrev pub inserted_by : Current → ℕ
inserted_by None = 0
inserted_by (Some (letter, c)) = c.inserted

-- where points may lie: within the bounds of the checkpoint, or if there is no checkpoint within the given ones
abbrev pub limits_by : Option Bounds → Current → Option Bounds
limits_by given None = given
limits_by given (Some (letter, c)) = Some c.kept.bounds

-- the checkpoint's inputs have these points
abbrev pub HasFirst : Files → Current → List Point → Type 0
HasFirst shelf None first = first ≡ []
HasFirst shelf (Some (letter, c)) first = HasPointsOf shelf c first

-- ---- what is given

-- the given bounds, or if there are none the kept ones
abbrev pub bounds_or : Option Bounds → Bounds → Bounds
bounds_or None kept = kept
bounds_or (Some given) kept = given

-- what a build of the configuration would keep, with the kept bounds if none are given
abbrev pub IsGiven : Config → Kept → Kept → Type 0
IsGiven config kept given = IsKeptOf config (bounds_or config.bounds kept.bounds) given

-- the configuration continues what is kept
abbrev pub GoesOn : Config → Current → Type 0
GoesOn config None = ⊤
GoesOn config (Some (letter, c)) = (given : Kept) × IsGiven config c.kept given × GoesOnFrom c.kept given

-- The configuration differs from what the checkpoint keeps. This is the first field that differs, with both texts.
abbrev pub DiffersBy : Config → Current → Difference → Type 0
DiffersBy config None d = ⊥
DiffersBy config (Some (letter, c)) d = (given : Kept) × IsGiven config c.kept given × IsDifference c.kept given d

-- ---- the plan

-- the counts of the checkpoint are the first ones
abbrev pub CountsBegin : Current → List SourceCount → Type 0
CountsBegin None counts = ⊤
CountsBegin (Some (letter, c)) counts = (more : List SourceCount) × (counts ≡ c.counts ++ more)

-- the rules of the sampling, and the depths of a hierarchy file, are those of the checkpoint
abbrev pub RulesStay : Current → Kept → Type 0
RulesStay None kept = ⊤
RulesStay (Some (letter, c)) kept = (rules_of kept ≡ rules_of c.kept) × (kept.step ≡ c.kept.step)

-- the checkpoint keeps what the plan keeps, with the plan's counts
abbrev pub IsOf : Plan → Current → Type 0
IsOf plan None = ⊥
IsOf plan (Some (letter, c)) = (c.kept ≡ plan.kept) × (c.counts ≡ plan.counts)

-- What holds of a plan whatever the shelf makes visible: there is a count for each input, first those of the
-- checkpoint.
pub record IsPlan (config : Config) (current : Current) (plan : Plan) : Type 0 where
  pub kept_is : IsKeptOf config plan.kept.bounds plan.kept
  pub goes_on : GoesOn config current
  pub each : length plan.counts ≡ length plan.kept.inputs
  pub counted : All (IsCount plan.kept.bounds) plan.counts
  pub extents : All ExtentInRange plan.counts
  pub points_are : plan.points ≡ total plan.counts
  pub inserted_is : plan.inserted ≡ inserted_by current
  pub inserted_most : plan.inserted ≤ plan.points
  pub inputs_least : inputs_by current ≤ length plan.kept.inputs
  pub bounds_are : limits_by (Some plan.kept.bounds) current ≡ Some plan.kept.bounds
  pub counts_are : CountsBegin current plan.counts
  pub rules_stay : RulesStay current plan.kept
  pub same : inputs_by current ≡ length plan.kept.inputs → IsOf plan current

-- all inputs have these points, with the counts and the bounds of the plan
abbrev pub HasPoints : Files → Config → Current → Plan → List Point → Type 0
HasPoints shelf config current plan points =
    IsScan shelf config.scale (limits_by config.bounds current) config.inputs 0 points (record { counts = plan.counts; bounds = plan.kept.bounds })

-- if the checkpoint's inputs have some points, all inputs have these points and more after them
abbrev pub ScansAll : Files → Config → Current → Plan → Type 0
ScansAll shelf config current plan =
    (first : List Point) → HasFirst shelf current first → (points : List Point) × HasPoints shelf config current plan points × (take (length first) points ≡ first)

-- ---- why there is no plan

-- the new inputs are refused for this cause
abbrev pub AreRefused : Files → Config → Current → ScanError → Type 0
AreRefused shelf config current error =
    ScanIsRefused shelf config.scale (limits_by config.bounds current) config.inputs (inputs_by current) error

-- Why there is no plan. What is kept is compared before an input is opened. Memory may run out before that.
abbrev pub IsRefused : Files → Config → Current → PlanError → Type 0
IsRefused shelf config current (Differs d) = DiffersBy config current d
IsRefused shelf config current (Scan e) = AreRefused shelf config current e × (e ≢ scan.Memory → GoesOn config current)

-- a cause in the inputs: neither a fault of the shelf nor running out of memory
abbrev pub IsDefinite : ScanError → Type 0
IsDefinite e = (e ≢ scan.SourceFault) × (e ≢ scan.Memory)

-- the result is a fault of the shelf, or running out of memory
abbrev pub Stops : {T : Type 0} → Result T PlanError → Type 0
Stops answer = (answer ≡ Err (Scan scan.SourceFault)) ⊎ (answer ≡ Err (Scan scan.Memory))

-- the result is a field that differs, or running out of memory
abbrev pub TellsDifference : {T : Type 0} → Result T PlanError → Type 0
TellsDifference answer = ((d : Difference) × (answer ≡ Err (Differs d))) ⊎ (answer ≡ Err (Scan scan.Memory))

-- ---- what the shelf is asked for

-- the paths of the new inputs, in order
abbrev pub new_paths : Config → Current → List (List ℕ)
new_paths config current = paths_from config.inputs (inputs_by current)
