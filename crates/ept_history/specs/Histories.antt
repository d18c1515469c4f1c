-- Lists of builds of one folder: each begins with the files that the one before it left.
use Rattle.std.specs.Prelude.{◌≡◌, ◌⊎◌, ℕ, List, [], ◌∷◌, ◌++◌, Option, Some, None, ⊤, All, AllPairs, IsSome, slice_get}
use Rattle.ept_base.specs.Files.{Files}
use Rattle.ept_config.specs.declared.config.Config.{Config}
use Rattle.ept_config.specs.declared.input.Input.{Input}
use Rattle.ept_meta.specs.Output.{IsOutsideWork}
use Rattle.ept_save.specs.Sound.{IsSound}
use Rattle.ept_save.specs.SoundLaws.{no_files}
use Rattle.ept_build.specs.declared.summary.Summary.{Summary}
use Rattle.ept_build.specs.Building.{IsBuilt, IsUnderWay}

-- One build: the files on the shelf, the configuration, and the files that it left. It left them at its end, or after a
-- crash at any moment.
pub record Step : Type 0 where
  pub shelf : Files
  pub config : Config
  pub left : Files

-- If it began with sound files, it leaves what `build` promises of each image at every moment.
abbrev pub IsStepFrom : Files → Step → Type 0
IsStepFrom start step = IsSound step.shelf start → IsUnderWay step.shelf step.config start step.left

-- A build that moved a store from old to new left these files: they are read, or a crash may leave them now. Or it may
-- have left them since the build began, and not before.
abbrev pub IsLeftOf : {D : Type 0} (files : D → Option Files) (may_leave : D → Files → Type 0) (moment : D → ℕ) (image_since : D → ℕ → Files → Type 0) → D → D → Files → Type 0
IsLeftOf files may_leave moment image_since old new left =
    (files new ≡ Some left) ⊎ may_leave new left ⊎ (image_since new (moment old) left × ¬ image_since old (moment old) left)

-- These are builds one after another. The first begins with these files, and each later one with those that the one
-- before it left.
abbrev pub AreStepsFrom : Files → List Step → Type 0
AreStepsFrom start [] = ⊤
AreStepsFrom start (step ∷ later) = IsStepFrom start step × AreStepsFrom step.left later

-- the first one begins with an empty folder
abbrev pub IsHistory : List Step → Type 0
IsHistory steps = AreStepsFrom no_files steps

-- the files that the last one left
abbrev pub left_from : Files → List Step → Files
left_from start [] = start
left_from start (step ∷ later) = left_from step.left later

abbrev pub left_by : List Step → Files
left_by steps = left_from no_files steps

-- the later build finds each scan of the earlier one as it was
abbrev pub FindsScansOf : Step → Step → Type 0
FindsScansOf earlier later =
    (i : ℕ) (input : Input) → slice_get earlier.config.inputs i ≡ Some input → later.shelf input.path ≡ earlier.shelf input.path

-- each scan holds the same bytes in every build from the first that has it on
abbrev pub ScansStay : List Step → Type 0
ScansStay steps = AllPairs FindsScansOf steps

-- Either the configuration states its bounds, or none of the builds before it did.
abbrev pub StatesBoundsOrNone : List Step → Config → Type 0
StatesBoundsOrNone before config = IsSome config.bounds ⊎ All (λ (step : Step). step.config.bounds ≡ None) before

-- A build succeeded on what a history left, with the scans as they were.
pub record IsBuiltAfter (steps : List Step) (last : Step) (summary : Summary) : Type 0 where
  pub history : IsHistory steps
  pub scans : ScansStay (steps ++ last ∷ [])
  pub bounds : StatesBoundsOrNone steps last.config
  pub built : IsBuilt last.shelf last.config (left_by steps) summary last.left

-- outside a build's own folders two folders have the same files
abbrev pub HaveSameOutput : Files → Files → Type 0
HaveSameOutput one two = (name : List ℕ) → IsOutsideWork name → two name ≡ one name
