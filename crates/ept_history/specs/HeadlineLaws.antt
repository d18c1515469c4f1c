-- The headline: whatever the list of builds, stops and batches. Each statement is a clause of a function of `laws`.
use Rattle.std.specs.Prelude.{◌≡◌, ℕ, List, [], ◌∷◌, ◌++◌, Option, None}
use Rattle.ept_base.specs.Files.{Files}
use Rattle.ept_base.specs.Moves.{Moves}
use Rattle.ept_point.specs.declared.point.Point.{Point}
use Rattle.ept_config.specs.declared.config.Config.{Config}
use Rattle.ept_config.specs.declared.kept.Kept.{Kept}
use Rattle.ept_save.specs.Complete.{IsComplete}
use Rattle.ept_save.specs.Sound.{IsSound}
use Rattle.ept_save.specs.SoundLaws.{no_files}
use Rattle.ept_build.specs.declared.summary.Summary.{Summary}
use Rattle.ept_build.specs.Building.{HasPoints, IsBuilt, IsUnderWay}
use Rattle.ept_history.specs.Histories.{Step, IsStepFrom, IsLeftOf, IsHistory, left_by, ScansStay, IsBuiltAfter, HaveSameOutput}

-- What a build left of a store at any moment, by what `build` promises of the store, is a step of a history.
abbrev pub LeavesSteps : {D : Type 0} (files : D → Option Files) (may_leave : D → Files → Type 0) (moment : D → ℕ) (image_since : D → ℕ → Files → Type 0) → D → D → Type 0
LeavesSteps files may_leave moment image_since old new =
    (shelf start : Files) (config : Config) → (IsSound shelf start → Moves files may_leave moment image_since (λ (a b : Files). IsUnderWay shelf config start b) old new)
    → (left : Files) → IsLeftOf files may_leave moment image_since old new left → IsStepFrom start (record { shelf = shelf; config = config; left = left })

-- what the builds of a history left is sound for the next one
abbrev pub HistoriesAreSound : Type 0
HistoriesAreSound =
    (steps : List Step) (next : Step) → IsHistory steps → ScansStay (steps ++ next ∷ []) → IsSound next.shelf (left_by steps)

-- If a build succeeds after a history, its files are complete for the points that its inputs have in an empty folder.
abbrev pub HistoryHasAllPoints : Type 0
HistoryHasAllPoints =
    (steps : List Step) (last : Step) (summary : Summary) → IsBuiltAfter steps last summary → (kept : Kept) × (points : List Point) × HasPoints last.shelf last.config None kept points × IsComplete kept points last.left

-- They are the files that one build of its configuration leaves in an empty folder, which returns the same.
abbrev pub HistoryIsOneBuild : Type 0
HistoryIsOneBuild =
    (steps : List Step) (last : Step) (summary : Summary) → IsBuiltAfter steps last summary → (alone : Files) (same : Summary) → IsBuilt last.shelf last.config no_files same alone → HaveSameOutput alone last.left × (summary ≡ same)
