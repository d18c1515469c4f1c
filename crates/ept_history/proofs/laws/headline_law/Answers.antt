use Rattle.std.proofs.Common.{◌≡◌, ◌⊎◌, inl, inr, List, [], ◌∷◌, ◌++◌, Option, Some, None, refl, subst}
use Rattle.std.specs.Prelude.{⊤, All, IsSome}
use Rattle.ept_base.specs.Files.{Files}
use Rattle.ept_space.specs.declared.bounds.Bounds.{Bounds}
use Rattle.ept_scan.specs.Laws.{ScanInOneWay, ScanIsKept, ScanLiesWithin, ScanFront}
use Rattle.ept_save.specs.Current.{Current, HasCurrent}
use Rattle.ept_save.specs.SoundLaws.{EmptyIsSound, CurrentIsOne, InputsAreEnough}
use Rattle.ept_build.specs.declared.summary.Summary.{Summary}
use Rattle.ept_build.specs.Building.{HasPoints}
use Rattle.ept_history.specs.Histories.{Step, IsHistory, left_by, ScansStay, IsBuiltAfter}
use Rattle.ept_history.proofs.Bounding.{KeepsExtent, extent-there, extent-turned, next-extent}
use Rattle.ept_history.proofs.Safe.{IsSafe, safe-first, safe-last, safe-next, holds-next}
use Rattle.ept_history.proofs.OneBuild.{as-one-build, one-build}
use Rattle.ept_history.proofs.laws.headline_law.Goals as goal

pub returns-clause-sound : goal.returns-clause-sound
returns-clause-sound c = λ steps next are stay.
    let enough = c.sound_steps_law.ensures.shelf in
    let Known : Files → Current → Type 0 = λ shelf current. ⊤ in
    let safe : IsSafe Known (left_by steps) (next ∷ []) =
    safe-last Known (λ (step : Step). ⊤) enough c.sound_law.ensures.one (λ one two current same known. tt) (λ step current letter it among known sound on has keeps. tt) (λ shelf from base turned known. tt) _ steps next (safe-first Known c.sound_law.ensures.empty tt (steps ++ next ∷ [])) (λ k d lt. tt) are stay in
    safe-next Known enough (left_by steps) next [] safe

-- if no build of the history states its bounds, those of the current checkpoint are the extent of its points
extent-left : ScanInOneWay → ScanIsKept → ScanLiesWithin → ScanFront → EmptyIsSound → CurrentIsOne → InputsAreEnough → (steps : List Step) (last : Step) → IsHistory steps → ScansStay (steps ++ last ∷ []) → All (λ (step : Step). step.config.bounds ≡ None) steps → (current : Current) → HasCurrent current (left_by steps) → KeepsExtent last.shelf current
extent-left once kept placed front empty one enough steps last are stay none current has =
    let safe : IsSafe KeepsExtent (left_by steps) (last ∷ []) =
    safe-last KeepsExtent (λ (step : Step). step.config.bounds ≡ None) enough one extent-there
    (λ step current letter it none keeps sound on has same. next-extent once kept placed front one step.shelf step.left step.config current on.kept on.points letter it none on.goes_on keeps on.has_points sound has same)
    extent-turned
    _ steps last (safe-first KeepsExtent empty tt (steps ++ last ∷ [])) none are stay in
    subst (λ (w : Current). KeepsExtent last.shelf w) (one (left_by steps) safe.current current safe.has_current has) (holds-next KeepsExtent extent-there (left_by steps) last [] safe)

given-or-none : (o : Option Bounds) → IsSome o ⊎ (o ≡ None)
given-or-none None = inr refl
given-or-none (Some bounds) = inl refl

-- the points of a build that succeeds are those of one build
module _ (once : ScanInOneWay) (kept : ScanIsKept) (placed : ScanLiesWithin) (front : ScanFront) (empty : EmptyIsSound) (one : CurrentIsOne) (enough : InputsAreEnough) where
  as-one : (steps : List Step) (last : Step) (summary : Summary) → (after : IsBuiltAfter steps last summary) → HasPoints last.shelf last.config None after.built.kept after.built.points
  as-one steps last summary after =
      let built = after.built in
      let extent = λ (none : All (λ (step : Step). step.config.bounds ≡ None) steps). extent-left once kept placed front empty one enough steps last after.history after.scans none built.current built.has_current in
      let limits : IsSome last.config.bounds ⊎ ((last.config.bounds ≡ None) × KeepsExtent last.shelf built.current) = elim after.bounds [
        | inl some ↦ inl some
        | inr none ↦ elim (given-or-none last.config.bounds) [ inl some ↦ inl some | inr unstated ↦ inr (unstated, extent none) ]
      ] in
      as-one-build once kept placed front last.shelf last.config built.current built.goes_on built.kept built.points built.has_points limits

pub returns-clause-complete : goal.returns-clause-complete
returns-clause-complete c = λ steps last summary after.
    let points = as-one c.scan_once_law.ensures c.kept_law.ensures c.placed_law.ensures c.joined_law.ensures.front c.sound_law.ensures.empty c.sound_law.ensures.one c.sound_steps_law.ensures.shelf steps last summary after in
    (after.built.kept, after.built.points, points, after.built.complete)

pub returns-clause-one : goal.returns-clause-one
returns-clause-one c = λ steps last summary after alone same once.
    let points = as-one c.scan_once_law.ensures c.kept_law.ensures c.placed_law.ensures c.joined_law.ensures.front c.sound_law.ensures.empty c.sound_law.ensures.one c.sound_steps_law.ensures.shelf steps last summary after in
    one-build c.output_once_law.ensures.one last.shelf last.config (left_by steps) last.left alone summary same after.built points once
