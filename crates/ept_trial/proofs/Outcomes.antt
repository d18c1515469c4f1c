-- What a build of a trial leaves, and why it is refused.
use Rattle.std.proofs.Common.{◌≡◌, ℕ, ◌≤◌, List, Option, Some, None, refl, ap, subst}
use Rattle.ept_base.specs.Files.{Files}
use Rattle.ept_base.specs.Moves.{IsSettled}
use Rattle.ept_sample.specs.IdLaws.{AscendingIsOrdered}
use Rattle.ept_config.specs.declared.config.Config.{Config}
use Rattle.ept_scan.specs.Laws.{ScanAscends, ScanLiesWithin}
use Rattle.ept_meta.specs.OutputLaws.{PointsCanBeSampled}
use Rattle.ept_node_bound.specs.Few.{TilesAreFew}
use Rattle.ept_node.specs.Shown.{IsTelling}
use Rattle.ept_save.specs.Current.{Current, HasCurrent}
use Rattle.ept_save.specs.SoundLaws.{EmptyIsSound}
use Rattle.ept_mem_infallible.specs.Objects.{no_files}
use Rattle.ept_build.specs.declared.error.BuildError.{BuildError}
use Rattle.ept_build.specs.declared.error.BuildError.TheVariants.{StoreFault, SourceFault, SpillFault, Memory}
use Rattle.ept_build.specs.declared.summary.Summary.{Summary}
use Rattle.ept_build.specs.Building.{BeginsWith, HasPoints, IsBuilt, IsRefused, IsRefusedAt}
use Rattle.ept_trial.specs.Scans.{HasScans}
use Rattle.ept_trial.specs.Settings.{IsTrialConfig}
use Rattle.ept_trial.specs.Results.{HasTrial}
use Rattle.ept_trial.proofs.Refusals.{points-of, rules-are, only-memory}

-- a folder without files has no checkpoint
none-current : (current : Current) → HasCurrent current no_files → current ≡ None
none-current None h = refl
none-current (Some (letter, c)) h = (let open_gate = h.counts in absurd cc)

pub begins : {F : Type 0} (held : F → Option (List ℕ)) (all files : Files) (may_leave : Files → Type 0) → IsTelling held → EmptyIsSound → files ≡ no_files → IsSettled (Some files) may_leave → BeginsWith held (Some all) (Some files) may_leave all no_files
begins held all files may_leave telling empty is settled = record {
  spills = telling;
  shelf_told = refl;
  told = ap (λ (f : Files). Some f) is;
  settled = settled;
  sound = empty all;
}

module _ (count : ℕ) (few : count ≤ 10000000) (all : Files) (scans : HasScans count all) (config : Config) (is : IsTrialConfig config) where
  built-none : (files : Files) (summary : Summary) (b : IsBuilt all config no_files summary files) → HasPoints all config None b.kept b.points → HasTrial count files
  built-none files summary b has = record {
    points = b.points;
    are = points-of count few all scans config is b.points has.done has.scan b.complete.points_are.ascend;
    kept = b.kept;
    rules_are = rules-are count few all scans config is b.kept b.points has.done has.scan has.kept_is;
    complete = b.complete;
  }

  pub built-trial : (files : Files) (summary : Summary) → IsBuilt all config no_files summary files → HasTrial count files
  built-trial files summary b =
      built-none files summary b (subst (λ (c : Current). HasPoints all config c b.kept b.points) (none-current b.current b.has_current) b.has_points)

  module _ (ascends : ScanAscends) (within : ScanLiesWithin) (ordered : AscendingIsOrdered) (can : PointsCanBeSampled) (fewer : TilesAreFew) where
    pub refused-memory : (e : BuildError) → IsRefused all config no_files e → (e ≡ StoreFault → ⊥) → (e ≡ SourceFault → ⊥) → (e ≡ SpillFault → ⊥) → e ≡ Memory
    refused-memory e r stores sources spills =
        only-memory count few all scans config is ascends within ordered can fewer e
        (subst (λ (c : Current). IsRefusedAt all config c e) (none-current r.current r.has_current) r.because) stores sources spills
