-- If no device fails, the build of a trial is refused only if memory runs out; and the rules of its sampling.
use Rattle.std.proofs.Common.{◌≡◌, ◌∙◌, ◌⊎◌, ⊎_elim, ℕ, ◌≤◌, List, Option, Some, None, length, refl, sym, subst, arith}
use Rattle.std.specs.Prelude.{All, false}
use lib.Count.{count_leading_zeros}
use Rattle.ept_base.specs.Files.{Files}
use Rattle.ept_point.specs.declared.point.Point.{Point}
use Rattle.ept_point.specs.Order.{IsAscending}
use Rattle.ept_space.specs.declared.bounds.Bounds.{Bounds}
use Rattle.ept_space.specs.declared.cube.Rules.{Rules}
use Rattle.ept_space.specs.CubeOfBounds.{cube_of}
use Rattle.ept_space.specs.Group.{plain_rules}
use Rattle.ept_class.specs.NoClass.{no_class}
use Rattle.ept_sample.specs.IdLaws.{AscendingIsOrdered}
use Rattle.ept_sample.specs.Nodes.{sampled}
use Rattle.ept_config.specs.declared.config.Config.{Config}
use Rattle.ept_config.specs.declared.kept.Kept.{Kept}
use Rattle.ept_config.specs.Extents.{IsWithin}
use Rattle.ept_config.specs.KeptOf.{IsKeptOf}
use Rattle.ept_scan.specs.declared.scan_done.ScanDone.{ScanDone}
use Rattle.ept_scan.specs.declared.scan_error.ScanError.{ScanError}
use Rattle.ept_scan.specs.declared.scan_error.ScanError.TheVariants as scan
use Rattle.ept_scan.specs.Laws.{ScanAscends, ScanLiesWithin}
use Rattle.ept_scan.specs.Scans.{IsScan, AreBounds, IsFirstRefused}
use Rattle.ept_meta.specs.Output.{rules_of}
use Rattle.ept_meta.specs.OutputLaws.{PointsCanBeSampled}
use Rattle.ept_node_bound.specs.Few.{TilesAreFew, most_nodes}
use Rattle.ept_build.specs.declared.error.BuildError.{BuildError}
use Rattle.ept_build.specs.declared.error.BuildError.TheVariants.{StoreFault, BadCheckpoint, TileDamaged, Differs, SourceFault, BadLas, OutOfBounds, TooManyPoints, NoBounds, SourceChanged, SpillFault, SpillDamaged, TooManyNodes, Memory}
use Rattle.ept_build.specs.Building.{HasPoints, node_count, IsRefusedAt}
use Rattle.ept_trial.specs.Trials.{trial_bounds, trial_rules, AreTrialPoints}
use Rattle.ept_trial.specs.Scans.{HasScans}
use Rattle.ept_trial.specs.Settings.{IsTrialConfig}
use Rattle.ept_trial.proofs.Inputs.{input-is}
use Rattle.ept_trial.proofs.Readings.{none-refused}
use Rattle.ept_trial.proofs.Wholes.{scan-are}

-- the rules of a trial allow few nodes
few-nodes : most_nodes trial_rules 10000000 ≤ 65536
unfolding cube_of count_leading_zeros
few-nodes = omega arith

same-bounds : (limits : Option Bounds) (points : List Point) (bounds : Bounds) → limits ≡ Some trial_bounds → AreBounds limits points bounds → bounds ≡ trial_bounds
same-bounds None points bounds is are = absurd cc
same-bounds (Some limits) points bounds is are = are ∙ (let e : limits ≡ trial_bounds = cc in e)

rules-same : (kept : Kept) (bounds : Bounds) (s depth threshold : ℕ) → kept.bounds ≡ bounds → kept.s ≡ s → kept.max_depth ≡ depth → kept.threshold ≡ threshold → kept.first ≡ no_class → kept.withheld_last ≡ false → rules_of kept ≡ plain_rules (cube_of bounds s depth) threshold
rules-same kept bounds s depth threshold b e d t classes last = λ i. record { cube = cube_of (b i) (e i) (d i); threshold = t i; first = classes i; withheld_last = last i }

module _ (count : ℕ) (few : count ≤ 10000000) (all : Files) (scans : HasScans count all) (config : Config) (is : IsTrialConfig config) where
  pub rules-are : (kept : Kept) (points : List Point) (done : ScanDone) → IsScan all config.scale config.bounds config.inputs 0 points done → IsKeptOf config done.bounds kept → rules_of kept ≡ trial_rules
  rules-are kept points done scan keeps =
      rules-same kept trial_bounds 7 32 4096
      (keeps.bounds_is ∙ same-bounds config.bounds points done.bounds is.bounds_is scan.bounds_are)
      (keeps.s_is ∙ is.s_is) (keeps.max_depth_is ∙ is.max_depth_is) (keeps.threshold_is ∙ is.threshold_is)
      (keeps.first_is ∙ is.first_is) (keeps.withheld_last_is ∙ is.withheld_last_is)

  pub points-of : (points : List Point) (done : ScanDone) → IsScan all config.scale config.bounds config.inputs 0 points done → IsAscending points → AreTrialPoints count points
  points-of points done scan ascend = scan-are count few all scans config.scale is.scale_is config.bounds is.bounds_is config.inputs is.inputs_are points done scan ascend

  -- no input is refused
  no-input : (error : ScanError) → IsFirstRefused all config.scale config.bounds config.inputs 0 error → (error ≡ scan.SourceFault) ⊎ (error ≡ scan.Memory)
  no-input error first =
      none-refused count first.at few first.reading first.refused.file
      (input-is count all scans config.scale is.scale_is config.bounds is.bounds_is config.inputs is.inputs_are first.at first.input first.reading first.refused.file first.is_input first.refused.content)
      error first.refused.refused

  module _ (ascends : ScanAscends) (within : ScanLiesWithin) (ordered : AscendingIsOrdered) (can : PointsCanBeSampled) (fewer : TilesAreFew) where
    -- nor are there too many nodes
    nodes-few : (kept : Kept) (points : List Point) → HasPoints all config None kept points → node_count kept points ≤ 65536
    nodes-few kept points has =
        let up = ascends all config.scale config.bounds config.inputs 0 points has.done has.scan in
        let inside = within all config.scale config.bounds config.inputs 0 points has.done has.scan in
        let within_kept : All (IsWithin kept.bounds) points = subst (λ (b : Bounds). All (IsWithin b) points) (sym has.kept_is.bounds_is) inside in
        let sampled_so = can kept points within_kept (ordered points up).0 in
        let length_is = (points-of points has.done has.scan up).length_is in
        let short : length points ≤ 10000000 = omega (arith, length_is, few) in
        let most = fewer (rules_of kept) points 10000000 sampled_so short in
        let rules = rules-are kept points has.done has.scan has.kept_is in
        let bound : length (sampled (rules_of kept) points) ≤ most_nodes trial_rules 10000000 = subst (λ (r : Rules). length (sampled (rules_of kept) points) ≤ most_nodes r 10000000) rules most in
        let small = few-nodes in
        omega (arith, bound, small)

    pub only-memory : (e : BuildError) → IsRefusedAt all config None e → (e ≡ StoreFault → ⊥) → (e ≡ SourceFault → ⊥) → (e ≡ SpillFault → ⊥) → e ≡ Memory
    only-memory StoreFault refused stores sources spills = absurd (stores refl)
    only-memory SourceFault refused stores sources spills = absurd (sources refl)
    only-memory SpillFault refused stores sources spills = absurd (spills refl)
    only-memory (SpillDamaged kept found number) refused stores sources spills = absurd refused
    only-memory Memory refused stores sources spills = refl
    only-memory (BadCheckpoint letter) refused stores sources spills = absurd refused
    only-memory (TileDamaged key) refused stores sources spills = absurd refused
    only-memory (Differs field kept given) refused stores sources spills = absurd refused
    only-memory (BadLas source fault) refused stores sources spills = ⊎_elim (λ (h : scan.BadLas source fault ≡ scan.SourceFault). absurd cc) (λ (h : scan.BadLas source fault ≡ scan.Memory). absurd cc) (no-input (scan.BadLas source fault) refused.1)
    only-memory (OutOfBounds source number) refused stores sources spills = ⊎_elim (λ (h : scan.OutOfBounds source number ≡ scan.SourceFault). absurd cc) (λ (h : scan.OutOfBounds source number ≡ scan.Memory). absurd cc) (no-input (scan.OutOfBounds source number) refused.1)
    only-memory (TooManyPoints source) refused stores sources spills = ⊎_elim (λ (h : scan.TooManyPoints source ≡ scan.SourceFault). absurd cc) (λ (h : scan.TooManyPoints source ≡ scan.Memory). absurd cc) (no-input (scan.TooManyPoints source) refused.1)
    only-memory NoBounds refused stores sources spills = (let none = refused.1.unlimited in let given = is.bounds_is in absurd cc)
    only-memory (SourceChanged source number) refused stores sources spills = absurd refused
    only-memory TooManyNodes refused stores sources spills =
        let few_nodes = nodes-few refused.kept refused.points refused.has_points in
        let many = refused.many in
        let most = is.nodes_is in
        absurd (omega (arith, few_nodes, many, most))
