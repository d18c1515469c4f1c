-- What the steps of a plan find.
use Rattle.std.proofs.Common.{◌≡◌, ◌∙◌, List, ◌++◌, length, refl, sym, ap, subst, arith, Option, Some, None, length-append}
use Rattle.std.specs.Prelude.{◌≤◌, ◌≢◌, All}
use Rattle.std.proofs.lemmas.List.Elements.{All-append}
use Rattle.std.proofs.lemmas.List.{append-nil}
use Rattle.std.proofs.lemmas.List.Sums.{sum_by-append}
use Rattle.ept_base.specs.Files.{Files, Tells}
use Rattle.ept_point.specs.declared.point.Point.{Point}
use Rattle.ept_space.specs.declared.bounds.Bounds.{Bounds}
use Rattle.ept_config.specs.declared.config.Config.{Config}
use Rattle.ept_config.specs.declared.kept.Kept.{Kept}
use Rattle.ept_config.specs.declared.source_count.SourceCount.{SourceCount}
use Rattle.ept_config.specs.Counts.{IsCount, total}
use Rattle.ept_config.specs.KeptOf.{IsKeptOf}
use Rattle.ept_scan.specs.declared.scan_done.ScanDone.{ScanDone}
use Rattle.ept_scan.specs.declared.scan_error.ScanError.{ScanError}
use Rattle.ept_scan.specs.declared.scan_error.ScanError.TheVariants as scan
use Rattle.ept_scan.specs.Scans.{IsScan}
use Rattle.ept_ckpt.specs.Valid.{ExtentInRange}
use Rattle.ept_ckpt.specs.declared.letter.Letter.{Letter}
use Rattle.ept_ckpt.specs.declared.checkpoint.Checkpoint.{Checkpoint}
use Rattle.ept_config_diff.specs.Differing.{GoesOnFrom}
use Rattle.ept_plan.specs.declared.error.PlanError.{PlanError}
use Rattle.ept_plan.specs.declared.error.PlanError.TheVariants.{Differs, Scan}
use Rattle.ept_plan.specs.declared.plan.Plan.{Plan}
use Rattle.ept_plan.specs.Plans.{IsGiven, AreRefused}
use Rattle.ept_plan.specs.Steps.{DoesNotGoOn, AddsCounts, IsFound, WhyNot}
use Rattle.ept_plan.proofs.Told.{tells-more, tells-always}
use Rattle.ept_plan.proofs.Fields.{nothing, bounds-kept, step-kept, rules-kept, same-kept}

-- ---- why there is no plan

pub not-on : (files : Option Files) (config : Config) (c : Checkpoint) (l : Letter) (e : PlanError) → DoesNotGoOn config c.kept e → WhyNot files config (Some (l, c)) e
not-on files config c l (Differs d) why = why
not-on files config c l (Scan e) why =
    (tells-always (λ (all : Files). AreRefused all config (Some (l, c)) e) (λ all. subst (λ (f : ScanError). AreRefused all config (Some (l, c)) f) (sym why) tt) files, λ other. absurd (other why))

pub no-fault : (config : Config) (kept : Kept) (e : PlanError) → DoesNotGoOn config kept e → e ≢ Scan scan.SourceFault
no-fault config kept (Differs d) why = λ is. cc
no-fault config kept (Scan e) why = λ is. cc

-- ---- what is found of a first build

pub first-found : (files : Option Files) (config : Config) (done : ScanDone) (plan : Plan) → IsKeptOf config done.bounds plan.kept → length done.counts ≡ length config.inputs → All (IsCount done.bounds) done.counts → All ExtentInRange done.counts
    → Tells (λ all. (points : List Point) × IsScan all config.scale config.bounds config.inputs 0 points done) files
    → plan.counts ≡ done.counts → plan.points ≡ total done.counts → plan.inserted ≡ 0 → IsFound files config None plan
first-found files config done plan kept each counted extents scan counts points inserted = record {
  is_plan = record {
    kept_is = subst (λ (b : Bounds). IsKeptOf config b plan.kept) (sym kept.bounds_is) kept;
    goes_on = tt;
    each = ap length counts ∙ (each ∙ sym (ap length kept.inputs_is));
    counted = subst (λ (b : Bounds). All (IsCount b) plan.counts) (sym kept.bounds_is) (subst (All (IsCount done.bounds)) (sym counts) counted);
    extents = subst (All ExtentInRange) (sym counts) extents;
    points_are = points ∙ ap total (sym counts);
    inserted_is = inserted;
    inserted_most = omega (arith, inserted);
    inputs_least = omega arith;
    bounds_are = refl;
    counts_are = tt;
    rules_stay = tt;
    same = λ none. absurd (omega (arith, plan.kept.layout.inputs_some, none));
  };
  more = plan.counts;
  counts_are = refl;
  scan = tells-more (λ (all : Files). (points : List Point) × IsScan all config.scale config.bounds config.inputs 0 points done)
      (λ (all : Files). (points : List Point) × IsScan all config.scale config.bounds config.inputs 0 points (record { counts = plan.counts; bounds = plan.kept.bounds }))
      (λ all is. (
        is.0,
        subst (λ (l : List SourceCount). IsScan all config.scale config.bounds config.inputs 0 is.0 (record { counts = l; bounds = plan.kept.bounds })) (sym counts)
            (subst (λ (b : Bounds). IsScan all config.scale config.bounds config.inputs 0 is.0 (record { counts = done.counts; bounds = b })) (sym kept.bounds_is) is.1),
      ))
      files scan;
}

-- ---- what is found after a checkpoint

module _ (config : Config) (c : Checkpoint) (counts : List SourceCount) (files : Option Files) (added : AddsCounts files config c counts) where
  pub all-each : length counts ≡ length config.inputs
  all-each = omega (arith, ap length added.counts_are, length-append c.counts added.more, c.is_checkpoint.each, added.each)

  pub all-counted : All (IsCount c.kept.bounds) counts
  all-counted = subst (All (IsCount c.kept.bounds)) (sym added.counts_are) (All-append (IsCount c.kept.bounds) c.counts added.more c.is_checkpoint.counted added.counted)

  all-extents : All ExtentInRange counts
  all-extents = subst (All ExtentInRange) (sym added.counts_are) (All-append ExtentInRange c.counts added.more c.is_checkpoint.extents added.extents)

  most : c.inserted ≤ total counts
  most = omega (arith, c.is_checkpoint.inserted_most, ap total added.counts_are, sum_by-append (λ (count : SourceCount). count.points) c.counts added.more)

  -- if no input is added, no count is added
  same_counts : length added.more ≡ 0 → counts ≡ c.counts
  same_counts none = added.counts_are ∙ (ap (λ (l : List SourceCount). c.counts ++ l) (nothing added.more none) ∙ append-nil c.counts)

  pub next-found : (l : Letter) (plan : Plan) → IsGiven config c.kept plan.kept → GoesOnFrom c.kept plan.kept → plan.counts ≡ counts → plan.points ≡ total counts → plan.inserted ≡ c.inserted → IsFound files config (Some (l, c)) plan
  next-found l plan given on counts_are points inserted =
      let bounds : plan.kept.bounds ≡ c.kept.bounds = bounds-kept config c.kept plan.kept given on in
      record {
        is_plan = record {
          kept_is = subst (λ (b : Bounds). IsKeptOf config b plan.kept) (sym given.bounds_is) given;
          goes_on = (plan.kept, given, on);
          each = ap length counts_are ∙ (all-each ∙ sym (ap length given.inputs_is));
          counted = subst (λ (b : Bounds). All (IsCount b) plan.counts) (sym bounds) (subst (All (IsCount c.kept.bounds)) (sym counts_are) all-counted);
          extents = subst (All ExtentInRange) (sym counts_are) all-extents;
          points_are = points ∙ ap total (sym counts_are);
          inserted_is = inserted;
          inserted_most = omega (arith, inserted, points, most);
          inputs_least = omega (arith, ap length given.inputs_is, added.each);
          bounds_are = ap (λ (b : Bounds). Some b) (sym bounds);
          counts_are = (added.more, counts_are ∙ added.counts_are);
          rules_stay = (rules-kept config c.kept plan.kept given on, step-kept config c.kept plan.kept given on);
          same = λ all. (sym (same-kept config c.kept plan.kept given on all), sym (counts_are ∙ same_counts (omega (arith, all, ap length given.inputs_is, added.each))));
        };
        more = added.more;
        counts_are = counts_are ∙ added.counts_are;
        scan = tells-more (λ (all : Files). (points : List Point) × IsScan all config.scale (Some c.kept.bounds) config.inputs (length c.kept.inputs) points (record { counts = added.more; bounds = c.kept.bounds }))
            (λ (all : Files). (points : List Point) × IsScan all config.scale (Some c.kept.bounds) config.inputs (length c.kept.inputs) points (record { counts = added.more; bounds = plan.kept.bounds }))
            (λ all is. (is.0, subst (λ (b : Bounds). IsScan all config.scale (Some c.kept.bounds) config.inputs (length c.kept.inputs) is.0 (record { counts = added.more; bounds = b })) (sym bounds) is.1))
            files added.scan;
      }
