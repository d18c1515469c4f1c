-- What a merge begins from, and why it does not begin.
use Rattle.std.proofs.Common.{◌≡◌, ◌≢◌, ◌∙◌, List, refl, sym, ap, subst, Option, Some, None, false}
use Rattle.std.specs.Prelude.{option_map}
use Rattle.ept_base.specs.Files.{Files, Tells}
use Rattle.ept_point.specs.declared.point.Point.{Point}
use Rattle.ept_space.specs.declared.cube.Rules.{Rules}
use Rattle.ept_space.specs.CubeOfBounds.{cube_of}
use Rattle.ept_config.specs.declared.config.Config.{Config}
use Rattle.ept_config.specs.declared.source_count.SourceCount.{SourceCount}
use Rattle.ept_scan.specs.declared.scan_done.ScanDone.{ScanDone}
use Rattle.ept_scan.specs.declared.scan_error.ScanError.{ScanError}
use Rattle.ept_scan.specs.declared.scan_error.ScanError.TheVariants as scan
use Rattle.ept_scan.specs.Scans.{IsScan}
use Rattle.ept_ckpt.specs.declared.letter.Letter.{Letter}
use Rattle.ept_ckpt.specs.declared.checkpoint.Checkpoint.{Checkpoint}
use Rattle.ept_meta.specs.Output.{rules_of}
use Rattle.ept_save.specs.declared.error.SaveError.{SaveError}
use Rattle.ept_save.specs.declared.error.SaveError.TheVariants as save
use Rattle.ept_save.specs.Current.{Current}
use Rattle.ept_save.specs.Opening.{IsBad, lines_of}
use Rattle.ept_save.specs.View.{View}
use Rattle.ept_plan.specs.declared.plan.Plan.{Plan}
use Rattle.ept_plan.specs.Plans.{IsPlan, HasPoints}
use Rattle.ept_plan.specs.Plans as plans
use Rattle.ept_plan.specs.Steps.{IsFound}
use Rattle.ept_part.specs.Scanned.{rules_by}
use Rattle.ept_merge.specs.declared.error.MergeError.TheVariants.{SourceFault, StoreFault, Shallow}
use Rattle.ept_merge.specs.Errors.{of_scan, of_save}
use Rattle.ept_merge.specs.Merging.{IsInRange}
use Rattle.ept_merge.specs.Steps.{IsFresh, IsOpenFault, IsPlanFault}
use Rattle.ept_merge.proofs.Reading.{tells-more, tells-always}

-- ---- the current checkpoint

pub none-current : (current : Current) → option_map (λ (c : Letter × Checkpoint). c.1) current ≡ None → current ≡ None
none-current None is = refl
none-current (Some c) is = absurd (cc)

some-same : {X : Type 0} (a b : X) → Some a ≡ Some b → a ≡ b
some-same a b same = cc

pub some-current : (current : Current) (c : Checkpoint) → option_map (λ (x : Letter × Checkpoint). x.1) current ≡ Some c → (letter : Letter) × (current ≡ Some (letter, c))
some-current None c is = absurd (cc)
some-current (Some x) c is = (x.0, ap (λ (d : Checkpoint). Some (x.0, d)) (some-same x.1 c is))

pub fresh-view : (view : View) → view.current ≡ None → view.lines ≡ lines_of view.current → view.begun ≡ false → IsFresh view
fresh-view view none lines begun = λ i. record { current = none i; lines = (lines ∙ ap lines_of none) i; begun = begun i }

pub open-refused : (files : Option Files) (e : SaveError) → ((which : Letter) → e ≡ save.BadCheckpoint which → Tells (λ all. IsBad all which) files) → Tells (λ all. IsOpenFault all (of_save e)) files
open-refused files save.StoreFault bad = tells-always _ (λ all. tt) files
open-refused files (save.BadCheckpoint letter) bad = bad letter refl
open-refused files (save.TileDamaged key) bad = tells-always _ (λ all. tt) files
open-refused files save.Memory bad = tells-always _ (λ all. tt) files

-- ---- the plan

pub has-points : (files : Option Files) (config : Config) (plan : Plan) → IsFound files config None plan → Tells (λ all. (points : List Point) × HasPoints all config None plan points) files
has-points files config plan found =
    tells-more _ _ (λ all has. (has.0, subst (λ (w : List SourceCount). IsScan all config.scale config.bounds config.inputs 0 has.0 (record { counts = w; bounds = plan.kept.bounds })) (sym found.counts_are) has.1)) files found.scan

pub refused-scan : (files : Option Files) (config : Config) (e : ScanError) → Tells (λ all. plans.AreRefused all config None e) files → Tells (λ all. IsPlanFault all config (of_scan e)) files
refused-scan files config scan.SourceFault told = tells-always _ (λ all. tt) files
refused-scan files config (scan.BadLas source fault) told = told
refused-scan files config (scan.OutOfBounds source number) told = told
refused-scan files config (scan.TooManyPoints source) told = told
refused-scan files config scan.NoBounds told = told
refused-scan files config scan.Memory told = tells-always _ (λ all. tt) files

pub scan-no_store : (e : ScanError) → of_scan e ≢ StoreFault
scan-no_store scan.SourceFault is = cc
scan-no_store (scan.BadLas source fault) is = cc
scan-no_store (scan.OutOfBounds source number) is = cc
scan-no_store (scan.TooManyPoints source) is = cc
scan-no_store scan.NoBounds is = cc
scan-no_store scan.Memory is = cc

pub scan-fault : (e : ScanError) → of_scan e ≡ SourceFault → e ≡ scan.SourceFault
scan-fault scan.SourceFault is = refl
scan-fault (scan.BadLas source fault) is = cc
scan-fault (scan.OutOfBounds source number) is = cc
scan-fault (scan.TooManyPoints source) is = cc
scan-fault scan.NoBounds is = cc
scan-fault scan.Memory is = cc

pub rules-same : (config : Config) (plan : Plan) → IsPlan config None plan → (done : ScanDone) → done.bounds ≡ plan.kept.bounds → rules_of plan.kept ≡ rules_by config done
rules-same config plan is done same = λ i. record { cube = cube_of (sym same i) (is.kept_is.s_is i) (is.kept_is.max_depth_is i); threshold = is.kept_is.threshold_is i; first = is.kept_is.first_is i; withheld_last = is.kept_is.withheld_last_is i }

pub shallow-refused : (files : Option Files) (config : Config) (plan : Plan) → IsPlan config None plan → Tells (λ all. (points : List Point) × HasPoints all config None plan points) files → (rules_of plan.kept).cube.depth ≡ 0 → Tells (λ all. IsPlanFault all config Shallow) files
shallow-refused files config plan is has flat =
    let found : ScanDone = record { counts = plan.counts; bounds = plan.kept.bounds } in
    let in_range : IsInRange found = record { bounds = plan.kept.has_bounds; extents = is.extents } in
    tells-more _ _ (λ all h. (h.0, found, h.1, (subst (λ (r : Rules). r.cube.depth ≡ 0) (rules-same config plan is found refl) flat, in_range))) files has
