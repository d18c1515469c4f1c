-- Parts that are ready are merged and built, unless a device fails or memory runs out. What refuses them is reported.
use Rattle.std.proofs.Common.{◌≡◌, ◌⊎◌, inl, inr, ⊎_elim, ℕ, ◌≤◌, List, [], Option, None, Some, Ok, Err, refl, sym, ◌∙◌, ap, subst, get_or}
use Rattle.std.specs.Prelude.{Result, length, IsOk}
use Rattle.std.proofs.lemmas.List.{append-nil}
use Rattle.ept_base.specs.Files.{Files, Tells}
use Rattle.ept_point.specs.declared.point.Point.{Point}
use Rattle.ept_space.specs.declared.bounds.Bounds.{Bounds}
use Rattle.ept_space.specs.declared.cube.Rules.{Rules}
use Rattle.ept_space.specs.CubeOfBounds.{cube_of}
use Rattle.ept_sample.specs.Nodes.{sampled}
use Rattle.ept_config.specs.declared.config.Config.{Config}
use Rattle.ept_config.specs.declared.kept.Kept.{Kept}
use Rattle.ept_config.specs.KeptOf.{IsKeptOf}
use Rattle.ept_scan.specs.declared.scan_done.ScanDone.{ScanDone}
use Rattle.ept_scan.specs.Scans.{AreBounds}
use Rattle.ept_scan.proofs.OneScan.{scan_once}
use Rattle.ept_scan.proofs.OneExtent.{bounds_once}
use Rattle.ept_scan.proofs.Scanned.{scan_kept}
use Rattle.ept_meta.specs.Output.{rules_of}
use Rattle.ept_meta.specs.declared.fields.Field.{Field}
use Rattle.ept_meta.specs.declared.fields.Field.TheVariants as field
use Rattle.ept_config_diff.specs.Differing.{IsAsKept, in_order}
use Rattle.ept_plan.specs.Plans.{bounds_or}
use Rattle.ept_part.specs.Scanned.{rules_by, found_by}
use Rattle.ept_build.specs.declared.error.BuildError.{BuildError}
use Rattle.ept_build.specs.declared.summary.Summary.{Summary}
use Rattle.ept_build.specs.Building as building
use Rattle.ept_merge.specs.declared.error.MergeError.{MergeError}
use Rattle.ept_merge.specs.declared.error.MergeError.TheVariants as merge
use Rattle.ept_merge.specs.Merging as merging
use Rattle.ept_command.specs.declared.refusal.Refusal.{Refusal}
use Rattle.ept_command.specs.declared.refusal.Refusal.TheVariants.{SourceFault, StoreFault, SpillFault, Memory}
use Rattle.ept_command.specs.declared.refusal.MergeRefusal.{MergeRefusal}
use Rattle.ept_command.specs.declared.refusal.MergeRefusal.TheVariants.{AsPart, HasCheckpoint, NoPart, PartDiffers, PartDamaged}
use Rattle.ept_command.specs.Configurations.{HasConfiguration, ConfigurationIsRefused}
use Rattle.ept_run.specs.Errors.{of_build}
use Rattle.ept_run.specs.Requests.{IsDefinite, Fails}
use Rattle.ept_run.specs.Merges.{Outcome, as_build, of_merge, FailsMerge, ReportsMerge}
use Rattle.ept_run.proofs.Asked.{told_as}
use Rattle.ept_run.proofs.Refused.{came_before, only_fails}

-- ---- results passed on

-- a merge's result as this program's
abbrev pub merged_as : {A : Type 0} → Result A MergeError → Result A MergeRefusal
merged_as (Ok done) = Ok done
merged_as (Err e) = Err (of_merge e)

-- a build's
abbrev pub built_as : Result Summary BuildError → Outcome
built_as (Ok summary) = Ok summary
built_as (Err e) = Err (as_build (of_build e))

-- that of reading a configuration
abbrev read_as : {A : Type 0} → Result A Refusal → Result A MergeRefusal
read_as (Ok x) = Ok x
read_as (Err r) = Err (as_build r)

module _ {A : Type 0} (result : Result A MergeError) where
  merging_fails : merging.Fails result → FailsMerge (merged_as result)
  merging_fails (inl is) = inr (inl (ap merged_as is))
  merging_fails (inr (inl is)) = inl (ap merged_as is)
  merging_fails (inr (inr is)) = inr (inr (inr (ap merged_as is)))

  merged_ok : (r : Result A MergeError) → IsOk r → IsOk (merged_as r)
  merged_ok (Ok done) is = is
  merged_ok (Err e) is = absurd cc

  merging_reports : (e : MergeError) → merging.Reports e result → ReportsMerge (of_merge e) (merged_as result)
  merging_reports merge.StoreFault is = ap merged_as is
  merging_reports (merge.BadCheckpoint letter) is = ap merged_as is
  merging_reports (merge.HasCheckpoint generation) is = ap merged_as is
  merging_reports merge.SourceFault is = ap merged_as is
  merging_reports (merge.BadLas source fault) is = ap merged_as is
  merging_reports (merge.OutOfBounds source number) is = ap merged_as is
  merging_reports (merge.TooManyPoints source) is = ap merged_as is
  merging_reports merge.NoBounds is = ap merged_as is
  merging_reports merge.Shallow is = ap merged_as is
  merging_reports (merge.NoPart octants) is = ap merged_as is
  merging_reports (merge.PartDiffers octants) is = ap merged_as is
  merging_reports (merge.PartDamaged octants None) is = ap merged_as is
  merging_reports (merge.PartDamaged octants (Some key)) is = (is.0, is.1, ap merged_as is.2)
  merging_reports merge.TooManyNodes is = ap merged_as is
  merging_reports merge.Memory is = ap merged_as is

  module _ (files old : Option Files) (config : Config) (parts : List ℕ) where
    pub merging_ready : Tells (λ all. Tells (λ start. merging.AreReady all start config parts → IsOk result ⊎ merging.Fails result) old) files
        → Tells (λ all. Tells (λ start. merging.AreReady all start config parts → IsOk (merged_as result) ⊎ FailsMerge (merged_as result)) old) files
    merging_ready told =
        told_as (λ all. Tells (λ start. merging.AreReady all start config parts → IsOk result ⊎ merging.Fails result) old) (λ all. Tells (λ start. merging.AreReady all start config parts → IsOk (merged_as result) ⊎ FailsMerge (merged_as result)) old) files
        (λ all of_all. told_as (λ start. merging.AreReady all start config parts → IsOk result ⊎ merging.Fails result) (λ start. merging.AreReady all start config parts → IsOk (merged_as result) ⊎ FailsMerge (merged_as result)) old
        (λ start comes ready. ⊎_elim (λ ok. inl (merged_ok result ok)) (λ fails. inr (merging_fails fails)) (comes ready)) of_all) told

    abbrev Comes : Files → Files → Type 0
    Comes all start = (e : MergeError) → merging.IsDefinite e → merging.IsRefused all start config parts e → merging.Reports e result ⊎ merging.Fails result

    abbrev ComesAs : Files → Files → Type 0
    ComesAs all start = (e : MergeError) → merging.IsDefinite e → merging.IsRefused all start config parts e → ReportsMerge (of_merge e) (merged_as result) ⊎ FailsMerge (merged_as result)

    pub merging_comes : Tells (λ all. Tells (λ start. Comes all start) old) files → Tells (λ all. Tells (λ start. ComesAs all start) old) files
    merging_comes told =
        told_as (λ all. Tells (λ start. Comes all start) old) (λ all. Tells (λ start. ComesAs all start) old) files
        (λ all of_all. told_as (λ start. Comes all start) (λ start. ComesAs all start) old
        (λ start comes e definite refused. ⊎_elim (λ reports. inl (merging_reports e reports)) (λ fails. inr (merging_fails fails)) (comes e definite refused)) of_all) told

-- a build's result that is Ok, or a fault, is so as this program's
pub building_comes : (result : Result Summary BuildError) → IsOk result ⊎ building.Fails result → IsOk (built_as result) ⊎ FailsMerge (built_as result)
building_comes result came = ⊎_elim (λ ok. inl (built_ok result ok)) (λ fails. inr (by fails)) came
  where
    built_ok : (r : Result Summary BuildError) → IsOk r → IsOk (built_as r)
    built_ok (Ok summary) is = is
    built_ok (Err e) is = absurd cc

    by : building.Fails result → FailsMerge (built_as result)
    by (inl is) = inr (inl (ap built_as is))
    by (inr (inl is)) = inl (ap built_as is)
    by (inr (inr (inl is))) = inr (inr (inl (ap built_as is)))
    by (inr (inr (inr is))) = inr (inr (inr (ap built_as is)))

-- a fault in reading a configuration
reading_fails : {A : Type 0} (result : Result A Refusal) → Fails result → FailsMerge (read_as result)
reading_fails result (inl is) = inl (ap read_as is)
reading_fails result (inr (inl is)) = inr (inl (ap read_as is))
reading_fails result (inr (inr (inl is))) = inr (inr (inl (ap read_as is)))
reading_fails result (inr (inr (inr is))) = inr (inr (inr (ap read_as is)))

-- a configuration that is refused is none, so a device failed or memory ran out
pub unread_fails : {A : Type 0} (all : Files) (path : List ℕ) (r : Refusal) (config : Config) → ConfigurationIsRefused all path r → HasConfiguration all path config → FailsMerge {A = A} (Err (as_build r))
unread_fails {A} all path r config is has = reading_fails {A = A} (Err r) (only_fails (Some all) path {A = A} (Err r) r refl is all config refl has)

-- and it is refused for one cause
pub unread_cause : {A : Type 0} (all : Files) (path : List ℕ) (r cause : Refusal) → ConfigurationIsRefused all path r → IsDefinite cause → ConfigurationIsRefused all path cause → (◌≡◌ {A = Result A MergeRefusal} (Err (as_build r)) (Err (as_build cause))) ⊎ FailsMerge {A = A} (Err (as_build r))
unread_cause {A} all path r cause is definite also =
    ⊎_elim (λ same. inl (ap read_as same)) (λ fails. inr (reading_fails {A = A} (Err r) fails)) (came_before all path {A = A} r cause is definite also)

-- ---- a refusal that is passed on

inside : {A : Type 0} (a b : MergeRefusal) → ◌≡◌ {A = Result A MergeRefusal} (Err a) (Err b) → a ≡ b
inside a b same = cc

no_ok : {A : Type 0} (result : Result A MergeRefusal) (r : MergeRefusal) → result ≡ Err r → IsOk result → ⊥
no_ok (Ok x) r is ok = absurd (differ x r is)
  where
    differ : {A : Type 0} (x : A) (r : MergeRefusal) → ◌≡◌ {A = Result A MergeRefusal} (Ok x) (Err r) → ⊥
    differ x r same = cc
no_ok (Err e) r is ok = cc

module _ {A : Type 0} (B : Type 0) (result : Result A MergeRefusal) (r : MergeRefusal) (is : result ≡ Err r) where
  over : (x : MergeRefusal) → result ≡ Err x → ◌≡◌ {A = Result B MergeRefusal} (Err r) (Err x)
  over x same = ap (λ (y : MergeRefusal). Err y) (inside {A = A} r x (sym is ∙ same))

  fails_over : FailsMerge result → FailsMerge {A = B} (Err r)
  fails_over (inl same) = inl (over (as_build SourceFault) same)
  fails_over (inr (inl same)) = inr (inl (over (as_build StoreFault) same))
  fails_over (inr (inr (inl same))) = inr (inr (inl (over (as_build SpillFault) same)))
  fails_over (inr (inr (inr same))) = inr (inr (inr (over (as_build Memory) same)))

  -- parts that are ready are refused for a fault alone
  pub ready_over : IsOk result ⊎ FailsMerge result → IsOk {T = B} (Err r) ⊎ FailsMerge {A = B} (Err r)
  ready_over came = ⊎_elim (λ ok. absurd (no_ok result r is ok)) (λ fails. inr (fails_over fails)) came

  reports_over : (e : MergeRefusal) → ReportsMerge e result → ReportsMerge {A = B} e (Err r)
  reports_over (AsPart part) same = over (AsPart part) same
  reports_over HasCheckpoint same = over HasCheckpoint same
  reports_over (NoPart octants) same = over (NoPart octants) same
  reports_over (PartDiffers octants) same = over (PartDiffers octants) same
  reports_over (PartDamaged octants None) same = over (PartDamaged octants None) same
  reports_over (PartDamaged octants (Some key)) same = (same.0, same.1, over (PartDamaged same.0 (Some same.1)) same.2)

  pub comes_over : (e : MergeRefusal) → ReportsMerge e result ⊎ FailsMerge result → ReportsMerge {A = B} e (Err r) ⊎ FailsMerge {A = B} (Err r)
  comes_over e came = ⊎_elim (λ reports. inl (reports_over e reports)) (λ fails. inr (fails_over fails)) came

-- parts that are merged are refused for nothing
module _ {A : Type 0} (result : Result A MergeRefusal) (x : A) (is : result ≡ Ok x) where
  apart : (r : MergeRefusal) → result ≡ Err r → ⊥
  apart r same = differ (sym is ∙ same)
    where
      differ : ◌≡◌ {A = Result A MergeRefusal} (Ok x) (Err r) → ⊥
      differ wrong = cc

  never_fails : FailsMerge result → ⊥
  never_fails (inl same) = apart (as_build SourceFault) same
  never_fails (inr (inl same)) = apart (as_build StoreFault) same
  never_fails (inr (inr (inl same))) = apart (as_build SpillFault) same
  never_fails (inr (inr (inr same))) = apart (as_build Memory) same

  never_reports : (e : MergeRefusal) → ReportsMerge e result → ⊥
  never_reports (AsPart part) same = apart (AsPart part) same
  never_reports HasCheckpoint same = apart HasCheckpoint same
  never_reports (NoPart octants) same = apart (NoPart octants) same
  never_reports (PartDiffers octants) same = apart (PartDiffers octants) same
  never_reports (PartDamaged octants None) same = apart (PartDamaged octants None) same
  never_reports (PartDamaged octants (Some key)) same = apart (PartDamaged same.0 (Some same.1)) same.2

  pub never_comes : (e : MergeRefusal) → ReportsMerge e result ⊎ FailsMerge result → ⊥
  never_comes e came = ⊎_elim (λ reports. never_reports e reports) (λ fails. never_fails fails) came

-- ---- the build that follows

-- parts of these inputs and this configuration are sound
pub ready_sound : (all start : Files) (config : Config) (parts : List ℕ) → merging.AreOwnParts all config start parts → merging.AreSoundParts all start parts
ready_sound all start config parts own = λ k d lt opens. let part = own k d lt opens in (part.0, part.1, part.2)

-- what is kept continues from itself
as_kept : (kept : Kept) (f : Field) → IsAsKept kept kept f
as_kept kept field.Scale = refl
as_kept kept field.Offset = refl
as_kept kept field.Bounds = refl
as_kept kept field.Span = refl
as_kept kept field.MinNodeSize = refl
as_kept kept field.MaxDepth = refl
as_kept kept field.HierarchyStep = refl
as_kept kept field.Srs = refl
as_kept kept field.FirstClasses = refl
as_kept kept field.WithheldLast = refl
as_kept kept field.Input = ([], sym (append-nil kept.inputs))

given_bounds : (given : Option Bounds) (points : List Point) (bounds : Bounds) → AreBounds given points bounds → bounds ≡ bounds_or given bounds
given_bounds None points bounds are = refl
given_bounds (Some given) points bounds are = are

-- within the same bounds the rules are those of what is kept
same_rules : (config : Config) (done : ScanDone) (kept : Kept) → IsKeptOf config kept.bounds kept → done.bounds ≡ kept.bounds → rules_by config done ≡ rules_of kept
same_rules config done kept is bounds =
    let cube : cube_of done.bounds config.s config.max_depth ≡ cube_of kept.bounds kept.s kept.max_depth =
    ap (λ (b : Bounds). cube_of b config.s config.max_depth) bounds ∙ (ap (λ (k : ℕ). cube_of kept.bounds k config.max_depth) (sym is.s_is) ∙ ap (λ (k : ℕ). cube_of kept.bounds kept.s k) (sym is.max_depth_is)) in
    let threshold : config.threshold ≡ kept.threshold = sym is.threshold_is in
    let classes : config.first ≡ kept.first = sym is.first_is in
    let last : config.withheld_last ≡ kept.withheld_last = sym is.withheld_last_is in
    λ i. record { cube = cube i; threshold = threshold i; first = classes i; withheld_last = last i }

-- the inputs of the build that follows are accepted
module _ (all start between : Files) (config : Config) (parts : List ℕ) (merged : merging.HasMerged all config between) (ready : merging.AreReady all start config parts) where
  abbrev kept : Kept
  kept = merged.c.kept

  given : IsKeptOf config (bounds_or config.bounds kept.bounds) kept
  given = subst (λ (b : Bounds). IsKeptOf config b kept) (given_bounds config.bounds merged.points kept.bounds merged.scanned.bounds_are) merged.kept_is

  few : building.node_count kept merged.points ≤ config.max_nodes
  few =
      let found = ready.accepted in
      let points : found.0 ≡ merged.points = scan_once all config.scale config.bounds config.inputs 0 found.0 merged.points found.1 (found_by merged.c) found.2 merged.scanned in
      let within : AreBounds config.bounds merged.points found.1.bounds = subst (λ (w : List Point). AreBounds config.bounds w found.1.bounds) points found.2.bounds_are in
      let bounds : found.1.bounds ≡ kept.bounds = bounds_once config.bounds merged.points found.1.bounds kept.bounds found.3.2.bounds kept.has_bounds within merged.scanned.bounds_are in
      subst (λ (w : List Point). length (sampled (rules_of kept) w) ≤ config.max_nodes) points
      (subst (λ (r : Rules). length (sampled r found.0) ≤ config.max_nodes) (same_rules config found.1 kept merged.kept_is bounds) found.3.1)

  pub accepted_after : building.IsAccepted all config between
  accepted_after = record {
    current = Some (merged.letter, merged.c);
    has_current = merged.is_current;
    goes_on = (kept, given, λ k d lt. as_kept kept (get_or in_order k d));
    kept = kept;
    points = merged.points;
    has_points = record {
      done = found_by merged.c;
      scan = scan_kept all config.scale config.inputs config.bounds 0 merged.points (found_by merged.c) merged.scanned;
      kept_is = merged.kept_is;
    };
    few = few;
  }
