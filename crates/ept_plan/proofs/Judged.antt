-- What a result means for each cause.
use Rattle.std.proofs.Common.{◌≡◌, ◌∙◌, ◌⊎◌, inl, inr, List, refl, ap, subst, Option, Some, None}
use Rattle.std.specs.Prelude.{◌≢◌, Result, Ok, Err, IsOk, IfOk, IfErr}
use Rattle.ept_base.specs.Files.{Files, Tells}
use Rattle.ept_point.specs.declared.point.Point.{Point}
use Rattle.ept_config.specs.declared.config.Config.{Config}
use Rattle.ept_scan.specs.declared.scan_done.ScanDone.{ScanDone}
use Rattle.ept_scan.specs.declared.scan_error.ScanError.{ScanError}
use Rattle.ept_scan.specs.declared.scan_error.ScanError.TheVariants as scan
use Rattle.ept_scan.specs.Scans.{Blames, IsScan}
use Rattle.ept_scan.proofs.OneScan.{scan_or_refusal}
use Rattle.ept_scan.proofs.OneRefusal.{one_refusal}
use Rattle.ept_save.specs.Current.{Current}
use Rattle.ept_config_diff.specs.declared.differing.Difference.{Difference}
use Rattle.ept_plan.specs.declared.error.PlanError.{PlanError}
use Rattle.ept_plan.specs.declared.error.PlanError.TheVariants.{Differs, Scan}
use Rattle.ept_plan.specs.declared.plan.Plan.{Plan}
use Rattle.ept_plan.specs.Plans.{inputs_by, limits_by, GoesOn, DiffersBy, IsPlan, ScansAll, AreRefused, IsRefused, IsDefinite, Stops, TellsDifference}
use Rattle.ept_plan.specs.Steps.{IsFound, WhyNot}
use Rattle.ept_plan.proofs.Fields.{not-both}
use Rattle.ept_plan.proofs.Scanned.{new-scanned, all-scanned}

-- a refusal is a fault, or running out of memory, or it blames the inputs
abbrev IsCause : ScanError → Type 1
IsCause f = (P : Type 0) → Blames f P → P

data Kind (f : ScanError) : Type 1 where
  of_fault : f ≡ scan.SourceFault → Kind f
  of_want : f ≡ scan.Memory → Kind f
  of_cause : IsCause f → Kind f

kind_of : (f : ScanError) → Kind f
kind_of scan.SourceFault = of_fault refl
kind_of scan.Memory = of_want refl
kind_of scan.NoBounds = of_cause (λ P p. p)
kind_of (scan.BadLas source fault) = of_cause (λ P p. p)
kind_of (scan.OutOfBounds source number) = of_cause (λ P p. p)
kind_of (scan.TooManyPoints source) = of_cause (λ P p. p)

-- a definite refusal blames the inputs
definite : (f : ScanError) → IsDefinite f → IsCause f
definite f is = elim (kind_of f) [
  | of_fault same ↦ absurd (is.0 same)
  | of_want same ↦ absurd (is.1 same)
  | of_cause blames ↦ blames
]

memory_or : (f : ScanError) → (f ≡ scan.Memory) ⊎ (f ≢ scan.Memory)
memory_or scan.Memory = inl refl
memory_or scan.SourceFault = inr (λ is. cc)
memory_or scan.NoBounds = inr (λ is. cc)
memory_or (scan.BadLas source fault) = inr (λ is. cc)
memory_or (scan.OutOfBounds source number) = inr (λ is. cc)
memory_or (scan.TooManyPoints source) = inr (λ is. cc)

on-or-differs : (config : Config) (current : Current) (d : Difference) → GoesOn config current → DiffersBy config current d → ⊥
on-or-differs config None d on differs = differs
on-or-differs config (Some (letter, c)) d on differs = not-both config c.kept on.0 differs.0 d on.1 on.2 differs.1 differs.2

module _ (config : Config) (current : Current) where
  pub is-plan : (files : Option Files) (r : Result Plan PlanError) → IfOk r (IsFound files config current) → IfOk r (IsPlan config current)
  is-plan files (Ok p) found = found.is_plan
  is-plan files (Err e) found = tt

  pub scans : (files : Option Files) (r : Result Plan PlanError) → IfOk r (IsFound files config current) → IfOk r (λ p. Tells (λ all. ScansAll all config current p) files)
  scans None (Ok p) found = tt
  scans (Some all) (Ok p) found = all-scanned all config current p found.more found.is_plan found.counts_are found.scan
  scans files (Err e) found = tt

  pub refused : (files : Option Files) (r : Result Plan PlanError) → IfErr r (WhyNot files config current) → IfErr r (λ e. Tells (λ all. IsRefused all config current e) files)
  refused files (Ok p) why = tt
  refused None (Err e) why = tt
  refused (Some all) (Err (Differs d)) why = why
  refused (Some all) (Err (Scan e)) why = why

  pub differs : (files : Option Files) (r : Result Plan PlanError) → IfErr r (WhyNot files config current) → (d : Difference) → r ≡ Err (Differs d) → DiffersBy config current d
  differs files r why d is = subst (λ (w : Result Plan PlanError). IfErr w (WhyNot files config current)) is why

  pub differs-comes : (files : Option Files) (r : Result Plan PlanError) → IfOk r (IsFound files config current) → IfErr r (WhyNot files config current) → ¬ GoesOn config current → TellsDifference r
  differs-comes files (Ok p) found why not = absurd (not found.is_plan.goes_on)
  differs-comes files (Err (Differs d)) found why not = inl (d, refl)
  differs-comes files (Err (Scan e)) found why not = elim (memory_or e) [
    | inl same ↦ inr (ap (λ (f : ScanError). Err (Scan f)) same)
    | inr other ↦ absurd (not (why.1 other))
  ]

  module _ (all : Files) where
    comes : (r : Result Plan PlanError) (f e : ScanError) → r ≡ Err (Scan f) → AreRefused all config current f → IsDefinite e → AreRefused all config current e → (r ≡ Err (Scan e)) ⊎ Stops r
    comes r f e is is_f is_definite is_e = elim (kind_of f) [
      | of_fault same ↦ inr (inl (is ∙ ap (λ (g : ScanError). Err (Scan g)) same))
      | of_want same ↦ inr (inr (is ∙ ap (λ (g : ScanError). Err (Scan g)) same))
      | of_cause blamed ↦
          let one : f ≡ e = definite e is_definite (f ≡ e) (blamed (Blames e (f ≡ e)) (one_refusal all config.scale (limits_by config.bounds current) config.inputs (inputs_by current) f e is_f is_e)) in
          inl (is ∙ ap (λ (g : ScanError). Err (Scan g)) one)
    ]

    stops : (r : Result Plan PlanError) (f : ScanError) (points : List Point) (done : ScanDone) → r ≡ Err (Scan f) → AreRefused all config current f → IsScan all config.scale (limits_by config.bounds current) config.inputs (inputs_by current) points done → Stops r
    stops r f points done is is_f scan = elim (kind_of f) [
      | of_fault same ↦ inl (is ∙ ap (λ (g : ScanError). Err (Scan g)) same)
      | of_want same ↦ inr (is ∙ ap (λ (g : ScanError). Err (Scan g)) same)
      | of_cause blamed ↦ absurd (blamed ⊥ (scan_or_refusal all config.scale (limits_by config.bounds current) config.inputs (inputs_by current) points done f scan is_f))
    ]

  pub refusal-comes : (files : Option Files) (r : Result Plan PlanError) → IfOk r (IsFound files config current) → IfErr r (WhyNot files config current)
      → Tells (λ all. (e : ScanError) → GoesOn config current → IsDefinite e → AreRefused all config current e → (r ≡ Err (Scan e)) ⊎ Stops r) files
  refusal-comes None r found why = tt
  refusal-comes (Some all) (Ok p) found why = λ e on is_definite is_e.
      absurd (definite e is_definite ⊥ (scan_or_refusal all config.scale (limits_by config.bounds current) config.inputs (inputs_by current) found.scan.0 _ e found.scan.1 is_e))
  refusal-comes (Some all) (Err (Differs d)) found why = λ e on is_definite is_e. absurd (on-or-differs config current d on why)
  refusal-comes (Some all) (Err (Scan f)) found why = λ e on is_definite is_e. comes all (Err (Scan f)) f e refl why.0 is_definite is_e

  pub accepted : (files : Option Files) (r : Result Plan PlanError) → IfErr r (WhyNot files config current)
      → Tells (λ all. (points : List Point) (done : ScanDone) → GoesOn config current → IsScan all config.scale (limits_by config.bounds current) config.inputs 0 points done → IsOk r ⊎ Stops r) files
  accepted None r why = tt
  accepted (Some all) (Ok p) why = λ points done on scan. inl refl
  accepted (Some all) (Err (Differs d)) why = λ points done on scan. absurd (on-or-differs config current d on why)
  accepted (Some all) (Err (Scan f)) why = λ points done on scan.
      let new = new-scanned all config current points done on scan in
      inr (stops all (Err (Scan f)) f new.0 new.1 refl why.0 new.2)
