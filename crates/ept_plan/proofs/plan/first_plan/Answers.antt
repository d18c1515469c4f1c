use Rattle.std.proofs.Common.{◌≡◌, sym, subst, rules, List, None}
use Rattle.std.specs.Prelude.{Result, Err, IfErr, All}
use Rattle.ept_base.specs.Files.{Files}
use Rattle.ept_space.specs.declared.bounds.Bounds.{Bounds}
use Rattle.ept_config.specs.declared.source_count.SourceCount.{SourceCount}
use Rattle.ept_config.specs.Counts.{IsCount}
use Rattle.ept_ckpt.specs.Valid.{ExtentInRange}
use Rattle.ept_scan.specs.declared.scan_error.ScanError.TheVariants as scan
use Rattle.ept_plan.specs.declared.error.PlanError.{PlanError}
use Rattle.ept_plan.specs.declared.error.PlanError.TheVariants.{Scan}
use Rattle.ept_plan.specs.declared.plan.Plan.{Plan}
use Rattle.ept_plan.specs.Plans.{AreRefused, new_paths}
use Rattle.ept_plan.specs.Steps.{WhyNot}
use Rattle.ept_plan.proofs.Steps.{first-found}
use Rattle.ept_plan.proofs.Told.{tells-always, refused-behind, refused-last}
use Rattle.ept_plan.proofs.plan.first_plan.Goals as goal

pub returns-in_err-done-clause-refused : goal.returns-in_err-done-clause-refused
returns-in_err-done-clause-refused g c =
    let files = g.H.Shelf.files c.args.shelf.now in
    let is : c.from_residual.result ≡ Err (Scan c.in_err-done.field-0.0) = search rules in
    subst (λ (r : Result Plan PlanError). IfErr r (WhyNot files c.args.config.now None)) (sym is) (c.in_err-done.ensures.refused, λ other. tt)

pub returns-in_err-done-clause-asked : goal.returns-in_err-done-clause-asked
returns-in_err-done-clause-asked g c =
    let is : c.from_residual.result ≡ Err (Scan c.in_err-done.field-0.0) = search rules in
    refused-behind (new_paths c.args.config.now None) _ _ c.from_residual.result _ is c.in_err-done.ensures.asked

pub returns-in_err-kept-clause-refused : goal.returns-in_err-kept-clause-refused
returns-in_err-kept-clause-refused g c =
    let files = g.H.Shelf.files c.args.shelf.now in
    let is : c.from_residual-in_err-kept.result ≡ Err (Scan scan.Memory) = search rules in
    subst (λ (r : Result Plan PlanError). IfErr r (WhyNot files c.args.config.now None)) (sym is) (tells-always (λ (all : Files). AreRefused all c.args.config.now None scan.Memory) (λ all. tt) files, λ other. tt)

pub returns-in_err-kept-clause-asked : goal.returns-in_err-kept-clause-asked
returns-in_err-kept-clause-asked g c =
    let is : c.from_residual-in_err-kept.result ≡ Err (Scan scan.Memory) = search rules in
    refused-last (new_paths c.args.config.now None) _ _ c.from_residual-in_err-kept.result _ is c.in_ok-done.ensures.asked

pub extents_known-requires : goal.extents_known-requires
extents_known-requires g c =
    subst (λ (l : List SourceCount). All (IsCount c.in_ok-kept.kept.bounds) l) (sym c.as_slice.ensures)
    (subst (λ (b : Bounds). All (IsCount b) c.in_ok-done.done.counts) (sym c.in_ok-kept.ensures.kept.bounds_is) c.in_ok-done.ensures.sound)

pub returns-clause-found : goal.returns-clause-found
returns-clause-found g c =
    first-found (g.H.Shelf.files c.args.shelf.now) c.args.config.now c.in_ok-done.done _ c.in_ok-kept.ensures.kept (search rules) c.in_ok-done.ensures.sound (subst (All ExtentInRange) c.as_slice.ensures c.extents_known.ensures) c.in_ok-done.ensures.scan (search rules) (search rules) (search rules)
