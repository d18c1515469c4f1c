use Rattle.std.proofs.Common.{◌≡◌, ◌∙◌, ◌<◌, sym, ap, subst, arith}
use Rattle.std.specs.Prelude.{Err}
use Rattle.ept_base.specs.Files.{Tells}
use Rattle.ept_space.specs.declared.cube.Rules.{Rules}
use Rattle.ept_scan.specs.declared.scan_error.ScanError.{ScanError}
use Rattle.ept_scan.specs.declared.scan_error.ScanError.TheVariants as scan
use Rattle.ept_plan.specs.declared.error.PlanError.{PlanError}
use Rattle.ept_plan.specs.declared.error.PlanError.TheVariants.{Scan}
use Rattle.ept_merge.specs.declared.error.MergeError.{MergeError}
use Rattle.ept_merge.specs.declared.error.MergeError.TheVariants.{SourceFault, StoreFault}
use Rattle.ept_merge.specs.Steps.{IsPlanFault}
use Rattle.ept_merge.proofs.Opening.{has-points, refused-scan, scan-no_store, scan-fault, shallow-refused}
use Rattle.ept_merge.proofs.planning.plan_of.Goals as goal

pub returns-in-Err-Scan-clause-refused : goal.returns-in-Err-Scan-clause-refused
returns-in-Err-Scan-clause-refused g c =
    let why = rw c.in-Err-Scan.field-0-is at c.in-Err-Scan.ensures.refused in
    subst (λ (e : MergeError). Tells (λ all. IsPlanFault all c.args.config.now e) (g.H.Shelf.files c.args.shelf.now)) (sym c.from.ensures)
    (refused-scan (g.H.Shelf.files c.args.shelf.now) c.args.config.now c.in-Err-Scan.error why.0)

pub returns-in-Err-Scan-clause-no_store : goal.returns-in-Err-Scan-clause-no_store
returns-in-Err-Scan-clause-no_store g c = λ is.
    let told : c.from.result ≡ StoreFault = cc in
    scan-no_store c.in-Err-Scan.error (sym c.from.ensures ∙ told)

pub returns-in-Err-Scan-clause-cause : goal.returns-in-Err-Scan-clause-cause
returns-in-Err-Scan-clause-cause g c = record {
  later = c.first_plan.ensures.cause.later;
  failed = λ is. (
      let told : c.from.result ≡ SourceFault = cc in
      let e : c.in-Err-Scan.error ≡ scan.SourceFault = scan-fault c.in-Err-Scan.error (sym c.from.ensures ∙ told) in
      c.first_plan.ensures.cause.failed (c.in-Err-Scan.is ∙ (ap (λ (x : PlanError). Err x) c.in-Err-Scan.field-0-is ∙ ap (λ (x : ScanError). Err (Scan x)) e)));
}

pub unreachable-requires : goal.unreachable-requires
unreachable-requires g c = rw c.in-Err-Differs.field-0-is at c.in-Err-Differs.ensures.refused

pub returns-then-rules-eq0-clause-refused : goal.returns-then-rules-eq0-clause-refused
returns-then-rules-eq0-clause-refused g c =
    shallow-refused (g.H.Shelf.files c.args.shelf.now) c.args.config.now c.in-Ok.plan c.in-Ok.ensures.found.is_plan (has-points (g.H.Shelf.files c.args.shelf.now) c.args.config.now c.in-Ok.plan c.in-Ok.ensures.found)
    (subst (λ (r : Rules). r.cube.depth ≡ 0) c.rules_of-rules.ensures.value (sym (ap (λ (r : Rules). r.cube.depth) c.rules.view_is) ∙ c.if-rules-eq0.true))

pub returns-clause-plan : goal.returns-clause-plan
returns-clause-plan g c = c.in-Ok.ensures.found.is_plan

pub returns-clause-scan : goal.returns-clause-scan
returns-clause-scan g c = has-points (g.H.Shelf.files c.args.shelf.now) c.args.config.now c.in-Ok.plan c.in-Ok.ensures.found

pub returns-clause-deep : goal.returns-clause-deep
returns-clause-deep g c =
    subst (λ (r : Rules). 0 < r.cube.depth) c.rules_of-rules.ensures.value (let same : c.rules.inside.0.0.depth ≡ c.rules_of-rules.result.cube.depth = ap (λ (r : Rules). r.cube.depth) c.rules.view_is in omega (arith, c.if-rules-eq0.false, same))
