use Rattle.std.proofs.Common.{◌≡◌, ◌∙◌, sym, ap, subst}
use Rattle.std.specs.Prelude.{Err}
use Rattle.ept_base.specs.Files.{Tells}
use Rattle.ept_scan.specs.declared.scan_error.ScanError.{ScanError}
use Rattle.ept_scan.specs.declared.scan_error.ScanError.TheVariants as scan
use Rattle.ept_plan.specs.declared.error.PlanError.{PlanError}
use Rattle.ept_plan.specs.declared.error.PlanError.TheVariants.{Scan}
use Rattle.ept_part.specs.declared.error.PartError.{PartError}
use Rattle.ept_part.specs.declared.error.PartError.TheVariants.{SourceFault, StoreFault}
use Rattle.ept_part.specs.Making.{IsRefused}
use Rattle.ept_part.proofs.Planned.{has-points, refused-scan}
use Rattle.ept_part.proofs.Causes.{scan-no_store, scan-fault}
use Rattle.ept_part.proofs.making.plan_of.Goals as goal

pub returns-in-Ok-clause-plan : goal.returns-in-Ok-clause-plan
returns-in-Ok-clause-plan g c = c.in-Ok.ensures.found.is_plan

pub returns-in-Ok-clause-scan : goal.returns-in-Ok-clause-scan
returns-in-Ok-clause-scan g c = has-points (g.H.Shelf.files c.args.shelf.now) c.args.config.now c.in-Ok.plan c.in-Ok.ensures.found

pub returns-in-Err-Scan-clause-refused : goal.returns-in-Err-Scan-clause-refused
returns-in-Err-Scan-clause-refused g c = λ octants.
    let why = rw c.in-Err-Scan.field-0-is at c.in-Err-Scan.ensures.refused in
    subst (λ (e : PartError). Tells (λ all. IsRefused all c.args.config.now octants e) (g.H.Shelf.files c.args.shelf.now)) (sym c.from.ensures)
    (refused-scan (g.H.Shelf.files c.args.shelf.now) c.args.config.now octants c.in-Err-Scan.error why.0)

pub returns-in-Err-Scan-clause-no_store : goal.returns-in-Err-Scan-clause-no_store
returns-in-Err-Scan-clause-no_store g c = λ is.
    let told : c.from.result ≡ StoreFault = cc in
    scan-no_store c.in-Err-Scan.error (sym c.from.ensures ∙ told)

pub returns-in-Err-Scan-clause-cause : goal.returns-in-Err-Scan-clause-cause
returns-in-Err-Scan-clause-cause g c = record {
  later = c.first_plan.ensures.cause.later;
  failed = λ is. (
      let told : c.from.result ≡ SourceFault = cc in
      let e : c.in-Err-Scan.error ≡ scan.SourceFault = scan-fault c.in-Err-Scan.error (sym c.from.ensures ∙ told) in
      c.first_plan.ensures.cause.failed (c.in-Err-Scan.is ∙ (ap (λ (x : PlanError). Err x) c.in-Err-Scan.field-0-is ∙ ap (λ (x : ScanError). Err (Scan x)) e)));
}

pub unreachable-requires : goal.unreachable-requires
unreachable-requires g c = rw c.in-Err-Differs.field-0-is at c.in-Err-Differs.ensures.refused
