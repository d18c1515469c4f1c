use Rattle.std.proofs.Common.{◌≡◌, List, length, subst, rules}
use Rattle.std.specs.Prelude.{Err}
use Rattle.ept_config.specs.declared.input.Input.{Input}
use Rattle.ept_scan.specs.declared.scan_error.ScanError.TheVariants.{Memory}
use Rattle.ept_scan.specs.Asking.{AsksFor, paths_from}
use Rattle.ept_plan.proofs.Told.{refused-last}
use Rattle.ept_plan.proofs.new_inputs.all_counts.Goals as goal

pub returns-in_err-counts-clause-asked : goal.returns-in_err-counts-clause-asked
returns-in_err-counts-clause-asked g c =
    let is : c.from_residual-in_err-counts.result ≡ Err Memory = search rules in
    refused-last (paths_from c.args.config.now.inputs _) _ _ c.from_residual-in_err-counts.result _ is
    (subst (λ (l : List Input). AsksFor (paths_from c.args.config.now.inputs (length l)) (g.H.Shelf.asked c.args.shelf.now) (g.H.Shelf.asked c.scan.new.shelf)) c.as_slice.ensures c.in_ok-done.ensures.asked)
