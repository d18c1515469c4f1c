use Rattle.std.proofs.Common.{ℕ, List, [], ◌∷◌, Option, Result, sym, subst}
use Rattle.std.proofs.lemmas.Result.{err_from_is_err_and}
use Rattle.ept_config.specs.declared.source_count.SourceCount.{SourceCount}
use Rattle.ept_scan.specs.declared.scan_error.ScanError.{ScanError}
use Rattle.ept_scan.specs.Asking.{AsksFor, OpensThese}
use Rattle.ept_scan.specs.Refusals.{NamesInput}
use Rattle.ept_scan.specs.Scans.{Blames}
use Rattle.ept_scan.proofs.Asked.{opens_one, opens_refused, names_none, blames_none, refused_blames}
use Rattle.std.specs.Prelude.{IfErr}
use Rattle.ept_scan.proofs.first_reading.scan_path.Goals as goal

pub returns-clause-asked : goal.returns-clause-asked
returns-clause-asked g c =
    opens_one c.args.path.now c.scan_file-found.result (g.H.Shelf.asked c.args.shelf.now) (g.H.Shelf.asked c.retire.new.self)
    (subst (λ (o : Option (List (List ℕ))). AsksFor (c.args.path.now ∷ []) (g.H.Shelf.asked c.args.shelf.now) o) (sym c.retire.ensures.asked) c.in_ok-source.ensures.asked)

pub returns-in_err-source-clause-asked : goal.returns-in_err-source-clause-asked
returns-in_err-source-clause-asked g c =
    let p = err_from_is_err_and c.from_residual.result c.from_residual.ensures.1 in
    subst (λ (r : Result SourceCount ScanError). OpensThese (c.args.path.now ∷ []) r (g.H.Shelf.asked c.args.shelf.now) (g.H.Shelf.asked c.open.new.self)) (sym p.1)
    (opens_refused (Unit {0}) c.args.path.now c.in_err-source.field-0.0 (g.H.Shelf.asked c.args.shelf.now) (g.H.Shelf.asked c.open.new.self) c.in_err-source.ensures.asked)

pub returns-clause-opened : goal.returns-clause-opened
returns-clause-opened g c =
    refused_blames c.scan_file-found.result (AsksFor (c.args.path.now ∷ []) (g.H.Shelf.asked c.args.shelf.now) (g.H.Shelf.asked c.retire.new.self))
    (subst (λ (o : Option (List (List ℕ))). AsksFor (c.args.path.now ∷ []) (g.H.Shelf.asked c.args.shelf.now) o) (sym c.retire.ensures.asked) c.in_ok-source.ensures.asked)

pub returns-in_err-source-clause-opened : goal.returns-in_err-source-clause-opened
returns-in_err-source-clause-opened g c =
    let p = err_from_is_err_and c.from_residual.result c.from_residual.ensures.1 in
    let fact : Type 0 = AsksFor (c.args.path.now ∷ []) (g.H.Shelf.asked c.args.shelf.now) (g.H.Shelf.asked c.open.new.self) in
    subst (λ (r : Result SourceCount ScanError). IfErr r (λ e. Blames e fact)) (sym p.1) (subst (λ (e : ScanError). Blames e fact) (sym p.2) (blames_none fact c.in_err-source.field-0.0))

pub returns-in_err-source-clause-named : goal.returns-in_err-source-clause-named
returns-in_err-source-clause-named g c =
    let p = err_from_is_err_and c.from_residual.result c.from_residual.ensures.1 in
    subst (λ (r : Result SourceCount ScanError). IfErr r (NamesInput c.args.reading.now.origin)) (sym p.1) (subst (NamesInput c.args.reading.now.origin) (sym p.2) (names_none c.args.reading.now.origin c.in_err-source.field-0.0))
