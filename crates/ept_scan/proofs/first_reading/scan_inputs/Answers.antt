use Rattle.std.proofs.Common.{ℕ, take, List, [], ◌∷◌, ◌+◌, Result, Vec, Global, length, sym, ap, subst, arith, rules}
use Rattle.std.proofs.lemmas.Grind.{common_steps}
use Rattle.std.proofs.lemmas.Result.{err_from_is_err_and}
use Rattle.std.specs.Prelude.{IfErr}
use Rattle.std.proofs.lemmas.Option.{slice_get_within}
use Rattle.ept_base.specs.Files.{Tells}
use Rattle.ept_config.specs.declared.source_count.SourceCount.{SourceCount}
use Rattle.ept_scan.specs.declared.scan_error.ScanError.{ScanError}
use Rattle.ept_scan.specs.Scans.{ScanIsRefused}
use Rattle.ept_scan.specs.Found.{FindsLists}
use Rattle.ept_scan.proofs.Listing.{found_none, found_more, found_refused, found_at, refused_at}
use Rattle.ept_scan.specs.Scans.{Blames}
use Rattle.ept_scan.specs.Asking.{AsksFor, OpensThese, StopsAt, paths_from}
use Rattle.ept_scan.proofs.Asked.{HasAsked, asked_none, asked_more, asked_all, asked_front, asked_failed, paths_more, paths_none, stops_here}
use Rattle.ept_scan.proofs.Taking.{path_at, reads_none, reads_more, reads_last, reads_end}
use Rattle.ept_scan.proofs.first_reading.scan_inputs.Goals as goal

pub loop-index-init : goal.loop-index-init
loop-index-init g c = record {
  found = subst (λ (l : List SourceCount). FindsLists (g.H.Shelf.files c.args.shelf.now) c.args.config.now.scale c.args.limits c.args.config.now.inputs c.args.from c.args.from l) (sym c.new-counts.ensures.items)
      (found_none (g.H.Shelf.files c.args.shelf.now) c.args.config.now.scale c.args.limits c.args.config.now.inputs c.args.from);
  far = reads_none (g.H.Shelf.files c.args.shelf.now) c.args.config.now.scale c.args.limits c.args.config.now.inputs c.args.from (g.H.Shelf.given c.args.shelf.now);
  asked = asked_none (paths_from c.args.config.now.inputs c.args.from) (g.H.Shelf.asked c.args.shelf.now);
  files = search rules;
  later = search rules;
}

pub returns-in_err-count-clause-refused : goal.returns-in_err-count-clause-refused
returns-in_err-count-clause-refused g c =
    let p = err_from_is_err_and c.from_residual-in_err-count.result c.from_residual-in_err-count.ensures.1 in
    subst (λ (r : Result (Vec SourceCount Global) ScanError). IfErr r (λ e. Tells (λ all. ScanIsRefused all c.args.config.now.scale c.args.limits c.args.config.now.inputs c.args.from e) (g.H.Shelf.files c.args.shelf.now))) (sym p.1)
    (found_refused (g.H.Shelf.files c.args.shelf.now) c.args.config.now.scale c.args.limits c.args.config.now.inputs c.args.from c.loop-index.index c.input-input.result.now c.reading_of-reading.result c.input-input.ensures.input c.reading_of-reading.ensures
    c.loop-index.counts.items p.0 (slice_get_within c.args.config.now.inputs c.loop-index.index c.input-input.result.now c.input-input.ensures.input) c.loop-index.invariant.found
    (refused_at c.reading_of-reading.result c.in_err-count.field-0.0 p.0 (g.H.Shelf.files c.loop-index.shelf) (g.H.Shelf.files c.args.shelf.now) c.as_str.result.now c.input-input.result.now.path c.loop-index.invariant.files c.as_str.ensures p.2 c.in_err-count.ensures.refused))

pub loop-index-preserved : goal.loop-index-preserved
loop-index-preserved g c = record {
  found = subst (λ (l : List SourceCount). FindsLists (g.H.Shelf.files c.args.shelf.now) c.args.config.now.scale c.args.limits c.args.config.now.inputs c.args.from (c.loop-index.index + 1) l) (sym c.in_ok-push.ensures.items)
      (found_more (g.H.Shelf.files c.args.shelf.now) c.args.config.now.scale c.args.limits c.args.config.now.inputs c.args.from c.loop-index.index c.input-input.result.now c.reading_of-reading.result c.input-input.ensures.input c.reading_of-reading.ensures
      c.loop-index.counts.items c.in_ok-count.count c.loop-index.invariant.found
      (found_at c.reading_of-reading.result.limits c.reading_of-reading.result c.in_ok-count.count (g.H.Shelf.files c.loop-index.shelf) (g.H.Shelf.files c.args.shelf.now) c.as_str.result.now c.input-input.result.now.path c.loop-index.invariant.files c.as_str.ensures c.in_ok-count.ensures.count));
  far = reads_more (g.H.Shelf.files c.args.shelf.now) c.args.config.now.scale c.args.limits c.args.config.now.inputs c.args.from c.loop-index.index c.input-input.result.now c.reading_of-reading.result c.input-input.ensures.input c.reading_of-reading.ensures
      (g.H.Shelf.given c.args.shelf.now) (g.H.Shelf.given c.loop-index.shelf) (g.H.Shelf.given c.scan_path.new.shelf) c.in_ok-count.count c.loop-index.invariant.far
      (found_at c.reading_of-reading.result.limits c.reading_of-reading.result c.in_ok-count.count (g.H.Shelf.files c.loop-index.shelf) (g.H.Shelf.files c.args.shelf.now) c.as_str.result.now c.input-input.result.now.path c.loop-index.invariant.files c.as_str.ensures c.in_ok-count.ensures.count)
      (path_at c.reading_of-reading.result (g.H.Shelf.files c.loop-index.shelf) (g.H.Shelf.files c.args.shelf.now) c.as_str.result.now c.input-input.result.now.path (g.H.Shelf.given c.loop-index.shelf) (g.H.Shelf.given c.scan_path.new.shelf) c.loop-index.invariant.files c.as_str.ensures c.scan_path.ensures.far);
  asked = asked_more (paths_from c.args.config.now.inputs c.args.from) (c.input-input.result.now.path ∷ []) (paths_from c.args.config.now.inputs (c.loop-index.index + 1)) (g.H.Shelf.asked c.args.shelf.now) (g.H.Shelf.asked c.loop-index.shelf) (g.H.Shelf.asked c.scan_path.new.shelf)
      (subst (λ (l : List (List ℕ)). HasAsked (paths_from c.args.config.now.inputs c.args.from) l (g.H.Shelf.asked c.args.shelf.now) (g.H.Shelf.asked c.loop-index.shelf)) (paths_more c.args.config.now.inputs c.loop-index.index c.input-input.result.now c.input-input.ensures.input) c.loop-index.invariant.asked)
      (subst (λ (l : List ℕ). AsksFor (l ∷ []) (g.H.Shelf.asked c.loop-index.shelf) (g.H.Shelf.asked c.scan_path.new.shelf)) c.as_str.ensures c.in_ok-count.ensures.asked);
  files = grind (arith, common_steps);
  later = grind (arith, common_steps);
}

pub returns-in_err-window-clause-far : goal.returns-in_err-window-clause-far
returns-in_err-window-clause-far g c =
    reads_end (g.H.Shelf.files c.args.shelf.now) c.args.config.now.scale c.args.limits c.args.config.now.inputs c.args.from c.args.from (g.H.Shelf.given c.args.shelf.now) _ [] c.requires.from
    (found_none (g.H.Shelf.files c.args.shelf.now) c.args.config.now.scale c.args.limits c.args.config.now.inputs c.args.from)
    (reads_none (g.H.Shelf.files c.args.shelf.now) c.args.config.now.scale c.args.limits c.args.config.now.inputs c.args.from (g.H.Shelf.given c.args.shelf.now))

pub returns-in_err-count-clause-far : goal.returns-in_err-count-clause-far
returns-in_err-count-clause-far g c =
    reads_last (g.H.Shelf.files c.args.shelf.now) c.args.config.now.scale c.args.limits c.args.config.now.inputs c.args.from c.loop-index.index c.input-input.result.now c.reading_of-reading.result c.input-input.ensures.input c.reading_of-reading.ensures
    (g.H.Shelf.given c.args.shelf.now) (g.H.Shelf.given c.loop-index.shelf) (g.H.Shelf.given c.scan_path.new.shelf) c.loop-index.counts.items (slice_get_within c.args.config.now.inputs c.loop-index.index c.input-input.result.now c.input-input.ensures.input) c.loop-index.invariant.found c.loop-index.invariant.far
    (path_at c.reading_of-reading.result (g.H.Shelf.files c.loop-index.shelf) (g.H.Shelf.files c.args.shelf.now) c.as_str.result.now c.input-input.result.now.path (g.H.Shelf.given c.loop-index.shelf) (g.H.Shelf.given c.scan_path.new.shelf) c.loop-index.invariant.files c.as_str.ensures c.scan_path.ensures.far)

pub returns-in_err-push-clause-far : goal.returns-in_err-push-clause-far
returns-in_err-push-clause-far g c =
    reads_last (g.H.Shelf.files c.args.shelf.now) c.args.config.now.scale c.args.limits c.args.config.now.inputs c.args.from c.loop-index.index c.input-input.result.now c.reading_of-reading.result c.input-input.ensures.input c.reading_of-reading.ensures
    (g.H.Shelf.given c.args.shelf.now) (g.H.Shelf.given c.loop-index.shelf) (g.H.Shelf.given c.scan_path.new.shelf) c.loop-index.counts.items (slice_get_within c.args.config.now.inputs c.loop-index.index c.input-input.result.now c.input-input.ensures.input) c.loop-index.invariant.found c.loop-index.invariant.far
    (path_at c.reading_of-reading.result (g.H.Shelf.files c.loop-index.shelf) (g.H.Shelf.files c.args.shelf.now) c.as_str.result.now c.input-input.result.now.path (g.H.Shelf.given c.loop-index.shelf) (g.H.Shelf.given c.scan_path.new.shelf) c.loop-index.invariant.files c.as_str.ensures c.scan_path.ensures.far)

pub returns-clause-far : goal.returns-clause-far
returns-clause-far g c =
    reads_end (g.H.Shelf.files c.args.shelf.now) c.args.config.now.scale c.args.limits c.args.config.now.inputs c.args.from c.loop-index.index (g.H.Shelf.given c.args.shelf.now) (g.H.Shelf.given c.loop-index.shelf) c.loop-index.counts.items (omega (arith, ap length c.as_slice.ensures)) c.loop-index.invariant.found c.loop-index.invariant.far

-- what the shelf was asked for
pub returns-in_err-count-clause-asked : goal.returns-in_err-count-clause-asked
returns-in_err-count-clause-asked g c =
    let p = err_from_is_err_and c.from_residual-in_err-count.result c.from_residual-in_err-count.ensures.1 in
    let all : List (List ℕ) = paths_from c.args.config.now.inputs c.args.from in
    subst (λ (r : Result (Vec SourceCount Global) ScanError). OpensThese all r (g.H.Shelf.asked c.args.shelf.now) (g.H.Shelf.asked c.scan_path.new.shelf)) (sym p.1)
    (asked_failed all (c.input-input.result.now.path ∷ []) (paths_from c.args.config.now.inputs (c.loop-index.index + 1)) (g.H.Shelf.asked c.args.shelf.now) (g.H.Shelf.asked c.loop-index.shelf) (g.H.Shelf.asked c.scan_path.new.shelf)
    (subst (λ (l : List (List ℕ)). HasAsked all l (g.H.Shelf.asked c.args.shelf.now) (g.H.Shelf.asked c.loop-index.shelf)) (paths_more c.args.config.now.inputs c.loop-index.index c.input-input.result.now c.input-input.ensures.input) c.loop-index.invariant.asked)
    (subst (λ (l : List ℕ). (n : ℕ) × AsksFor (take n (l ∷ [])) (g.H.Shelf.asked c.loop-index.shelf) (g.H.Shelf.asked c.scan_path.new.shelf)) c.as_str.ensures c.in_err-count.ensures.asked))

pub returns-in_err-push-clause-asked : goal.returns-in_err-push-clause-asked
returns-in_err-push-clause-asked g c =
    let p = err_from_is_err_and c.from_residual-in_err-push.result c.from_residual-in_err-push.ensures.1 in
    let all : List (List ℕ) = paths_from c.args.config.now.inputs c.args.from in
    subst (λ (r : Result (Vec SourceCount Global) ScanError). OpensThese all r (g.H.Shelf.asked c.args.shelf.now) (g.H.Shelf.asked c.scan_path.new.shelf)) (sym p.1)
    (asked_front all (paths_from c.args.config.now.inputs (c.loop-index.index + 1)) (g.H.Shelf.asked c.args.shelf.now) (g.H.Shelf.asked c.scan_path.new.shelf)
    (asked_more all (c.input-input.result.now.path ∷ []) (paths_from c.args.config.now.inputs (c.loop-index.index + 1)) (g.H.Shelf.asked c.args.shelf.now) (g.H.Shelf.asked c.loop-index.shelf) (g.H.Shelf.asked c.scan_path.new.shelf)
    (subst (λ (l : List (List ℕ)). HasAsked all l (g.H.Shelf.asked c.args.shelf.now) (g.H.Shelf.asked c.loop-index.shelf)) (paths_more c.args.config.now.inputs c.loop-index.index c.input-input.result.now c.input-input.ensures.input) c.loop-index.invariant.asked)
    (subst (λ (l : List ℕ). AsksFor (l ∷ []) (g.H.Shelf.asked c.loop-index.shelf) (g.H.Shelf.asked c.scan_path.new.shelf)) c.as_str.ensures c.in_ok-count.ensures.asked)))

pub returns-clause-asked : goal.returns-clause-asked
returns-clause-asked g c =
    let all : List (List ℕ) = paths_from c.args.config.now.inputs c.args.from in
    asked_all all (g.H.Shelf.asked c.args.shelf.now) (g.H.Shelf.asked c.loop-index.shelf)
    (subst (λ (l : List (List ℕ)). HasAsked all l (g.H.Shelf.asked c.args.shelf.now) (g.H.Shelf.asked c.loop-index.shelf)) (paths_none c.args.config.now.inputs c.loop-index.index (omega (arith, ap length c.as_slice.ensures))) c.loop-index.invariant.asked)

pub returns-in_err-count-clause-stopped : goal.returns-in_err-count-clause-stopped
returns-in_err-count-clause-stopped g c =
    let p = err_from_is_err_and c.from_residual-in_err-count.result c.from_residual-in_err-count.ensures.1 in
    let inputs = c.args.config.now.inputs in
    let path : List ℕ = c.input-input.result.now.path in
    let opened : Blames c.in_err-count.field-0.0 (AsksFor (path ∷ []) (g.H.Shelf.asked c.loop-index.shelf) (g.H.Shelf.asked c.scan_path.new.shelf)) =
    subst (λ (l : List ℕ). Blames c.in_err-count.field-0.0 (AsksFor (l ∷ []) (g.H.Shelf.asked c.loop-index.shelf) (g.H.Shelf.asked c.scan_path.new.shelf))) c.as_str.ensures c.in_err-count.ensures.opened
    in
    subst (λ (r : Result (Vec SourceCount Global) ScanError). IfErr r (StopsAt c.args.config.now.inputs c.args.from (g.H.Shelf.asked c.args.shelf.now) (g.H.Shelf.asked c.scan_path.new.shelf))) (sym p.1)
    (subst (StopsAt c.args.config.now.inputs c.args.from (g.H.Shelf.asked c.args.shelf.now) (g.H.Shelf.asked c.scan_path.new.shelf)) (sym p.2)
    (stops_here inputs c.args.from c.loop-index.index c.input-input.result.now c.input-input.ensures.input (omega arith) (slice_get_within inputs c.loop-index.index c.input-input.result.now c.input-input.ensures.input) (g.H.Shelf.asked c.args.shelf.now) (g.H.Shelf.asked c.loop-index.shelf) (g.H.Shelf.asked c.scan_path.new.shelf) c.loop-index.invariant.asked
    c.reading_of-reading.result.origin c.in_err-count.field-0.0 c.reading_of-reading.ensures.origin_is c.in_err-count.ensures.named opened))

pub returns-in_err-window-clause-stopped : goal.returns-in_err-window-clause-stopped
returns-in_err-window-clause-stopped g c =
    let p = err_from_is_err_and c.from_residual.result c.from_residual.ensures.1 in
    subst (λ (r : Result (Vec SourceCount Global) ScanError). IfErr r (StopsAt c.args.config.now.inputs c.args.from (g.H.Shelf.asked c.args.shelf.now) (g.H.Shelf.asked c.args.shelf.now))) (sym p.1)
    (subst (StopsAt c.args.config.now.inputs c.args.from (g.H.Shelf.asked c.args.shelf.now) (g.H.Shelf.asked c.args.shelf.now)) (sym p.2) tt)

pub returns-in_err-push-clause-stopped : goal.returns-in_err-push-clause-stopped
returns-in_err-push-clause-stopped g c =
    let p = err_from_is_err_and c.from_residual-in_err-push.result c.from_residual-in_err-push.ensures.1 in
    subst (λ (r : Result (Vec SourceCount Global) ScanError). IfErr r (StopsAt c.args.config.now.inputs c.args.from (g.H.Shelf.asked c.args.shelf.now) (g.H.Shelf.asked c.scan_path.new.shelf))) (sym p.1)
    (subst (StopsAt c.args.config.now.inputs c.args.from (g.H.Shelf.asked c.args.shelf.now) (g.H.Shelf.asked c.scan_path.new.shelf)) (sym p.2) tt)
