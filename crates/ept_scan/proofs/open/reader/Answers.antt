use Rattle.std.proofs.Common.{refl, ap, ◌-◌, ℕ, sym, subst, arith, length-take}
use Rattle.std.proofs.Common.{List, Option, Result, take}
use Rattle.std.proofs.lemmas.Result.{err_from_is_err_and}
use Rattle.ept_scan.specs.declared.read_error.ReadError.{ReadError}
use Rattle.ept_scan.specs.Asking.{AsksFor, OpensThese, paths_left}
use Rattle.ept_scan.proofs.Asked.{asked_none, asked_front, starts_paths}
use Rattle.ept_scan.specs.Opening.{StartsAt}
use Rattle.ept_scan.proofs.Begun.{begun_queue, begun_near, begun_given, begun_count, begun_files, begun_bytes, begun_rest}
use Rattle.ept_scan.proofs.open.reader.Goals as goal

pub returns-in-Ok-clause-far : goal.returns-in-Ok-clause-far
returns-in-Ok-clause-far g c = begun_near g.S.Source.whole g.S.Source.left g.S.Source.given g.S.Source.faults (g.H.Shelf.files c.args.shelf.now) c.args.kept.now c.args.counts.now c.args.drawn c.start_of-start.result.index (record { parts = c.open_parts.new.parts; at = 0; cursor = c.before-in-Ok.result; window = c.in_ok-window.window }) refl c.before-in-Ok.ensures.header (subst (StartsAt c.args.counts.now c.args.drawn c.start_of-start.result.index) (sym c.before-in-Ok.ensures.number) c.start_of-start.ensures) c.in-Ok.ensures.opened

pub returns-in-Ok-clause-rest : goal.returns-in-Ok-clause-rest
returns-in-Ok-clause-rest g c = begun_rest g.S.Source.whole g.S.Source.left g.S.Source.given g.S.Source.faults (g.H.Shelf.files c.args.shelf.now) c.args.kept.now c.args.counts.now c.args.drawn c.start_of-start.result.index (record { parts = c.open_parts.new.parts; at = 0; cursor = c.before-in-Ok.result; window = c.in_ok-window.window }) refl c.before-in-Ok.ensures.header (subst (StartsAt c.args.counts.now c.args.drawn c.start_of-start.result.index) (sym c.before-in-Ok.ensures.number) c.start_of-start.ensures) c.in-Ok.ensures.opened

pub returns-in-Ok-clause-reader : goal.returns-in-Ok-clause-reader
returns-in-Ok-clause-reader g c = record {
  stands = λ free. begun_queue g.S.Source.whole g.S.Source.left g.S.Source.given g.S.Source.faults (g.H.Shelf.files c.args.shelf.now) c.args.kept.now c.args.counts.now c.args.drawn c.start_of-start.result.index (record { parts = c.open_parts.new.parts; at = 0; cursor = c.before-in-Ok.result; window = c.in_ok-window.window }) refl c.before-in-Ok.ensures.header (subst (StartsAt c.args.counts.now c.args.drawn c.start_of-start.result.index) (sym c.before-in-Ok.ensures.number) c.start_of-start.ensures) c.in-Ok.ensures.opened;
  counts = λ free. begun_count g.S.Source.whole g.S.Source.left g.S.Source.given g.S.Source.faults (g.H.Shelf.files c.args.shelf.now) c.args.kept.now c.args.counts.now c.args.drawn c.start_of-start.result.index (record { parts = c.open_parts.new.parts; at = 0; cursor = c.before-in-Ok.result; window = c.in_ok-window.window }) refl c.before-in-Ok.ensures.header (subst (StartsAt c.args.counts.now c.args.drawn c.start_of-start.result.index) (sym c.before-in-Ok.ensures.number) c.start_of-start.ensures) c.in-Ok.ensures.opened _ c.requires.drawn (ap (λ (n : ℕ). n - c.args.drawn) c.total_of.ensures);
  rewound = λ k d lt. absurd (omega (arith, lt, length-take 0 c.open_parts.new.parts.items));
  fits = omega (arith, c.total_of.type_inv, c.total_of.ensures, c.requires.drawn);
  fault = λ wrong. cc;
  changed = λ source n wrong. cc;
  memory = λ wrong. cc;
}

pub returns-in-Ok-clause-inputs : goal.returns-in-Ok-clause-inputs
returns-in-Ok-clause-inputs g c =
    begun_files g.S.Source.whole g.S.Source.left g.S.Source.given g.S.Source.faults (g.H.Shelf.files c.args.shelf.now) c.args.kept.now c.args.counts.now c.args.drawn c.start_of-start.result.index (record { parts = c.open_parts.new.parts; at = 0; cursor = c.before-in-Ok.result; window = c.in_ok-window.window }) refl c.before-in-Ok.ensures.header (subst (StartsAt c.args.counts.now c.args.drawn c.start_of-start.result.index) (sym c.before-in-Ok.ensures.number) c.start_of-start.ensures) c.in-Ok.ensures.opened

-- what the shelf was asked for
pub returns-in_err-parts-clause-asked : goal.returns-in_err-parts-clause-asked
returns-in_err-parts-clause-asked g c =
    let p = err_from_is_err_and c.from_residual-in_err-parts.result c.from_residual-in_err-parts.ensures.1 in
    let all : List (List ℕ) = paths_left c.args.kept.now.inputs c.args.counts.now c.args.drawn in
    subst (λ (r : Result _ ReadError). OpensThese all r (g.H.Shelf.asked c.args.shelf.now) (g.H.Shelf.asked c.args.shelf.now)) (sym p.1) (asked_front all all (g.H.Shelf.asked c.args.shelf.now) (g.H.Shelf.asked c.args.shelf.now) (asked_none all (g.H.Shelf.asked c.args.shelf.now)))

pub returns-in-Ok-clause-asked : goal.returns-in-Ok-clause-asked
returns-in-Ok-clause-asked g c =
    let starts = c.start_of-start.ensures in
    let same = starts_paths c.args.kept.now.inputs c.args.counts.now c.args.drawn c.start_of-start.result.index c.start_of-start.result.number c.requires.each starts.passed starts.more in
    subst (λ (l : List (List ℕ)). AsksFor l (g.H.Shelf.asked c.args.shelf.now) (g.H.Shelf.asked c.open_parts.new.shelf)) (sym same) c.in-Ok.ensures.asked

pub returns-in-Err-clause-asked : goal.returns-in-Err-clause-asked
returns-in-Err-clause-asked g c =
    let starts = c.start_of-start.ensures in
    let same = starts_paths c.args.kept.now.inputs c.args.counts.now c.args.drawn c.start_of-start.result.index c.start_of-start.result.number c.requires.each starts.passed starts.more in
    let all : List (List ℕ) = paths_left c.args.kept.now.inputs c.args.counts.now c.args.drawn in
    subst (λ (o : Option (List (List ℕ))). (n : ℕ) × AsksFor (take n all) (g.H.Shelf.asked c.args.shelf.now) o) (sym c.retire_parts.ensures.asked)
    (subst (λ (l : List (List ℕ)). (n : ℕ) × AsksFor (take n l) (g.H.Shelf.asked c.args.shelf.now) (g.H.Shelf.asked c.open_parts.new.shelf)) (sym same) c.in-Err.ensures.asked)

pub returns-in-Ok-clause-given : goal.returns-in-Ok-clause-given
returns-in-Ok-clause-given g c =
    begun_given g.S.Source.whole g.S.Source.left g.S.Source.given g.S.Source.faults (g.H.Shelf.files c.args.shelf.now) c.args.kept.now c.args.counts.now c.args.drawn c.start_of-start.result.index (record { parts = c.open_parts.new.parts; at = 0; cursor = c.before-in-Ok.result; window = c.in_ok-window.window }) refl c.before-in-Ok.ensures.header (subst (StartsAt c.args.counts.now c.args.drawn c.start_of-start.result.index) (sym c.before-in-Ok.ensures.number) c.start_of-start.ensures) c.in-Ok.ensures.opened

pub returns-in-Ok-clause-bytes : goal.returns-in-Ok-clause-bytes
returns-in-Ok-clause-bytes g c =
    begun_bytes g.S.Source.whole g.S.Source.left g.S.Source.given g.S.Source.faults (g.H.Shelf.files c.args.shelf.now) c.args.kept.now c.args.counts.now c.args.drawn c.start_of-start.result.index (record { parts = c.open_parts.new.parts; at = 0; cursor = c.before-in-Ok.result; window = c.in_ok-window.window }) refl c.before-in-Ok.ensures.header (subst (StartsAt c.args.counts.now c.args.drawn c.start_of-start.result.index) (sym c.before-in-Ok.ensures.number) c.start_of-start.ensures) c.in-Ok.ensures.opened
