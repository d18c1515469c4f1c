use Rattle.std.proofs.Common.{ℕ, List, None, Result, drop, get_or, sym, subst, arith, rules}
use Rattle.std.proofs.lemmas.Result.{err_from_is_err_and}
use Rattle.ept_scan.specs.declared.read_error.ReadError.{ReadError}
use Rattle.std.proofs.lemmas.Grind.{common_steps}
use Rattle.std.specs.Prelude.{Option}
use Rattle.ept_base.specs.Files.{Files}
use Rattle.ept_config.specs.declared.source_count.SourceCount.{SourceCount}
use Rattle.ept_scan.specs.declared.part.Part.{Part}
use Rattle.ept_scan.specs.Opening.{HasOpened, AddsInput}
use Rattle.ept_scan.specs.Asking.{OpensThese, paths_left}
use Rattle.ept_scan.proofs.Asked.{HasAsked, asked_none, asked_all, left_step, left_failed, left_none}
use Rattle.ept_scan.proofs.Opened.{opened_none, opened_next}
use Rattle.ept_scan.proofs.open.open_parts.Goals as goal

pub loop-index-init : goal.loop-index-init
loop-index-init g c = record {
  opened = subst (λ (l : List (Part g.row.S.Denot)). HasOpened g.S.Source.whole g.S.Source.left g.S.Source.given g.S.Source.faults (g.H.Shelf.files c.args.shelf.now) c.args.kept.now c.args.counts.now c.args.from c.args.from l) (sym c.requires.none) (opened_none g.S.Source.whole g.S.Source.left g.S.Source.given g.S.Source.faults (g.H.Shelf.files c.args.shelf.now) c.args.kept.now c.args.counts.now c.requires.each c.args.from);
  asked = asked_none (paths_left (drop c.args.from c.args.kept.now.inputs) (drop c.args.from c.args.counts.now) 0) (g.H.Shelf.asked c.args.shelf.now);
  size = search rules;
  room = c.requires.room;
  files = search rules;
  later = search rules;
}

pub loop-index-preserved : goal.loop-index-preserved
loop-index-preserved g c =
    let d : SourceCount = record { points = 0; extent = None } in
    let count : SourceCount = get_or c.args.counts.now c.loop-index.index d in
    record {
      opened = opened_next g.S.Source.whole g.S.Source.left g.S.Source.given g.S.Source.faults (g.H.Shelf.files c.args.shelf.now) c.args.kept.now c.args.counts.now c.requires.each c.args.from c.loop-index.index d (omega arith) (omega arith) c.loop-index.parts.items c.loop-index.invariant.opened c.open_input.new.parts.items (c.requires.sound c.loop-index.index d (omega arith))
          (subst (λ (o : Option Files). AddsInput g.S.Source.whole g.S.Source.left g.S.Source.given g.S.Source.faults o c.args.kept.now c.loop-index.index count.points count.extent c.loop-index.parts.items c.open_input.new.parts.items) c.loop-index.invariant.files c.in_ok-open_input.ensures.adds);
      asked = left_step c.args.kept.now.inputs c.args.counts.now c.loop-index.index d (omega arith) (omega arith) (paths_left (drop c.args.from c.args.kept.now.inputs) (drop c.args.from c.args.counts.now) 0) (g.H.Shelf.asked c.args.shelf.now) (g.H.Shelf.asked c.loop-index.shelf) (g.H.Shelf.asked c.open_input.new.shelf) c.loop-index.invariant.asked c.in_ok-open_input.ensures.asked;
      size = grind (arith, common_steps);
      room = grind (arith, common_steps);
      files = grind (arith, common_steps);
      later = grind (arith, common_steps);
    }

pub returns-in_err-open_input-clause-asked : goal.returns-in_err-open_input-clause-asked
returns-in_err-open_input-clause-asked g c =
    let p = err_from_is_err_and c.from_residual.result c.from_residual.ensures.1 in
    let d : SourceCount = record { points = 0; extent = None } in
    let all : List (List ℕ) = paths_left (drop c.args.from c.args.kept.now.inputs) (drop c.args.from c.args.counts.now) 0 in
    subst (λ (r : Result (Unit {0}) ReadError). OpensThese all r (g.H.Shelf.asked c.args.shelf.now) (g.H.Shelf.asked c.open_input.new.shelf)) (sym p.1)
    (left_failed c.args.kept.now.inputs c.args.counts.now c.loop-index.index d (omega arith) (omega arith) all (g.H.Shelf.asked c.args.shelf.now) (g.H.Shelf.asked c.loop-index.shelf) (g.H.Shelf.asked c.open_input.new.shelf) c.loop-index.invariant.asked c.in_err-open_input.ensures.asked)

pub returns-clause-asked : goal.returns-clause-asked
returns-clause-asked g c =
    let all : List (List ℕ) = paths_left (drop c.args.from c.args.kept.now.inputs) (drop c.args.from c.args.counts.now) 0 in
    asked_all all (g.H.Shelf.asked c.args.shelf.now) (g.H.Shelf.asked c.loop-index.shelf)
    (subst (λ (l : List (List ℕ)). HasAsked all l (g.H.Shelf.asked c.args.shelf.now) (g.H.Shelf.asked c.loop-index.shelf)) (left_none c.args.kept.now.inputs c.args.counts.now c.loop-index.index (omega arith)) c.loop-index.invariant.asked)
