use Rattle.std.proofs.Common.{◌≡◌, ◌∙◌, ℕ, ◌<◌, List, [], ◌∷◌, take, Result, ap, sym, subst, refl}
use Rattle.std.specs.Prelude.{Option, is_some}
use Rattle.std.proofs.lemmas.Result.{err_from_is_err_and}
use Rattle.ept_config.specs.declared.input.Input.{Input}
use Rattle.ept_scan.specs.declared.read_error.ReadError.{ReadError}
use Rattle.ept_scan.specs.Asking.{AsksFor, OpensThese, path_left}
use Rattle.ept_scan.proofs.Asked.{opens_refused, path_some}
use Rattle.ept_scan.proofs.Rereading.{one_input}
use Rattle.ept_base.specs.Devices.{Opens}
use Rattle.ept_space.specs.declared.bounds.Bounds.{Bounds}
use Rattle.ept_scan.specs.Opening.{AddsInput}
use Rattle.ept_scan.proofs.open.open_input.Goals as goal

pub returns-clause-adds : goal.returns-clause-adds
returns-clause-adds g c =
    subst (λ (e : Option Bounds). AddsInput g.S.Source.whole g.S.Source.left g.S.Source.given g.S.Source.faults (g.H.Shelf.files c.args.shelf.now) c.args.kept.now c.args.index c.args.count.points e c.args.parts.now.items c.push_reserved.new.self.items) (sym c.in-Some.is) (
      _,
      c.push_reserved.ensures.items,
      record {
        input = c.input-input.result.now;
        is = c.input-input.ensures.input;
        reads = c.reading_of-reading.ensures;
        points_are = refl;
        opens = subst (λ (l : List _). Opens (g.H.Shelf.files c.args.shelf.now) l (g.S.Source.whole c.in_ok-source.source) (g.S.Source.left c.in_ok-source.source)) c.as_str.ensures c.in_ok-source.ensures.opened;
        fresh = c.in_ok-source.ensures.fresh;
        unread = c.in_ok-source.ensures.unread;
      },
    )

pub returns-in_err-source-clause-asked : goal.returns-in_err-source-clause-asked
returns-in_err-source-clause-asked g c = λ input is.
    let p = err_from_is_err_and c.from_residual.result c.from_residual.ensures.1 in
    let one : c.input-input.result.now ≡ input = one_input c.args.kept.now.inputs c.args.index c.input-input.result.now input c.input-input.ensures.input is in
    let some : 0 < c.args.count.points = c.requires.sound.there.0 (ap is_some c.in-Some.is) in
    let path : c.as_str.result.now ∷ [] ≡ path_left input c.args.count 0 = ap (λ (l : List ℕ). l ∷ []) (c.as_str.ensures ∙ ap (λ (q : Input). q.path) one) ∙ sym (path_some input c.args.count 0 some) in
    subst (λ (r : Result (Unit {0}) ReadError). OpensThese (path_left input c.args.count 0) r (g.H.Shelf.asked c.args.shelf.now) (g.H.Shelf.asked c.open.new.self)) (sym p.1)
    (subst (λ (l : List (List ℕ)). (n : ℕ) × AsksFor (take n l) (g.H.Shelf.asked c.args.shelf.now) (g.H.Shelf.asked c.open.new.self)) path (opens_refused (Unit {0}) c.as_str.result.now c.in_err-source.field-0.0 (g.H.Shelf.asked c.args.shelf.now) (g.H.Shelf.asked c.open.new.self) c.in_err-source.ensures.asked))
