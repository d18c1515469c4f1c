use Rattle.std.proofs.Common.{◌≡◌, ◌∙◌, ℕ, Result, Err, sym, arith}
use Rattle.std.proofs.lemmas.Result.{err_from_is_err_and}
use Rattle.ept_query.proofs.Told.{same-twice}
use Rattle.ept_query.specs.declared.query_error.QueryFile.TheVariants.{Tile}
use Rattle.ept_query.specs.declared.query_error.QueryError.{QueryError}
use Rattle.ept_query.specs.declared.query_error.QueryError.TheVariants.{Damaged}
use Rattle.ept_query.specs.Parts.{node_at}
use Rattle.ept_query.proofs.Written.{tiles-more, leaves-tiles, tiles-all, damaged-tile}
use Rattle.ept_query.proofs.writing.write_tiles.Goals as goal

pub returns-in_err-count-clause-leaves : goal.returns-in_err-count-clause-leaves
returns-in_err-count-clause-leaves g c =
    let p = err_from_is_err_and c.from_residual.result c.from_residual.ensures.1 in
    rw (p.1, p.2) (leaves-tiles c.args.sift.now c.args.plan.now c.loop-number.number (let end = c.len-number-end.ensures in let test = c.loop-number-test.true in omega (arith, end, test)) (g.T.Store.files c.args.store.now) (g.T.Store.files c.loop-number.store) c.loop-number.invariant.moves.reads (g.O.Sink.written c.args.out.now) (g.O.Sink.written c.loop-number.out) c.loop-number.total c.loop-number.invariant.written (g.O.Sink.written c.write_tile.new.out) c.in_err-count.field-0.0 c.in_err-count.ensures.leaves)

pub returns-in_err-count-clause-any_moment : goal.returns-in_err-count-clause-any_moment
returns-in_err-count-clause-any_moment g c =
    same-twice g.T.Store.files g.T.Store.may_leave g.T.Store.moment g.T.Store.image_since c.args.store.now c.loop-number.store c.write_tile.new.store c.loop-number.invariant.moves c.write_tile.ensures.any_moment

pub loop-number-preserved : goal.loop-number-preserved
loop-number-preserved g c = record {
  moves = same-twice g.T.Store.files g.T.Store.may_leave g.T.Store.moment g.T.Store.image_since c.args.store.now c.loop-number.store c.write_tile.new.store c.loop-number.invariant.moves c.write_tile.ensures.any_moment;
  store_later = (let a = c.loop-number.invariant.store_later in let b = c.write_tile.ensures.stores.later in omega (arith, a, b));
  sink_later = (let a = c.loop-number.invariant.sink_later in let b = c.write_tile.ensures.sinks.later in omega (arith, a, b));
  gets = (let a = c.loop-number.invariant.gets in let b = c.write_tile.ensures.gets in omega (arith, a, b));
  within = (let end = c.len-number-end.ensures in let test = c.loop-number-test.true in omega (arith, end, test));
  written = tiles-more c.args.sift.now c.args.plan.now c.loop-number.number (let end = c.len-number-end.ensures in let test = c.loop-number-test.true in omega (arith, end, test)) (g.T.Store.files c.args.store.now) (g.T.Store.files c.loop-number.store) c.loop-number.invariant.moves.reads (g.O.Sink.written c.args.out.now) (g.O.Sink.written c.loop-number.out) c.loop-number.total c.loop-number.invariant.written (g.O.Sink.written c.write_tile.new.out) c.in_ok-count.count c.saturating_add-total.result c.in_ok-count.ensures.written c.saturating_add-total.ensures;
}

pub returns-clause-written : goal.returns-clause-written
returns-clause-written g c =
    tiles-all c.args.sift.now c.args.plan.now c.loop-number.number c.loop-number.total (g.T.Store.files c.args.store.now) (g.O.Sink.written c.args.out.now) (g.O.Sink.written c.loop-number.out) (let end = c.len-number-end.ensures in let test = c.loop-number-test.false in omega (arith, end, test)) c.loop-number.invariant.written

one-error : (r : Result ℕ QueryError) (a b : QueryError) → r ≡ Err a → r ≡ Err b → a ≡ b
one-error r a b one two = cc

pub returns-in_err-count-clause-up_to : goal.returns-in_err-count-clause-up_to
returns-in_err-count-clause-up_to g c = λ key is.
    let p = err_from_is_err_and c.from_residual.result c.from_residual.ensures.1 in
    let error : c.in_err-count.field-0.0 ≡ Damaged (Tile key) = sym p.2 ∙ one-error c.from_residual.result p.0 (Damaged (Tile key)) p.1 is in record {
      number = c.loop-number.number;
      within = (let end = c.len-number-end.ensures in let test = c.loop-number-test.true in omega (arith, end, test));
      key_is = damaged-tile c.args.sift.now c.args.plan.now.area (node_at c.args.plan.now c.loop-number.number) (g.T.Store.files c.loop-number.store) (g.O.Sink.written c.loop-number.out) (g.O.Sink.written c.write_tile.new.out) c.in_err-count.field-0.0 key c.in_err-count.ensures.leaves error;
      few = (let a = c.loop-number.invariant.gets in let b = c.write_tile.ensures.gets in omega (arith, a, b));
    }
