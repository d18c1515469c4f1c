use Rattle.std.proofs.lemmas.Result.{err_from_is_err_and}
use Rattle.ept_query.specs.Parts.{node_at, points_in}
use Rattle.ept_query.proofs.Written.{writes-some, writes-all}
use Rattle.ept_query.proofs.writing.write_tile.Goals as goal

pub trim-requires : goal.trim-requires
trim-requires g c = (points_in c.args.plan.now.area c.in_ok-count.ensures.part.points, c.in_ok-count.ensures.part.bytes_are)

pub returns-in_err-write_full-clause-leaves : goal.returns-in_err-write_full-clause-leaves
returns-in_err-write_full-clause-leaves g c =
    let p = err_from_is_err_and c.from_residual-in_err-write_full.result c.from_residual-in_err-write_full.ensures.1 in
    rw (p.1, p.2) (writes-some c.args.sift.now c.args.plan.now.area (node_at c.args.plan.now c.args.number) c.query_tile.new.into.items c.trim.new.part.items c.deref.result.now c.in_ok-count.count (g.T.Store.files c.args.store.now) (g.O.Sink.written c.args.out.now) (g.O.Sink.written c.write_full.new.out) c.in_ok-count.ensures.part c.in_ok-count-2.ensures.kept c.deref.ensures.value c.in_err-write_full.ensures.failed)

pub returns-clause-written : goal.returns-clause-written
returns-clause-written g c =
    writes-all c.args.sift.now c.args.plan.now.area (node_at c.args.plan.now c.args.number) c.query_tile.new.into.items c.trim.new.part.items c.deref.result.now c.in_ok-count.count c.in_ok-count-2.count (g.T.Store.files c.args.store.now) (g.O.Sink.written c.args.out.now) (g.O.Sink.written c.write_full.new.out) c.in_ok-count.ensures.part c.in_ok-count-2.ensures.kept c.in_ok-count-2.ensures.number c.deref.ensures.value c.in_ok-write_full.ensures.ok
