use Rattle.std.proofs.Common.{arith}
use Rattle.std.proofs.lemmas.Result.{err_from_is_err_and}
use Rattle.ept_base.proofs.Runs.{written_more, written_prefix}
use Rattle.std.proofs.lemmas.Grind.{common_steps}
use Rattle.ept_base.proofs.loops.write_full.Goals as goal

pub returns-in_err-count-clause-failed : goal.returns-in_err-count-clause-failed
returns-in_err-count-clause-failed g c =
    let p = err_from_is_err_and c.from_residual.result c.from_residual.ensures.1 in
    rw p.1 (written_prefix _ (g.O.Sink.written c.loop-rest.out) _ _ _ c.in_err-count.ensures.unchanged c.loop-rest.invariant.written)

pub loop-rest-preserved : goal.loop-rest-preserved
loop-rest-preserved g c =
    record {
      written = rw c.split_at.ensures.back (written_more _ (g.O.Sink.written c.loop-rest.out) _ _ _ c.in_ok-count.count c.loop-rest.invariant.written c.in_ok-count.ensures.bytes);
      later = grind (arith, common_steps);
    }
