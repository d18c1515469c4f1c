use Rattle.std.proofs.Common.{arith, rules}
use Rattle.ept_work.proofs.Forks.{may-low, may-high, forked}
use Rattle.ept_work.proofs.inserting.+fn-work_all-join+arg2+fn-work_all-join+arg3+work_all.Goals as goal

pub join-left-requires-after_bounds : goal.join-left-requires-after_bounds
join-left-requires-after_bounds g t c =
    let low = may-low g.F.SpillFile.held g.J.Scan.told g.S.Source.whole c.args.table.now c.args.seat c.args.first c.args.workers c.requires c.if-workers-eq1.false c.split-other.new.seat c.split-other.ensures.seat c.split-other.ensures.left in
    let high = may-high g.F.SpillFile.held g.J.Scan.told g.S.Source.whole c.args.table.now c.args.seat c.args.first c.args.workers c.requires c.if-workers-eq1.false c.split-other.result c.split-other.ensures.new_seat c.split-other.ensures.right in
    λ κs b. ((omega arith, ((λ a m. m), ((λ a m. m), ((λ a m. m), ((λ a m. m), ((λ a m. m), (low, search rules))))))), (omega arith, ((λ a m. m), ((λ a m. m), ((λ a m. m), ((λ a m. m), ((λ a m. m), (high, search rules))))))))

pub both-requires-clause-lower : goal.both-requires-clause-lower
both-requires-clause-lower g t c = c.join-left.ensures.first.is_seat

pub both-requires-clause-higher : goal.both-requires-clause-higher
both-requires-clause-higher g t c = c.join-left.ensures.second.is_seat

pub both-requires-clause-share : goal.both-requires-clause-share
both-requires-clause-share g t c = c.join-left.ensures.first.ends.idle.share

pub both-requires-clause-idle : goal.both-requires-clause-idle
both-requires-clause-idle g t c = c.join-left.ensures.second.ends.idle.free

pub both-requires-clause-landed : goal.both-requires-clause-landed
both-requires-clause-landed g t c = c.join-left.ensures.second.ends.landed

pub returns : goal.returns
returns g t c =
    forked g.F.SpillFile.held g.J.Scan.told g.S.Source.whole c.args.table.now c.args.seat c.args.first c.args.workers c.requires c.if-workers-eq1.false c.split-other.new.seat c.split-other.result c.join-left.result.0 c.join-left.result.1 c.both.result c.split-other.ensures.left c.split-other.ensures.right c.join-left.ensures.first c.join-left.ensures.second c.both.ensures.seat c.both.ensures.both c.both.ensures.result
