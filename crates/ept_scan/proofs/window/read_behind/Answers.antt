use Rattle.std.proofs.Common.{arith}
use Rattle.ept_scan.proofs.Windows.{read_on}
use Rattle.ept_scan.proofs.window.read_behind.Goals as goal

pub returns-then-kept-most-clause-ahead : goal.returns-then-kept-most-clause-ahead
returns-then-kept-most-clause-ahead g c =
    read_on c.args.buffer.now c.args.start c.args.end c.args.most c.in_ok-count.count c.copy_within.new.self c.read_full.new.into (g.S.Source.left c.args.source.now) (g.S.Source.left c.read_full.new.source)
    c.requires.order c.requires.within c.copy_within.ensures.after c.if-kept-most.true (omega arith) c.in_ok-count.ensures.ok
