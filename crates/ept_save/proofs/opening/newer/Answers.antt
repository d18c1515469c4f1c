use Rattle.std.proofs.Common.{arith}
use Rattle.ept_save.proofs.Newer.{newer_a, newer_b}
use Rattle.ept_save.proofs.opening.newer.Goals as goal

pub returns-then-a-b-2-clause-current : goal.returns-then-a-b-2-clause-current
returns-then-a-b-2-clause-current c = λ files found other. newer_a files c.args.a c.args.b (omega (arith, c.if-a-b-2.true)) found other

pub returns-else-a-b-2-clause-current : goal.returns-else-a-b-2-clause-current
returns-else-a-b-2-clause-current c = λ files other found. newer_b files c.args.a c.args.b (omega (arith, c.if-a-b.false, c.if-a-b-2.false)) other found
