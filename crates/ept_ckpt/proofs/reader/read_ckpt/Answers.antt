use Rattle.std.proofs.Common.{arith}
use Rattle.ept_ckpt.proofs.BothWays.{is_body, comes_back}
use Rattle.ept_ckpt.proofs.reader.read_ckpt.Goals as goal

pub returns-clause-read : goal.returns-clause-read
returns-clause-read c = is_body c.args.bytes.now c.read.result (λ i. omega (arith, c.type_inv.bytes i)) c.read.ensures.read

pub returns-clause-comes : goal.returns-clause-comes
returns-clause-comes c = λ kept is. comes_back c.args.bytes.now kept is c.read.result c.read.ensures.read c.read.ensures.refused
