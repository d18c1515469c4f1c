use Rattle.std.proofs.Common.{arith, w64}
use Rattle.std.proofs.lemmas.Int.{to_z-of_z}
use Rattle.ept_num.proofs.DecimalLemmas.{written_negative, written_positive}
use Rattle.ept_num.proofs.decimals.write_signed.Goals as goal

pub returns-then-n-lt0-clause-written : goal.returns-then-n-lt0-clause-written
returns-then-n-lt0-clause-written c =
    written_negative c.args.n _ c.args.places c.unsigned_abs.result (to_z-of_z w64 c.args.n c.ranges.n) c.unsigned_abs.ensures.value c.if-n-lt0.true c.write_scaled-start.new.text c.write_scaled-start.result (omega arith) (omega arith) c.write_scaled-start.ensures.written

pub returns-clause-written : goal.returns-clause-written
returns-clause-written c =
    written_positive c.args.n _ c.args.places c.unsigned_abs.result (to_z-of_z w64 c.args.n c.ranges.n) c.unsigned_abs.ensures.value c.if-n-lt0.false c.write_scaled-start.new.text c.write_scaled-start.result c.write_scaled-start.ensures.written
