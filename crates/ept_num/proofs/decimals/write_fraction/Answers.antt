use Rattle.std.proofs.Common.{arith}
use Rattle.ept_num.proofs.DecimalLemmas.{length-decimal_at, written_fraction}
use Rattle.ept_num.proofs.decimals.write_fraction.Goals as goal

-- how many digits are written
pub write_digits-start-requires : goal.write_digits-start-requires
write_digits-start-requires c =
    let e = length-decimal_at c.args.places c.args.fraction c.power_of_ten.result c.requires.most c.requires.fraction c.power_of_ten.ensures.value in
    (omega (arith, e), omega arith)

pub bounds-text-start : goal.bounds-text-start
bounds-text-start c =
    omega (arith, length-decimal_at c.args.places c.args.fraction c.power_of_ten.result c.requires.most c.requires.fraction c.power_of_ten.ensures.value)

pub returns-clause-start : goal.returns-clause-start
returns-clause-start c =
    omega (arith, length-decimal_at c.args.places c.args.fraction c.power_of_ten.result c.requires.most c.requires.fraction c.power_of_ten.ensures.value)

pub returns-clause-written : goal.returns-clause-written
returns-clause-written c =
    written_fraction c.args.places c.args.fraction c.power_of_ten.result c.requires.some c.requires.most c.requires.fraction c.power_of_ten.ensures.value c.args.text.now c.write_digits-start.new.buf c.write_digits-start.result (omega arith) (omega arith) c.write_digits-start.ensures.start c.write_digits-start.ensures.written
