use Rattle.std.proofs.Common.{arith}
use Rattle.ept_num.proofs.DecimalLemmas.{length-whole_at, length-number}
use Rattle.ept_num.proofs.decimals.write_scaled.Goals as goal

pub write_digits-requires : goal.write_digits-requires
write_digits-requires c = (omega (arith, length-number c.args.magnitude c.ranges.magnitude.fits), omega arith)

pub returns-then-places-eq0-clause-above : goal.returns-then-places-eq0-clause-above
returns-then-places-eq0-clause-above c = omega (arith, length-number c.args.magnitude c.ranges.magnitude.fits)

pub write_digits-requires-2 : goal.write_digits-requires-2
write_digits-requires-2 c =
    let e = length-whole_at c.args.magnitude c.args.places c.power_of_ten-unit.result c.requires c.ranges.magnitude.fits c.power_of_ten-unit.ensures.value in
    (omega (arith, e), omega arith)

pub returns-clause-above : goal.returns-clause-above
returns-clause-above c =
    omega (arith, length-whole_at c.args.magnitude c.args.places c.power_of_ten-unit.result c.requires c.ranges.magnitude.fits c.power_of_ten-unit.ensures.value)
