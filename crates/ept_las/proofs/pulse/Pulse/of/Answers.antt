use Rattle.std.proofs.Common.{arith}
use Rattle.ept_las.proofs.Formats.{least_length, least_extended}
use Rattle.ept_las.proofs.pulse.Pulse.of.Goals as goal

pub plain-requires : goal.plain-requires
plain-requires c = omega (arith, least_length c.args.format, c.requires.room)

pub extended-requires : goal.extended-requires
extended-requires c =
    omega (arith, least_extended c.args.format (omega arith), c.requires.room)
