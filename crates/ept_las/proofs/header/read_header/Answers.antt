use Rattle.std.proofs.Common.{take}
use Rattle.ept_las.proofs.Faults.{sound_size, sound_format, sound_length}
use Rattle.ept_las.proofs.header.read_header.Goals as goal

pub points_of-requires-clause-whole : goal.points_of-requires-clause-whole
points_of-requires-clause-whole c =
    sound_size (take c.args.len c.args.bytes.now) c.args.expect c.in_default.ensures

pub returns-clause-format : goal.returns-clause-format
returns-clause-format c =
    sound_format (take c.args.len c.args.bytes.now) c.args.expect c.in_default.ensures

pub returns-clause-length : goal.returns-clause-length
returns-clause-length c =
    rw c.u16_at.ensures (sound_length (take c.args.len c.args.bytes.now) c.args.expect c.in_default.ensures)
