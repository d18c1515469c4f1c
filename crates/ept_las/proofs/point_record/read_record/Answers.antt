use Rattle.std.proofs.Common.{arith}
use Rattle.ept_las.proofs.Formats.{least_length}
use Rattle.ept_las.proofs.RecordLaws.{identity_in_units}
use Rattle.ept_las.proofs.point_record.read_record.Goals as goal

pub read_place-requires : goal.read_place-requires
read_place-requires c = omega (arith, least_length c.args.format, c.requires.room)

pub u16_at-requires : goal.u16_at-requires
u16_at-requires c = omega (arith, least_length c.args.format, c.requires.room)

pub bounds-bytes-17 : goal.bounds-bytes-17
bounds-bytes-17 c = omega (arith, least_length c.args.format, c.requires.room)

pub returns-in_err-place-clause-identity : goal.returns-in_err-place-clause-identity
returns-in_err-place-clause-identity c =
    λ plain. absurd (identity_in_units c.args.shift.now c.args.bytes.now (λ i. omega (arith, c.type_inv.bytes i)) plain c.in_err-place.ensures)
