use Rattle.ept_point.proofs.Pieces.{number_of_one, some_is_number, none_is_more}
use Rattle.ept_point.proofs.packed.bounded_at.Goals as goal

pub returns-clause-number : goal.returns-clause-number
returns-clause-number c =
    some_is_number c.u8_at-number.result c.args.greatest c.then_some.result _ (number_of_one c.u8_at-number.result _ c.u8_at-number.type_inv c.u8_at-number.ensures) c.then_some.ensures

pub returns-clause-above : goal.returns-clause-above
returns-clause-above c =
    none_is_more c.u8_at-number.result c.args.greatest c.then_some.result _ (number_of_one c.u8_at-number.result _ c.u8_at-number.type_inv c.u8_at-number.ensures) c.then_some.ensures
