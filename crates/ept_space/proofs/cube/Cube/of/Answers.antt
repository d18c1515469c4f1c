use Rattle.std.proofs.Common.{arith, refl}
use Rattle.ept_space.proofs.cube.Cube.of.Goals as goal

pub returns-clause-exists : goal.returns-clause-exists
returns-clause-exists c =
    ((λ _. record { span_low = omega arith; span_high = omega arith; shallow = omega arith; ordered = c.if-not-has_place.ensures.0 refl }), (λ _. refl))
