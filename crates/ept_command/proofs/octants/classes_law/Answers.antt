use Rattle.std.proofs.Common.{Some, None, inl, refl}
use Rattle.ept_command.proofs.octants.classes_law.Goals as goal

pub returns : goal.returns
returns c = λ text numbers is. (
  record { classes = Some numbers; time = None; dims = c.all-dims.result },
  record { classes_are = is; time_is = refl; dims_are = inl (refl, c.all-dims.ensures.all) },
)
