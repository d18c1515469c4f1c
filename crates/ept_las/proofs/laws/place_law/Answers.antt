use Rattle.ept_las.proofs.SomePoint.{place_has_point}
use Rattle.ept_las.proofs.laws.place_law.Goals as goal

pub returns : goal.returns
returns c = place_has_point
