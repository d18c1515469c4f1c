use Rattle.ept_point.proofs.LayoutLaws.{packed_of_old, packed_in_one}
use Rattle.ept_point.proofs.laws.old_layout_law.Goals as goal

pub returns-clause-zeros : goal.returns-clause-zeros
returns-clause-zeros c = packed_of_old

pub returns-clause-once : goal.returns-clause-once
returns-clause-once c = packed_in_one
