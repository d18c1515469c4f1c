use Rattle.std.proofs.Common.{refl}
use Rattle.ept_class.specs.ClassSet.{has_member}
use Rattle.ept_space.specs.Group.{group_of}
use Rattle.ept_space.proofs.laws.group_law.Goals as goal

pub returns-clause-zero : goal.returns-clause-zero
unfolding group_of
returns-clause-zero c = λ rules class flags none. rw (none.0, none.1) refl

pub returns-clause-plain : goal.returns-clause-plain
unfolding has_member
returns-clause-plain c = λ cube threshold. (refl, refl)
