use Rattle.std.proofs.Common.{refl}
use Rattle.ept_class.specs.ClassSet.{has_class}
use Rattle.ept_class.specs.NoClass.{no_bytes-set_bytes}
use Rattle.ept_class.proofs.Bits.{none-set, same_set}
use Rattle.ept_class.proofs.class_set.ClassSet.new.Goals as goal

pub invariant_of-result : goal.invariant_of-result
invariant_of-result c = record { set_bytes = no_bytes-set_bytes }

pub returns-clause-empty : goal.returns-clause-empty
unfolding has_class
returns-clause-empty c = none-set

pub returns-clause-value : goal.returns-clause-value
returns-clause-value c = same_set _ _ refl
