use Rattle.ept_class.specs.ClassSet.{has_class}
use Rattle.ept_class.proofs.Bits.{read-member}
use Rattle.ept_class.proofs.class_set.ClassSet.contains.Goals as goal

pub returns : goal.returns
unfolding has_class
returns c = record { member = read-member c.args.self.now.bytes c.from.result c.args.class c.from.ensures }
