use Rattle.std.proofs.Common.{arith}
use Rattle.ept_class.specs.ClassSet.{has_class}
use Rattle.ept_class.proofs.Bits.{inserted}
use Rattle.ept_class.proofs.class_set.ClassSet.insert.Goals as goal

pub returns : goal.returns
unfolding has_class
returns c = record { members = λ other. rw c.from.ensures (inserted c.args.self.now.bytes c.args.class other (omega (arith, c.args.self.now.set_bytes.len, c.ranges.class))) }
