use Rattle.std.proofs.Common.{vec_len}
use Rattle.ept_work.proofs.victims.Victims.next_seen.Given as goal

abbrev pub decreases-loop-at : goal.decreases-loop-at
decreases-loop-at g l = vec_len l.self.slots
