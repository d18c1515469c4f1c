use Rattle.ept_work.proofs.Ascending.{IsUpTo}
use Rattle.ept_work.proofs.victims.look_through.Given as goal

abbrev pub invariant-loop-before : goal.invariant-loop-before
invariant-loop-before g l = IsUpTo l.slots.items l.before
