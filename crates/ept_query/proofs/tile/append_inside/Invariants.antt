use Rattle.ept_query.proofs.Runs.{HasCopied}
use Rattle.ept_query.proofs.tile.append_inside.Given as goal

abbrev pub invariant-loop-at : goal.invariant-loop-at
invariant-loop-at l = HasCopied l.area l.points l.initial.into.items l.into.items l.start l.at l.count
