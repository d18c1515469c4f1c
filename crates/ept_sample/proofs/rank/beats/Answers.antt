use Rattle.std.proofs.Common.{arith}
use Rattle.std.proofs.lemmas.Grind.{common_steps}
use Rattle.ept_sample.specs.Rank.{beats}
use Rattle.ept_sample.proofs.rank.beats.Goals as goal

pub returns-then-share_cell : goal.returns-then-share_cell
unfolding beats
returns-then-share_cell c = record { beats = grind (arith, common_steps) }

pub returns-else-share_cell : goal.returns-else-share_cell
unfolding beats
returns-else-share_cell c = record { beats = grind (arith, common_steps) }
