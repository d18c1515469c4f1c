use Rattle.ept_table.proofs.Arrival.{arrival-keeps}
use Rattle.ept_table.proofs.laws.arrival_law.Goals as goal

pub returns : goal.returns
returns c = arrival-keeps
