use Rattle.ept_table.proofs.Seating.{split-keeps, join-keeps}
use Rattle.ept_table.proofs.laws.seat_law.Goals as goal

pub returns-clause-split : goal.returns-clause-split
returns-clause-split c = split-keeps

pub returns-clause-join : goal.returns-clause-join
returns-clause-join c =
    λ told drawn items views i j v w spent h at other apart parts free landed ended. join-keeps told drawn items views h i j v w spent at other apart parts free landed ended
