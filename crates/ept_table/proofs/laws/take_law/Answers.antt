use Rattle.ept_table.proofs.Telling.{take-fits, lack-is-too-many, full-is-too-many}
use Rattle.ept_table.proofs.laws.take_law.Goals as goal

pub returns-clause-fits : goal.returns-clause-fits
returns-clause-fits c = λ told drawn items views i v k x h at a. take-fits told drawn items views i v h at k x a

pub returns-clause-lacks : goal.returns-clause-lacks
returns-clause-lacks c =
    λ told drawn items views i v d h at m zero. lack-is-too-many told drawn items views i v h at d m zero

pub returns-clause-full : goal.returns-clause-full
returns-clause-full c = full-is-too-many
