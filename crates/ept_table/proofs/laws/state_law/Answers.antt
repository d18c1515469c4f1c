use Rattle.ept_table.proofs.Telling.{state-keeps-law}
use Rattle.ept_table.proofs.laws.state_law.Goals as goal

pub returns : goal.returns
returns c =
    λ told drawn items views i v h locks at tells. state-keeps-law told drawn items views i v h at locks tells
