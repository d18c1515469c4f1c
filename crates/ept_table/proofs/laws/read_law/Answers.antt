use Rattle.ept_table.proofs.ReaderBack.{read-keeps}
use Rattle.ept_table.proofs.laws.read_law.Goals as goal

pub returns : goal.returns
returns c = read-keeps
