use Rattle.ept_tree.proofs.Sampled.{grown-sampled}
use Rattle.ept_tree.proofs.laws.sampled_law.Goals as goal

pub returns : goal.returns
returns c = record { grown = λ tree points first left taken split. grown-sampled tree.rules points first left tree.nodes.entries taken split }
