use Rattle.ept_parts.proofs.Merged.{merged-sampled}
use Rattle.ept_parts.proofs.laws.merge_law.Goals as goal

pub returns : goal.returns
returns c = record { merged = merged-sampled }
