use Rattle.ept_point.proofs.TileLaws.{reads_once}
use Rattle.ept_point.proofs.laws.tile_once_law.Goals as goal

pub returns : goal.returns
returns c = record { once = reads_once }
