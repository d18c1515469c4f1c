use Rattle.ept_point.proofs.TileLaws.{length-tile_in}
use Rattle.ept_point.proofs.laws.tile_length_law.Goals as goal

pub returns : goal.returns
returns c = record { length = length-tile_in }
