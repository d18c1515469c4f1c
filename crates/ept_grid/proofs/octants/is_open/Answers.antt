use Rattle.ept_grid.proofs.MaskLaws.{opened-shift}
use Rattle.ept_grid.proofs.octants.is_open.Goals as goal

pub returns : goal.returns
returns c = opened-shift c.args.mask c.args.octant
