use Rattle.ept_grid.proofs.MaskLaws.{opened-set}
use Rattle.ept_grid.proofs.octants.with_open.Goals as goal

pub returns : goal.returns
returns c = opened-set c.args.mask c.args.octant c.requires
