use Rattle.ept_work.proofs.Opened.{opened-shift}
use Rattle.ept_work.proofs.opening.is_open.Goals as goal

pub returns : goal.returns
returns c = opened-shift c.args.mask c.args.octant
