use Rattle.ept_history.proofs.Leaving.{leaves-steps}
use Rattle.ept_history.proofs.laws.step_law.Goals as goal

pub returns : goal.returns
returns g c = leaves-steps g.T.Store.files g.T.Store.may_leave g.T.Store.moment g.T.Store.image_since c.args.old.now c.args.new.now
