use Rattle.ept_save.proofs.Standing.{in-images}
use Rattle.ept_save.proofs.laws.images_law.Goals as goal

pub returns : goal.returns
returns g c = λ stands. in-images c.args.saved.now (g.T.Store.files c.args.store.now) (g.T.Store.may_leave c.args.store.now) stands
