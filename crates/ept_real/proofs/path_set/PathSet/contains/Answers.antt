use Rattle.ept_real.proofs.Members.{text-test}
use Rattle.ept_real.proofs.path_set.PathSet.contains.Goals as goal

pub returns : goal.returns
returns c = text-test c.self.inside.paths c.args.path.now c.contains.result c.args.self.now c.contains.ensures c.self.view_is
