use Rattle.std.proofs.Common.{subst}
use Rattle.ept_real.proofs.Members.{paths, text-removed, Removed}
use Rattle.ept_real.proofs.path_set.PathSet.remove.Goals as goal

pub returns : goal.returns
returns c =
    let r = subst (λ xs. Removed c.args.path.now xs (paths c.remove.new.self)) c.self.view_is (text-removed c.args.path.now c.self.inside.paths c.remove.new.self c.remove.ensures.updates) in
    record { gone = r.gone; still = r.still; only = r.only }
