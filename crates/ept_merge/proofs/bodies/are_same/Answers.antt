use Rattle.std.proofs.lemmas.Slice.Eq.{slice_eq-Decides}
use Rattle.ept_merge.proofs.SameCount.{one-count}
use Rattle.ept_merge.proofs.bodies.are_same.Goals as goal

pub returns : goal.returns
returns c = slice_eq-Decides one-count c.args.a.now c.args.b.now c.eq.result c.eq.ensures
