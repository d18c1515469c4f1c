use Rattle.ept_las.proofs.Stored.{stored_is, some_of_ok}
use Rattle.ept_las.proofs.place.stored_of.Goals as goal

pub returns : goal.returns
returns c =
    let a = c.args in
    rw c.ok.ensures.value
    (some_of_ok c.try_from.result _ _ c.try_from.ensures (stored_is a.raw c.from.result a.factor a.by c.from.ensures c.ranges.raw c.requires.least c.requires.greatest c.requires.by_bound))
