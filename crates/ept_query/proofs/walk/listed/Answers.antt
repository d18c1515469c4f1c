use Rattle.std.proofs.Common.{◌≡◌, rules}
use Rattle.ept_query.proofs.Plans.{entries-ascend}
use Rattle.ept_query.proofs.walk.listed.Goals as goal

pub returns-clause-ascend : goal.returns-clause-ascend
returns-clause-ascend c =
    let same : c.in_ok-listed.listed.items ≡ c.args.tiles.entries = search rules in
    entries-ascend c.args.tiles.entries c.in_ok-listed.listed.items c.into_iter.ensures.into_iter_gives.5 same
