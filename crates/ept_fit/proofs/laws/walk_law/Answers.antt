use Rattle.ept_fit.proofs.Walks.{above-first, octants-ascend, subtrees-together, walk-once}
use Rattle.ept_fit.proofs.Ordered.{walk-nodes}
use Rattle.ept_fit.proofs.laws.walk_law.Goals as goal

pub returns-clause-above : goal.returns-clause-above
returns-clause-above c = above-first

pub returns-clause-octants : goal.returns-clause-octants
returns-clause-octants c = octants-ascend

pub returns-clause-together : goal.returns-clause-together
returns-clause-together c = subtrees-together

pub returns-clause-once : goal.returns-clause-once
returns-clause-once c = walk-once

pub returns-clause-nodes : goal.returns-clause-nodes
returns-clause-nodes c = walk-nodes
