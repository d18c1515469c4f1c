use Rattle.ept_query.proofs.CompletePlans.{tile-of-one, has-plan, has-tiles, plans-whole, plans-answer}
use Rattle.ept_query.proofs.laws.complete_law.Goals as goal

pub returns-clause-plan : goal.returns-clause-plan
returns-clause-plan c = λ kept points files whole area first last. has-plan c.reading_law.ensures.files c.output_once_law.ensures.sampled kept points files whole area first last c.output_once_law.ensures.build

pub returns-clause-tiles : goal.returns-clause-tiles
returns-clause-tiles c = λ kept points files whole area first last. has-tiles c.reading_law.ensures.files c.output_once_law.ensures.sampled kept points files whole area first last

pub returns-clause-once : goal.returns-clause-once
returns-clause-once c = tile-of-one

pub returns-clause-nodes : goal.returns-clause-nodes
returns-clause-nodes c = λ kept points files whole area first last. plans-whole c.reading_law.ensures.files c.output_once_law.ensures.sampled kept points files whole area first last

pub returns-clause-answered : goal.returns-clause-answered
returns-clause-answered c = λ kept points files whole area first last. plans-answer c.reading_law.ensures.files c.output_once_law.ensures.sampled kept points files whole area first last
