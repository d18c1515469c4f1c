use Rattle.ept_sample.specs.Ids.{same_id}
use Rattle.ept_sample.specs.Rank.{beats}
use Rattle.ept_sample.proofs.RankLaws.{beats-self, beats-trans, beats-total, beats-cell, nearest-beats, lower-beats}
use Rattle.ept_sample.proofs.laws.beat_law.Goals as goal
use Rattle.ept_sample.proofs.Choices.{not_both, is_false}

pub returns-clause-none_itself : goal.returns-clause-none_itself
returns-clause-none_itself c = λ rules depth p h. not_both (beats rules depth p p) h (beats-self rules depth p)

pub returns-clause-goes_on : goal.returns-clause-goes_on
returns-clause-goes_on c = beats-trans

pub returns-clause-one_of_two : goal.returns-clause-one_of_two
returns-clause-one_of_two c =
    λ rules depth p q cell apart. beats-total rules depth p q cell (is_false (same_id p q) apart)

pub returns-clause-one_cell : goal.returns-clause-one_cell
returns-clause-one_cell c = beats-cell

pub returns-clause-nearest : goal.returns-clause-nearest
returns-clause-nearest c = nearest-beats

pub returns-clause-lower_group : goal.returns-clause-lower_group
returns-clause-lower_group c = lower-beats
