use Rattle.ept_sample.specs.Arrivals.{loses}
use Rattle.ept_sample.proofs.Members.{contains-IsMember}
use Rattle.ept_sample.proofs.ArrivalLaws.{BestOver, best, loses-kept, sent-open}
use Rattle.ept_sample.proofs.Parts.{IsPermutation-parts}
use Rattle.ept_sample.proofs.laws.arrival_law.Goals as goal
use Rattle.ept_sample.proofs.Choices.{not_both}

pub returns-clause-winners : goal.returns-clause-winners
returns-clause-winners c =
    λ rules depth given p lost. let b : BestOver rules depth given p = best rules depth given p lost in
    (b.0, contains-IsMember b.0 given b.1, b.2, λ h. not_both (loses rules depth given b.0) h b.3)

pub returns-clause-same_lose : goal.returns-clause-same_lose
returns-clause-same_lose c = loses-kept

pub returns-clause-open_sends : goal.returns-clause-open_sends
returns-clause-open_sends c = sent-open

pub returns-clause-parts : goal.returns-clause-parts
returns-clause-parts c = IsPermutation-parts
