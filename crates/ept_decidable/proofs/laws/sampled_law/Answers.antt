use Rattle.ept_decidable.proofs.Sampled.{distinct_decided, can_decided, sampled_decided}
use Rattle.ept_decidable.proofs.laws.sampled_law.Goals as goal

pub returns-clause-distinct : goal.returns-clause-distinct
returns-clause-distinct c = distinct_decided

pub returns-clause-can : goal.returns-clause-can
returns-clause-can c = can_decided

pub returns-clause-sampled : goal.returns-clause-sampled
returns-clause-sampled c = sampled_decided
