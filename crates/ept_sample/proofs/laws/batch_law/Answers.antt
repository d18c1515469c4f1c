use Rattle.ept_sample.proofs.Batches.{is_open-twice, kept-twice, sent-twice}
use Rattle.ept_sample.proofs.Parts.{is_open-IsPermutation, kept-IsPermutation, sent-IsPermutation}
use Rattle.ept_sample.proofs.laws.batch_law.Goals as goal

pub returns-clause-no_order : goal.returns-clause-no_order
returns-clause-no_order c =
    λ rules depth was xs ys once h. record {
      opens = λ o. is_open-IsPermutation rules depth was xs ys o h;
      stays = kept-IsPermutation rules depth was xs ys once h;
      leaves = λ o. sent-IsPermutation rules depth was xs ys o once h;
    }

pub returns-clause-join : goal.returns-clause-join
returns-clause-join c =
    λ rules depth was first second. record {
      opens = is_open-twice rules depth was first second;
      stays = kept-twice rules depth was first second;
      leaves = sent-twice rules depth was first second;
    }
