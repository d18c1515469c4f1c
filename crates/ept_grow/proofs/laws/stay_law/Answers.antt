use Rattle.ept_sample.proofs.Members.{IsMember-contains, contains-IsMember}
use Rattle.ept_grow.proofs.Stay.{same-stay}
use Rattle.ept_grow.proofs.laws.stay_law.Goals as goal

pub returns : goal.returns
returns c = record {
  same = λ rules ps qs key once once' among. same-stay rules ps qs key once once' (λ p m. IsMember-contains p qs (among p (contains-IsMember p ps m)));
}
