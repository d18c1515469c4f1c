use Rattle.std.proofs.Common.{inl, inr, refl, subst}
use Rattle.std.specs.Prelude.{Contains}
use Rattle.ept_real.specs.Flushing.{flushed, names_to_flush}
use Rattle.ept_real.proofs.store.RealStoreStore.sync.Goals as goal

pub returns-clause-flushed : goal.returns-clause-flushed
returns-clause-flushed g c = λ name has. elim (c.take_over.ensures.only name has) [
  | inl before ↦ inl (subst (λ store. Contains (flushed store) name) c.flush.ensures.same before)
  | inr now ↦ inr (refl, subst (λ store. Contains (names_to_flush store) name) c.flush.ensures.same now)
]
