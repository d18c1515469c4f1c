-- Which seats hold which slots when views change.
use Rattle.std.proofs.Common.{◌≡◌, ℕ, List, [], ◌∷◌, ◌++◌, set, sym, ap, subst, ◌∙◌, ⊎_elim}
use Rattle.std.specs.Prelude.{Some}
use mathlib.Core.Option.{some-injective}
use mathlib.Core.Logic.{dite}
use lib.ListN.{get_elem?}
use native.Mathlib.Decide.{ℕ_discrete}
use Rattle.atomic_table.proofs.Lists.{at_set, set_else, at_longer, at_snoc}
use Rattle.ept_slots.specs.declared.view.Held.{Held}
use Rattle.ept_slots.specs.declared.view.View.{View}
use Rattle.ept_slots.specs.Views.{At, Holds, HoldsNothing}
use Rattle.ept_slots.proofs.Places.{put-here}

same-held : {T : Type 0} (a b : Held T) → Some a ≡ Some b → a ≡ b
same-held a b e = cc

module _ {T N : Type 0} where
  pub same-hold : (v : View T N) (k l : ℕ) (x y : T) → Holds v k x → Holds v l y → (k ≡ l) × (x ≡ y)
  same-hold v k l x y h g = let e = same-held (record { slot = k; item = x }) (record { slot = l; item = y }) (sym h ∙ g) in (ap (λ (r : Held T). r.slot) e, ap (λ (r : Held T). r.item) e)

  pub holds-none : (v : View T N) (k : ℕ) (x : T) → HoldsNothing v → Holds v k x → ⊥
  holds-none v k x h g = cc

  -- the same seats hold the same slots, and took the same items there
  pub record Mirrors (views views' : List (View T N)) : Type 0 where
    pub forth : (id k : ℕ) (v : View T N) (x : T) → At views id v → Holds v k x → (w : View T N) × At views' id w × Holds w k x
    pub back : (id k : ℕ) (v : View T N) (x : T) → At views' id v → Holds v k x → (w : View T N) × At views id w × Holds w k x

  pub mirrors-put : (views : List (View T N)) (id : ℕ) (v w : View T N) → At views id v → w.hold ≡ v.hold → Mirrors views (set views id w)
  mirrors-put views id v w at same = record {
    forth = λ j k u x e h. dite (ℕ_discrete j id)
        (λ is. let uv : u ≡ v = some-injective u v (sym e ∙ (ap (λ (i : ℕ). get_elem? views i) is ∙ at)) in (w, subst (λ (i : ℕ). At (set views id w) i w) (sym is) (put-here views id v w at), same ∙ (ap (λ (z : View T N). z.hold) (sym uv) ∙ h)))
        (λ ne. (u, set_else views id j w ne ∙ e, h));
    back = λ j k u x e h. ⊎_elim
        (λ p. (v, subst (λ (i : ℕ). At views i v) (sym p.0) at, sym same ∙ (ap (λ (z : View T N). z.hold) p.1 ∙ h)))
        (λ p. (u, p.1, h)) (at_set views id j w u e);
  }

  pub mirrors-last : (views : List (View T N)) (w : View T N) → HoldsNothing w → Mirrors views (views ++ w ∷ [])
  mirrors-last views w none = record {
    forth = λ j k u x e h. (u, at_longer views (w ∷ []) j u e, h);
    back = λ j k u x e h. ⊎_elim (λ p. (u, p, h)) (λ p. absurd (holds-none w k x none (ap (λ (z : View T N). z.hold) p ∙ h))) (at_snoc views w u j e);
  }

  pub mirrors-both : (a b c : List (View T N)) → Mirrors a b → Mirrors b c → Mirrors a c
  mirrors-both a b c p q = record {
    forth = λ j k u x e h. let o = p.forth j k u x e h in q.forth j k o.0 x o.1 o.2;
    back = λ j k u x e h. let o = q.back j k u x e h in p.back j k o.0 x o.1 o.2;
  }

  -- what holds of each view holds after one changes
  pub each-put : (P : View T N → Type 0) (views : List (View T N)) (id : ℕ) (w : View T N) → ((j : ℕ) (u : View T N) → At views j u → P u) → P w → (j : ℕ) (u : View T N) → At (set views id w) j u → P u
  each-put P views id w each here j u e = ⊎_elim (λ p. subst P p.1 here) (λ p. each j u p.1) (at_set views id j w u e)

  pub each-last : (P : View T N → Type 0) (views : List (View T N)) (w : View T N) → ((j : ℕ) (u : View T N) → At views j u → P u) → P w → (j : ℕ) (u : View T N) → At (views ++ w ∷ []) j u → P u
  each-last P views w each here j u e = ⊎_elim (λ p. each j u p) (λ p. subst P p here) (at_snoc views w u j e)
