-- A key and the keys above it, one after another, and sets of keys.
use Rattle.std.proofs.Common.{◌≡◌, ◌∙◌, ℕ, ◌<◌, ◌≤◌, ◌-◌, nat_le, Bool, true, false, cond, ◌||◌, ◌&&◌, ◌⊎◌, inl, inr, refl, sym, ap, subst, arith, Ordering, Less, Equal, Greater}
use Rattle.std.specs.Ordering.{is_eq}
use Rattle.std.specs.BTreeMap.{is_at}
use Rattle.std.proofs.lemmas.Bool.{cases_lt}
use Rattle.std.proofs.lemmas.Bool.Decides.{nat_tests}
use Rattle.ept_space.specs.VoxelKey.{VoxelKey, key_cmp, parent, is_within}
use Rattle.ept_space.proofs.Family.{depth-parent}
use Rattle.ept_space.proofs.KeyOrder.{key_cmp-equal, key_cmp-same}
use Rattle.ept_space.proofs.Within.{is_within-self, is_within-parent, is_within-trans, is_within-unique, is_within-level}

-- ---- one key in a set

at-true : (a b : VoxelKey) → is_at (key_cmp a) b ≡ true → a ≡ b
at-true a b is = key_cmp-equal a b (by_order (key_cmp a b) is)
  where
    by_order : (o : Ordering) → is_eq o ≡ true → o ≡ Equal
    by_order Less e = cc
    by_order Equal e = refl
    by_order Greater e = cc

at-same : (a b : VoxelKey) → a ≡ b → is_at (key_cmp a) b ≡ true
at-same a b is = ap is_eq (key_cmp-same a b is)

-- ---- the keys from one on that a key is within

-- the key is within the top, which is at least as deep as the one that is reached
abbrev pub is_from : VoxelKey → VoxelKey → VoxelKey → Bool
is_from at key top = is_within top key && nat_le at.depth top.depth

and-parts : (a b : Bool) → (a && b) ≡ true → (a ≡ true) × (b ≡ true)
and-parts true true e = (refl, refl)
and-parts true false e = absurd (cc)
and-parts false b e = absurd (cc)

and-both : (a b : Bool) → a ≡ true → b ≡ true → (a && b) ≡ true
and-both a b one two = ap (λ (t : Bool). t && b) one ∙ two

le-true : (m n : ℕ) → nat_le m n ≡ true → m ≤ n
le-true m n e = grind (arith, nat_tests)

true-le : (m n : ℕ) → m ≤ n → nat_le m n ≡ true
true-le m n e = grind (arith, nat_tests)

-- one key more: those of before, and this one
one_more : (old from same next : Bool) → ((from ≡ true) ⊎ (same ≡ true) → next ≡ true) → (next ≡ true → (from ≡ true) ⊎ (same ≡ true)) → cond same true (old || from) ≡ (old || next)
one_more true from true next up here = refl
one_more true from false next up here = refl
one_more false from true next up here = sym (up (inr refl))
one_more false true false next up here = sym (up (inl refl))
one_more false false false true up here = absurd (none (here refl))
  where
    none : (false ≡ true) ⊎ (false ≡ true) → ⊥
    none (inl e) = cc
    none (inr e) = cc
one_more false false false false up here = refl

none_before : (b : Bool) → b ≡ (b || false)
none_before true = refl
none_before false = refl

-- first the key itself
pub noted-key : (key top : VoxelKey) (old new : Bool) → new ≡ cond (is_at (key_cmp key) top) true old → new ≡ (old || is_from key key top)
noted-key key top old new put =
    put ∙ (ap (λ (b : Bool). cond (is_at (key_cmp key) top) true b) (none_before old) ∙ one_more old false (is_at (key_cmp key) top) (is_from key key top) up here)
  where
    up : (false ≡ true) ⊎ (is_at (key_cmp key) top ≡ true) → is_from key key top ≡ true
    up (inl e) = absurd (cc)
    up (inr same) =
        subst (λ (k : VoxelKey). is_from key key k ≡ true) (at-true key top same) (and-both _ _ (is_within-self key) (true-le key.depth key.depth (omega arith)))

    here : is_from key key top ≡ true → (false ≡ true) ⊎ (is_at (key_cmp key) top ≡ true)
    here from =
        let parts = and-parts (is_within top key) (nat_le key.depth top.depth) from in
        inr (at-same key top (sym (is_within-level top key parts.0 (le-true key.depth top.depth parts.1))))

-- then the next one above
pub noted-parent : (at key top : VoxelKey) → 0 < at.depth → is_within at key ≡ true → (old mid new : Bool) → mid ≡ (old || is_from at key top) → new ≡ cond (is_at (key_cmp (parent at)) top) true mid → new ≡ (old || is_from (parent at) key top)
noted-parent at key top deep inside old mid new was put =
    put ∙ (ap (λ (b : Bool). cond (is_at (key_cmp (parent at)) top) true b) was ∙ one_more old (is_from at key top) (is_at (key_cmp (parent at)) top) (is_from (parent at) key top) up here)
  where
    shorter : (parent at).depth ≡ at.depth - 1
    shorter = depth-parent at

    up : (is_from at key top ≡ true) ⊎ (is_at (key_cmp (parent at)) top ≡ true) → is_from (parent at) key top ≡ true
    up (inl from) =
        let parts = and-parts (is_within top key) (nat_le at.depth top.depth) from in
        let low = le-true at.depth top.depth parts.1 in
        and-both _ _ parts.0 (true-le (parent at).depth top.depth (omega (arith, low, shorter)))
    up (inr same) =
        subst (λ (k : VoxelKey). is_from (parent at) key k ≡ true) (at-true (parent at) top same) (and-both _ _ (is_within-trans (parent at) at key (is_within-parent at deep) inside) (true-le (parent at).depth (parent at).depth (omega arith)))

    here : is_from (parent at) key top ≡ true → (is_from at key top ≡ true) ⊎ (is_at (key_cmp (parent at)) top ≡ true)
    here from =
        let parts = and-parts (is_within top key) (nat_le (parent at).depth top.depth) from in
        let low = le-true (parent at).depth top.depth parts.1 in
        elim (cases_lt top.depth at.depth) [
          | inl less ↦ inr (at-same (parent at) top (is_within-unique (parent at) top key (is_within-trans (parent at) at key (is_within-parent at deep) inside) parts.0 (omega (arith, low, less, shorter))))
          | inr more ↦ inl (and-both _ _ parts.0 (true-le at.depth top.depth more))
        ]
