-- The order of keys, and lists of keys in it.
use Rattle.std.proofs.Common.{◌≡◌, ℕ, suc, ◌<◌, Bool, true, Ordering, ◌⊎◌, inl, inr, List, [], ◌∷◌, refl, sym, ap, subst, arith}
use Rattle.std.specs.declared.cmp.Ordering.TheVariants.{Less, Equal, Greater}
use Rattle.std.specs.Ordering.{nat_cmp, ordering_then, is_lt, match_ordering}
use Rattle.std.proofs.lemmas.Bool.Decides.{nat_tests}
use Rattle.ept_space.specs.VoxelKey.{VoxelKey, key_cmp, AreAscending}
use Rattle.ept_space.proofs.Family.{same-parts}
use Rattle.std.proofs.lemmas.Bool.{false≢true}
use Rattle.ept_sample.specs.Nodes.{with_key, in_key_order}
use Rattle.std.proofs.lemmas.List.Kept.{AllPairs-cons}
use Rattle.ept_sample.specs.Members.{IsMember}
use Rattle.ept_sample.proofs.Members.{contains-IsMember, All-members}
use Rattle.ept_sample.proofs.Ascending.{IsOrder, IsBeforeAll, IsRising}

four_cmp : ℕ → ℕ → ℕ → ℕ → ℕ → ℕ → ℕ → ℕ → Ordering
four_cmp a b c d w x y z =
    ordering_then (nat_cmp a w) (ordering_then (nat_cmp b x) (ordering_then (nat_cmp c y) (nat_cmp d z)))

four-self : (a b c d : ℕ) → four_cmp a b c d a b c d ≡ Equal
unfolding four_cmp
four-self a b c d = grind (arith, nat_tests)

-- what is transitive in a first part, and otherwise in the rest
then-trans : (a k w : ℕ) (first second both : Ordering) → (first ≡ Less → second ≡ Less → both ≡ Less) → ordering_then (nat_cmp a k) first ≡ Less → ordering_then (nat_cmp k w) second ≡ Less → ordering_then (nat_cmp a w) both ≡ Less
then-trans a k w first second both rest e f = grind (arith, nat_tests)

four-trans : (a b c d k l m n w x y z : ℕ) → four_cmp a b c d k l m n ≡ Less → four_cmp k l m n w x y z ≡ Less → four_cmp a b c d w x y z ≡ Less
unfolding four_cmp
four-trans a b c d k l m n w x y z =
    then-trans a k w _ _ _ (then-trans b l x _ _ _ (then-trans c m y _ _ _ (last d n z)))
  where
    last : (d n z : ℕ) → nat_cmp d n ≡ Less → nat_cmp n z ≡ Less → nat_cmp d z ≡ Less
    last d n z e f = grind (arith, nat_tests)

four-equal : (a b c d w x y z : ℕ) → four_cmp a b c d w x y z ≡ Equal → (a ≡ w) × (b ≡ x) × (c ≡ y) × (d ≡ z)
unfolding four_cmp
four-equal a b c d w x y z e =
    (grind (arith, nat_tests), grind (arith, nat_tests), grind (arith, nat_tests), grind (arith, nat_tests))

four-greater : (a b c d w x y z : ℕ) → four_cmp a b c d w x y z ≡ Greater → four_cmp w x y z a b c d ≡ Less
unfolding four_cmp
four-greater a b c d w x y z e = grind (arith, nat_tests)

-- ---- keys

pub key-self : (a : VoxelKey) → key_cmp a a ≡ Equal
unfolding four_cmp
key-self a = four-self a.depth a.x a.y a.z

pub key-trans : (a b c : VoxelKey) → key_cmp a b ≡ Less → key_cmp b c ≡ Less → key_cmp a c ≡ Less
unfolding four_cmp
key-trans a b c e f = four-trans a.depth a.x a.y a.z b.depth b.x b.y b.z c.depth c.x c.y c.z e f

-- keys that compare equal are the same
pub key-equal : (a b : VoxelKey) → key_cmp a b ≡ Equal → a ≡ b
unfolding four_cmp
key-equal a b e =
    let h = four-equal a.depth a.x a.y a.z b.depth b.x b.y b.z e in same-parts a b h.0 h.1 h.2 h.3

pub key-greater : (a b : VoxelKey) → key_cmp a b ≡ Greater → key_cmp b a ≡ Less
unfolding four_cmp
key-greater a b e = four-greater a.depth a.x a.y a.z b.depth b.x b.y b.z e

-- the first key is before the second in key order
abbrev pub key_before : VoxelKey → VoxelKey → Bool
key_before a b = is_lt (key_cmp a b)

less-before : (o : Ordering) → is_lt o ≡ true → o ≡ Less
less-before Less e = refl
less-before Equal e = absurd (false≢true e)
less-before Greater e = absurd (false≢true e)

pub key_order : IsOrder key_before
key_order = record {
  none_itself = λ a. ap is_lt (key-self a);
  goes_on = λ a b c e f. ap is_lt (key-trans a b c (less-before (key_cmp a b) e) (less-before (key_cmp b c) f));
}

-- ---- a list of keys in order

-- what is known of a list that a key was put into
abbrev pub PutInto : VoxelKey → List VoxelKey → List VoxelKey → Type 0
PutInto key keys new =
    ((k : VoxelKey) → IsMember k new → (key ≡ k) ⊎ IsMember k keys) × ((k : VoxelKey) → IsMember k keys → IsMember k new) × IsMember key new × (IsRising key_before keys → IsRising key_before new)

before_all : (key k : VoxelKey) (keys : List VoxelKey) → key_cmp key k ≡ Less → IsRising key_before (k ∷ keys) → IsBeforeAll key_before key (k ∷ keys)
before_all key k keys e up j (inl is) = ap is_lt (subst (λ (w : VoxelKey). key_cmp key w ≡ Less) is e)
before_all key k keys e up j (inr m) = key_order.goes_on key k j (ap is_lt e) (up.0 j m)

put_step : (key k : VoxelKey) (keys : List VoxelKey) (o : Ordering) → key_cmp key k ≡ o → PutInto key keys (with_key key keys) → PutInto key (k ∷ keys) (match_ordering o (key ∷ k ∷ keys) (k ∷ keys) (k ∷ with_key key keys))
put_step key k keys Less e more =
    (λ j m. m, λ j m. inr m, inl refl, λ up. (before_all key k keys e up, up))
put_step key k keys Equal e more =
    (λ j m. inr m, λ j m. m, inl (sym (key-equal key k e)), λ up. up)
put_step key k keys Greater e more =
    (λ j m. greater_cases j m, λ j m. greater_kept j m, inr more.2, λ up. (greater_before up, more.3 up.1))
  where
    greater_cases : (j : VoxelKey) → IsMember j (k ∷ with_key key keys) → (key ≡ j) ⊎ IsMember j (k ∷ keys)
    greater_cases j (inl is) = inr (inl is)
    greater_cases j (inr m) = elim (more.0 j m) [ inl is ↦ inl is | inr n ↦ inr (inr n) ]

    greater_kept : (j : VoxelKey) → IsMember j (k ∷ keys) → IsMember j (k ∷ with_key key keys)
    greater_kept j (inl is) = inl is
    greater_kept j (inr m) = inr (more.1 j m)

    greater_before : IsRising key_before (k ∷ keys) → IsBeforeAll key_before k (with_key key keys)
    greater_before up j m =
        elim (more.0 j m) [ inl is ↦ ap is_lt (subst (λ (w : VoxelKey). key_cmp k w ≡ Less) is (key-greater key k e)) | inr n ↦ up.0 j n ]

pub with_key-put : (key : VoxelKey) (keys : List VoxelKey) → PutInto key keys (with_key key keys)
with_key-put key [] = (λ k m. m, λ k m. absurd m, inl refl, λ up. (λ k m. absurd m, tt))
with_key-put key (k ∷ keys) = put_step key k keys (key_cmp key k) refl (with_key-put key keys)

-- the keys in order are the keys
pub IsMember-in_key_order : (k : VoxelKey) (keys : List VoxelKey) → IsMember k keys → IsMember k (in_key_order keys)
IsMember-in_key_order k [] m = absurd m
IsMember-in_key_order k (key ∷ keys) (inl is) =
    subst (λ (w : VoxelKey). IsMember w (with_key key (in_key_order keys))) is (with_key-put key (in_key_order keys)).2
IsMember-in_key_order k (key ∷ keys) (inr m) =
    (with_key-put key (in_key_order keys)).1 k (IsMember-in_key_order k keys m)

pub in_key_order-IsMember : (k : VoxelKey) (keys : List VoxelKey) → IsMember k (in_key_order keys) → IsMember k keys
in_key_order-IsMember k [] m = absurd m
in_key_order-IsMember k (key ∷ keys) m =
    elim ((with_key-put key (in_key_order keys)).0 k m) [ inl is ↦ inl is | inr n ↦ inr (in_key_order-IsMember k keys n) ]

-- and rise
pub IsRising-in_key_order : (keys : List VoxelKey) → IsRising key_before (in_key_order keys)
IsRising-in_key_order [] = tt
IsRising-in_key_order (key ∷ keys) = (with_key-put key (in_key_order keys)).3 (IsRising-in_key_order keys)

-- each key is less than all later ones
pub AllPairs-IsRising : (keys : List VoxelKey) → IsRising key_before keys → AreAscending keys
AllPairs-IsRising [] up = λ i j d less inside. absurd (let below : j < 0 = inside in omega arith)
AllPairs-IsRising (key ∷ keys) up =
    AllPairs-cons (λ a b. key_cmp a b ≡ Less) key keys (All-members (λ b. key_cmp key b ≡ Less) keys (λ b m. less-before (key_cmp key b) (up.0 b m))) (AllPairs-IsRising keys up.1)

pub IsRising-AllPairs : (keys : List VoxelKey) → AreAscending keys → IsRising key_before keys
IsRising-AllPairs [] all = tt
IsRising-AllPairs (key ∷ keys) all = (
  λ k m. (
      let c = contains-IsMember k keys m in
      ap is_lt (subst (λ (w : VoxelKey). key_cmp key w ≡ Less) c.2 (all 0 (suc c.0) k (omega arith) (omega (arith, c.1))))),
  IsRising-AllPairs keys (λ i j d less inside. all (suc i) (suc j) d (omega (arith, less)) (omega (arith, inside))),
)
