-- How many files the walk reads, and that it ends.
use Rattle.std.proofs.Common.{◌≡◌, ◌+◌, ◌-◌, ◌*◌, ◌^◌, ◌<◌, ◌≤◌, ◌∙◌, ◌⊎◌, inl, inr, ℕ, List, [], ◌∷◌, length, take, get_or, refl, sym, ap, subst, arith, Ordering, Less, Equal, Greater, true}
use Rattle.std.specs.List.{All, Contains}
use Rattle.std.specs.Ordering.{is_eq, eq_by_cmp}
use Rattle.std.proofs.lemmas.Cmp.{eq_by_cmp_equiv}
use Rattle.std.proofs.lemmas.List.{length-take-le, get_or-take, get_or_default}
use Rattle.std.proofs.lemmas.List.Elements.{All-head}
use Rattle.std.proofs.lemmas.Map.Keys.{IsDistinct-from_apart}
use Rattle.std.proofs.lemmas.Map.Made.{length-le_from_is_member}
use Rattle.std.proofs.lemmas.Map.Views.{Contains-from_any, list_any-from_Contains}
use Rattle.ept_space.specs.VoxelKey.{VoxelKey, IsKey, IsBefore, key_cmp, root, AreAscending}
use Rattle.ept_space.proofs.KeyOrder.{key_cmp_total, key_cmp-less, key_cmp-equal}
use Rattle.ept_space.proofs.KeyTexts.{index-small}

pub same-from : (one two : VoxelKey) → eq_by_cmp key_cmp one two ≡ true → one ≡ two
same-from one two same = key_cmp-equal one two (tied (key_cmp one two) same)
  where
    tied : (o : Ordering) → is_eq o ≡ true → o ≡ Equal
    tied Less h = cc
    tied Equal h = refl
    tied Greater h = cc

-- keys that ascend, all of them in a list, are no more than the list has
pub fewer : (keys most : List VoxelKey) → AreAscending keys → ((key : VoxelKey) → Contains keys key → Contains most key) → length keys ≤ length most
fewer keys most ascend each =
    length-le_from_is_member (eq_by_cmp_equiv key_cmp_total) keys most
    (IsDistinct-from_apart (eq_by_cmp key_cmp) keys (λ i j d less within. ap is_eq (ascend i j d less within)))
    (λ q member. list_any-from_Contains (eq_by_cmp_equiv key_cmp_total) q most (each q (Contains-from_any same-from q keys member)))

-- the keys up to one of them are no more than the list has up to that key
module _ (keys most : List VoxelKey) (number : ℕ) (ascend : AreAscending keys) (within : number < length keys) where
  front-size : length (take (number + 1) keys) ≡ number + 1
  front-size = length-take-le (number + 1) keys (omega (arith, within))

  front-at : (i : ℕ) (d : VoxelKey) → i < length (take (number + 1) keys) → get_or (take (number + 1) keys) i d ≡ get_or keys i d
  front-at i d inside = get_or-take (number + 1) keys i d (omega (arith, inside, front-size))

  front-ascends : AreAscending (take (number + 1) keys)
  front-ascends i j d less inside =
      let one : get_or (take (number + 1) keys) i d ≡ get_or keys i d = front-at i d (omega (arith, less, inside)) in
      let two : get_or (take (number + 1) keys) j d ≡ get_or keys j d = front-at j d inside in
      ap (λ (k : VoxelKey). key_cmp k (get_or (take (number + 1) keys) j d)) one
      ∙ ap (λ (k : VoxelKey). key_cmp (get_or keys i d) k) two
      ∙ ascend i j d less (omega (arith, inside, front-size, within))

  -- each of them is that key or comes before it
  front-to : (i : ℕ) (key : VoxelKey) → i < number + 1 → get_or keys i key ≡ key → (key ≡ get_or keys number root) ⊎ (key_cmp key (get_or keys number root) ≡ Less)
  front-to i key inside is = either (below-or-at i number (omega (arith, inside)))
    where
      here : get_or keys i root ≡ key
      here = get_or_default keys i root key (omega (arith, inside, within)) ∙ is

      below-or-at : (n m : ℕ) → n ≤ m → (n < m) ⊎ (n ≡ m)
      below-or-at n m le = grind (arith, le)

      either : (i < number) ⊎ (i ≡ number) → (key ≡ get_or keys number root) ⊎ (key_cmp key (get_or keys number root) ≡ Less)
      either (inl less) = inr (ap (λ (k : VoxelKey). key_cmp k (get_or keys number root)) (sym here) ∙ ascend i number root less within)
      either (inr same) = inl (sym here ∙ ap (λ (n : ℕ). get_or keys n root) same)

  pub few-up-to : ((key : VoxelKey) → Contains keys key → (key ≡ get_or keys number root) ⊎ (key_cmp key (get_or keys number root) ≡ Less) → Contains most key) → number + 1 ≤ length most
  few-up-to each =
      let count = fewer (take (number + 1) keys) most front-ascends (λ key has. (
      let at : get_or keys has.0 key ≡ key = sym (front-at has.0 key has.1) ∙ has.2 in
      let inside : has.0 < number + 1 = (let on = has.1 in omega (arith, on, front-size)) in
      each key (has.0, omega (arith, inside, within), at) (front-to has.0 key inside at))) in
      omega (arith, count, front-size)

-- the place of a key in the order of all keys, as a number
pub rank : VoxelKey → ℕ
rank key = key.depth * 2 ^ 96 + key.x * 2 ^ 64 + key.y * 2 ^ 32 + key.z

-- how many keys there are from the first key of a list on
pub left : List VoxelKey → ℕ
left [] = 0
left (key ∷ keys) = 2 ^ 128 - rank key

record IsSmall (key : VoxelKey) : Type 0 where
  depth : key.depth ≤ 31
  x : key.x < 2 ^ 31
  y : key.y < 2 ^ 31
  z : key.z < 2 ^ 31

is-small : (key : VoxelKey) → IsKey key → IsSmall key
is-small key is = record {
  depth = is.shallow;
  x = index-small key.x key.depth is.x_in is.shallow;
  y = index-small key.y key.depth is.y_in is.shallow;
  z = index-small key.z key.depth is.z_in is.shallow;
}

rank-before : (one two : VoxelKey) → IsSmall one → IsSmall two → IsBefore one two → rank one < rank two
unfolding rank
rank-before one two a b (inl deeper) = omega (arith, a.x, a.y, a.z, b.x, b.y, b.z)
rank-before one two a b (inr (d, inl x)) = omega (arith, a.y, a.z, b.y, b.z)
rank-before one two a b (inr (d, inr (x, inl y))) = omega (arith, a.z, b.z)
rank-before one two a b (inr (d, inr (x, inr (y, z)))) = omega arith

rank-bound : (key : VoxelKey) → IsSmall key → rank key < 2 ^ 128
unfolding rank
rank-bound key a = omega (arith, a.depth, a.x, a.y, a.z)

pub left-falls : (top : VoxelKey) (pending rest next : List VoxelKey) → pending ≡ top ∷ rest → IsKey top → All IsKey next → All (λ (k : VoxelKey). key_cmp top k ≡ Less) next → left next < left pending
unfolding left
left-falls top pending rest next is key keys above = subst (λ (w : List VoxelKey). left next < left w) (sym is) (by_next next keys above)
  where
    by_next : (next : List VoxelKey) → All IsKey next → All (λ (k : VoxelKey). key_cmp top k ≡ Less) next → left next < left (top ∷ rest)
    by_next [] keys above = (let bound = rank-bound top (is-small top key) in omega (arith, bound))
    by_next (first ∷ others) keys above =
        let bound = rank-bound first (is-small first (All-head IsKey first others keys)) in
        let up = rank-before top first (is-small top key) (is-small first (All-head IsKey first others keys)) (key_cmp-less top first (All-head (λ (k : VoxelKey). key_cmp top k ≡ Less) first others above)) in
        omega (arith, bound, up)
