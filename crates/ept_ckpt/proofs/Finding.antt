-- What the result of a binary search means for the line of a key.
use Rattle.std.proofs.Common.{◌≡◌, ◌∙◌, ℕ, zero, suc, ◌<◌, Bool, true, false, cond, List, [], ◌∷◌, length, get_or, Some, None, refl, ap, subst, arith, inl, inr}
use Rattle.std.specs.Prelude.{find, AllPairs}
use Rattle.std.specs.List.Sorted.{IsBinarySearchResult}
use Rattle.std.specs.declared.cmp.Ordering.TheVariants.{Less, Equal, Greater}
use Rattle.std.specs.Prelude.{Err}
use Rattle.std.proofs.lemmas.Bool.{cases_lt}
use Rattle.std.proofs.lemmas.Bool.Decides.{nat_tests}
use Rattle.ept_space.specs.VoxelKey.{VoxelKey, key_cmp, same_key}
use Rattle.ept_space.proofs.KeyOrder.{key_cmp-equal}
use Rattle.ept_space.proofs.Within.{same_key-same}
use Rattle.ept_ckpt.specs.declared.node_line.NodeLine.{NodeLine}
use Rattle.ept_ckpt.specs.Octree.{keys_of}
use Rattle.ept_ckpt.specs.Lookup.{line_of_key}
use Rattle.ept_space.proofs.Ascending.{ascend-at}
use Rattle.ept_ckpt.proofs.KeySearch.{answers-rise}

-- the first element that passes is found
find_at : {X : Type 0} (p : X → Bool) (xs : List X) (i : ℕ) (d : X) → i < length xs → p (get_or xs i d) ≡ true → ((k : ℕ) → k < i → p (get_or xs k d) ≡ false) → find p xs ≡ Some (get_or xs i d)
find_at p [] i d inside passes before = absurd (omega (arith, inside))
find_at p (x ∷ xs) zero d inside passes before = ap (λ (b : Bool). cond b (Some x) (find p xs)) passes
find_at p (x ∷ xs) (suc i) d inside passes before =
    ap (λ (b : Bool). cond b (Some x) (find p xs)) (before 0 (omega arith)) ∙ find_at p xs i d (omega (arith, inside)) passes (λ k low. before (suc k) (omega (arith, low)))

-- if no element passes, none is found
find_none : {X : Type 0} (p : X → Bool) (xs : List X) → ((k : ℕ) (d : X) → k < length xs → p (get_or xs k d) ≡ false) → find p xs ≡ None
find_none p [] none = refl
find_none p (x ∷ xs) none = ap (λ (b : Bool). cond b (Some x) (find p xs)) (none 0 x (omega arith)) ∙ find_none p xs (λ k d inside. none (suc k) d (omega (arith, inside)))

less-differ : (a b : VoxelKey) → key_cmp a b ≡ Less → same_key a b ≡ false
less-differ a b h = grind (arith, nat_tests)

greater-differ : (a b : VoxelKey) → key_cmp a b ≡ Greater → same_key a b ≡ false
greater-differ a b h = grind (arith, nat_tests)

module _ (lines : List NodeLine) (key : VoxelKey) (up : AllPairs (λ a b. key_cmp a b ≡ Less) (keys_of lines)) where
  pub line-found : (i : ℕ) (d : NodeLine) → i < length lines → key_cmp (get_or lines i d).key key ≡ Equal → line_of_key lines key ≡ Some (get_or lines i d)
  line-found i d inside equal =
      let same : (get_or lines i d).key ≡ key = key_cmp-equal (get_or lines i d).key key equal in
      find_at (λ (line : NodeLine). same_key line.key key) lines i d inside (same_key-same (get_or lines i d).key key same) (λ k low.
      less-differ (get_or lines k d).key key (subst (λ (w : VoxelKey). key_cmp (get_or lines k d).key w ≡ Less) same (ascend-at (λ (line : NodeLine). line.key) lines k i d low inside up)))

  pub line-missed : (i : ℕ) → IsBinarySearchResult (λ (line : NodeLine). key_cmp line.key key) lines (Err i) → line_of_key lines key ≡ None
  line-missed i parted =
      find_none (λ (line : NodeLine). same_key line.key key) lines (λ k d inside.
      let sides = parted (answers-rise lines key up) in
      elim (cases_lt k i) [
        | inl below ↦ less-differ (get_or lines k d).key key (sides.0 k d (omega arith) below)
        | inr above ↦ greater-differ (get_or lines k d).key key (sides.1 k d above inside)
      ])
