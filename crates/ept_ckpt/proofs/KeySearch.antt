-- Which keys are among those of nodes, and what the result of a binary search means for this.
use Rattle.std.proofs.Common.{◌≡◌, ◌∙◌, ℕ, ◌+◌, ◌<◌, ◌≤◌, Bool, true, false, List, [], ◌∷◌, map, length, get_or, Result, Ok, Err, refl, sym, ap, subst, arith, inl, inr}
use Rattle.std.specs.Prelude.{◌||◌, nat_lt, All, AllPairs, is_ok}
use Rattle.std.specs.List.{list_any, AllWithin}
use Rattle.std.proofs.lemmas.List.{get_or-map, length-map}
use Rattle.std.proofs.lemmas.List.Elements.{All-map}
use Rattle.std.specs.List.Sorted.{IsSearchInRange, IsBinarySearchResult, IsNonDecreasingBy}
use Rattle.std.specs.Ordering.{is_lt, ordering_index, ordering_reverse}
use Rattle.std.specs.declared.cmp.Ordering.TheVariants.{Less, Equal, Greater}
use Rattle.std.proofs.lemmas.Bool.{cases_lt}
use Rattle.std.proofs.lemmas.Bool.Decides.{nat_tests}
use Rattle.std.proofs.lemmas.List.Folds.{list_any_at, list_any_none}
use Rattle.std.proofs.lemmas.List.Sorted.{searchable_from_sorted}
use Rattle.ept_space.specs.VoxelKey.{VoxelKey, IsKey, key_cmp, same_key, child}
use Rattle.ept_space.proofs.KeyOrder.{key_cmp_total}
use Rattle.ept_ckpt.specs.declared.node_line.NodeLine.{NodeLine}
use Rattle.ept_ckpt.specs.Octree.{keys_of, is_among}
use Rattle.ept_space.proofs.Ascending.{ascend-at}

-- a test of the values that are made from a list is a test of that list
list_any-map : {X Y : Type 0} (p : Y → Bool) (f : X → Y) (xs : List X) → list_any p (map f xs) ≡ list_any (λ x. p (f x)) xs
list_any-map p f [] = refl
list_any-map p f (x ∷ xs) = ap (λ b. p (f x) || b) (list_any-map p f xs)

-- whether two keys are the same, by their order
same-equal : (a b : VoxelKey) → key_cmp b a ≡ Equal → same_key a b ≡ true
same-equal a b h = grind (arith, nat_tests)

same-less : (a b : VoxelKey) → key_cmp b a ≡ Less → same_key a b ≡ false
same-less a b h = grind (arith, nat_tests)

same-greater : (a b : VoxelKey) → key_cmp b a ≡ Greater → same_key a b ≡ false
same-greater a b h = grind (arith, nat_tests)

same-deeper : (a b : VoxelKey) → b.depth < a.depth → same_key a b ≡ false
same-deeper a b h = grind (arith, nat_tests)

-- the results of `cmp` with any key ascend
pub answers-rise : (nodes : List NodeLine) (key : VoxelKey) → AllPairs (λ a b. key_cmp a b ≡ Less) (keys_of nodes) → IsNonDecreasingBy (λ (line : NodeLine). ordering_index (key_cmp line.key key)) nodes
answers-rise nodes key up =
    searchable_from_sorted key_cmp_total (λ (line : NodeLine). line.key) nodes key (λ k d low inside.
    let before : key_cmp (get_or nodes k d).key (get_or nodes (k + 1) d).key ≡ Less = ascend-at (λ (line : NodeLine). line.key) nodes k (k + 1) d (omega arith) (omega (arith, inside)) up in
    ap is_lt (key_cmp_total.antisymm (get_or nodes (k + 1) d).key (get_or nodes k d).key ∙ ap ordering_reverse before))

-- a search finds a key if and only if it is among the keys
pub searched : (nodes : List NodeLine) (key : VoxelKey) (r : Result ℕ ℕ) → AllPairs (λ a b. key_cmp a b ≡ Less) (keys_of nodes) → IsSearchInRange r (length nodes) → IsBinarySearchResult (λ (line : NodeLine). key_cmp line.key key) nodes r → is_ok r ≡ is_among (keys_of nodes) key
searched [] key (Ok i) up inside equal = absurd (omega (arith, inside))
searched (line ∷ nodes) key (Ok i) up inside equal =
    sym (list_any-map (same_key key) (λ (l : NodeLine). l.key) (line ∷ nodes) ∙ list_any_at (λ (l : NodeLine). same_key key l.key) (line ∷ nodes) i line inside (same-equal key (get_or (line ∷ nodes) i line).key (equal line)))
searched nodes key (Err i) up inside parted =
    sym (list_any-map (same_key key) (λ (l : NodeLine). l.key) nodes ∙ list_any_none (λ (l : NodeLine). same_key key l.key) nodes (λ k d in_k.
    let sides = parted (answers-rise nodes key up) in
    elim (cases_lt k i) [
      | inl below ↦ same-less key (get_or nodes k d).key (sides.0 k d (omega arith) below)
      | inr above ↦ same-greater key (get_or nodes k d).key (sides.1 k d above in_k)
    ]))

-- ---- keys of the greatest depth

pub not-below : (n m : ℕ) → m ≤ n → nat_lt n m ≡ false
not-below n m h = grind (arith, nat_tests)

-- the child of a key of the greatest depth is not among the keys
pub too-deep : (keys : List VoxelKey) (key : VoxelKey) (octant : ℕ) → All IsKey keys → 31 ≤ key.depth → is_among keys (child key octant) ≡ false
unfolding child
too-deep keys key octant known deep =
    list_any_none (same_key (child key octant)) keys (λ k d inside. let least = (known k d inside).shallow in same-deeper (child key octant) (get_or keys k d) (omega (arith, least, deep)))

-- ---- the keys of nodes

-- what holds of the key of each node holds of each key
pub All-keys : (P : VoxelKey → Type 0) (nodes : List NodeLine) (n : ℕ) → length nodes ≤ n → AllWithin (λ (line : NodeLine). P line.key) nodes 0 n → All P (keys_of nodes)
All-keys P nodes n whole h =
    All-map P (λ (line : NodeLine). line.key) nodes (λ k d inside. h k d (omega arith) (omega (arith, whole, inside)))

-- and conversely
pub key-at : (P : VoxelKey → Type 0) (nodes : List NodeLine) (i : ℕ) (line : NodeLine) → i < length nodes → line ≡ get_or nodes i line → All P (keys_of nodes) → P line.key
key-at P nodes i line inside is all =
    let at : get_or (keys_of nodes) i line.key ≡ (get_or nodes i line).key = get_or-map (λ (l : NodeLine). l.key) nodes i line line.key inside in
    subst P (at ∙ ap (λ (l : NodeLine). l.key) (sym is)) (all i line.key (omega (arith, length-map nodes (λ (l : NodeLine). l.key), inside)))
