-- Paths as lists of one length, and the order by them.
use Rattle.std.proofs.Common.{◌≡◌, ◌≢◌, ◌∙◌, ◌+◌, ◌-◌, ◌<◌, ◌≤◌, ℕ, zero, suc, Bool, true, false, inl, inr, ◌⊎◌, List, [], ◌∷◌, ◌++◌, length, length-append, map, get_or, refl, sym, ap, subst, arith, Ordering, Less, Equal, Greater}
use Rattle.std.specs.List.{All, AllPairs, IsDistinct}
use Rattle.std.specs.List.Sorted.{IsPermutation, IsSortedByKey}
use Rattle.std.specs.Ordering.{nat_cmp, is_lt, ordering_then}
use Rattle.std.specs.Cmp.Lexicographic.{slice_cmp}
use Rattle.std.proofs.Math.ListN.{get_or-append}
use Rattle.std.proofs.Math.Seq.{get_or-append_seam}
use Rattle.std.proofs.lemmas.Bool.{false≢true}
use Rattle.std.proofs.lemmas.Bool.Decides.{nat_tests}
use Rattle.std.proofs.lemmas.Cmp.{nat_list_cmp_total}
use Rattle.std.proofs.lemmas.List.MinMax.{ranks_by}
use Rattle.std.proofs.lemmas.List.Sorted.{sorted_far, length_permutation}
use Rattle.std.proofs.lemmas.List.Elements.{Contains-get_or}
use Rattle.std.proofs.lemmas.Map.Keys.{IsDistinct-IsPermutation, IsDistinct-from_apart, apart_from_distinct}
use Rattle.ept_space.specs.VoxelKey.{VoxelKey, IsKey, AreAscending, same_key, key_cmp, parent, octant_of, is_within}
use Rattle.ept_space.proofs.Ascending.{ascend-at}
use Rattle.ept_space.proofs.KeyOrder.{key_cmp-same}
use Rattle.ept_space.proofs.Family.{depth-parent}
use Rattle.ept_space.proofs.Within.{same_key-true, same_key-same}
use Rattle.ept_sample.specs.Members.{IsMember}
use Rattle.ept_sample.proofs.Choices.{either}
use Rattle.ept_sample.proofs.Members.{all-member, IsMember-map, IsMember-contains, contains-IsMember}
use Rattle.std.proofs.lemmas.List.Sorted.{Contains-permutation, IsPermutation-sym}
use Rattle.ept_hier.specs.Hierarchy.{Node, keys_of}
use Rattle.ept_fit.specs.Walk.{path, last_steps}
use Rattle.ept_fit.proofs.Paths.{path-within}
use Rattle.ept_check.specs.Nodes.{ComesBefore}
use Rattle.ept_check.specs.Walking.{AreInPreorder, padded}
use Rattle.ept_check.proofs.Paths.{one-first}

-- ---- one list

length-steps : (n : ℕ) (key : VoxelKey) → length (last_steps n key) ≡ n
length-steps zero key = refl
length-steps (suc n) key =
    let size = length-append (last_steps n (parent key)) (octant_of key ∷ []) in
    let rest = length-steps n (parent key) in
    omega (arith, size, rest)

pub length-path : (key : VoxelKey) → length (path key) ≡ key.depth
unfolding path
length-path key = length-steps key.depth key

pub length-padded : (n : ℕ) (xs : List ℕ) → length (padded n xs) ≡ n
length-padded zero xs = refl
length-padded (suc n) [] = ap suc (length-padded n [])
length-padded (suc n) (x ∷ xs) = ap suc (length-padded n xs)

pub padded-zero : (n : ℕ) (xs : List ℕ) (i : ℕ) → length xs ≤ i → get_or (padded n xs) i 0 ≡ 0
padded-zero zero xs i past = refl
padded-zero (suc n) [] zero past = refl
padded-zero (suc n) [] (suc i) past = padded-zero n [] i (let none : 0 ≤ i = omega arith in none)
padded-zero (suc n) (x ∷ xs) zero past = absurd (let wrong : suc (length xs) ≤ 0 = past in omega (arith, wrong))
padded-zero (suc n) (x ∷ xs) (suc i) past = padded-zero n xs i (let some : suc (length xs) ≤ suc i = past in omega (arith, some))

pub padded-at : (n : ℕ) (xs : List ℕ) (i : ℕ) → i < length xs → i < n → get_or (padded n xs) i 0 ≡ suc (get_or xs i 0)
padded-at zero xs i inside short = absurd (omega (arith, short))
padded-at (suc n) [] i inside short = absurd (let wrong : i < 0 = inside in omega (arith, wrong))
padded-at (suc n) (x ∷ xs) zero inside short = refl
padded-at (suc n) (x ∷ xs) (suc i) inside short = padded-at n xs i (let some : suc i < suc (length xs) = inside in omega (arith, some)) (omega (arith, short))

-- the last step to a key is its octant
last-step : (n : ℕ) (key : VoxelKey) → get_or (last_steps (suc n) key) n 0 ≡ octant_of key
last-step n key =
    ap (λ (k : ℕ). get_or (last_steps n (parent key) ++ octant_of key ∷ []) k 0) (sym (length-steps n (parent key)))
    ∙ get_or-append_seam (last_steps n (parent key)) (octant_of key) [] 0

octant-of-path : (key : VoxelKey) → 0 < key.depth → get_or (path key) (key.depth - 1) 0 ≡ octant_of key
unfolding path
octant-of-path key deep =
    let more : key.depth ≡ suc (key.depth - 1) = omega (arith, deep) in
    ap (λ (n : ℕ). get_or (last_steps n key) (key.depth - 1) 0) more ∙ last-step (key.depth - 1) key

-- the step of that depth to each key within it is its octant too
pub octant-at : (at key : VoxelKey) → 0 < at.depth → is_within at key ≡ true → get_or (path key) (at.depth - 1) 0 ≡ octant_of at
octant-at at key deep inside =
    let r = path-within at key inside in
    let size = length-path at in
    ap (λ (w : List ℕ). get_or w (at.depth - 1) 0) r.1
    ∙ (get_or-append (path at) r.0 0 (at.depth - 1) (omega (arith, size, deep)) ∙ octant-of-path at deep)

-- ---- the order

first-step : (x y : ℕ) (a b : Ordering) → a ≡ b → ordering_then (nat_cmp (suc x) (suc y)) a ≡ ordering_then (nat_cmp x y) b
first-step x y a b same = grind (arith, nat_tests)

behind-zero : (x : ℕ) (a : Ordering) → ordering_then (nat_cmp 0 (suc x)) a ≡ Less
behind-zero x a = grind (arith, nat_tests)

before-zero : (x : ℕ) (a : Ordering) → ordering_then (nat_cmp (suc x) 0) a ≡ Greater
before-zero x a = grind (arith, nat_tests)

both-zero : (a : Ordering) → ordering_then (nat_cmp 0 0) a ≡ a
both-zero a = refl

pub padded-order : (n : ℕ) (xs ys : List ℕ) → length xs ≤ n → length ys ≤ n → slice_cmp nat_cmp (padded n xs) (padded n ys) ≡ slice_cmp nat_cmp xs ys
padded-order zero [] [] one other = refl
padded-order zero [] (y ∷ ys) one other = absurd (let wrong : suc (length ys) ≤ 0 = other in omega (arith, wrong))
padded-order zero (x ∷ xs) ys one other = absurd (let wrong : suc (length xs) ≤ 0 = one in omega (arith, wrong))
padded-order (suc n) [] [] one other = both-zero (slice_cmp nat_cmp (padded n []) (padded n [])) ∙ padded-order n [] [] (let none : 0 ≤ n = omega arith in none) (let none : 0 ≤ n = omega arith in none)
padded-order (suc n) [] (y ∷ ys) one other = behind-zero y (slice_cmp nat_cmp (padded n []) (padded n ys))
padded-order (suc n) (x ∷ xs) [] one other = before-zero x (slice_cmp nat_cmp (padded n xs) (padded n []))
padded-order (suc n) (x ∷ xs) (y ∷ ys) one other =
    first-step x y (slice_cmp nat_cmp (padded n xs) (padded n ys)) (slice_cmp nat_cmp xs ys) (padded-order n xs ys (let some : suc (length xs) ≤ suc n = one in omega (arith, some)) (let some : suc (length ys) ≤ suc n = other in omega (arith, some)))

same_node : Node → Node → Bool
same_node a b = same_key a.0 b.0

turns : (a b : VoxelKey) → same_key a b ≡ same_key b a
turns a b =
    elim (either (same_key a b)) [
      | inl same ↦ same ∙ sym (same_key-same b a (sym (same_key-true a b same)))
      | inr apart ↦ apart ∙ sym (is_false (same_key b a) (λ e. false≢true (sym apart ∙ same_key-same a b (sym (same_key-true b a e)))))
    ]
  where
    is_false : (b : Bool) → ¬ (b ≡ true) → b ≡ false
    is_false true none = absurd (none refl)
    is_false false none = refl

distinct : (nodes : List Node) → AreAscending (keys_of nodes) → IsDistinct same_node nodes
unfolding same_node
distinct nodes ascend = IsDistinct-from_apart (λ (a b : Node). same_key a.0 b.0) nodes (λ i j d before inside. (
    let less : key_cmp (get_or nodes i d).0 (get_or nodes j d).0 ≡ Less = ascend-at (λ (m : Node). m.0) nodes i j d before inside ascend in
    elim (either (same_key (get_or nodes i d).0 (get_or nodes j d).0)) [
      | inl same ↦
          let tied = key_cmp-same (get_or nodes i d).0 (get_or nodes j d).0 (same_key-true (get_or nodes i d).0 (get_or nodes j d).0 same) in
          absurd (let wrong : Less ≡ Equal = sym less ∙ tied in cc)
      | inr apart ↦ apart
    ]))

pub preordered : (nodes order : List Node) → AreAscending (keys_of nodes) → All IsKey (keys_of nodes) → IsPermutation nodes order → IsSortedByKey (λ (n : Node). padded 32 (path n.0)) (slice_cmp nat_cmp) order → AreInPreorder order
unfolding same_node
preordered nodes order ascend keys each sorted i j d before inside =
    by_order (one-first (get_or order i d).0 (get_or order j d).0 (key-of i (omega (arith, before, inside))) (key-of j inside) differ)
  where
    key-of : (k : ℕ) → k < length order → IsKey (get_or order k d).0
    key-of k within =
        let m : IsMember (get_or order k d) nodes = IsMember-contains (get_or order k d) nodes (Contains-permutation order nodes (get_or order k d) (IsPermutation-sym nodes order each) (Contains-get_or order k d within)) in
        all-member IsKey (get_or order k d).0 (keys_of nodes) keys (IsMember-map (λ (m : Node). m.0) (get_or order k d) nodes m)

    apart : same_key (get_or order i d).0 (get_or order j d).0 ≡ false
    apart = apart_from_distinct (λ (x y : Node). same_key x.0 y.0) order i j d (IsDistinct-IsPermutation (λ (x y : Node). same_key x.0 y.0) (λ x y. turns x.0 y.0) nodes order each (distinct nodes ascend)) before inside

    differ : (get_or order i d).0 ≢ (get_or order j d).0
    differ same = false≢true (sym apart ∙ same_key-same (get_or order i d).0 (get_or order j d).0 same)

    short : (k : ℕ) → k < length order → length (path (get_or order k d).0) ≤ 32
    short k within = (let size = length-path (get_or order k d).0 in let low = (key-of k within).shallow in omega (arith, size, low))

    not-less : is_lt (slice_cmp nat_cmp (path (get_or order j d).0) (path (get_or order i d).0)) ≡ false
    not-less =
        ap is_lt (sym (padded-order 32 (path (get_or order j d).0) (path (get_or order i d).0) (short j inside) (short i (omega (arith, before, inside)))))
        ∙ sorted_far (λ (x y : Node). is_lt (slice_cmp nat_cmp (padded 32 (path x.0)) (padded 32 (path y.0)))) (ranks_by nat_list_cmp_total (λ (n : Node). padded 32 (path n.0))) order sorted i j d (omega (arith, before)) inside

    by_order : ComesBefore (get_or order i d).0 (get_or order j d).0 ⊎ ComesBefore (get_or order j d).0 (get_or order i d).0 → ComesBefore (get_or order i d).0 (get_or order j d).0
    by_order (inl less) = less
    by_order (inr more) = absurd (false≢true (sym not-less ∙ ap is_lt more))
