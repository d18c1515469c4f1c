-- Lists whose keys ascend.
use Rattle.std.proofs.Common.{◌≡◌, ◌∙◌, ℕ, zero, suc, ◌+◌, ◌-◌, ◌<◌, List, [], ◌∷◌, map, Bool, true, false, refl, sym, ap, subst, arith, length, get_or, IsTrue, ◌↔◌}
use Rattle.std.specs.Ordering.{is_lt}
use Rattle.std.specs.declared.cmp.Ordering.TheVariants.{Less}
use Rattle.std.specs.List.{AllPairs, AllAdjacentBelow, IsAllAdjacentAnswer}
use Rattle.std.proofs.lemmas.Bool.{false≢true}
use Rattle.std.proofs.lemmas.List.{get_or-map, length-map}
use Rattle.ept_space.specs.VoxelKey.{VoxelKey, key_cmp}
use Rattle.ept_space.proofs.KeyOrder.{key_cmp_total, less-is_lt}

-- in a transitive order, if neighbours are in order, so are elements at any distance
chain : {X : Type 0} (R : X → X → Type 0) → ((a b c : X) → R a b → R b c → R a c) → (xs : List X) (i n : ℕ) (d : X) → AllAdjacentBelow R xs (length xs) → i + suc n < length xs → R (get_or xs i d) (get_or xs (i + suc n) d)
chain R trans xs i zero d up inside = up i d (omega (arith, inside))
chain R trans xs i (suc n) d up inside =
    let next : i + suc n + 1 ≡ i + suc (suc n) = omega arith in
    trans (get_or xs i d) (get_or xs (i + suc n) d) (get_or xs (i + suc (suc n)) d) (chain R trans xs i n d up (omega (arith, inside))) (subst (λ k. R (get_or xs (i + suc n) d) (get_or xs k d)) next (up (i + suc n) d (omega (arith, inside))))

AllPairs-from_neighbours : {X : Type 0} (R : X → X → Type 0) → ((a b c : X) → R a b → R b c → R a c) → (xs : List X) → AllAdjacentBelow R xs (length xs) → AllPairs R xs
AllPairs-from_neighbours R trans xs up i j d before inside =
    let apart : i + suc (j - i - 1) ≡ j = omega (arith, before) in
    subst (λ k. R (get_or xs i d) (get_or xs k d)) apart (chain R trans xs i (j - i - 1) d up (omega (arith, inside, apart)))

-- pairs of the values that are made from a list, and pairs of that list
AllPairs-map : {X Y : Type 0} (R : Y → Y → Type 0) (f : X → Y) (xs : List X) → AllPairs (λ a b. R (f a) (f b)) xs → AllPairs R (map f xs)
AllPairs-map R f [] up i j d before inside = absurd (omega (arith, inside))
AllPairs-map {X} R f (x ∷ xs) up i j d before inside =
    let all : List X = x ∷ xs in
    let in_j : j < length all = omega (arith, length-map all f, inside) in
    let first : get_or (map f all) i d ≡ f (get_or all i x) = get_or-map f all i x d (omega (arith, before, in_j)) in
    let second : get_or (map f all) j d ≡ f (get_or all j x) = get_or-map f all j x d in_j in
    subst (λ y. R y (get_or (map f all) j d)) (sym first) (subst (λ y. R (f (get_or all i x)) y) (sym second) (up i j x before in_j))

AllPairs-unmap : {X Y : Type 0} (R : Y → Y → Type 0) (f : X → Y) (xs : List X) → AllPairs R (map f xs) → AllPairs (λ a b. R (f a) (f b)) xs
AllPairs-unmap R f xs up i j d before inside =
    let in_map : j < length (map f xs) = omega (arith, length-map xs f, inside) in
    let first : get_or (map f xs) i (f d) ≡ f (get_or xs i d) = get_or-map f xs i d (f d) (omega (arith, before, inside)) in
    let second : get_or (map f xs) j (f d) ≡ f (get_or xs j d) = get_or-map f xs j d (f d) inside in
    subst (λ y. R y (f (get_or xs j d))) first (subst (λ y. R (get_or (map f xs) i (f d)) y) second (up i j (f d) before in_map))

-- in a list whose keys ascend, each element comes before a later one
pub ascend-at : {X : Type 0} (key : X → VoxelKey) (xs : List X) (i j : ℕ) (d : X) → i < j → j < length xs → AllPairs (λ a b. key_cmp a b ≡ Less) (map key xs) → key_cmp (key (get_or xs i d)) (key (get_or xs j d)) ≡ Less
ascend-at key xs i j d before inside up =
    AllPairs-unmap (λ a b. key_cmp a b ≡ Less) key xs up i j d before inside

-- what a test of neighbours by `<` returns: whether the keys ascend
pub ascend-tested : {X : Type 0} (key : X → VoxelKey) (xs : List X) (r : Bool) → IsAllAdjacentAnswer (λ x y b. b ≡ is_lt (key_cmp (key x) (key y))) xs r → IsTrue r ↔ AllPairs (λ a b. key_cmp a b ≡ Less) (map key xs)
ascend-tested {X} key xs true up = (
  (λ h. AllPairs-map (λ a b. key_cmp a b ≡ Less) key xs (AllPairs-from_neighbours (λ (a b : X). key_cmp (key a) (key b) ≡ Less) (λ a b c. key_cmp_total.trans (key a) (key b) (key c)) xs (λ k d inside. less-is_lt _ (sym (up k d inside))))),
  (λ all. refl),
)
ascend-tested key [] false answer = absurd (omega (arith, answer.1))
ascend-tested {X} key (x ∷ xs) false answer = (
  (λ h. absurd (false≢true h)),
  (λ all.
      let here : key_cmp (key (get_or (x ∷ xs) answer.0 x)) (key (get_or (x ∷ xs) (answer.0 + 1) x)) ≡ Less = ascend-at key (x ∷ xs) answer.0 (answer.0 + 1) x (omega arith) (omega (arith, answer.1)) all in
      answer.2 x ∙ ap is_lt here),
)
