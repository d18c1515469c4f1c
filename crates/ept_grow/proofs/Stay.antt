-- If the numbers of points that stay are as before, the same points stay.
use Rattle.std.proofs.Common.{◌≡◌, ◌∙◌, ℕ, zero, suc, ◌+◌, ◌≤◌, ◌<◌, Bool, true, inl, inr, List, [], ◌∷◌, ◌++◌, refl, sym, ap, subst, arith, length, length-append}
use Rattle.std.proofs.lemmas.List.Sorted.{length_permutation}
use Rattle.ept_point.specs.declared.point.Point.{Point}
use Rattle.ept_space.specs.declared.cube.Rules.{Rules}
use Rattle.ept_space.specs.VoxelKey.{VoxelKey, child}
use Rattle.ept_space.proofs.Family.{depth-child}
use Rattle.ept_space.proofs.Within.{is_within-self, is_within-trans, is_within-child}
use Rattle.ept_sample.specs.Ids.{comes_before, HasDistinctIds}
use Rattle.ept_sample.specs.Arrivals.{kept, sent, all_sent, none_open}
use Rattle.ept_sample.specs.Sampling.{given, sampling}
use Rattle.ept_sample.specs.Members.{IsMember}
use Rattle.ept_sample.proofs.Choices.{not_both}
use Rattle.ept_sample.proofs.Ascending.{IsOrder, IsBeforeAll, IsRising}
use Rattle.ept_sample.proofs.IdLaws.{id_order}
use Rattle.ept_sample.proofs.MorePoints.{AreAmong, given-among, length-rising}
use Rattle.ept_sample.proofs.Parts.{IsPermutation-parts}
use Rattle.ept_sample.proofs.SamplingLaws.{given-child, given-depth, IsRising-given}
use Rattle.ept_grow.specs.Grow.{StayAsMany}

-- ---- rising lists

-- what is before the first item of a rising list is before each
none_before : {X : Type 0} (before : X → X → Bool) → IsOrder before → (x y : X) (xs : List X) → IsBeforeAll before x xs → before y x ≡ true → (z : X) → IsMember z (x ∷ xs) → before y z ≡ true
none_before {X} before o x y xs first less z (inl is) = subst (λ (w : X). before y w ≡ true) is less
none_before before o x y xs first less z (inr m) = o.goes_on y x z less (first z m)

-- an item of a list that is not its first is one of the others
one_of_rest : {X : Type 0} (before : X → X → Bool) → IsOrder before → (y z : X) (ys : List X) → before y z ≡ true → IsMember z (y ∷ ys) → IsMember z ys
one_of_rest {X} before o y z ys less (inl is) =
    absurd (not_both (before y y) (subst (λ (w : X). before y w ≡ true) (sym is) less) (o.none_itself y))
one_of_rest before o y z ys less (inr m) = m

-- a rising list, whose items are in a rising list of the same length, is that list
pub same-length : {X : Type 0} (before : X → X → Bool) → IsOrder before → (xs ys : List X) → IsRising before xs → IsRising before ys → ((x : X) → IsMember x xs → IsMember x ys) → length xs ≡ length ys → xs ≡ ys
same-length before o [] [] up up' among same = refl
same-length before o [] (y ∷ ys) up up' among same = absurd (omega arith)
same-length before o (x ∷ xs) [] up up' among same = absurd (omega arith)
same-length {X} before o (x ∷ xs) (y ∷ ys) up up' among same =
    elim (among x (inl refl)) [
      | inl is ↦
          let first : IsBeforeAll before y xs = subst (λ (w : X). IsBeforeAll before w xs) (sym is) up.0 in
          ap (λ (w : X). w ∷ xs) (sym is)
          ∙ ap (λ (w : List X). y ∷ w) (same-length before o xs ys up.1 up'.1 (λ z m. one_of_rest before o y z ys (first z m) (among z (inr m))) (omega arith))
      | inr later ↦
          let rest : (z : X) → IsMember z (x ∷ xs) → IsMember z ys = λ z m. one_of_rest before o y z ys (none_before before o x y xs up.0 (up'.0 x later) z m) (among z m) in
          absurd (omega (arith, length-rising before o (x ∷ xs) ys up rest))
    ]

-- ---- at one node

-- the given points are those that stay and those that leave
length-parts : (rules : Rules) (depth : ℕ) (xs : List Point) → length xs ≡ length (kept rules depth none_open xs) + length (all_sent rules depth none_open xs)
length-parts rules depth xs =
    let parts = length_permutation xs (kept rules depth none_open xs ++ all_sent rules depth none_open xs) (IsPermutation-parts rules depth none_open xs) in
    omega (arith, parts, length-append (kept rules depth none_open xs) (all_sent rules depth none_open xs))

-- if the same points leave to each octant, the same points leave
same-sent : (rules : Rules) (depth : ℕ) (xs ys : List Point) → ((o : ℕ) → o < 8 → sent rules depth none_open xs o ≡ sent rules depth none_open ys o) → all_sent rules depth none_open xs ≡ all_sent rules depth none_open ys
same-sent rules depth xs ys each =
    cc (each 0 (omega arith), each 1 (omega arith), each 2 (omega arith), each 3 (omega arith), each 4 (omega arith), each 5 (omega arith), each 6 (omega arith), each 7 (omega arith))

-- ---- at each key

module _ (rules : Rules) (ps qs : List Point) (once : HasDistinctIds ps) (once' : HasDistinctIds qs) (among : AreAmong ps qs) where
  -- nothing is given below the greatest depth
  none_given : (points : List Point) (key : VoxelKey) → rules.cube.depth < key.depth → given rules points key ≡ []
  none_given points key deep = none (given rules points key) (λ p m. omega (arith, given-depth rules points key p m))
    where
      none : (xs : List Point) → ((p : Point) → IsMember p xs → key.depth ≤ rules.cube.depth) → xs ≡ []
      none [] shallow = refl
      none (p ∷ xs) shallow = absurd (omega (arith, shallow p (inl refl)))

  -- at a key the same number of points stays, and its children are given the same points
  same_here : (key : VoxelKey) → length (sampling rules ps key) ≡ length (sampling rules qs key) → ((o : ℕ) → o < 8 → given rules ps (child key o) ≡ given rules qs (child key o)) → given rules ps key ≡ given rules qs key
  unfolding sampling
  same_here key as_many below =
      let leave : all_sent rules key.depth none_open (given rules ps key) ≡ all_sent rules key.depth none_open (given rules qs key) =
      same-sent rules key.depth (given rules ps key) (given rules qs key) (λ o low. sym (given-child rules ps key o low) ∙ (below o low ∙ given-child rules qs key o low)) in
      same-length comes_before id_order (given rules ps key) (given rules qs key) (IsRising-given rules ps key once) (IsRising-given rules qs key once') (given-among rules ps qs key once among) (length-parts rules key.depth (given rules ps key) ∙ (omega (arith, as_many, ap (λ (w : List Point). length w) leave) ∙ sym (length-parts rules key.depth (given rules qs key))))

  given_by : (steps : ℕ) (key : VoxelKey) → rules.cube.depth < key.depth + steps → StayAsMany rules ps qs key → given rules ps key ≡ given rules qs key
  given_by zero key deep as_many = none_given ps key (omega arith) ∙ sym (none_given qs key (omega arith))
  given_by (suc steps) key deep as_many =
      same_here key (as_many key (is_within-self key)) (λ o low. given_by steps (child key o) (omega (arith, depth-child key o)) (λ k within. as_many k (is_within-trans key (child key o) k (is_within-child key o) within)))

-- if the same numbers of points stay within a key, it is given the same points
pub same-given : (rules : Rules) (ps qs : List Point) (key : VoxelKey) → HasDistinctIds ps → HasDistinctIds qs → AreAmong ps qs → StayAsMany rules ps qs key → given rules ps key ≡ given rules qs key
same-given rules ps qs key once once' among as_many =
    given_by rules ps qs once once' among (suc rules.cube.depth) key (omega arith) as_many

-- so the same points stay there
pub same-stay : (rules : Rules) (ps qs : List Point) (key : VoxelKey) → HasDistinctIds ps → HasDistinctIds qs → AreAmong ps qs → StayAsMany rules ps qs key → sampling rules ps key ≡ sampling rules qs key
unfolding sampling
same-stay rules ps qs key once once' among as_many =
    ap (λ (xs : List Point). kept rules key.depth none_open xs) (same-given rules ps qs key once once' among as_many)
