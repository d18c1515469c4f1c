-- With more points, the sampling has the same nodes and more.
use Rattle.std.proofs.Common.{◌≡◌, ℕ, zero, suc, ◌≤◌, ◌<◌, Bool, true, ◌&&◌, ◌==◌, inl, inr, List, [], ◌∷◌, refl, sym, subst, arith, length}
use Rattle.std.specs.List.{remove}
use Rattle.std.specs.List.Sorted.{IsPermutation}
use Rattle.std.proofs.lemmas.List.Sorted.{IsPermutation-remove, length_permutation}
use Rattle.ept_point.specs.declared.point.Point.{Point}
use Rattle.ept_space.specs.declared.cube.Rules.{Rules}
use Rattle.ept_space.specs.VoxelKey.{VoxelKey, root, parent, octant_of}
use Rattle.ept_sample.specs.Ids.{same_id, HasDistinctIds}
use Rattle.ept_sample.specs.Arrivals.{loses, octant, losers, overflows, is_open, leaves, sent, none_open}
use Rattle.ept_sample.specs.Sampling.{given, is_node}
use Rattle.ept_sample.specs.Members.{IsMember}
use Rattle.ept_sample.proofs.Members.{IsMember-filter, IsMember-kept, contains-IsMember}
use Rattle.ept_sample.proofs.Choices.{not_both, and_left, and_right, and_both}
use Rattle.ept_sample.proofs.IdLaws.{same_id-self, HasDistinctIds-head, HasDistinctIds-tail, HasDistinctIds-filter, HasDistinctIds-IsRising, IsMember-IsPermutation, IsMember-in_id_order, in_id_order-IsMember}
use Rattle.ept_sample.proofs.ArrivalLaws.{loses-beaten, beaten-loses, IsMember-sent, sent-IsMember, leaves-loses, leaves-open, leaves-from, overflows-depth, overflows-more}
use Rattle.ept_sample.proofs.Batches.{overflow_from}
use Rattle.ept_space.specs.OctreeCube.{IsCube}
use Rattle.ept_sample.specs.Place.{AllInCube}
use Rattle.ept_sample.specs.Nodes.{node_keys}
use Rattle.ept_sample.proofs.Ascending.{IsOrder, IsRising}
use Rattle.ept_sample.proofs.KeyOrder.{key_before, key_order}
use Rattle.ept_sample.proofs.NodeLaws.{IsRising-node_keys, IsMember-node_keys, node_keys-IsMember}
use Rattle.ept_sample.proofs.SamplingLaws.{is_node-root, is_node-given, node-cases, IsRising-given, given-parent, given-root, given-top}
use Rattle.ept_space.proofs.Family.{depth-parent}

-- each of the first points is one of the second
abbrev pub AreAmong : List Point → List Point → Type 0
AreAmong xs ys = (p : Point) → IsMember p xs → IsMember p ys

-- points with distinct ids that are among others are at most as numerous
pub length-among : (xs ys : List Point) → HasDistinctIds xs → AreAmong xs ys → length xs ≤ length ys
length-among [] ys once among = omega arith
length-among (x ∷ xs) ys once among =
    let at = contains-IsMember x ys (among x (inl refl)) in
    let taken : IsPermutation ys (x ∷ remove ys at.0) = IsPermutation-remove ys at.0 x at.1 (sym at.2) in
    let rest : AreAmong xs (remove ys at.0) = λ p m. elim (IsMember-IsPermutation p ys (x ∷ remove ys at.0) taken (among p (inr m))) [
      | inl is ↦ absurd (not_both (same_id x p) (subst (λ (w : Point). same_id x w ≡ true) is (same_id-self x)) (HasDistinctIds-head x xs once p m))
      | inr n ↦ n
    ] in
    omega (arith, length-among xs (remove ys at.0) (HasDistinctIds-tail x xs once) rest, length_permutation ys (x ∷ remove ys at.0) taken)

-- ---- at one node

loses-among : (rules : Rules) (depth : ℕ) (xs ys : List Point) (p : Point) → AreAmong xs ys → loses rules depth xs p ≡ true → loses rules depth ys p ≡ true
loses-among rules depth xs ys p among lost =
    let q = beaten-loses rules depth xs p lost in loses-beaten rules depth ys q.0 p (among q.0 q.1) q.2

losers-among : (rules : Rules) (depth : ℕ) (xs ys : List Point) (o : ℕ) → AreAmong xs ys → AreAmong (losers rules depth xs o) (losers rules depth ys o)
unfolding losers
losers-among rules depth xs ys o among p m =
    let h = IsMember-filter (λ q. loses rules depth xs q && (octant rules depth q == o)) p xs m in
    IsMember-kept (λ q. loses rules depth ys q && (octant rules depth q == o)) p ys (and_both _ _ (loses-among rules depth xs ys p among (and_left (loses rules depth xs p) (octant rules depth p == o) h.1)) (and_right (loses rules depth xs p) (octant rules depth p == o) h.1)) (among p h.0)

distinct_losers : (rules : Rules) (depth : ℕ) (xs : List Point) (o : ℕ) → HasDistinctIds xs → HasDistinctIds (losers rules depth xs o)
unfolding losers
distinct_losers rules depth xs o once = HasDistinctIds-filter (λ q. loses rules depth xs q && (octant rules depth q == o)) xs once

overflows-among : (rules : Rules) (depth : ℕ) (xs ys : List Point) (o : ℕ) → HasDistinctIds xs → AreAmong xs ys → overflows rules depth xs o ≡ true → overflows rules depth ys o ≡ true
overflows-among rules depth xs ys o once among over =
    overflow_from rules depth ys o (overflows-depth rules depth xs o over) (omega (arith, overflows-more rules depth xs o over, length-among (losers rules depth xs o) (losers rules depth ys o) (distinct_losers rules depth xs o once) (losers-among rules depth xs ys o among)))

-- a point that leaves among some points leaves among more
leaves-among : (rules : Rules) (depth : ℕ) (xs ys : List Point) (p : Point) → HasDistinctIds xs → AreAmong xs ys → leaves rules depth none_open xs p ≡ true → leaves rules depth none_open ys p ≡ true
unfolding is_open
leaves-among rules depth xs ys p once among e =
    leaves-from rules depth none_open ys p (loses-among rules depth xs ys p among (leaves-loses rules depth none_open xs p e)) (overflows-among rules depth xs ys (octant rules depth p) once among (leaves-open rules depth none_open xs p e))

sent-among : (rules : Rules) (depth : ℕ) (xs ys : List Point) (o : ℕ) → HasDistinctIds xs → AreAmong xs ys → AreAmong (sent rules depth none_open xs o) (sent rules depth none_open ys o)
sent-among rules depth xs ys o once among p m =
    let h = IsMember-sent rules depth none_open xs o p m in
    subst (λ (n : ℕ). IsMember p (sent rules depth none_open ys n)) h.2 (sent-IsMember rules depth none_open ys p (among p h.0) (leaves-among rules depth xs ys p once among h.1))

-- ---- at each key

given_at-among : (rules : Rules) (ps qs : List Point) → HasDistinctIds ps → AreAmong ps qs → (d : ℕ) (key : VoxelKey) → key.depth ≡ d → AreAmong (given rules ps key) (given rules qs key)
given_at-among rules ps qs once among zero key e p m =
    let top : key ≡ root = given-top rules ps key p e m in
    let mine : IsMember p (given rules ps root) = subst (λ (k : VoxelKey). IsMember p (given rules ps k)) top m in
    let inside : IsMember p qs = among p (in_id_order-IsMember p ps (subst (λ (xs : List Point). IsMember p xs) (given-root rules ps) mine)) in
    subst (λ (k : VoxelKey). IsMember p (given rules qs k)) (sym top) (subst (λ (xs : List Point). IsMember p xs) (sym (given-root rules qs)) (IsMember-in_id_order p qs inside))
given_at-among rules ps qs once among (suc d) key e p m =
    let deep : 0 < key.depth = omega arith in
    let level : (parent key).depth ≡ d = omega (arith, depth-parent key) in
    let here : IsMember p (sent rules (parent key).depth none_open (given rules ps (parent key)) (octant_of key)) = subst (λ (xs : List Point). IsMember p xs) (given-parent rules ps key deep) m in
    subst (λ (xs : List Point). IsMember p xs) (sym (given-parent rules qs key deep)) (sent-among rules (parent key).depth (given rules ps (parent key)) (given rules qs (parent key)) (octant_of key) (HasDistinctIds-IsRising (given rules ps (parent key)) (IsRising-given rules ps (parent key) once)) (given_at-among rules ps qs once among d (parent key) level) p here)

-- with more points, each key is given the same points and more
pub given-among : (rules : Rules) (ps qs : List Point) (key : VoxelKey) → HasDistinctIds ps → AreAmong ps qs → AreAmong (given rules ps key) (given rules qs key)
given-among rules ps qs key once among = given_at-among rules ps qs once among key.depth key refl

-- so each node is a node
pub is_node-among : (rules : Rules) (ps qs : List Point) (key : VoxelKey) → HasDistinctIds ps → AreAmong ps qs → is_node rules ps key ≡ true → is_node rules qs key ≡ true
is_node-among rules ps qs key once among is =
    elim (node-cases rules ps key is) [
      | inl top ↦ subst (λ (k : VoxelKey). is_node rules qs k ≡ true) (sym top) (is_node-root rules qs)
      | inr some ↦ is_node-given rules qs key some.0 (given-among rules ps qs key once among some.0 some.1)
    ]

-- ---- how many nodes

-- a rising list whose items are among others is at most as long
pub length-rising : {X : Type 0} (before : X → X → Bool) → IsOrder before → (xs ys : List X) → IsRising before xs → ((x : X) → IsMember x xs → IsMember x ys) → length xs ≤ length ys
length-rising before o [] ys up among = omega arith
length-rising {X} before o (x ∷ xs) ys up among =
    let at = contains-IsMember x ys (among x (inl refl)) in
    let taken : IsPermutation ys (x ∷ remove ys at.0) = IsPermutation-remove ys at.0 x at.1 (sym at.2) in
    let rest : (y : X) → IsMember y xs → IsMember y (remove ys at.0) = λ y m. elim (IsMember-IsPermutation y ys (x ∷ remove ys at.0) taken (among y (inr m))) [
      | inl is ↦ absurd (not_both (before x x) (subst (λ (w : X). before x w ≡ true) (sym is) (up.0 y m)) (o.none_itself x))
      | inr n ↦ n
    ] in
    omega (arith, length-rising before o xs (remove ys at.0) up.1 rest, length_permutation ys (x ∷ remove ys at.0) taken)

-- with more points there are at least the same number of nodes
pub length-node_keys-among : (rules : Rules) (ps qs : List Point) → IsCube rules.cube → AllInCube rules.cube qs → HasDistinctIds ps → AreAmong ps qs → length (node_keys rules ps) ≤ length (node_keys rules qs)
length-node_keys-among rules ps qs ok inside once among =
    length-rising key_before key_order (node_keys rules ps) (node_keys rules qs) (IsRising-node_keys rules ps) (λ k m. node_keys-IsMember rules qs k ok inside (is_node-among rules ps qs k once among (IsMember-node_keys rules ps k m)))
