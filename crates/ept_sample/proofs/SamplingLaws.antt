-- The sampling: what is given to each key, and where each point stays.
use Rattle.std.proofs.Common.{◌≡◌, ◌∙◌, ℕ, zero, suc, ◌+◌, ◌≤◌, ◌<◌, Bool, true, false, cond, ◌||◌, nat_lt, ◌⊎◌, inl, inr, List, [], ◌∷◌, refl, sym, ap, subst, arith, length}
use Rattle.std.specs.Prelude.{IsTrue, ◌↔◌}
use Rattle.std.specs.List.Sorted.{IsPermutation}
use borrow.Author.Tests.{ltb-true}
use Rattle.std.proofs.lemmas.Bool.{lt-ltb}
use Rattle.std.proofs.lemmas.Bool.Decides.{nat_tests}
use Rattle.ept_point.specs.declared.point.Point.{Point}
use Rattle.ept_space.specs.declared.cube.Rules.{Rules}
use Rattle.ept_space.specs.VoxelKey.{VoxelKey, IsKey, root, same_key, child, parent, octant_of}
use Rattle.ept_space.specs.OctreeCube.{OctreeCube, IsCube, InCube, InBox, key_at}
use Rattle.ept_space.proofs.Family.{parent-child, octant_of-child, child-parent, octant_of-below, depth-child, depth-parent}
use Rattle.ept_space.proofs.Within.{same_key-true, same_key-same}
use Rattle.ept_space.proofs.PlaceKeys.{key_at-suc, key_at-root, IsKey-key_at, octant_at-below, InBox-key_at, InBox-root, InCube-root}
use Rattle.ept_space.specs.Place.{Place}
use Rattle.ept_sample.specs.Place.{place, AllInCube}
use Rattle.ept_sample.specs.Ids.{comes_before, HasDistinctIds, in_id_order}
use Rattle.ept_sample.specs.Arrivals.{loses, octant, is_open, leaves, kept, sent, none_open}
use Rattle.ept_sample.specs.Sampling.{given_at, given, sampling, is_node}
use Rattle.ept_sample.specs.Members.{IsMember}
use Rattle.ept_sample.proofs.Members.{all-member}
use Rattle.ept_sample.proofs.Ascending.{IsRising}
use Rattle.ept_sample.proofs.IdLaws.{IsRising-in_id_order, in_id_order-IsMember, IsMember-in_id_order, in_id_order-IsPermutation}
use Rattle.ept_sample.proofs.ArrivalLaws.{IsMember-sent, sent-IsMember, IsMember-stays, stays-IsMember, leaves-open, overflows-depth, IsRising-sent, IsRising-kept, best, stays-winner, BestOver}
use Rattle.ept_sample.proofs.Choices.{either, not_both, or_left, or_right, or_cases, not_true}

-- ---- what is given

-- all points are given to the root, in id order
pub given-root : (rules : Rules) (points : List Point) → given rules points root ≡ in_id_order points
unfolding given_at
given-root rules points = refl

-- a child is given what its parent sends to its octant
pub given-child : (rules : Rules) (points : List Point) (key : VoxelKey) (o : ℕ) → o < 8 → given rules points (child key o) ≡ sent rules key.depth none_open (given rules points key) o
unfolding given_at
given-child rules points key o small =
    ap (λ (d : ℕ). given_at rules points d (child key o)) (let e : (child key o).depth ≡ suc key.depth = omega (arith, depth-child key o) in e)
    ∙ (ap (λ (k : VoxelKey). sent rules key.depth none_open (given_at rules points key.depth k) (octant_of (child key o))) (parent-child key o)
    ∙ ap (λ (n : ℕ). sent rules key.depth none_open (given_at rules points key.depth key) n) (octant_of-child key o small))

-- the same of a key below the root
pub given-parent : (rules : Rules) (points : List Point) (key : VoxelKey) → 0 < key.depth → given rules points key ≡ sent rules (parent key).depth none_open (given rules points (parent key)) (octant_of key)
given-parent rules points key deep =
    ap (λ (k : VoxelKey). given rules points k) (sym (child-parent key deep)) ∙ given-child rules points (parent key) (octant_of key) (octant_of-below key)

-- only the root of depth 0 is given anything
none_elsewhere : (rules : Rules) (points : List Point) (key : VoxelKey) (p : Point) → IsMember p (given_at rules points 0 key) → same_key key root ≡ false → ⊥
unfolding given_at
none_elsewhere rules points key p m apart =
    let M : Bool → Type 0 = λ b. IsMember p (cond b (in_id_order points) []) in subst M apart m

pub given-top : (rules : Rules) (points : List Point) (key : VoxelKey) (p : Point) → key.depth ≡ 0 → IsMember p (given rules points key) → key ≡ root
given-top rules points key p top m =
    elim (either (same_key key root)) [
      | inl same ↦ same_key-true key root same
      | inr apart ↦ absurd (none_elsewhere rules points key p (subst (λ (d : ℕ). IsMember p (given_at rules points d key)) top m) apart)
    ]

zero_or_more : (d : ℕ) → (d ≡ 0) ⊎ (0 < d)
zero_or_more zero = inl refl
zero_or_more (suc d) = inr (omega arith)

-- a point that is given to a key below the root leaves the key's parent
pub given-leaves : (rules : Rules) (points : List Point) (key : VoxelKey) (p : Point) → 0 < key.depth → IsMember p (given rules points key) → IsMember p (given rules points (parent key)) × (leaves rules (parent key).depth none_open (given rules points (parent key)) p ≡ true) × (octant rules (parent key).depth p ≡ octant_of key)
given-leaves rules points key p deep m =
    IsMember-sent rules (parent key).depth none_open (given rules points (parent key)) (octant_of key) p (subst (λ (xs : List Point). IsMember p xs) (given-parent rules points key deep) m)

-- a point that leaves is given to the child of its octant
pub leaves-given : (rules : Rules) (points : List Point) (key : VoxelKey) (p : Point) → IsMember p (given rules points key) → leaves rules key.depth none_open (given rules points key) p ≡ true → IsMember p (given rules points (child key (octant rules key.depth p)))
leaves-given rules points key p m e =
    subst (λ (xs : List Point). IsMember p xs) (sym (given-child rules points key (octant rules key.depth p) (octant_at-below rules.cube key.depth (place p)))) (sent-IsMember rules key.depth none_open (given rules points key) p m e)

-- a point leaves only above the greatest depth
pub leaves-depth : (rules : Rules) (depth : ℕ) (xs : List Point) (p : Point) → leaves rules depth none_open xs p ≡ true → depth < rules.cube.depth
unfolding is_open
leaves-depth rules depth xs p e =
    overflows-depth rules depth xs (octant rules depth p) (leaves-open rules depth none_open xs p e)

-- what is given to a key is some of the points
pub given-IsMember : (rules : Rules) (points : List Point) (key : VoxelKey) (p : Point) → IsMember p (given rules points key) → IsMember p points
given-IsMember rules points key p m = go key.depth key refl m
  where
    go : (d : ℕ) (key : VoxelKey) → key.depth ≡ d → IsMember p (given rules points key) → IsMember p points
    go zero key e m =
        in_id_order-IsMember p points (subst (λ (xs : List Point). IsMember p xs) (given-root rules points) (subst (λ (k : VoxelKey). IsMember p (given rules points k)) (given-top rules points key p e m) m))
    go (suc d) key e m =
        go d (parent key) (let e' : (parent key).depth ≡ d = omega (arith, depth-parent key) in e') (given-leaves rules points key p (omega arith) m).0

-- ---- where given points lie

-- the key's depth is at most the greatest
pub given-depth : (rules : Rules) (points : List Point) (key : VoxelKey) (p : Point) → IsMember p (given rules points key) → key.depth ≤ rules.cube.depth
given-depth rules points key p m =
    elim (zero_or_more key.depth) [
      | inl top ↦ omega arith
      | inr deep ↦
          let below : (parent key).depth < rules.cube.depth = leaves-depth rules (parent key).depth (given rules points (parent key)) p (given-leaves rules points key p deep m).1 in
          omega (arith, below, depth-parent key)
    ]

-- the greatest depth is below the side
pub depth-side : (cube : OctreeCube) → IsCube cube → cube.depth < cube.e
depth-side cube ok = omega (arith, ok.span_low, ok.cells_whole)

-- a point is given to the keys of boxes that it lies in
pub given-key_at : (rules : Rules) (points : List Point) (key : VoxelKey) (p : Point) → IsCube rules.cube → InCube rules.cube (place p) → IsMember p (given rules points key) → key_at rules.cube key.depth (place p) ≡ key
given-key_at rules points key p ok inside m = go key.depth key refl m
  where
    go : (d : ℕ) (key : VoxelKey) → key.depth ≡ d → IsMember p (given rules points key) → key_at rules.cube key.depth (place p) ≡ key
    go zero key e m =
        let is : key ≡ root = given-top rules points key p e m in
        ap (λ (n : ℕ). key_at rules.cube n (place p)) e ∙ (key_at-root rules.cube (place p) inside ∙ sym is)
    go (suc d) key e m =
        let deep : 0 < key.depth = omega arith in
        let h = given-leaves rules points key p deep m in
        let above : key_at rules.cube (parent key).depth (place p) ≡ parent key = go d (parent key) (let e' : (parent key).depth ≡ d = omega (arith, depth-parent key) in e') h.0 in
        let low : (parent key).depth < rules.cube.depth = leaves-depth rules (parent key).depth (given rules points (parent key)) p h.1 in
        let one : key.depth ≡ (parent key).depth + 1 = omega (arith, depth-parent key) in
        ap (λ (n : ℕ). key_at rules.cube n (place p)) one
        ∙ (key_at-suc rules.cube (parent key).depth (place p) (omega (arith, low, depth-side rules.cube ok))
        ∙ (ap (λ (k : VoxelKey). child k (octant rules (parent key).depth p)) above
        ∙ (ap (λ (n : ℕ). child (parent key) n) h.2 ∙ child-parent key deep)))

pub given-InBox : (rules : Rules) (points : List Point) (key : VoxelKey) (p : Point) → IsCube rules.cube → InCube rules.cube (place p) → IsMember p (given rules points key) → InBox rules.cube key (place p)
given-InBox rules points key p ok inside m =
    subst (λ (k : VoxelKey). InBox rules.cube k (place p)) (given-key_at rules points key p ok inside m) (InBox-key_at rules.cube key.depth (place p) inside)

pub given-IsKey : (rules : Rules) (points : List Point) (key : VoxelKey) (p : Point) → IsCube rules.cube → InCube rules.cube (place p) → IsMember p (given rules points key) → IsKey key
given-IsKey rules points key p ok inside m =
    subst IsKey (given-key_at rules points key p ok inside m) (IsKey-key_at rules.cube key.depth (place p) ok inside (given-depth rules points key p m))

-- ---- which keys are nodes

pub is_node-root : (rules : Rules) (points : List Point) → is_node rules points root ≡ true
unfolding is_node
is_node-root rules points =
    or_left (same_key root root) (nat_lt 0 (length (given rules points root))) (same_key-same root root refl)

some_member : (xs : List Point) → nat_lt 0 (length xs) ≡ true → (p : Point) × IsMember p xs
some_member [] e = absurd (let below : 0 < 0 = ltb-true 0 0 e in omega arith)
some_member (p ∷ xs) e = (p, inl refl)

member_some : (p : Point) (xs : List Point) → IsMember p xs → nat_lt 0 (length xs) ≡ true
member_some p [] m = absurd m
member_some p (q ∷ xs) m = lt-ltb 0 (suc (length xs)) (omega arith)

pub is_node-given : (rules : Rules) (points : List Point) (key : VoxelKey) (p : Point) → IsMember p (given rules points key) → is_node rules points key ≡ true
unfolding is_node
is_node-given rules points key p m = or_right (same_key key root) _ (member_some p (given rules points key) m)

pub node-cases : (rules : Rules) (points : List Point) (key : VoxelKey) → is_node rules points key ≡ true → (key ≡ root) ⊎ ((p : Point) × IsMember p (given rules points key))
unfolding is_node
node-cases rules points key e =
    elim (or_cases (same_key key root) (nat_lt 0 (length (given rules points key))) e) [ inl top ↦ inl (same_key-true key root top) | inr some ↦ inr (some_member (given rules points key) some) ]

-- a node below the root was given a point
pub node-given : (rules : Rules) (points : List Point) (key : VoxelKey) → 0 < key.depth → is_node rules points key ≡ true → (p : Point) × IsMember p (given rules points key)
node-given rules points key deep e =
    elim (node-cases rules points key e) [
      | inl top ↦ absurd (let zero_deep : key.depth ≡ 0 = ap (λ (k : VoxelKey). k.depth) top in omega arith)
      | inr some ↦ some
    ]

-- each key of the sampling is the root or has its parent in it
pub is_node-parent : (rules : Rules) (points : List Point) (key : VoxelKey) → 0 < key.depth → is_node rules points key ≡ true → is_node rules points (parent key) ≡ true
is_node-parent rules points key deep e =
    let some = node-given rules points key deep e in
    is_node-given rules points (parent key) some.0 (given-leaves rules points key some.0 deep some.1).0

-- and at most as deep as the greatest depth
pub node-depth : (rules : Rules) (points : List Point) (key : VoxelKey) → is_node rules points key ≡ true → key.depth ≤ rules.cube.depth
node-depth rules points key e =
    elim (node-cases rules points key e) [
      | inl top ↦ (let shallow : key.depth ≡ 0 = ap (λ (k : VoxelKey). k.depth) top in omega arith)
      | inr some ↦ given-depth rules points key some.0 some.1
    ]

-- ---- the points of a node

pub IsMember-sampling : (rules : Rules) (points : List Point) (key : VoxelKey) (p : Point) → IsMember p (sampling rules points key) → IsMember p (given rules points key) × (leaves rules key.depth none_open (given rules points key) p ≡ false)
unfolding sampling
IsMember-sampling rules points key p m = IsMember-stays rules key.depth none_open (given rules points key) p m

pub sampling-IsMember : (rules : Rules) (points : List Point) (key : VoxelKey) (p : Point) → IsMember p (given rules points key) → leaves rules key.depth none_open (given rules points key) p ≡ false → IsMember p (sampling rules points key)
unfolding sampling
sampling-IsMember rules points key p m e = stays-IsMember rules key.depth none_open (given rules points key) p m e

winner_stays : (rules : Rules) (points : List Point) (key : VoxelKey) (p : Point) → IsMember p (given rules points key) → loses rules key.depth (given rules points key) p ≡ false → IsMember p (sampling rules points key)
winner_stays rules points key p m wins =
    sampling-IsMember rules points key p m (not_true _ (stays-winner rules key.depth none_open (given rules points key) p wins))

-- if a node was given a point, a point stays there
pub sampling-some : (rules : Rules) (points : List Point) (key : VoxelKey) (p : Point) → IsMember p (given rules points key) → (q : Point) × IsMember q (sampling rules points key)
sampling-some rules points key p m =
    elim (either (loses rules key.depth (given rules points key) p)) [
      | inl lost ↦ let b : BestOver rules key.depth (given rules points key) p = best rules key.depth (given rules points key) p lost in
          (b.0, winner_stays rules points key b.0 b.1 b.3)
      | inr wins ↦ (p, winner_stays rules points key p m wins)
    ]

-- ---- each point stays in one node

pub below_or_at : (d n : ℕ) → d ≤ n → (d < n) ⊎ (d ≡ n)
below_or_at d n h = elim (either (nat_lt d n)) [ inl less ↦ inl (ltb-true d n less) | inr not_less ↦ inr (grind (arith, nat_tests)) ]

stays_below : (rules : Rules) (points : List Point) (p : Point) (n : ℕ) (key : VoxelKey) → rules.cube.depth ≤ key.depth + n → IsMember p (given rules points key) → (k : VoxelKey) × IsMember p (sampling rules points k)
stays_below rules points p zero key low m =
    elim (either (leaves rules key.depth none_open (given rules points key) p)) [
      | inl goes ↦ absurd (omega (arith, leaves-depth rules key.depth (given rules points key) p goes))
      | inr stays ↦ (key, sampling-IsMember rules points key p m stays)
    ]
stays_below rules points p (suc n) key low m =
    elim (either (leaves rules key.depth none_open (given rules points key) p)) [
      | inl goes ↦ stays_below rules points p n (child key (octant rules key.depth p)) (omega (arith, depth-child key (octant rules key.depth p))) (leaves-given rules points key p m goes)
      | inr stays ↦ (key, sampling-IsMember rules points key p m stays)
    ]

pub stays-somewhere : (rules : Rules) (points : List Point) (p : Point) → IsMember p points → (k : VoxelKey) × IsMember p (sampling rules points k)
stays-somewhere rules points p m =
    stays_below rules points p rules.cube.depth root (omega arith) (subst (λ (xs : List Point). IsMember p xs) (sym (given-root rules points)) (IsMember-in_id_order p points m))

-- a point leaves each node above a key that it is given to
pub leaves-above : (rules : Rules) (points : List Point) (key : VoxelKey) (p : Point) → IsCube rules.cube → InCube rules.cube (place p) → IsMember p (given rules points key) → (d : ℕ) → d < key.depth → IsMember p (given rules points (key_at rules.cube d (place p))) × (leaves rules d none_open (given rules points (key_at rules.cube d (place p))) p ≡ true)
leaves-above rules points key p ok inside m d above = go key.depth key refl m above
  where
    Leaves : ℕ → VoxelKey → Type 0
    Leaves n k = IsMember p (given rules points k) × (leaves rules n none_open (given rules points k) p ≡ true)

    go : (n : ℕ) (key : VoxelKey) → key.depth ≡ n → IsMember p (given rules points key) → d < key.depth → Leaves d (key_at rules.cube d (place p))
    go zero key e m above = absurd (omega arith)
    go (suc n) key e m above =
        let h = given-leaves rules points key p (omega arith) m in
        let at : (parent key).depth ≡ n = omega (arith, depth-parent key) in
        elim (below_or_at d n (omega arith)) [
          | inl lower ↦ go n (parent key) at h.0 (omega arith)
          | inr here ↦
              let level : (parent key).depth ≡ d = omega arith in
              let is : parent key ≡ key_at rules.cube d (place p) =
              sym (ap (λ (x : ℕ). key_at rules.cube x (place p)) (sym level) ∙ given-key_at rules points (parent key) p ok inside h.0) in
              subst (λ (k : VoxelKey). Leaves d k) is (subst (λ (x : ℕ). Leaves x (parent key)) level (h.0, h.1))
        ]

-- a point of one node is in no node below it
not_deeper : (rules : Rules) (points : List Point) (j k : VoxelKey) (p : Point) → IsCube rules.cube → InCube rules.cube (place p) → IsMember p (sampling rules points j) → IsMember p (sampling rules points k) → j.depth < k.depth → ⊥
not_deeper rules points j k p ok inside m n less =
    let here = IsMember-sampling rules points j p m in
    let down = leaves-above rules points k p ok inside (IsMember-sampling rules points k p n).0 j.depth less in
    let leaving : leaves rules j.depth none_open (given rules points j) p ≡ true =
    subst (λ (q : VoxelKey). leaves rules j.depth none_open (given rules points q) p ≡ true) (given-key_at rules points j p ok inside here.0) down.1 in
    not_both (leaves rules j.depth none_open (given rules points j) p) leaving here.1

-- so it is in one node
pub stays-once : (rules : Rules) (points : List Point) (j k : VoxelKey) (p : Point) → IsCube rules.cube → InCube rules.cube (place p) → IsMember p (sampling rules points j) → IsMember p (sampling rules points k) → j ≡ k
stays-once rules points j k p ok inside m n =
    elim (either (nat_lt j.depth k.depth)) [
      | inl less ↦ absurd (not_deeper rules points j k p ok inside m n (ltb-true j.depth k.depth less))
      | inr not_less ↦
          elim (either (nat_lt k.depth j.depth)) [
            | inl more ↦ absurd (not_deeper rules points k j p ok inside n m (ltb-true k.depth j.depth more))
            | inr not_more ↦
                let level : j.depth ≡ k.depth = grind (arith, nat_tests) in
                sym (given-key_at rules points j p ok inside (IsMember-sampling rules points j p m).0)
                ∙ (ap (λ (d : ℕ). key_at rules.cube d (place p)) level ∙ given-key_at rules points k p ok inside (IsMember-sampling rules points k p n).0)
          ]
    ]

-- ---- order

rising_given : (rules : Rules) (points : List Point) → HasDistinctIds points → (d : ℕ) (key : VoxelKey) → IsRising comes_before (given_at rules points d key)
unfolding given_at
rising_given rules points once zero key = top (same_key key root)
  where
    top : (b : Bool) → IsRising comes_before (cond b (in_id_order points) [])
    top true = IsRising-in_id_order points once
    top false = tt
rising_given rules points once (suc d) key =
    IsRising-sent rules d none_open (given_at rules points d (parent key)) (octant_of key) (rising_given rules points once d (parent key))

pub IsRising-given : (rules : Rules) (points : List Point) (key : VoxelKey) → HasDistinctIds points → IsRising comes_before (given rules points key)
IsRising-given rules points key once = rising_given rules points once key.depth key

-- the points of each node are in id order
pub IsRising-sampling : (rules : Rules) (points : List Point) (key : VoxelKey) → HasDistinctIds points → IsRising comes_before (sampling rules points key)
unfolding sampling
IsRising-sampling rules points key once =
    IsRising-kept rules key.depth none_open (given rules points key) (IsRising-given rules points key once)

same_given : (rules : Rules) (ps qs : List Point) → in_id_order ps ≡ in_id_order qs → (d : ℕ) (key : VoxelKey) → given_at rules ps d key ≡ given_at rules qs d key
unfolding given_at
same_given rules ps qs e zero key = ap (λ (xs : List Point). cond (same_key key root) xs []) e
same_given rules ps qs e (suc d) key =
    ap (λ (xs : List Point). sent rules d none_open xs (octant_of key)) (same_given rules ps qs e d (parent key))

-- the order of the list makes no difference
pub given-IsPermutation : (rules : Rules) (ps qs : List Point) (key : VoxelKey) → HasDistinctIds ps → IsPermutation ps qs → given rules ps key ≡ given rules qs key
given-IsPermutation rules ps qs key once h =
    same_given rules ps qs (in_id_order-IsPermutation ps qs once h) key.depth key

pub sampling-IsPermutation : (rules : Rules) (ps qs : List Point) (key : VoxelKey) → HasDistinctIds ps → IsPermutation ps qs → sampling rules ps key ≡ sampling rules qs key
unfolding sampling
sampling-IsPermutation rules ps qs key once h =
    ap (λ (xs : List Point). kept rules key.depth none_open xs) (given-IsPermutation rules ps qs key once h)

pub is_node-IsPermutation : (rules : Rules) (ps qs : List Point) (key : VoxelKey) → HasDistinctIds ps → IsPermutation ps qs → is_node rules ps key ≡ is_node rules qs key
unfolding is_node
is_node-IsPermutation rules ps qs key once h =
    ap (λ (xs : List Point). same_key key root || nat_lt 0 (length xs)) (given-IsPermutation rules ps qs key once h)

-- ---- a test of places

-- what a test of the root's box says of the cube
pub in_cube_test : (cube : OctreeCube) (at told : Place) (r : Bool) (B : Place → Type 0) → told ≡ at → (IsTrue r ↔ B told) → ((x : Place) → B x ↔ InBox cube root x) → IsTrue r ↔ InCube cube at
in_cube_test cube at told r B is test box =
    (λ h. InCube-root cube at ((box at).0 (subst B is (test.0 h))), λ h. test.1 (subst B (sym is) ((box at).1 (InBox-root cube at h))))

-- ---- nodes

pub IsKey-root : IsKey root
IsKey-root = record { shallow = omega arith; x_in = omega arith; y_in = omega arith; z_in = omega arith }

pub node-IsKey : (rules : Rules) (points : List Point) (key : VoxelKey) → IsCube rules.cube → AllInCube rules.cube points → is_node rules points key ≡ true → IsKey key
node-IsKey rules points key ok inside is =
    elim (node-cases rules points key is) [
      | inl top ↦ subst IsKey (sym top) IsKey-root
      | inr some ↦ given-IsKey rules points key some.0 ok (all-member (λ p. InCube rules.cube (place p)) some.0 points inside (given-IsMember rules points key some.0 some.1)) some.1
    ]

-- a node below the root has a point
pub node-points : (rules : Rules) (points : List Point) (key : VoxelKey) → is_node rules points key ≡ true → ¬ (key ≡ root) → ¬ (sampling rules points key ≡ [])
node-points rules points key is lower none =
    elim (node-cases rules points key is) [
      | inl top ↦ lower top
      | inr some ↦
          let q = sampling-some rules points key some.0 some.1 in
          let M : List Point → Type 0 = λ xs. IsMember q.0 xs in subst M none q.1
    ]
