-- Points that leave a node lie in the boxes of its children, whatever the ids.
use Rattle.std.proofs.Common.{◌≡◌, ◌∙◌, ℕ, zero, suc, ◌+◌, ◌*◌, ◌<◌, Bool, true, false, not, ◌&&◌, T, inl, inr, List, [], ◌∷◌, ◌++◌, refl, sym, ap, subst, arith, length, cond}
use Rattle.std.specs.Prelude.{ℤ, pos, ◌+ℤ◌}
use Rattle.std.specs.List.{count_by}
use Rattle.std.specs.Prelude.{All}
use Rattle.std.specs.Int.Signed.{le_z, lt_z, le_z_yes, lt_z_yes}
use Rattle.std.proofs.lemmas.Bool.{and_parts, and_from, true_from_ne_false, not_from_true, not_from_false}
use Rattle.ept_point.specs.declared.point.Point.{Point}
use Rattle.ept_space.specs.declared.cube.Rules.{Rules}
use Rattle.ept_space.specs.Place.{Place, coordinate}
use Rattle.ept_space.specs.VoxelKey.{VoxelKey, child}
use Rattle.ept_space.specs.OctreeCube.{OctreeCube, IsCube, IsFrom, box_side, InBox, octant_at}
use Rattle.ept_space.proofs.PlaceKeys.{InBox-child}
use Rattle.ept_space.proofs.Family.{depth-child}
use Rattle.ept_sample.specs.Place.{place}
use Rattle.ept_sample.specs.Arrivals.{octant, all_octants}
use Rattle.ept_sample.specs.Members.{IsMember}
use Rattle.ept_sample.proofs.Members.{IsMember-left, IsMember-right, all-member, All-members, member-flat_map}
use Rattle.ept_sample.proofs.Octants.{IsMember-octant}
use Rattle.ept_sample.proofs.IdLaws.{count_by-cons, count_by-member}
use Rattle.ept_grid.specs.Outgoing.{Leaving, points_at, all_points}
use Rattle.ept_grid.specs.Node as grid
use Rattle.ept_grid.specs.Node.{SendsOn}
use Rattle.ept_grid.proofs.Leavings.{all-none}
use Rattle.ept_tree.specs.declared.arrival.Arrival.{Arrival}
use Rattle.ept_tree.specs.Sending.{arrival_at, arrivals_to, sending}
use Rattle.std.specs.BTreeMap.{is_at}
use Rattle.std.specs.Map.{lookup}
use Rattle.std.specs.Prelude.{OnOk, Result, Ok, Err, Some}
use Rattle.ept_space.specs.VoxelKey.{key_cmp}
use Rattle.ept_table.specs.Octree.{Branch, AreNodes}
use Rattle.ept_tree.specs.Tree.{IsPlaced, ArePlaced, GoDown}
use Rattle.ept_tree.proofs.Branches.{branch, lookup-member}

-- ---- a box as a test

is_told : (b : Bool) → b ≡ true → T b
is_told true is = tt
is_told false is = absurd (cc)

is_true : (b : Bool) → T b → b ≡ true
is_true true is = refl
is_true false is = absurd is

from_test : ℤ → ℕ → ℤ → Bool
from_test least size at = le_z least at && lt_z at (least +ℤ pos size)

from_yes : (least : ℤ) (size : ℕ) (at : ℤ) → from_test least size at ≡ true → IsFrom least size at
unfolding from_test
from_yes least size at is =
    let parts = and_parts (le_z least at) (lt_z at (least +ℤ pos size)) is in
    (le_z_yes (is_told (le_z least at) parts.0), lt_z_yes (is_told (lt_z at (least +ℤ pos size)) parts.1))

yes_from : (least : ℤ) (size : ℕ) (at : ℤ) → IsFrom least size at → from_test least size at ≡ true
unfolding from_test
yes_from least size at is =
    and_from (le_z least at) (lt_z at (least +ℤ pos size)) (is_true (le_z least at) is.0.le) (is_true (lt_z at (least +ℤ pos size)) is.1.lt)

box_test : OctreeCube → VoxelKey → Place → Bool
box_test cube key at =
    from_test (coordinate cube.corner 0 +ℤ pos (key.x * box_side cube key.depth)) (box_side cube key.depth) (coordinate at 0)
    && (from_test (coordinate cube.corner 1 +ℤ pos (key.y * box_side cube key.depth)) (box_side cube key.depth) (coordinate at 1)
    && from_test (coordinate cube.corner 2 +ℤ pos (key.z * box_side cube key.depth)) (box_side cube key.depth) (coordinate at 2))

box_yes : (cube : OctreeCube) (key : VoxelKey) (at : Place) → box_test cube key at ≡ true → InBox cube key at
unfolding InBox box_test
box_yes cube key at is =
    let first = and_parts _ _ is in
    let others = and_parts _ _ first.1 in
    record { x = from_yes _ _ _ first.0; y = from_yes _ _ _ others.0; z = from_yes _ _ _ others.1 }

yes_box : (cube : OctreeCube) (key : VoxelKey) (at : Place) → InBox cube key at → box_test cube key at ≡ true
unfolding InBox box_test
yes_box cube key at is = and_from _ _ (yes_from _ _ _ is.x) (and_from _ _ (yes_from _ _ _ is.y) (yes_from _ _ _ is.z))

-- ---- points that are counted

none_counted : (test : Point → Bool) (ps : List Point) → ((q : Point) → IsMember q ps → test q ≡ false) → count_by test ps ≡ 0
none_counted test [] none = refl
none_counted test (p ∷ ps) none =
    let first : ◌≡◌ {A = ℕ} (cond (test p) 1 0) 0 = ap (λ (b : Bool). let n : ℕ = cond b 1 0 in n) (none p (inl refl)) in
    omega (arith, count_by-cons test p ps, first, none_counted test ps (λ q m. none q (inr m)))

-- a point that leaves for an octant leaves
leaves_at : (out : List Leaving) (o : ℕ) (q : Point) → IsMember q (points_at out o) → IsMember q (all_points out)
leaves_at [] zero q m = m
leaves_at [] (suc o) q m = m
leaves_at (l ∷ out) zero q m = IsMember-left q l.points (all_points out) m
leaves_at (l ∷ out) (suc o) q m = IsMember-right q l.points (all_points out) (leaves_at out o q m)

-- ---- what leaves a node in which all points lie in its box

module _ (old new : grid.Node) (p : Point) (before after : List Leaving)
    (inside : All (λ q. InBox old.rules.cube old.key (place q)) old.points) (arrives : InBox old.rules.cube old.key (place p))
    (together : (test : Point → Bool) → count_by test new.points + count_by test (all_points after) ≡ count_by test (p ∷ old.points) + count_by test (all_points before))
    (empty : (o : ℕ) → points_at before o ≡ []) where
  outside : Point → Bool
  outside q = not (box_test old.rules.cube old.key (place q))

  given_inside : (q : Point) → IsMember q (p ∷ old.points) → outside q ≡ false
  unfolding outside
  given_inside q (inl is) = not_from_true _ (subst (λ (r : Point). box_test old.rules.cube old.key (place r) ≡ true) is (yes_box old.rules.cube old.key (place p) arrives))
  given_inside q (inr m) = not_from_true _ (yes_box old.rules.cube old.key (place q) (all-member (λ r. InBox old.rules.cube old.key (place r)) q old.points inside m))

  none_outside : count_by outside (all_points after) ≡ 0
  none_outside =
      let none : count_by outside (all_points before) ≡ 0 = ap (λ (w : List Point). count_by outside w) (all-none before (λ o low. empty o)) in
      omega (arith, together outside, none_counted outside (p ∷ old.points) given_inside, none)

  leaves_inside : (o : ℕ) (q : Point) → IsMember q (points_at after o) → InBox old.rules.cube old.key (place q)
  unfolding outside
  leaves_inside o q m =
      box_yes old.rules.cube old.key (place q)
      (true_from_ne_false _ (λ out. omega (arith, count_by-member outside q (all_points after) (leaves_at after o q m) (not_from_false _ out), none_outside)))

  module _ (cube : IsCube old.rules.cube) (sends : (o : ℕ) → o < 8 → SendsOn old new o (points_at before o) (points_at after o)) where
    some_of : (q : Point) (ps : List Point) → IsMember q ps → 0 < length ps
    some_of q [] m = absurd m
    some_of q (r ∷ ps) m = omega arith

    goes_down : (o : ℕ) → o < 8 → (q : Point) → IsMember q (points_at after o) → IsPlaced old.rules (arrival_at (child old.key o) q)
    goes_down o low q m =
        let s = sends o low in
        let all : points_at after o ≡ s.added = s.grows ∙ ap (λ (w : List Point). w ++ s.added) (empty o) in
        let added : IsMember q s.added = subst (λ (w : List Point). IsMember q w) all m in
        let above : old.key.depth < old.rules.cube.depth = s.above (s.if_open (some_of q s.added added)) in
        let deep : old.key.depth < old.rules.cube.e = omega (arith, above, cube.cells_whole) in
        let at : octant_at old.rules.cube old.key.depth (place q) ≡ o = all-member (λ r. octant old.rules old.key.depth r ≡ o) q s.added s.in_octant added in
        record {
          inside = subst (λ (k : ℕ). InBox old.rules.cube (child old.key k) (place q)) at (InBox-child old.rules.cube old.key (place q) deep (leaves_inside o q m));
          shallow = omega (arith, above, depth-child old.key o);
        }

    pub all_go_down : GoDown old.rules old.key after
    all_go_down o low = All-members (λ q. IsPlaced old.rules (arrival_at (child old.key o) q)) (points_at after o) (goes_down o low)

-- ---- the points that are sent are placed

one_placed : (rules : Rules) (key : VoxelKey) (o : ℕ) (points : List Point) → All (λ q. IsPlaced rules (arrival_at (child key o) q)) points → (a : Arrival) → IsMember a (arrivals_to (child key o) points) → IsPlaced rules a
one_placed rules key o [] all a m = absurd m
one_placed rules key o (q ∷ points) all a (inl is) = subst (λ (b : Arrival). IsPlaced rules b) is (all-member (λ r. IsPlaced rules (arrival_at (child key o) r)) q (q ∷ points) all (inl refl))
one_placed rules key o (q ∷ points) all a (inr m) = one_placed rules key o points (λ i d low. all (suc i) d (omega (arith, low))) a m

pub sending-placed : (rules : Rules) (key : VoxelKey) (leaving : List Leaving) → GoDown rules key leaving → ArePlaced rules (sending key leaving)
sending-placed rules key leaving down =
    All-members (IsPlaced rules) (sending key leaving) (λ a m. (
    let from = member-flat_map (λ (o : ℕ). arrivals_to (child key o) (points_at leaving o)) a all_octants m in
    one_placed rules key from.0 (points_at leaving from.0) (down from.0 (IsMember-octant from.0 from.1)) a from.2))

-- a node that sends points is above the greatest depth
pub sends-above : (rules : Rules) (key : VoxelKey) (leaving : List Leaving) → GoDown rules key leaving → (o : ℕ) → o < 8 → 0 < length (points_at leaving o) → key.depth < rules.cube.depth
sends-above rules key leaving down o low some = first (points_at leaving o) (down o low) some
  where
    first : (ps : List Point) → All (λ q. IsPlaced rules (arrival_at (child key o) q)) ps → 0 < length ps → key.depth < rules.cube.depth
    first [] all some = absurd (omega (arith, some))
    first (q ∷ ps) all some = omega (arith, (all-member (λ r. IsPlaced rules (arrival_at (child key o) r)) q (q ∷ ps) all (inl refl)).shallow, depth-child key o)

-- ---- a node that is found

pub found-placed : (rules : Rules) (nodes : List Branch) (a : Arrival) (old : grid.Node) → AreNodes rules nodes → Some old ≡ lookup (is_at (key_cmp a.key)) nodes → IsPlaced rules a → InBox old.rules.cube old.key (place a.point)
found-placed rules nodes a old own found placed =
    let its = own (branch a.key old) (lookup-member nodes a.key old found) in
    subst (λ (r : Rules). InBox r.cube old.key (place a.point)) (sym its.1) (subst (λ (k : VoxelKey). InBox rules.cube k (place a.point)) (sym its.0) placed.inside)

-- what moves down from it moves down from its key, by the tree's rules
pub found-down : (rules rules' : Rules) (key key' : VoxelKey) (leaving : List Leaving) → rules' ≡ rules → key' ≡ key → GoDown rules' key' leaving → GoDown rules key leaving
found-down rules rules' key key' leaving same_rules same_key down =
    subst (λ (r : Rules). GoDown r key leaving) same_rules (subst (λ (k : VoxelKey). GoDown rules' k leaving) same_key down)

-- a fact holds on success
pub any-ok : {E : Type 0} (r : Result (Unit {0}) E) (P : Type 0) → P → OnOk r P
any-ok (Ok u) P p = p
any-ok (Err e) P p = tt
