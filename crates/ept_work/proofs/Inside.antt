-- Points that leave a node lie in the boxes of its children, whatever the ids.
use Rattle.std.proofs.Common.{◌≡◌, ℕ, zero, suc, ◌*◌, ◌<◌, Bool, true, false, not, ◌&&◌, T, inl, inr, List, [], ◌∷◌, refl, ap, subst, arith, cond}
use Rattle.std.specs.Prelude.{ℤ, pos, ◌+ℤ◌}
use Rattle.std.specs.List.{count_by}
use Rattle.std.specs.Int.Signed.{le_z, lt_z, le_z_yes, lt_z_yes}
use Rattle.std.proofs.lemmas.Bool.{and_parts, and_from, true_from_ne_false, not_from_true, not_from_false}
use Rattle.ept_point.specs.declared.point.Point.{Point}
use Rattle.ept_space.specs.Place.{Place, coordinate}
use Rattle.ept_space.specs.VoxelKey.{VoxelKey, child}
use Rattle.ept_space.specs.OctreeCube.{OctreeCube, IsCube, IsFrom, box_side, InBox, octant_at}
use Rattle.ept_space.proofs.PlaceKeys.{InBox-child}
use Rattle.ept_sample.specs.Place.{place, AllInBox}
use Rattle.ept_sample.specs.Arrivals.{octant}
use Rattle.ept_sample.specs.Members.{IsMember}
use Rattle.ept_sample.proofs.Members.{IsMember-left, IsMember-right, all-member, All-members}
use Rattle.ept_sample.proofs.IdLaws.{count_by-cons, count_by-member}
use Rattle.ept_grid.specs.Outgoing.{Leaving, points_at, all_points}
use Rattle.ept_grid.specs.Node.{Node}
use Rattle.ept_work.specs.Meeting.{Meets}

-- ---- a box as a test

is_told : (b : Bool) → b ≡ true → T b
is_told true is = tt
is_told false is = absurd (cc)

is_true : (b : Bool) → T b → b ≡ true
is_true true is = refl
is_true false is = absurd is

from_test : ℤ → ℕ → ℤ → Bool
from_test least size at = le_z least at && lt_z at (least +ℤ pos size)

from_yes : (least : ℤ) (size : ℕ) (at : ℤ) → from_test least size at ≡ true → IsFrom least size at
unfolding from_test
from_yes least size at is =
    let parts = and_parts (le_z least at) (lt_z at (least +ℤ pos size)) is in
    (le_z_yes (is_told (le_z least at) parts.0), lt_z_yes (is_told (lt_z at (least +ℤ pos size)) parts.1))

yes_from : (least : ℤ) (size : ℕ) (at : ℤ) → IsFrom least size at → from_test least size at ≡ true
unfolding from_test
yes_from least size at is =
    and_from (le_z least at) (lt_z at (least +ℤ pos size)) (is_true (le_z least at) is.0.le) (is_true (lt_z at (least +ℤ pos size)) is.1.lt)

box_test : OctreeCube → VoxelKey → Place → Bool
box_test cube key at =
    from_test (coordinate cube.corner 0 +ℤ pos (key.x * box_side cube key.depth)) (box_side cube key.depth) (coordinate at 0)
    && (from_test (coordinate cube.corner 1 +ℤ pos (key.y * box_side cube key.depth)) (box_side cube key.depth) (coordinate at 1)
    && from_test (coordinate cube.corner 2 +ℤ pos (key.z * box_side cube key.depth)) (box_side cube key.depth) (coordinate at 2))

box_yes : (cube : OctreeCube) (key : VoxelKey) (at : Place) → box_test cube key at ≡ true → InBox cube key at
unfolding InBox box_test
box_yes cube key at is =
    let first = and_parts _ _ is in
    let others = and_parts _ _ first.1 in
    record { x = from_yes _ _ _ first.0; y = from_yes _ _ _ others.0; z = from_yes _ _ _ others.1 }

yes_box : (cube : OctreeCube) (key : VoxelKey) (at : Place) → InBox cube key at → box_test cube key at ≡ true
unfolding InBox box_test
yes_box cube key at is = and_from _ _ (yes_from _ _ _ is.x) (and_from _ _ (yes_from _ _ _ is.y) (yes_from _ _ _ is.z))

-- ---- points that are counted

none_counted : (test : Point → Bool) (ps : List Point) → ((q : Point) → IsMember q ps → test q ≡ false) → count_by test ps ≡ 0
none_counted test [] none = refl
none_counted test (p ∷ ps) none =
    let first : ◌≡◌ {A = ℕ} (cond (test p) 1 0) 0 = ap (λ (b : Bool). let n : ℕ = cond b 1 0 in n) (none p (inl refl)) in
    omega (arith, count_by-cons test p ps, first, none_counted test ps (λ q m. none q (inr m)))

-- a point that leaves for an octant leaves
leaves_at : (out : List Leaving) (o : ℕ) (q : Point) → IsMember q (points_at out o) → IsMember q (all_points out)
leaves_at [] zero q m = m
leaves_at [] (suc o) q m = m
leaves_at (l ∷ out) zero q m = IsMember-left q l.points (all_points out) m
leaves_at (l ∷ out) (suc o) q m = IsMember-right q l.points (all_points out) (leaves_at out o q m)

-- ---- what leaves a node in whose box all points lie

module _ (old new : Node) (points : List Point) (out : List Leaving) (meets : Meets old new points out)
    (inside : AllInBox old.rules.cube old.key old.points) (arriving : AllInBox old.rules.cube old.key points) where
  outside : Point → Bool
  outside q = not (box_test old.rules.cube old.key (place q))

  none_in : (ps : List Point) → AllInBox old.rules.cube old.key ps → (q : Point) → IsMember q ps → outside q ≡ false
  unfolding outside
  none_in ps all q m = not_from_true _ (yes_box old.rules.cube old.key (place q) (all-member (λ r. InBox old.rules.cube old.key (place r)) q ps all m))

  none_outside : count_by outside (all_points out) ≡ 0
  none_outside =
      omega (arith, meets.together outside, none_counted outside points (none_in points arriving), none_counted outside old.points (none_in old.points inside))

  leaves_inside : (o : ℕ) (q : Point) → IsMember q (points_at out o) → InBox old.rules.cube old.key (place q)
  unfolding outside
  leaves_inside o q m =
      box_yes old.rules.cube old.key (place q)
      (true_from_ne_false _ (λ is_out. omega (arith, count_by-member outside q (all_points out) (leaves_at out o q m) (not_from_false _ is_out), none_outside)))

  -- those that leave for an octant lie in the box of its child
  pub leaving-inside : IsCube old.rules.cube → (o : ℕ) → o < 8 → (old.key.depth < old.rules.cube.depth) → AllInBox old.rules.cube (child old.key o) (points_at out o)
  leaving-inside cube o low above = All-members (λ q. InBox old.rules.cube (child old.key o) (place q)) (points_at out o) (λ q m. (
      let s = meets.sends o low in
      let added : IsMember q s.added = subst (λ (w : List Point). IsMember q w) s.grows m in
      let deep : old.key.depth < old.rules.cube.e = omega (arith, above, cube.cells_whole) in
      let at : octant_at old.rules.cube old.key.depth (place q) ≡ o = all-member (λ r. octant old.rules old.key.depth r ≡ o) q s.added s.in_octant added in
      subst (λ (k : ℕ). InBox old.rules.cube (child old.key k) (place q)) at (InBox-child old.rules.cube old.key (place q) deep (leaves_inside o q m))))
