-- Whether points can be sampled, and whether nodes are the sampling of points.
use Rattle.std.proofs.Common.{◌≡◌, inl, inr, ℕ, ◌+◌, ◌^◌, ◌<◌, Bool, true, false, cond, List, [], ◌∷◌, count_by, map, refl, ◌∙◌, ap, arith}
use Rattle.ept_point.specs.declared.point.Point.{Point}
use Rattle.ept_point.specs.Packed.{packed}
use Rattle.ept_point.proofs.PackedLaws.{packed_one}
use Rattle.ept_space.specs.declared.cube.Rules.{Rules}
use Rattle.ept_space.specs.VoxelKey.{VoxelKey, child}
use Rattle.ept_space.specs.Place.{Place, coordinate}
use Rattle.ept_space.specs.OctreeCube.{OctreeCube, IsCube, IsFrom, InCube}
use Rattle.ept_sample.specs.declared.tiles.Tile.{Tile}
use Rattle.ept_sample.specs.Place.{place}
use Rattle.ept_sample.specs.Members.{IsMember}
use Rattle.ept_sample.specs.Ids.{same_id, HasDistinctIds}
use Rattle.ept_sample.specs.Sampling.{is_node}
use Rattle.ept_sample.specs.Nodes.{sampled}
use Rattle.ept_sample.specs.SamplingLaws.{CanBeSampled}
use Rattle.ept_sample.proofs.Choices.{either, not_both}
use Rattle.ept_sample.proofs.IdLaws.{same_id-sym, same_id-trans, count_by-cons, HasDistinctIds-tail, HasDistinctIds-head}
use Rattle.ept_grid.specs.Mask.{opened}
use Rattle.ept_table.specs.Octree.{Branch, tile_of, AreSampled}
use Rattle.ept_decidable.specs.Known.{DistinctIdsAreDecided, CanBeSampledIsDecided, SampledIsDecided}
use Rattle.ept_decidable.proofs.Deciding.{Known, decided, known_and, known_like, known_le, known_eq, known_same, known_numbers, known_below_int, known_most_int, known_members, known_below, known_all, known_lists}
use Rattle.ept_decidable.proofs.Records.{known_signed}

-- ---- ids

none_counted : (test : Point → Bool) (points : List Point) → ((q : Point) → IsMember q points → test q ≡ false) → count_by test points ≡ 0
none_counted test [] none = refl
none_counted test (p ∷ points) none =
    omega (arith, count_by-cons test p points ∙ ap (λ (b : Bool). cond b 1 0 + count_by test points) (none p (inl refl)), none_counted test points (λ q m. none q (inr m)))

-- a point before others, whose id no other has
joined : (p : Point) (points : List Point) → HasDistinctIds points → ((q : Point) → IsMember q points → same_id p q ≡ false) → HasDistinctIds (p ∷ points)
unfolding HasDistinctIds
joined p points once apart r = elim (either (same_id r p)) [
  | inl same ↦ omega (arith, count_by-cons (same_id r) p points ∙ ap (λ (b : Bool). cond b 1 0 + count_by (same_id r) points) same, none_counted (same_id r) points (other same))
  | inr not_same ↦ omega (arith, count_by-cons (same_id r) p points ∙ ap (λ (b : Bool). cond b 1 0 + count_by (same_id r) points) not_same, once r)
]
  where
    other : same_id r p ≡ true → (q : Point) → IsMember q points → same_id r q ≡ false
    other same q m = elim (either (same_id r q)) [
      | inl also ↦ absurd (not_both (same_id p q) (same_id-trans p r q (same_id-sym r p same) also) (apart q m))
      | inr is_not ↦ is_not
    ]

none_distinct : HasDistinctIds []
unfolding HasDistinctIds
none_distinct p = omega arith

known_distinct : (points : List Point) → Known (HasDistinctIds points)
known_distinct [] = inl none_distinct
known_distinct (p ∷ points) =
    known_like (λ (h : HasDistinctIds points × ((q : Point) → IsMember q points → same_id p q ≡ false)). joined p points h.0 h.1) (λ (once : HasDistinctIds (p ∷ points)). (HasDistinctIds-tail p points once, HasDistinctIds-head p points once))
    (known_and (known_distinct points) (known_members (λ q. known_same (same_id p q) false) points))

pub distinct_decided : DistinctIdsAreDecided
distinct_decided points = decided (known_distinct points)

-- ---- the cube

known_from_least : (least : _) (side : ℕ) (at : _) → Known (IsFrom least side at)
known_from_least least side at = known_and (known_most_int least at) (known_below_int at _)

known_in_cube : (cube : OctreeCube) (at : Place) → Known (InCube cube at)
unfolding InCube
known_in_cube cube at =
    known_like (λ h. record { x = h.0; y = h.1.0; z = h.1.1 }) (λ h. (h.x, (h.y, h.z)))
    (known_and (known_from_least (coordinate cube.corner 0) (2 ^ cube.e) (coordinate at 0)) (known_and (known_from_least (coordinate cube.corner 1) (2 ^ cube.e) (coordinate at 1)) (known_from_least (coordinate cube.corner 2) (2 ^ cube.e) (coordinate at 2))))

known_cube : (cube : OctreeCube) → Known (IsCube cube)
known_cube cube =
    known_like (λ h. record { span_low = h.0; span_high = h.1.0; side_high = h.1.1.0; cells_whole = h.1.1.1.0; corner_x = h.1.1.1.1.0; corner_y = h.1.1.1.1.1.0; corner_z = h.1.1.1.1.1.1 })
    (λ (is : IsCube cube). (is.span_low, (is.span_high, (is.side_high, (is.cells_whole, (is.corner_x, (is.corner_y, is.corner_z)))))))
    (known_and (known_le 1 cube.s) (known_and (known_le cube.s 10) (known_and (known_le cube.e 32) (known_and (known_le (cube.depth + cube.s) cube.e) (known_and (known_signed _ (coordinate cube.corner 0)) (known_and (known_signed _ (coordinate cube.corner 1)) (known_signed _ (coordinate cube.corner 2))))))))

pub known_can : (rules : Rules) (points : List Point) → Known (CanBeSampled rules points)
known_can rules points =
    known_like (λ h. record { cube = h.0; inside = h.1.0; distinct = h.1.1 }) (λ (can : CanBeSampled rules points). (can.cube, (can.inside, can.distinct)))
    (known_and (known_cube rules.cube) (known_and (known_all (λ p. known_in_cube rules.cube (place p)) points) (known_distinct points)))

pub can_decided : CanBeSampledIsDecided
can_decided rules points = decided (known_can rules points)

-- ---- tiles

known_same_point : (p q : Point) → Known (p ≡ q)
known_same_point p q = known_like (packed_one p q) (λ e. ap packed e) (known_numbers (packed p) (packed q))

known_same_key : (a b : VoxelKey) → Known (a ≡ b)
known_same_key a b =
    known_like (λ (h : (a.depth ≡ b.depth) × ((a.x ≡ b.x) × ((a.y ≡ b.y) × (a.z ≡ b.z)))) i. record { depth = h.0 i; x = h.1.0 i; y = h.1.1.0 i; z = h.1.1.1 i })
    (λ e. (ap (λ (k : VoxelKey). k.depth) e, (ap (λ (k : VoxelKey). k.x) e, (ap (λ (k : VoxelKey). k.y) e, ap (λ (k : VoxelKey). k.z) e))))
    (known_and (known_eq a.depth b.depth) (known_and (known_eq a.x b.x) (known_and (known_eq a.y b.y) (known_eq a.z b.z))))

known_same_tile : (a b : Tile) → Known (a ≡ b)
known_same_tile a b =
    known_like (λ (h : (a.key ≡ b.key) × (a.points ≡ b.points)) i. record { key = h.0 i; points = h.1 i }) (λ e. (ap (λ (t : Tile). t.key) e, ap (λ (t : Tile). t.points) e))
    (known_and (known_same_key a.key b.key) (known_lists known_same_point a.points b.points))

-- ---- the sampling

module _ (rules : Rules) (points : List Point) where
  OpensAt : Branch → Type 0
  OpensAt b = (o : ℕ) → o < 8 → opened b.1.mask o ≡ is_node rules points (child b.0 o)

  known_opens : (b : Branch) → Known (OpensAt b)
  unfolding OpensAt
  known_opens b = known_below (λ o. known_same (opened b.1.mask o) (is_node rules points (child b.0 o))) 8

  pub known_sampled : (nodes : List Branch) → Known (AreSampled rules points nodes)
  unfolding OpensAt
  known_sampled nodes =
      known_like (λ (h : (map tile_of nodes ≡ sampled rules points) × ((b : Branch) → IsMember b nodes → OpensAt b)). record { tiles = h.0; opens = λ b o m less. h.1 b m o less })
      (λ (are : AreSampled rules points nodes). (are.tiles, λ b m o less. are.opens b o m less))
      (known_and (known_lists known_same_tile (map tile_of nodes) (sampled rules points)) (known_members known_opens nodes))

pub sampled_decided : SampledIsDecided
sampled_decided rules points nodes = decided (known_sampled rules points nodes)
