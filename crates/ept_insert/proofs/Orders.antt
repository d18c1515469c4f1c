-- The order of points makes no difference to an octree that is their sampling.
use Rattle.std.proofs.Common.{◌≡◌, ◌∙◌, ℕ, List, [], ◌∷◌, ◌++◌, map, length, take, drop, refl, sym, ap, subst, append_assoc, IsPermutation, flat_map}
use Rattle.std.proofs.lemmas.List.{take-append-drop, length-map}
use Rattle.std.proofs.lemmas.List.Sorted.{All-permutation, IsPermutation-append_left}
use Rattle.ept_point.specs.declared.point.Point.{Point}
use Rattle.ept_space.specs.declared.cube.Rules.{Rules}
use Rattle.ept_space.specs.VoxelKey.{child}
use Rattle.ept_space.specs.OctreeCube.{InCube}
use Rattle.ept_sample.specs.declared.tiles.Tile.{Tile}
use Rattle.ept_sample.specs.Place.{place}
use Rattle.ept_sample.specs.Nodes.{node_keys, sampled, tile_at}
use Rattle.ept_sample.specs.SamplingLaws.{CanBeSampled}
use Rattle.ept_sample.proofs.Members.{IsMember-left, all-member, All-members}
use Rattle.ept_sample.proofs.IdLaws.{HasDistinctIds-IsPermutation}
use Rattle.ept_sample.proofs.SamplingLaws.{is_node-IsPermutation}
use Rattle.ept_sample.proofs.NodeLaws.{IsPermutation-sampled, sampled-IsPermutation}
use Rattle.ept_core.proofs.Held.{HasDistinctIds-left}
use Rattle.ept_table.specs.Octree.{Branch, tile_of, points_in, AreSampled}

pub can-any : (rules : Rules) (ps qs : List Point) → IsPermutation ps qs → CanBeSampled rules ps → CanBeSampled rules qs
can-any rules ps qs same can = record {
  cube = can.cube;
  inside = All-permutation (λ p. InCube rules.cube (place p)) ps qs same can.inside;
  distinct = HasDistinctIds-IsPermutation ps qs same can.distinct;
}

can-front : (rules : Rules) (ps qs : List Point) → CanBeSampled rules (ps ++ qs) → CanBeSampled rules ps
can-front rules ps qs can = record {
  cube = can.cube;
  inside = All-members (λ p. InCube rules.cube (place p)) ps (λ p m. all-member (λ q. InCube rules.cube (place q)) p (ps ++ qs) can.inside (IsMember-left p ps qs m));
  distinct = HasDistinctIds-left ps qs can.distinct;
}

-- with fewer of the last points
pub can-fewer : (rules : Rules) (ps qs : List Point) (n : ℕ) → CanBeSampled rules (ps ++ qs) → CanBeSampled rules (ps ++ take n qs)
can-fewer rules ps qs n can =
    can-front rules (ps ++ take n qs) (drop n qs) (subst (CanBeSampled rules) (sym (append_assoc ps (take n qs) (drop n qs) ∙ ap (λ (w : List Point). ps ++ w) (take-append-drop n qs))) can)

pub sampled-any : (rules : Rules) (ps qs : List Point) (nodes : List Branch) → CanBeSampled rules ps → IsPermutation ps qs → AreSampled rules ps nodes → AreSampled rules qs nodes
sampled-any rules ps qs nodes can same are = record {
  tiles = are.tiles ∙ sampled-IsPermutation rules ps qs can.cube can.inside can.distinct same;
  opens = λ b o m small. are.opens b o m small ∙ is_node-IsPermutation rules ps qs (child b.0 o) can.distinct same;
}

keys_many : (rules : Rules) (ps : List Point) → length (sampled rules ps) ≡ length (node_keys rules ps)
unfolding sampled
keys_many rules ps = length-map (node_keys rules ps) (tile_at rules ps)

-- the number of nodes is the same in any order
pub nodes-any : (rules : Rules) (ps qs : List Point) → CanBeSampled rules ps → IsPermutation ps qs → length (node_keys rules ps) ≡ length (sampled rules qs)
nodes-any rules ps qs can same =
    sym (keys_many rules ps) ∙ ap (λ (w : List Tile). length w) (sampled-IsPermutation rules ps qs can.cube can.inside can.distinct same)

tiles_points : (nodes : List Branch) → flat_map (λ (t : Tile). t.points) (map tile_of nodes) ≡ points_in nodes
tiles_points [] = refl
tiles_points (b ∷ nodes) = ap (λ (w : List Point). b.1.points ++ w) (tiles_points nodes)

-- the nodes of a sampling have the points that were sampled
pub same-points : (rules : Rules) (ps : List Point) (nodes : List Branch) → CanBeSampled rules ps → AreSampled rules ps nodes → IsPermutation ps (points_in nodes)
same-points rules ps nodes can are =
    subst (IsPermutation ps) (ap (λ (w : List Tile). flat_map (λ (t : Tile). t.points) w) (sym are.tiles) ∙ tiles_points nodes) (IsPermutation-sampled rules ps can.cube can.inside can.distinct)

-- the points of the nodes in place of the first ones
pub same-first : (rules : Rules) (first left : List Point) (nodes : List Branch) → CanBeSampled rules (first ++ left) → AreSampled rules first nodes → IsPermutation first (points_in nodes) × CanBeSampled rules (points_in nodes ++ left) × AreSampled rules (points_in nodes) nodes
same-first rules first left nodes can are =
    let front = can-front rules first left can in
    let same = same-points rules first nodes front are in
    (same, can-any rules (first ++ left) (points_in nodes ++ left) (IsPermutation-append_left left first (points_in nodes) same) can, sampled-any rules first (points_in nodes) nodes front same are)
