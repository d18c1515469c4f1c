-- What the sampling of a part has of the sampling of all points. Each statement is a clause of a function of `laws`.
use Rattle.std.specs.Prelude.{◌≡◌, ◌<◌, ℕ, true, false, List}
use Rattle.std.specs.List.{flat_map}
use Rattle.ept_point.specs.declared.point.Point.{Point}
use Rattle.ept_space.specs.declared.cube.Rules.{Rules}
use Rattle.ept_space.specs.VoxelKey.{VoxelKey, root, child, is_within}
use Rattle.ept_sample.specs.Ids.{in_id_order}
use Rattle.ept_sample.specs.Sampling.{sampling, is_node}
use Rattle.ept_sample.specs.SamplingLaws.{CanBeSampled}
use Rattle.ept_parts.specs.Parts.{Octants, part_of, AreAllOctants}

-- the root of a part's sampling is the part of the root
abbrev pub PartHasItsRoot : Type 0
PartHasItsRoot =
    (rules : Rules) (octants : Octants) (points : List Point) → CanBeSampled rules points → sampling rules (part_of rules octants points) root ≡ part_of rules octants (sampling rules points root)

-- the key is a node of both samplings or of none, and has the same points in both
pub record IsSameNode (rules : Rules) (ps qs : List Point) (key : VoxelKey) : Type 0 where
  pub node : is_node rules ps key ≡ is_node rules qs key
  pub points : sampling rules ps key ≡ sampling rules qs key

-- the nodes in the part's octants are those of all points
abbrev pub PartHasItsNodes : Type 0
PartHasItsNodes =
    (rules : Rules) (octants : Octants) (points : List Point) (o : ℕ) (key : VoxelKey) → CanBeSampled rules points → o < 8 → octants o ≡ true → is_within (child root o) key ≡ true → IsSameNode rules (part_of rules octants points) points key

-- and in another octant the part has no node
abbrev pub PartHasNoOther : Type 0
PartHasNoOther =
    (rules : Rules) (octants : Octants) (points : List Point) (o : ℕ) (key : VoxelKey) → CanBeSampled rules points → o < 8 → octants o ≡ false → is_within (child root o) key ≡ true → is_node rules (part_of rules octants points) key ≡ false

-- the points that the parts have at the root
abbrev pub root_points : Rules → List Octants → List Point → List Point
root_points rules parts points = flat_map (λ (octants : Octants). sampling rules (part_of rules octants points) root) parts

-- the roots of all parts together are the root of all points
abbrev pub RootsJoin : Type 0
RootsJoin =
    (rules : Rules) (parts : List Octants) (points : List Point) → CanBeSampled rules points → AreAllOctants parts → in_id_order (root_points rules parts points) ≡ sampling rules points root
