-- The rank of points, and which points beat which.
use Rattle.std.specs.Prelude.{ℕ, Bool, ◌&&◌, ◌||◌, ◌==◌, nat_lt}
use Rattle.ept_point.specs.declared.point.Point.{Point}
use Rattle.ept_space.specs.declared.cube.Rules.{Rules}
use Rattle.ept_space.specs.OctreeCube.{same_cell, distance_at}
use Rattle.ept_space.specs.Group.{group_of}
use Rattle.ept_sample.specs.Place.{place}
use Rattle.ept_sample.specs.Ids.{is_first}

-- the rank of a point at a depth. It is its group, then how far it is from the centre of its cell, then its scan, then
-- its number there.
pub record Rank : Type 0 where
  pub group : ℕ
  pub distance : ℕ
  pub origin : ℕ
  pub number : ℕ

abbrev pub rank_at : Rules → ℕ → Point → Rank
rank_at rules depth p = record {
  group = group_of rules p.class p.class_flags;
  distance = distance_at rules.cube depth (place p);
  origin = p.origin;
  number = p.number;
}

-- if two points are of one group, the first is nearer, or they are equally near and its id comes first
abbrev pub is_nearer : Rank → Rank → Bool
is_nearer a b =
    nat_lt a.distance b.distance || ((a.distance == b.distance) && is_first a.origin a.number b.origin b.number)

-- the first rank is better: its group is less, or the groups are the same and it is the nearer one
abbrev pub is_better : Rank → Rank → Bool
is_better a b = nat_lt a.group b.group || ((a.group == b.group) && is_nearer a b)

-- the first point beats the second at a depth: it lies in the same cell and has the better rank
unfoldable pub beats : Rules → ℕ → Point → Point → Bool
beats rules depth q p =
    same_cell rules.cube depth (place q) (place p) && is_better (rank_at rules depth q) (rank_at rules depth p)
