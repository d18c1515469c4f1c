-- The points of a part, drawn from the second reading and brought into a tree.
use Rattle.std.specs.Prelude.{◌≡◌, ◌≤◌, ℕ, List, length, Option, None}
use Rattle.ept_point.specs.declared.point.Point.{Point}
use Rattle.ept_space.specs.declared.cube.Rules.{Rules}
use Rattle.ept_space.specs.OctreeCube.{InCube}
use Rattle.ept_sample.specs.Place.{place}
use Rattle.ept_sample.specs.SamplingLaws.{CanBeSampled}
use Rattle.ept_scan.specs.declared.second_reading.Reader.{Reader}
use Rattle.ept_scan.specs.Queue.{LiesIn}
use Rattle.ept_scan.specs.Reader.{allowed_of, left_of, refusal_of, files_of, IsRest, IsReader}
use Rattle.ept_tree.specs.declared.octree.Tree.{Tree}
use Rattle.ept_tree.specs.Grown.{rules_of, nodes_of, points_of, IsAtRest, IsWhole, HasTaken}
use Rattle.ept_parts.specs.Parts.{Octants, part_of}

-- the reader has this number of records left, all of them allowed, and their points lie in the cube
pub record IsAhead {S : Type 0} (whole left : S → Option (List ℕ)) (given faults : S → ℕ) (rules : Rules) (to_come : ℕ) (reader : Reader S) : Type 0 where
  pub is_reader : IsReader whole left given faults reader
  pub fresh : refusal_of reader ≡ None
  pub all_left : left_of reader ≡ to_come
  pub all_allowed : allowed_of reader ≡ to_come
  pub inside : (p : Point) → LiesIn (files_of whole reader) p → InCube rules.cube (place p)

-- A tree at rest by these rules: a whole octree of this number of points, with at most that number of nodes.
pub record IsGrown (rules : Rules) (most inserted : ℕ) (tree : Tree) : Type 0 where
  pub rules_are : rules_of tree ≡ rules
  pub rest : IsAtRest tree
  pub whole : IsWhole tree
  pub few : length (nodes_of tree) ≤ most
  pub number : length (points_of tree) ≡ inserted

-- ---- if the sources hold the bytes that were scanned

-- the reader has these points to give, and they can be sampled
pub record IsToGive {S : Type 0} (whole : S → Option (List ℕ)) (rules : Rules) (to_come : ℕ) (reader : Reader S) (points : List Point) : Type 0 where
  pub can : CanBeSampled rules points
  pub number : length points ≡ to_come
  pub rest : IsRest whole reader points

-- of these points the reader has some left, and the tree has those of the part that were drawn
pub record IsBetween {S : Type 0} (whole : S → Option (List ℕ)) (rules : Rules) (octants : Octants) (points : List Point) (to_come : ℕ) (reader : Reader S) (tree : Tree) : Type 0 where
  pub left : List Point
  pub number : length left ≡ to_come
  pub rest : IsRest whole reader left
  pub taken : HasTaken (part_of rules octants points) (part_of rules octants left) tree
