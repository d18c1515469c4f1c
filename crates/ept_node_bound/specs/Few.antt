-- How many nodes a sampling has at most. Each statement is a clause of a function of `laws`.
use Rattle.std.specs.Prelude.{◌≢◌, ℕ, ◌+◌, ◌*◌, ◌/◌, ◌==◌, ◌≡◌, ◌<◌, ◌≤◌, IsTrue, List, length, count_by, Contains}
use Rattle.ept_point.specs.declared.point.Point.{Point}
use Rattle.ept_space.specs.declared.cube.Rules.{Rules}
use Rattle.ept_space.specs.VoxelKey.{VoxelKey, root}
use Rattle.ept_sample.specs.Sampling.{given, is_node}
use Rattle.ept_sample.specs.Nodes.{node_keys, sampled}
use Rattle.ept_sample.specs.SamplingLaws.{CanBeSampled}

-- each node except the root is given more points than the threshold
abbrev pub NodesAreGivenMany : Type 0
NodesAreGivenMany =
    (rules : Rules) (points : List Point) (key : VoxelKey) → IsTrue (is_node rules points key) → key ≢ root → rules.threshold < length (given rules points key)

-- no point is given to two keys of one depth
abbrev pub NoneIsGivenTwice : Type 0
NoneIsGivenTwice =
    (rules : Rules) (points : List Point) (j k : VoxelKey) (p : Point) → CanBeSampled rules points → Contains (given rules points j) p → Contains (given rules points k) p → j.depth ≡ k.depth → j ≡ k

-- how many nodes of a depth there are
abbrev pub nodes_at : Rules → List Point → ℕ → ℕ
nodes_at rules points depth = count_by (λ (key : VoxelKey). key.depth == depth) (node_keys rules points)

-- so below the root there are enough points for all nodes of a depth
abbrev pub DepthsHaveFewNodes : Type 0
DepthsHaveFewNodes =
    (rules : Rules) (points : List Point) (depth : ℕ) → CanBeSampled rules points → 0 < depth → nodes_at rules points depth * (rules.threshold + 1) ≤ length points

-- the most nodes that `points` points have. It is the root, and at each depth below it one node for each whole group. A
-- group has one point more than the threshold.
abbrev pub most_nodes : Rules → ℕ → ℕ
most_nodes rules points = 1 + rules.cube.depth * (points / (rules.threshold + 1))

-- no sampling has more nodes
abbrev pub NodesAreFew : Type 0
NodesAreFew =
    (rules : Rules) (points : List Point) → CanBeSampled rules points → length (node_keys rules points) ≤ most_nodes rules (length points)

-- nor more tiles, even if only a bound of the number of points is known
abbrev pub TilesAreFew : Type 0
TilesAreFew =
    (rules : Rules) (points : List Point) (most : ℕ) → CanBeSampled rules points → length points ≤ most → length (sampled rules points) ≤ most_nodes rules most
