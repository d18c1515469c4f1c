-- The nodes that a table has left.
use Rattle.std.specs.Prelude.{◌≡◌, ℕ, ◌<◌, ◌≤◌, true, List, length, Option, Some, is_some}
use Rattle.ept_grid.specs.Node as grid
use Rattle.ept_octree.specs.Index.{node_in}

-- the slots from 1 to this one have nodes, no two of one key
pub record StandApart (last : ℕ) (slots : List (Option grid.Node)) : Type 0 where
  pub low : last < length slots
  pub filled : (k : ℕ) → 0 < k → k ≤ last → is_some (node_in slots k) ≡ true
  pub apart : (j k : ℕ) (g h : grid.Node) → node_in slots j ≡ Some g → node_in slots k ≡ Some h → g.key ≡ h.key → j ≡ k
