-- A tree, as its callers see it.
use Rattle.std.specs.Prelude.{◌≡◌, ℕ, List, [], map}
use Rattle.ept_point.specs.declared.point.Point.{Point}
use Rattle.ept_space.specs.declared.cube.Rules.{Rules}
use Rattle.ept_grid.specs.Outgoing.{Leaving, points_at}
use Rattle.ept_table.specs.Octree.{Branch, entry_of, points_in, AreNodes, AreWhole, KeepsNodes}
use Rattle.ept_tree.specs.declared.octree.Tree.{Tree}
use Rattle.ept_tree.specs.Tree.{IsTree}

-- the rules of its sampling
abbrev pub rules_of : Tree → Rules
rules_of tree = tree.rules

-- its nodes by their keys, in key order
abbrev pub nodes_of : Tree → List Branch
nodes_of tree = tree.nodes.entries

-- the points of all its nodes
abbrev pub points_of : Tree → List Point
points_of tree = points_in (nodes_of tree)

-- the points that left a node and are not on their way yet
abbrev pub leaving_of : Tree → List Leaving
leaving_of tree = tree.leaving

-- Each node has its key and the tree's rules, and no point is on its way.
pub record IsAtRest (tree : Tree) : Type 0 where
  pub own : AreNodes (rules_of tree) (nodes_of tree)
  pub none : (o : ℕ) → points_at (leaving_of tree) o ≡ []

-- its nodes are a whole octree, whatever points they have
abbrev pub IsWhole : Tree → Type 0
IsWhole tree = AreWhole (map entry_of (nodes_of tree))

-- a tree that was whole is whole, and no node is lost
abbrev pub GrowsWhole : Tree → Tree → Type 0
GrowsWhole old new = IsWhole old → IsWhole new × KeepsNodes (map entry_of (nodes_of old)) (map entry_of (nodes_of new))

-- these points were inserted, except those left
abbrev pub HasTaken : List Point → List Point → Tree → Type 0
HasTaken points left tree = IsTree (rules_of tree) points left [] (nodes_of tree)
