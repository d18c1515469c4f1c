-- What holds of each tree. The statement is a clause of a function of `laws`.
use Rattle.std.specs.Prelude.{◌≡◌, List, ◌++◌}
use Rattle.ept_point.specs.declared.point.Point.{Point}
use Rattle.ept_table.specs.Octree.{AreSampled}
use Rattle.ept_tree.specs.declared.octree.Tree.{Tree}
use Rattle.ept_tree.specs.Grown.{rules_of, nodes_of, HasTaken}

-- a tree that has taken the first of some points has the nodes of their sampling
abbrev pub GrownIsSampled : Type 0
GrownIsSampled =
    (tree : Tree) (points first left : List Point) → HasTaken points left tree → points ≡ first ++ left → AreSampled (rules_of tree) first (nodes_of tree)
