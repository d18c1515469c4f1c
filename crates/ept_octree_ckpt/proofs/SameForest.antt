-- An octree whose forest has the nodes that it had.
use Rattle.std.proofs.Common.{◌≡◌, ℕ, List, length, sym, ap, subst, Option, None}
use Rattle.std.specs.Prelude.{All}
use Rattle.ept_forest.specs.Slots as trees
use Rattle.ept_node.specs.declared.node.Node.{Node}
use Rattle.ept_node.specs.Shown.{fault_of, AgreesWithFile}
use Rattle.ept_table.specs.Octree.{AreLinked}
use Rattle.ept_octree.specs.declared.octree.Octree.{Octree}
use Rattle.ept_octree.specs.Index.{taken_in}
use Rattle.ept_octree.specs.Octree.{forest_of, most_of, IsLinked, IsUnbroken, AgreesWithFiles}

module _ {F : Type 0} (old new : Octree F) (same : trees.nodes_of (forest_of new) ≡ trees.nodes_of (forest_of old)) where
  pub still-linked : (held : F → Option (List ℕ)) → IsLinked held old → IsLinked held new
  still-linked held linked = subst (λ (ns : List (Node F)). AreLinked (taken_in held ns)) (sym same) linked

  pub still-agrees : (held : F → Option (List ℕ)) (faults keeps : F → ℕ) → AgreesWithFiles held faults keeps old → AgreesWithFiles held faults keeps new
  still-agrees held faults keeps agrees = subst (λ (ns : List (Node F)). All (AgreesWithFile held faults keeps) ns) (sym same) agrees

  pub still-unbroken : IsUnbroken old → IsUnbroken new
  still-unbroken unbroken = subst (λ (ns : List (Node F)). All (λ (n : Node F). fault_of n ≡ None) ns) (sym same) unbroken

  pub still-most : most_of new ≡ most_of old
  still-most = ap length same
