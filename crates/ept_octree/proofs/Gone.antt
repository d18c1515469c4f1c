-- A node goes to its file.
use Rattle.std.proofs.Common.{◌≡◌, ◌∙◌, ℕ, ◌-◌, ◌≤◌, List, length, set, sym, ap, subst, arith, Option, Some}
use Rattle.std.specs.Prelude.{slice_get}
use Rattle.ept_grid.specs.Node as grid
use Rattle.ept_node.specs.declared.node.Node as node
use Rattle.ept_node.specs.declared.state.NodeState.TheVariants as states
use Rattle.ept_node.specs.Shown.{state_of, node_of}
use Rattle.ept_forest.specs.Slots as forest
use Rattle.ept_table.specs.At.{At}
use Rattle.ept_table.proofs.Lists.{at-same, at-below}
use Rattle.ept_octree.specs.declared.octree.Octree.{Octree}
use Rattle.ept_octree.specs.Index.{in_slots, untold, branches, IsIndex}
use Rattle.ept_octree.specs.Octree.{nodes_of, AreAlike}
use Rattle.ept_octree.specs.Adding.{IsInMemory}
use Rattle.ept_octree.proofs.Placing.{slice-at}
use Rattle.ept_octree.proofs.Alike.{IsLike, both-named, index-any, told-index, put-like-index, put-like-nodes}
use Rattle.ept_octree.proofs.Walked.{still-in}

module _ {F : Type 0} (held : F → Option (List ℕ)) (octree : Octree F) (slot : ℕ) (here : IsInMemory slot (forest.nodes_of octree.forest)) where
  abbrev ns : List (node.Node F)
  ns = forest.nodes_of octree.forest

  pub here-low : (1 ≤ slot) × (slot ≤ length ns)
  here-low = (here.some, omega (arith, here.some, at-below here.at))

  module _ (n : node.Node F) (value : slice_get ns (slot - 1) ≡ Some n) where
    pub here-at : At ns (slot - 1) n
    here-at = slice-at ns (slot - 1) n value

    pub here-state : state_of n ≡ states.Resident
    here-state = subst (λ (w : node.Node F). state_of w ≡ states.Resident) (at-same here.at here-at) here.state

    here_named : state_of n ≡ states.Blank → ⊥
    here_named is = absurd (let both = sym is ∙ here-state in cc)

    module _ (m : node.Node F) (named : state_of m ≡ states.Blank → ⊥) where
      pub gone-index : IsLike (node_of held n) (node_of held m) → IsIndex octree.rules (forest.used_of octree.forest) (in_slots untold (set ns (slot - 1) m)) octree.slots.entries
      gone-index like =
          index-any held untold octree.rules (forest.used_of octree.forest) (set ns (slot - 1) m) octree.slots.entries (put-like-index held ns (slot - 1) n here-at m (both-named (state_of n) (state_of m) (node_of held n) (node_of held m) here_named named like) octree.rules (forest.used_of octree.forest) octree.slots.entries (told-index held octree))

      pub gone-nodes : IsLike (node_of held n) (node_of held m) → AreAlike (nodes_of held octree) (branches (in_slots held (set ns (slot - 1) m)) octree.slots.entries)
      gone-nodes like =
          put-like-nodes held ns (slot - 1) n here-at m (both-named (state_of n) (state_of m) (node_of held n) (node_of held m) here_named named like) octree.rules (forest.used_of octree.forest) octree.slots.entries

      pub same-nodes : node_of held m ≡ node_of held n → branches (in_slots held (set ns (slot - 1) m)) octree.slots.entries ≡ nodes_of held octree
      same-nodes same =
          ap (λ (w : List (Option grid.Node)). branches w octree.slots.entries) (still-in held ns (slot - 1) n m here-at here_named named same)
