-- The slots of the children.
use Rattle.std.specs.Prelude.{◌≡◌, ◌≢◌, ℕ, ◌<◌, true, List, Option, Some, None, slice_index, if◌then◌else◌}
use Rattle.ept_space.specs.VoxelKey.{child}
use Rattle.ept_grid.specs.Node as grid
use Rattle.ept_grid.specs.Node.{is_open_in}
use Rattle.ept_node.specs.declared.node.Node.{Node}
use Rattle.ept_node.specs.declared.state.NodeState.TheVariants.{Blank}
use Rattle.ept_node.specs.Shown.{state_of, node_of, children_of}
use Rattle.ept_table.specs.At.{At}
use Rattle.ept_octree.specs.Index.{Site, slot_of}

abbrev pub or_zero : Option ℕ → ℕ
or_zero None = 0
or_zero (Some k) = k

-- the slot of the child of an octant: the slot of the node of its key. It is 0 if there is none or the octant is
-- closed.
abbrev pub child_slot : List Site → grid.Node → ℕ → ℕ
child_slot sites g o = if is_open_in g o then or_zero (slot_of sites (child g.key o)) else 0

module _ {F : Type 0} (held : F → Option (List ℕ)) where
  -- the node has the slots of its children
  abbrev pub HasChildren : List Site → Node F → Type 0
  HasChildren sites n =
      (o : ℕ) → o < 8 → slice_index (children_of n) o ≡ child_slot sites (node_of held n) o

  -- a node of a key, whose children have keys
  pub record MayLink (n : Node F) : Type 0 where
    pub state : state_of n ≢ Blank
    pub above : (o : ℕ) → o < 8 → is_open_in (node_of held n) o ≡ true → (node_of held n).key.depth < 31

  -- so may the first `used` nodes
  abbrev pub MayAllLink : List (Node F) → ℕ → Type 0
  MayAllLink nodes used = (k : ℕ) (n : Node F) → At nodes k n → k < used → MayLink n

  -- the first `used` nodes have the slots of their children
  abbrev pub HaveChildren : List Site → List (Node F) → ℕ → Type 0
  HaveChildren sites nodes used = (k : ℕ) (n : Node F) → At nodes k n → k < used → HasChildren sites n
