-- What a table shows, with where the points of its nodes are.
use Rattle.std.specs.Prelude.{◌≡◌, ◌≢◌, ℕ, Bool, true, false, ◌==◌, List, map, drop, slice_index_or, Option, if◌then◌else◌}
use Rattle.ept_space.specs.VoxelKey.{VoxelKey}
use Rattle.ept_core.specs.State.{State, node_at, has_node}
use Rattle.ept_core.specs.Law.{KeepsLaw}
use Rattle.ept_node.specs.Batch.{seen}
use Rattle.ept_node.specs.declared.node.Node.{Node}
use Rattle.ept_node.specs.declared.state.NodeState.TheVariants as states
use Rattle.ept_node.specs.Shown.{state_of, is_here}
use Rattle.ept_table.specs.declared.note.Told.{Told}
use Rattle.ept_table.specs.declared.item.Item.{Item}
use Rattle.ept_table.specs.declared.item.Item.TheVariants as items
use Rattle.ept_table.specs.declared.taken.Cell.{Cell}
use Rattle.ept_table.specs.declared.taken.Progress.{Progress}
use Rattle.ept_table.specs.declared.taken.Taken.{Taken}
use Rattle.ept_table.specs.declared.taken.Taken.TheVariants.{Standing}
use Rattle.ept_table.specs.At.{At}
use Rattle.ept_table.specs.Item.{seen_node}
use Rattle.ept_table.specs.Steps.{StaysAlike}
use Rattle.ept_table.specs.View.{View, all_flights}
use Rattle.ept_residency.specs.Places.{kept_where}

-- the item is a node whose points are in memory
abbrev pub is_in_memory : {F S : Type 0} → Item F S → Bool
is_in_memory (items.Node node) = is_here node
is_in_memory (items.Reader r) = false

-- for each slot of a table, whether it has such a node
abbrev pub in_memory : {F S : Type 0} → List (Item F S) → ℕ → Bool
in_memory all k = slice_index_or (map is_in_memory all) k false

-- The state of the core that a table and its seats show. For each slot `here` has whether the points of its node are in
-- memory. The points from the reader's place on are left, and the flights of all seats fly. The nodes are those in the
-- slots, with their points where they are.
pub record ShowsPlaces (told : Told) (reader : Progress) (items : List Taken) (views : List View) (here : ℕ → Bool) (s : State) : Type 0 where
  pub law : KeepsLaw told.rules told.points s
  pub left : s.left ≡ drop reader.drawn told.points
  pub flights : s.flights ≡ all_flights views
  pub standing : (k : ℕ) (c : Cell) → At items k (Standing c) → (has_node s.nodes c.node.key ≡ true) × (node_at s.nodes c.node.key ≡ kept_where (here k) (seen c.node))
  pub in_slot : (key : VoxelKey) → has_node s.nodes key ≡ true → (k : ℕ) × (c : Cell) × At items k (Standing c) × (c.node.key ≡ key)

-- the same slots, except one
abbrev pub but_at : ℕ → Bool → (ℕ → Bool) → ℕ → Bool
but_at k there here j = if j == k then there else here j

-- A node in a slot is returned as it was, or after a move to or from its file.
pub record IsMoved {F S : Type 0} (held : F → Option (List ℕ)) (told : Told) (slots : List (Item F S)) (k : ℕ) (old new : Node F) : Type 0 where
  pub at : At slots k (items.Node old)
  pub stands : state_of old ≢ states.Blank
  pub alike : StaysAlike told (seen_node held old) (seen_node held new)
