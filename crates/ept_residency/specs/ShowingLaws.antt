-- What holds of what a table shows. Each statement is proved by the contract of `show_law`.
use Rattle.std.specs.Prelude.{◌≡◌, ℕ, true, false, List, map, set, Option}
use Rattle.ept_core.specs.declared.event.Event.TheVariants.{Evict, Reload}
use Rattle.ept_core.specs.State.{State}
use Rattle.ept_core.specs.Steps.{Step}
use Rattle.ept_table.specs.declared.note.Told.{Told}
use Rattle.ept_node.specs.declared.node.Node.{Node}
use Rattle.ept_node.specs.Shown.{node_of, is_here}
use Rattle.ept_table.specs.declared.item.Item.{Item}
use Rattle.ept_table.specs.declared.item.Item.TheVariants as items
use Rattle.ept_table.specs.declared.taken.Progress.{Progress}
use Rattle.ept_table.specs.declared.taken.Taken.TheVariants.{Reading}
use Rattle.ept_table.specs.At.{At}
use Rattle.ept_table.specs.Item.{seen}
use Rattle.ept_table.specs.View.{View}
use Rattle.ept_table.specs.Shown.{Holds}
use Rattle.ept_residency.specs.Showing.{ShowsPlaces, in_memory, IsMoved}

-- If contents are visible, the slots and the seats of a table show a state that keeps the law, with each node where it
-- is.
abbrev pub TablesShowPlaces : Type 0 → Type 0 → Type 0
TablesShowPlaces F S =
    (held : F → Option (List ℕ)) (whole : S → Option (List ℕ)) (told : Told) (drawn : ℕ) (reader : Progress) (slots : List (Item F S)) (views : List View) → Holds told drawn (map (seen held whole) slots) views → At (map (seen held whole) slots) 0 (Reading reader) → told.tells ≡ true → (s : State) × ShowsPlaces told reader (map (seen held whole) slots) views (in_memory slots) s

-- A node in a slot that is returned after a move to its file is evicted.
abbrev pub SlotsEvict : Type 0 → Type 0 → Type 0
SlotsEvict F S =
    (held : F → Option (List ℕ)) (whole : S → Option (List ℕ)) (told : Told) (drawn : ℕ) (reader : Progress) (slots : List (Item F S)) (views : List View) (s : State) (k : ℕ) (old new : Node F) → told.tells ≡ true → Holds told drawn (map (seen held whole) slots) views → ShowsPlaces told reader (map (seen held whole) slots) views (in_memory slots) s → IsMoved held told slots k old new → is_here old ≡ true → is_here new ≡ false → (t : State) × Step told.rules s (Evict (node_of held old).key) t × ShowsPlaces told reader (map (seen held whole) (set slots k (items.Node new))) views (in_memory (set slots k (items.Node new))) t

-- A node in a slot that is returned after it was read back is reloaded.
abbrev pub SlotsReload : Type 0 → Type 0 → Type 0
SlotsReload F S =
    (held : F → Option (List ℕ)) (whole : S → Option (List ℕ)) (told : Told) (drawn : ℕ) (reader : Progress) (slots : List (Item F S)) (views : List View) (s : State) (k : ℕ) (old new : Node F) → told.tells ≡ true → Holds told drawn (map (seen held whole) slots) views → ShowsPlaces told reader (map (seen held whole) slots) views (in_memory slots) s → IsMoved held told slots k old new → is_here old ≡ false → is_here new ≡ true → (t : State) × Step told.rules s (Reload (node_of held old).key) t × ShowsPlaces told reader (map (seen held whole) (set slots k (items.Node new))) views (in_memory (set slots k (items.Node new))) t
