-- Items as plain data, and what else is known of them.
use Rattle.std.specs.Prelude.{◌≡◌, ℕ, true, List, map, drop, Option, Some, None}
use Rattle.ept_scan.specs.declared.second_reading.Reader.{Reader}
use Rattle.ept_scan.specs.declared.read_error.ReadError.TheVariants.{SourceChanged}
use Rattle.ept_scan.specs.Queue as queue
use Rattle.ept_scan.specs.Reader.{drawn_of, allowed_of, left_of, refusal_of, files_of, IsRest, IsReader}
use Rattle.ept_node.specs.declared.state.NodeState.{NodeState}
use Rattle.ept_node.specs.declared.state.NodeState.TheVariants as states
use Rattle.ept_node.specs.declared.node.Node.{Node}
use Rattle.ept_node.specs.declared.error.NodeError.{NodeError}
use Rattle.ept_node.specs.declared.error.NodeError.TheVariants.{SpillDamaged, Memory}
use Rattle.ept_node.specs.Shown.{state_of, node_of, fault_of, file_of, children_of, AgreesWithFile, DoesTell}
use Rattle.ept_table.specs.declared.note.Counted.{Counted}
use Rattle.ept_table.specs.declared.note.Told.{Told}
use Rattle.ept_table.specs.declared.taken.Cell.{Cell}
use Rattle.ept_table.specs.declared.taken.Taken.{Taken}
use Rattle.ept_table.specs.declared.taken.Taken.TheVariants.{Blank, Standing, Reading}
use Rattle.ept_table.specs.declared.taken.Progress.{Progress}
use Rattle.ept_table.specs.declared.item.Item as item
use Rattle.ept_table.specs.declared.item.Item.TheVariants as items

abbrev pub taken_as : NodeState → Cell → Taken
taken_as states.Blank c = Blank
taken_as states.Resident c = Standing c
taken_as states.Spilled c = Standing c
taken_as states.Broken c = Standing c

-- a node with the slots of its children: if its points are in its file, with those that the file shows
abbrev pub cell_of : {F : Type 0} → (F → Option (List ℕ)) → Node F → Cell
cell_of held node = record { node = node_of held node; children = children_of node }

-- a node as plain data, wherever its points are
abbrev pub seen_node : {F : Type 0} → (F → Option (List ℕ)) → Node F → Taken
seen_node held node = taken_as (state_of node) (cell_of held node)

-- an input as it was found
abbrev pub counted : queue.Held → Counted
counted held = record { origin = held.reading.origin; points = held.points; limits = held.reading.limits }

module _ {S : Type 0} (whole : S → Option (List ℕ)) where
  -- a reader as plain data
  abbrev pub seen_reader : Reader S → Progress
  seen_reader r = record {
    drawn = drawn_of r;
    left = left_of r;
    allowed = allowed_of r;
    inputs = map counted (files_of whole r);
    failed = refusal_of r;
  }

abbrev pub seen : {F S : Type 0} → (F → Option (List ℕ)) → (S → Option (List ℕ)) → item.Item F S → Taken
seen held whole (items.Node node) = seen_node held node
seen held whole (items.Reader r) = Reading (seen_reader whole r)

-- why the node of an item is broken, if it is one and is broken
abbrev pub broken_by : {F S : Type 0} → item.Item F S → Option NodeError
broken_by (items.Node node) = fault_of node
broken_by (items.Reader r) = None

-- a node that is broken stays so, by the same refusal
abbrev pub StaysBroken : {F S : Type 0} → item.Item F S → item.Item F S → Type 0
StaysBroken old new = (why : NodeError) → broken_by old ≡ Some why → broken_by new ≡ Some why

-- What is known of a reader: it is before its next record, or has a refusal. If contents are visible, the refusal is no
-- change of an input. If the reader has also not failed, its batches are the points from its place on.
pub record IsFiled {S : Type 0} (whole left : S → Option (List ℕ)) (given faults : S → ℕ) (told : Told) (r : Reader S) : Type 0 where
  pub reader : IsReader whole left given faults r
  pub rest : told.tells ≡ true → refusal_of r ≡ None → IsRest whole r (drop (drawn_of r) told.points)
  pub no_change : told.tells ≡ true → (source number : ℕ) → refusal_of r ≡ Some (SourceChanged source number) → ⊥

-- What is known of a node: it agrees with its file, and is not broken by running out of memory. If contents are
-- visible, those of its file are too, and the node is not broken by damage.
pub record IsFiledNode {F : Type 0} (held : F → Option (List ℕ)) (faults keeps : F → ℕ) (told : Told) (node : Node F) : Type 0 where
  pub agrees : AgreesWithFile held faults keeps node
  pub not_memory : fault_of node ≡ Some Memory → ⊥
  pub telling : told.tells ≡ true → DoesTell held (file_of node)
  pub undamaged : told.tells ≡ true → (kept found at : ℕ) → fault_of node ≡ Some (SpillDamaged kept found at) → ⊥

module _ {F S : Type 0} (held : F → Option (List ℕ)) (node_faults keeps : F → ℕ) (whole left : S → Option (List ℕ)) (given faults : S → ℕ) (told : Told) where
  abbrev pub Filed : item.Item F S → Type 0
  Filed (items.Node node) = IsFiledNode held node_faults keeps told node
  Filed (items.Reader r) = IsFiled whole left given faults told r
