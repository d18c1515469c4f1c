-- A node that was taken up shows what was taken: its points if contents are visible, and everything else always.
use Rattle.std.proofs.Common.{◌≡◌, ◌∙◌, ℕ, zero, suc, ◌<◌, Bool, true, false, inl, inr, List, refl, sym, ap, subst, arith, slice_index, length, Option}
use Rattle.ept_space.specs.VoxelKey.{VoxelKey}
use Rattle.ept_sample.proofs.Choices.{either}
use Rattle.ept_core.specs.State.{blank, has_open}
use Rattle.ept_grid.specs.Node as grid
use Rattle.ept_grid.specs.Mask.{opened}
use Rattle.ept_grid.specs.Node.{is_open_in}
use Rattle.ept_node.specs.declared.node.Node.{Node}
use Rattle.ept_node.specs.declared.state.NodeState.{NodeState}
use Rattle.ept_node.specs.declared.state.NodeState.TheVariants as states
use Rattle.ept_node.specs.Shown.{state_of, node_of, children_of, no_children}
use Rattle.ept_node.specs.Batch.{StandsFor}
use Rattle.ept_node.proofs.Bridges.{absent-stands, seen-stands}
use Rattle.ept_table.specs.declared.note.Note.{Note}
use Rattle.ept_table.specs.declared.note.Told.{Told}
use Rattle.ept_table.specs.declared.done.Done.TheVariants.{Nothing}
use Rattle.ept_table.specs.declared.taken.Cell.{Cell}
use Rattle.ept_table.specs.declared.taken.Taken.{Taken}
use Rattle.ept_table.specs.declared.taken.Taken.TheVariants.{Standing}
use Rattle.ept_table.specs.Item.{taken_as, cell_of, seen_node}
use Rattle.ept_table.specs.Steps.{IsAlikeCell, StaysAlike}
use Rattle.ept_table.specs.Taken.{points_of, is_open_at, slot_at, as_node}
use Rattle.ept_table.specs.Visits.{note_after}
use Rattle.ept_work.specs.Visiting.{IsBegun}

shut : (o : ℕ) → has_open blank o ≡ false
unfolding has_open
shut o = refl

no_slot : (o : ℕ) → o < 8 → slice_index no_children o ≡ 0
no_slot zero low = refl
no_slot (suc zero) low = refl
no_slot (suc (suc zero)) low = refl
no_slot (suc (suc (suc zero))) low = refl
no_slot (suc (suc (suc (suc zero)))) low = refl
no_slot (suc (suc (suc (suc (suc zero))))) low = refl
no_slot (suc (suc (suc (suc (suc (suc zero)))))) low = refl
no_slot (suc (suc (suc (suc (suc (suc (suc zero))))))) low = refl
no_slot (suc (suc (suc (suc (suc (suc (suc (suc o)))))))) low = absurd (omega (arith, low))

module _ {F : Type 0} (held : F → Option (List ℕ)) (told : Told) (taken : Taken) (key : VoxelKey) (node : Node F) (was_blank : Bool) (b : IsBegun held told taken key node was_blank) where
  -- a node that was there, if contents are visible
  stood : told.tells ≡ true → was_blank ≡ false → taken ≡ Standing (cell_of held node)
  stood tells wasn't =
      let a = b.as_taken wasn't in a.1 ∙ ap (λ (c : Cell). Standing c) (sym (a.2.exact tells))

  pub begun-points : told.tells ≡ true → points_of taken ≡ (node_of held node).points
  begun-points tells = elim (either was_blank) [
    | inl was ↦ ap points_of (b.blank was) ∙ ap (λ (n : grid.Node). n.points) (sym (b.begun was).0)
    | inr wasn't ↦ ap points_of (stood tells wasn't)
  ]

  pub begun-many : length (points_of taken) ≡ length (node_of held node).points
  begun-many = elim (either was_blank) [
    | inl was ↦ ap (λ (x : Taken). length (points_of x)) (b.blank was) ∙ ap (λ (n : grid.Node). length n.points) (sym (b.begun was).0)
    | inr wasn't ↦ (let a = b.as_taken wasn't in ap (λ (x : Taken). length (points_of x)) a.1 ∙ sym a.2.node.count)
  ]

  pub begun-open : (o : ℕ) → o < 8 → is_open_at taken o ≡ is_open_in (node_of held node) o
  begun-open o low = elim (either was_blank) [
    | inl was ↦ ap (λ (x : Taken). is_open_at x o) (b.blank was) ∙ (sym (shut o) ∙ ((absent-stands key told.rules).opens o low ∙ ap (λ (n : grid.Node). is_open_in n o) (sym (b.begun was).0)))
    | inr wasn't ↦ (let a = b.as_taken wasn't in ap (λ (x : Taken). is_open_at x o) a.1 ∙ ap (λ (m : ℕ). opened m o) (sym a.2.node.mask))
  ]

  pub begun-slot : (o : ℕ) → o < 8 → slot_at (Standing (cell_of held node)) o ≡ slot_at taken o
  begun-slot o low = elim (either was_blank) [
    | inl was ↦ ap (λ (xs : List ℕ). slice_index xs o) (b.begun was).1 ∙ (no_slot o low ∙ ap (λ (x : Taken). slot_at x o) (sym (b.blank was)))
    | inr wasn't ↦ (let a = b.as_taken wasn't in ap (λ (xs : List ℕ). slice_index xs o) a.2.children ∙ ap (λ (x : Taken). slot_at x o) (sym a.1))
  ]

  pub begun-stands : told.tells ≡ true → StandsFor (as_node taken) (node_of held node)
  begun-stands tells = elim (either was_blank) [
    | inl was ↦ subst (λ (x : Taken). StandsFor (as_node x) (node_of held node)) (sym (b.blank was)) (subst (λ (n : grid.Node). StandsFor blank n) (sym (b.begun was).0) (absent-stands key told.rules))
    | inr wasn't ↦ subst (λ (x : Taken). StandsFor (as_node x) (node_of held node)) (sym (stood tells wasn't)) (seen-stands (node_of held node))
  ]

  -- the same node, elsewhere in memory
  pub begun-same : (other : Node F) → (state_of other ≡ states.Resident) × (node_of held other ≡ node_of held node) × (children_of other ≡ children_of node) → IsBegun held told taken key other was_blank
  begun-same other same = record {
    resident = same.0;
    key_is = ap (λ (n : grid.Node). n.key) same.1 ∙ b.key_is;
    rules_are = ap (λ (n : grid.Node). n.rules) same.1 ∙ b.rules_are;
    as_taken = λ wasn't. (let a = b.as_taken wasn't in (a.0, a.1, subst (λ (d : Cell). IsAlikeCell told a.0 d) cells a.2));
    blank = b.blank;
    begun = λ was. (same.1 ∙ (b.begun was).0, same.2 ∙ (b.begun was).1);
  }
    where
      cells : cell_of held node ≡ cell_of held other
      cells = ap (λ (n : grid.Node). let c : Cell = record { node = n; children = children_of node } in c) (sym same.1) ∙ ap (λ (xs : List ℕ). let c : Cell = record { node = node_of held other; children = xs } in c) (sym same.2)

  -- when it is returned, it is as it was taken
  pub begun-back : (back : Node F) → (was_blank ≡ true → state_of back ≡ states.Blank) → (was_blank ≡ false → back ≡ node) → StaysAlike told taken (seen_node held back)
  begun-back back blank_now same = elim (either was_blank) [
    | inl was ↦ inl (ap (λ (s : NodeState). taken_as s (cell_of held back)) (blank_now was) ∙ sym (b.blank was))
    | inr wasn't ↦ (let a = b.as_taken wasn't in inr (a.0, cell_of held node, a.1, ap (λ (n : Node F). seen_node held n) (same wasn't) ∙ ap (λ (s : NodeState). taken_as s (cell_of held node)) b.resident, a.2))
  ]

pub seen-resident : {F : Type 0} (held : F → Option (List ℕ)) (node : Node F) → state_of node ≡ states.Resident → seen_node held node ≡ Standing (cell_of held node)
seen-resident held node is = ap (λ (s : NodeState). taken_as s (cell_of held node)) is

kept_as : (s : NodeState) (c : Cell) (n : Note) → note_after n (taken_as s c) Nothing ≡ n
kept_as states.Blank c n = refl
kept_as states.Resident c n = refl
kept_as states.Spilled c n = refl
kept_as states.Broken c n = refl

-- a node that is returned changes no note
pub kept-note : {F : Type 0} (held : F → Option (List ℕ)) (node : Node F) (n : Note) → note_after n (seen_node held node) Nothing ≡ n
kept-note held node n = kept_as (state_of node) (cell_of held node) n
