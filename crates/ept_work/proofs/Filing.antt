-- Nodes that are evicted, and what is known of them then.
use Rattle.std.proofs.Common.{◌≡◌, ◌∙◌, ◌⊎◌, ℕ, Bool, true, false, inl, inr, List, ◌++◌, refl, sym, ap, subst, arith, Option, Some, Result, Ok, Err, OnOk, OnErr, IfErr}
use Rattle.ept_base.specs.Files.{Tells}
use Rattle.ept_point.specs.declared.point.Point.{Point}
use Rattle.ept_sample.specs.Ids.{HasDistinctIds, same_id}
use Rattle.ept_sample.specs.Place.{AllInBox}
use Rattle.ept_sample.proofs.Choices.{either}
use Rattle.ept_sample.proofs.IdLaws.{count_by-append}
use Rattle.ept_grid.specs.Node as grid
use Rattle.ept_node.specs.declared.node.Node.{Node}
use Rattle.ept_node.specs.declared.body.Body.{Body}
use Rattle.ept_node.specs.declared.body.Body.TheVariants as bodies
use Rattle.ept_node.specs.declared.error.NodeError.{NodeError}
use Rattle.ept_node.specs.declared.error.NodeError.TheVariants.{SpillFault, SpillDamaged, Memory}
use Rattle.ept_node.specs.declared.state.NodeState.{NodeState}
use Rattle.ept_node.specs.declared.state.NodeState.TheVariants.{Blank, Resident, Spilled, Broken}
use Rattle.ept_node.specs.Shown.{file_of, state_of, state_in, node_of, children_of, fault_in, IsAlike, DoesTell}
use Rattle.ept_table.specs.declared.note.Told.{Told}
use Rattle.ept_table.specs.declared.taken.Cell.{Cell}
use Rattle.ept_table.specs.declared.taken.Taken.TheVariants.{Standing}
use Rattle.ept_table.specs.Item.{taken_as, cell_of, seen_node, IsFiledNode}
use Rattle.ept_table.specs.Steps.{StaysAlike}
use Rattle.ept_work.proofs.Begun.{seen-resident}

-- the points of the second list have different ids if those of both together have
pub distinct-right : (ps qs : List Point) → HasDistinctIds (ps ++ qs) → HasDistinctIds qs
unfolding HasDistinctIds
distinct-right ps qs once p = omega (arith, count_by-append (same_id p) ps qs, once p)

-- what holds of visible contents holds of these contents
told_fact : {X : Type 0} (P : X → Type 0) (o : Option X) (x : X) → o ≡ Some x → Tells P o → P x
told_fact {X} P o x is fact = let f : Tells P (Some x) = subst (λ (p : Option X). Tells P p) is fact in f

-- ---- nodes that have their points in memory, or none, agree with their files

no_fault : (body : Body) → (state_in body ≡ Broken → ⊥) → (e : NodeError) → fault_in body ≡ Some e → ⊥
no_fault bodies.Blank sound e is = cc
no_fault (bodies.Begun site) sound e is = cc
no_fault (bodies.Resident kept) sound e is = cc
no_fault (bodies.Spilled filed) sound e is = cc
no_fault (bodies.Unkept kept) sound e is = sound refl
no_fault (bodies.Lost filed why) sound e is = sound refl

module _ {F : Type 0} (held : F → Option (List ℕ)) (faults keeps : F → ℕ) (told : Told) where
  in_memory : (node : Node F) → (state_of node ≡ Spilled → ⊥) → (state_of node ≡ Broken → ⊥) → (told.tells ≡ true → DoesTell held (file_of node)) → IsFiledNode held faults keeps told node
  in_memory node here sound telling = record {
    agrees = record {
      filed = λ is. absurd (here is);
      kept = λ is. absurd (here is);
      failed = λ is. absurd (no_fault node.body sound SpillFault is);
    };
    telling = telling;
    not_memory = λ is. no_fault node.body sound Memory is;
    undamaged = λ tells kept found at is. no_fault node.body sound (SpillDamaged kept found at) is;
  }

  pub resident-filed : (node : Node F) → state_of node ≡ Resident → (told.tells ≡ true → DoesTell held (file_of node)) → IsFiledNode held faults keeps told node
  resident-filed node is = in_memory node (λ e. let x : Resident ≡ Spilled = sym is ∙ e in cc) (λ e. let x : Resident ≡ Broken = sym is ∙ e in cc)

  blank_filed : (node : Node F) → state_of node ≡ Blank → (told.tells ≡ true → DoesTell held (file_of node)) → IsFiledNode held faults keeps told node
  blank_filed node is = in_memory node (λ e. let x : Blank ≡ Spilled = sym is ∙ e in cc) (λ e. let x : Blank ≡ Broken = sym is ∙ e in cc)

  -- a node that is returned as it was taken
  pub back-filed : (node back : Node F) (was_blank : Bool) → state_of node ≡ Resident → (was_blank ≡ true → state_of back ≡ Blank) → (was_blank ≡ false → back ≡ node) → file_of back ≡ file_of node → (told.tells ≡ true → DoesTell held (file_of node)) → IsFiledNode held faults keeps told back
  back-filed node back was_blank is blank same file telling = elim (either was_blank) [
    | inl was ↦ blank_filed back (blank was) (λ tells. subst (λ (f : F). DoesTell held f) (sym file) (telling tells))
    | inr wasn't ↦ subst (λ (n : Node F). IsFiledNode held faults keeps told n) (sym (same wasn't)) (resident-filed node is telling)
  ]

-- ---- a node that was to be evicted

standing : (s : NodeState) (c : Cell) → (s ≡ Blank → ⊥) → taken_as s c ≡ Standing c
standing Blank c not = absurd (not refl)
standing Resident c not = refl
standing Spilled c not = refl
standing Broken c not = refl

abbrev refused : NodeError → Result (Unit {0}) NodeError
refused e = Err e

-- whatever the result, it is the node of a key
pub spill-stands : {F : Type 0} (new : Node F) (answer : Result (Unit {0}) NodeError) → OnOk answer (state_of new ≡ Spilled) → (answer ≡ Err SpillFault → state_of new ≡ Broken) → (answer ≡ Err Memory → state_of new ≡ Resident) → IfErr answer (λ e. (e ≡ SpillFault) ⊎ (e ≡ Memory)) → state_of new ≡ Blank → ⊥
spill-stands new (Ok u) gone broken memory only is = let y : Spilled ≡ Blank = sym gone ∙ is in cc
spill-stands new (Err e) gone broken memory (inl fails) is = let y : Broken ≡ Blank = sym (broken (ap refused fails)) ∙ is in cc
spill-stands new (Err e) gone broken memory (inr lacks) is = let y : Resident ≡ Blank = sym (memory (ap refused lacks)) ∙ is in cc

module _ {F : Type 0} (held : F → Option (List ℕ)) where
  -- a node of a key is no blank one
  pub seen-standing : (node : Node F) → (state_of node ≡ Blank → ⊥) → seen_node held node ≡ Standing (cell_of held node)
  seen-standing node not = standing (state_of node) (cell_of held node) not

  same_cell : (old new : Node F) → node_of held new ≡ node_of held old → children_of new ≡ children_of old → cell_of held new ≡ cell_of held old
  same_cell old new node children =
      ap (λ (n : grid.Node). let c : Cell = record { node = n; children = children_of new } in c) node
      ∙ ap (λ (xs : List ℕ). let c : Cell = record { node = node_of held old; children = xs } in c) children

  seen_same : (old new : Node F) → (state_of old ≡ Blank → ⊥) → (state_of new ≡ Blank → ⊥) → cell_of held new ≡ cell_of held old → seen_node held new ≡ seen_node held old
  seen_same old new stood stands same = seen-standing new stands ∙ (ap (λ (c : Cell). Standing c) same ∙ sym (seen-standing old stood))

  -- it is as it was, or was evicted
  pub spill-stays : (told : Told) (old new : Node F) (answer : Result (Unit {0}) NodeError) → state_of old ≡ Resident → (told.tells ≡ true → DoesTell held (file_of new)) → OnOk answer (state_of new ≡ Spilled) → OnOk answer (Tells (λ (bytes : List ℕ). node_of held new ≡ node_of held old) (held (file_of new))) → IsAlike (node_of held old) (node_of held new) → children_of new ≡ children_of old → OnErr answer (node_of held new ≡ node_of held old) → (state_of new ≡ Blank → ⊥) → AllInBox (node_of held new).rules.cube (node_of held new).key (node_of held new).points → StaysAlike told (seen_node held old) (seen_node held new)
  spill-stays told old new (Ok u) was telling gone same alike children still stands inside =
      inr (
        cell_of held old,
        cell_of held new,
        seen-resident held old was,
        ap (λ (s : NodeState). taken_as s (cell_of held new)) gone,
        record {
          node = alike;
          children = children;
          inside = inside;
          exact = λ tells. (
              let f = telling tells in
              same_cell old new (told_fact (λ (bytes : List ℕ). node_of held new ≡ node_of held old) (held (file_of new)) f.0 f.1 same) children);
        },
      )
  spill-stays told old new (Err e) was telling gone same alike children still stands inside =
      inl (seen_same old new (λ x. let y : Resident ≡ Blank = sym was ∙ x in cc) stands (same_cell old new still children))
