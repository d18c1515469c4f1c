-- What workers return if a node may be broken.
use Rattle.std.proofs.Common.{◌≡◌, ◌∙◌, ℕ, ◌<◌, true, List, refl, sym, ap, subst, Option, Some, None, Result, Ok, Err, OnOk, IfErr}
use Rattle.std.specs.Prelude.{IsNone, IfSome}
use Rattle.std.specs.List.{All, Any}
use Rattle.ept_sample.specs.Members.{IsMember}
use Rattle.ept_node.specs.declared.node.Node.{Node}
use Rattle.ept_node.specs.declared.error.NodeError.{NodeError}
use Rattle.ept_node.specs.declared.error.NodeError.TheVariants as node
use Rattle.ept_node.specs.Shown.{file_of, fault_of}
use Rattle.ept_table.specs.declared.note.Told.{Told}
use Rattle.ept_table.specs.Item.{IsFiledNode}
use Rattle.ept_table.specs.View.{View}
use Rattle.ept_work.specs.declared.error.WorkError.{WorkError}
use Rattle.ept_work.specs.declared.error.WorkError.TheVariants.{SourceFault, SourceChanged, TooManyNodes, SpillFault, SpillDamaged}
use Rattle.ept_work.specs.Errors.{of_node, settled_by}
use Rattle.ept_work.specs.Working.{IsCause}
use Rattle.ept_work.proofs.Results.{cause-of}

abbrev Answer : Type 0
Answer = Result (Unit {0}) WorkError

abbrev refused : WorkError → Answer
refused e = Err e

error_same : {a b : WorkError} → refused a ≡ refused b → a ≡ b
error_same {a} {b} q = ap from q
  where
    from : Answer → WorkError
    from (Ok u) = a
    from (Err x) = x

-- the result is Ok only if no node is broken and no worker was refused
settled-ok : (P : Type 0) (broken : Option NodeError) (answer : Answer) → OnOk answer P → OnOk (settled_by broken answer) P
settled-ok P (Some why) answer ok = tt
settled-ok P None answer ok = ok

-- ---- the same of a result that is settled so

pub settled-again : (P : Type 0) (broken : Option NodeError) (answer is : Answer) → is ≡ settled_by broken answer → OnOk answer P → OnOk is P
settled-again P broken answer is by ok = subst (λ (r : Answer). OnOk r P) (sym by) (settled-ok P broken answer ok)

-- ---- a refusal that no node has is a worker's

no_source : (why : NodeError) → of_node why ≡ SourceFault → ⊥
no_source node.SpillFault is = cc
no_source (node.SpillDamaged kept found at) is = cc
no_source node.Memory is = cc

no_change : (source number : ℕ) (why : NodeError) → of_node why ≡ SourceChanged source number → ⊥
no_change source number node.SpillFault is = cc
no_change source number (node.SpillDamaged kept found at) is = cc
no_change source number node.Memory is = cc

no_many : (why : NodeError) → of_node why ≡ TooManyNodes → ⊥
no_many node.SpillFault is = cc
no_many (node.SpillDamaged kept found at) is = cc
no_many node.Memory is = cc

module _ (told : Told) (v : View) (broken : Option NodeError) (answer is : Answer) (by : is ≡ settled_by broken answer) (cause : IfErr answer (λ e. IsCause told v e)) where
  from_worker : (e : WorkError) → ((why : NodeError) → of_node why ≡ e → ⊥) → is ≡ refused e → IsCause told v e
  from_worker e none eq = at broken (sym by ∙ eq)
    where
      at : (o : Option NodeError) → settled_by o answer ≡ refused e → IsCause told v e
      at (Some why) same = absurd (none why (error_same same))
      at None same = cause-of (λ (x : WorkError). IsCause told v x) answer e cause same

  pub source-cause : is ≡ refused SourceFault → IsCause told v SourceFault
  source-cause eq = from_worker SourceFault no_source eq

  pub change-cause : (source number : ℕ) → is ≡ refused (SourceChanged source number) → IsCause told v (SourceChanged source number)
  change-cause source number eq = from_worker (SourceChanged source number) (no_change source number) eq

  pub many-cause : is ≡ refused TooManyNodes → IsCause told v TooManyNodes
  many-cause eq = from_worker TooManyNodes no_many eq

-- ---- what a spill file did

node_same : (a b : NodeError) → of_node a ≡ of_node b → a ≡ b
node_same node.SpillFault node.SpillFault is = refl
node_same node.SpillFault (node.SpillDamaged k f t) is = absurd (cc)
node_same node.SpillFault node.Memory is = absurd (cc)
node_same (node.SpillDamaged k f t) node.SpillFault is = absurd (cc)
node_same (node.SpillDamaged k f t) (node.SpillDamaged k' f' t') is = let e : SpillDamaged k f t ≡ SpillDamaged k' f' t' = is in cc
node_same (node.SpillDamaged k f t) node.Memory is = absurd (cc)
node_same node.Memory node.SpillFault is = absurd (cc)
node_same node.Memory (node.SpillDamaged k f t) is = absurd (cc)
node_same node.Memory node.Memory is = refl

-- a worker that was refused by a broken node has noted it
noted_by : (told : Told) (v : View) (why : NodeError) → (why ≡ node.Memory → ⊥) → IsCause told v (of_node why) → IsMember why v.note.broken
noted_by told v node.SpillFault not is = is
noted_by told v (node.SpillDamaged kept found at) not is = is
noted_by told v node.Memory not is = absurd (not refl)

-- a fault of a spill file is the fault of a broken node, which is there
pub broken-there : {F : Type 0} (told : Told) (v : View) (nodes : List (Node F)) (broken : Option NodeError) (answer is : Answer) → is ≡ settled_by broken answer → IfErr answer (λ e. IsCause told v e) → IfSome broken (λ e. Any (λ (n : Node F). fault_of n ≡ Some e) nodes) → ((why : NodeError) → IsMember why v.note.broken → Any (λ (n : Node F). fault_of n ≡ Some why) nodes) → (why : NodeError) → (why ≡ node.Memory → ⊥) → is ≡ refused (of_node why) → Any (λ (n : Node F). fault_of n ≡ Some why) nodes
broken-there {F} told v nodes (Some e) answer is by cause some noted why not eq =
    subst (λ (d : NodeError). Any (λ (n : Node F). fault_of n ≡ Some d) nodes) (node_same e why (error_same (sym by ∙ eq))) some
broken-there {F} told v nodes None answer is by cause some noted why not eq =
    noted why (noted_by told v why not (cause-of (λ (x : WorkError). IsCause told v x) answer (of_node why) cause (sym by ∙ eq)))

module _ {F : Type 0} (held : F → Option (List ℕ)) (faults keeps : F → ℕ) (told : Told) (nodes : List (Node F)) (filed : All (IsFiledNode held faults keeps told) nodes) where
  it_is : (there : Any (λ (n : Node F). (e : NodeError) × (fault_of n ≡ Some e)) nodes) → IsFiledNode held faults keeps told there.1
  it_is there = subst (λ (n : Node F). IsFiledNode held faults keeps told n) there.3 (filed there.0 there.1 there.2)

  -- no node is broken if the result is not the refusal of a broken node
  pub none-broken : (broken : Option NodeError) (answer is : Answer) → is ≡ settled_by broken answer → (IsNone broken → All (λ (n : Node F). fault_of n ≡ None) nodes) → IfSome broken (λ e. Any (λ (n : Node F). fault_of n ≡ Some e) nodes) → (is ≡ refused SpillFault → ⊥) → ((kept found at : ℕ) → is ≡ refused (SpillDamaged kept found at) → ⊥) → All (λ (n : Node F). fault_of n ≡ None) nodes
  none-broken None answer is by none some no_fault no_damage = none refl
  none-broken (Some node.SpillFault) answer is by none some no_fault no_damage = absurd (no_fault by)
  none-broken (Some (node.SpillDamaged kept found at)) answer is by none some no_fault no_damage = absurd (no_damage kept found at by)
  none-broken (Some node.Memory) answer is by none some no_fault no_damage =
      absurd ((it_is (some.0, some.1, some.2, some.3, (node.Memory, some.4))).not_memory some.4)

  -- its own file has failed
  pub own-fault : Any (λ (n : Node F). fault_of n ≡ Some node.SpillFault) nodes → Any (λ (n : Node F). (fault_of n ≡ Some node.SpillFault) × (0 < faults (file_of n))) nodes
  own-fault there =
      let is = it_is (there.0, there.1, there.2, there.3, (node.SpillFault, there.4)) in
      (there.0, there.1, there.2, there.3, (there.4, is.agrees.failed there.4))

  -- and is not damaged if contents are visible
  pub no-damage : told.tells ≡ true → (kept found at : ℕ) → Any (λ (n : Node F). fault_of n ≡ Some (node.SpillDamaged kept found at)) nodes → ⊥
  no-damage tells kept found at there =
      (it_is (there.0, there.1, there.2, there.3, (node.SpillDamaged kept found at, there.4))).undamaged tells kept found at there.4
