-- Nodes that are broken, and what a seat notes of them.
use Rattle.std.proofs.Common.{◌≡◌, ◌∙◌, ◌⊎◌, ℕ, ◌<◌, inl, inr, Bool, true, false, List, refl, sym, ap, subst, Option, Some, None, Result, Ok, Err, IfErr, IfOk}
use Rattle.std.specs.Prelude.{IsNone}
use Rattle.ept_sample.specs.Members.{IsMember}
use Rattle.ept_sample.proofs.Choices.{either}
use Rattle.ept_slots.specs.declared.view.View as slots
use Rattle.ept_node.specs.declared.node.Node.{Node}
use Rattle.ept_node.specs.declared.body.Body.{Body}
use Rattle.ept_node.specs.declared.body.Body.TheVariants as bodies
use Rattle.ept_node.specs.declared.error.NodeError.{NodeError}
use Rattle.ept_node.specs.declared.error.NodeError.TheVariants as node
use Rattle.ept_node.specs.declared.state.NodeState.TheVariants as states
use Rattle.ept_node.specs.Shown.{state_of, state_in, fault_of, fault_in}
use Rattle.ept_table.specs.declared.done.Done.TheVariants.{Nothing, Arrive}
use Rattle.ept_table.specs.declared.item.Item.{Item}
use Rattle.ept_table.specs.declared.note.Carried.{Carried}
use Rattle.ept_table.specs.declared.note.Note.{Note}
use Rattle.ept_table.specs.declared.note.Told.{Told}
use Rattle.ept_table.specs.declared.taken.Taken.{Taken}
use Rattle.ept_table.specs.Item.{seen_node, broken_by, StaysBroken}
use Rattle.ept_table.specs.Steps.{holding, given_back, noting, noting_broken}
use Rattle.ept_table.specs.Tells.{IsTooMany}
use Rattle.ept_table.specs.View.{View}
use Rattle.ept_table.specs.Visits.{note_after}
use Rattle.ept_work.specs.declared.error.WorkError.{WorkError}
use Rattle.ept_work.specs.declared.error.WorkError.TheVariants.{SourceFault, SourceChanged, TooManyNodes, SpillFault, SpillDamaged, Memory}
use Rattle.ept_work.specs.Errors.{of_node, answer_staying}
use Rattle.ept_work.specs.Rest.{IsIdle}
use Rattle.ept_work.specs.Visiting.{IsVisitCause, held_fault, HoldsWhole, breaking, refused_by, leaving}
use Rattle.ept_work.proofs.Begun.{seen-resident, kept-note}

-- ---- nodes that are not broken

sound_body : (body : Body) → (state_in body ≡ states.Broken → ⊥) → fault_in body ≡ None
sound_body bodies.Blank not = refl
sound_body (bodies.Begun site) not = refl
sound_body (bodies.Resident kept) not = refl
sound_body (bodies.Spilled filed) not = refl
sound_body (bodies.Unkept kept) not = absurd (not refl)
sound_body (bodies.Lost filed why) not = absurd (not refl)

pub unbroken-sound : {F : Type 0} (n : Node F) → (state_of n ≡ states.Broken → ⊥) → fault_of n ≡ None
unbroken-sound n not = sound_body n.body not

pub resident-sound : {F : Type 0} (n : Node F) → state_of n ≡ states.Resident → fault_of n ≡ None
resident-sound n is = sound_body n.body (λ e. let x : states.Resident ≡ states.Broken = sym is ∙ e in cc)

pub spilled-sound : {F : Type 0} (n : Node F) → state_of n ≡ states.Spilled → fault_of n ≡ None
spilled-sound n is = sound_body n.body (λ e. let x : states.Spilled ≡ states.Broken = sym is ∙ e in cc)

pub blank-sound : {F : Type 0} (n : Node F) → state_of n ≡ states.Blank → fault_of n ≡ None
blank-sound n is = sound_body n.body (λ e. let x : states.Blank ≡ states.Broken = sym is ∙ e in cc)

-- nor is a node that is returned as it was taken
pub back-sound : {F : Type 0} (n back : Node F) (was_blank : Bool) → state_of n ≡ states.Resident → (was_blank ≡ true → state_of back ≡ states.Blank) → (was_blank ≡ false → back ≡ n) → fault_of back ≡ None
back-sound {F} n back was_blank is blank same = elim (either was_blank) [
  | inl was ↦ blank-sound back (blank was)
  | inr wasn't ↦ ap (λ (m : Node F). fault_of m) (same wasn't) ∙ resident-sound n is
]

-- a node that is not broken is broken by nothing
pub never-broken : (o : Option NodeError) (why : NodeError) {P : Type 0} → o ≡ None → o ≡ Some why → P
never-broken o why none is = absurd (let e : None ≡ Some why = sym none ∙ is in cc)

-- ---- nodes that stay, and why

-- a node that is broken stays for the refusal by which it is broken
pub stays-broken : (fault : Option NodeError) → (fault ≡ Some node.Memory → ⊥) → fault ≡ breaking fault
stays-broken None not = refl
stays-broken (Some node.SpillFault) not = refl
stays-broken (Some (node.SpillDamaged kept found at)) not = refl
stays-broken (Some node.Memory) not = absurd (not refl)

-- running out of memory breaks no node
pub never-memory : (why : Option NodeError) → breaking why ≡ Some node.Memory → ⊥
never-memory None is = cc
never-memory (Some node.SpillFault) is = cc
never-memory (Some (node.SpillDamaged kept found at)) is = cc
never-memory (Some node.Memory) is = cc

abbrev refused : NodeError → Result (Unit {0}) NodeError
refused e = Err e

-- a node that was not read back from its file
pub reload-reason : {F : Type 0} (new : Node F) (why : NodeError) → ((why ≡ node.Memory → ⊥) → fault_of new ≡ Some why) → (why ≡ node.Memory → state_of new ≡ states.Spilled) → fault_of new ≡ breaking (Some why)
reload-reason new node.SpillFault broken memory = broken (λ e. let x : node.SpillFault ≡ node.Memory = e in cc)
reload-reason new (node.SpillDamaged kept found at) broken memory = broken (λ e. let x : node.SpillDamaged kept found at ≡ node.Memory = e in cc)
reload-reason new node.Memory broken memory = spilled-sound new (memory refl)

-- a node that was not evicted
pub spill-reason : {F : Type 0} (new : Node F) (answer : Result (Unit {0}) NodeError) → (answer ≡ refused node.SpillFault → fault_of new ≡ Some node.SpillFault) → (answer ≡ refused node.Memory → state_of new ≡ states.Resident) → IfErr answer (λ e. (e ≡ node.SpillFault) ⊎ (e ≡ node.Memory)) → IfErr answer (λ e. fault_of new ≡ breaking (Some e))
spill-reason new (Ok u) broken memory only = tt
spill-reason new (Err e) broken memory (inl fails) = broken (ap refused fails) ∙ sym (ap (λ (x : NodeError). breaking (Some x)) fails)
spill-reason new (Err e) broken memory (inr lacks) = resident-sound new (memory (ap refused lacks)) ∙ sym (ap (λ (x : NodeError). breaking (Some x)) lacks)

-- ---- what a seat holds

module _ {F S : Type 0} where
  -- the item that is held was not broken when it was taken, so it may be returned in any way
  pub stays-whole : (v : slots.View (Item F S) Note) (k : ℕ) (x y : Item F S) → HoldsWhole v → v.hold ≡ Some (record { slot = k; item = x }) → StaysBroken x y
  stays-whole v k x y whole is = λ why broken. never-broken (broken_by x) why (sym (ap held_fault is) ∙ whole) broken

-- ---- what a seat knows that returned a node that is not broken

module _ {F : Type 0} (held : F → Option (List ℕ)) (v w : View) where
  -- a node at which a flight has arrived
  pub gave-landed : (number : ℕ) (n : Node F) (said fresh : List Carried) → state_of n ≡ states.Resident → w ≡ given_back v (noting_broken (fault_of n) (note_after v.note (seen_node held n) (Arrive number said))) → said ≡ fresh → w ≡ leaving v number fresh
  gave-landed number n said fresh is gave same =
      gave ∙ (ap (λ (o : Option NodeError). given_back v (noting_broken o (note_after v.note (seen_node held n) (Arrive number said)))) (resident-sound n is)
      ∙ (ap (λ (x : Taken). given_back v (note_after v.note x (Arrive number said))) (seen-resident held n is)
      ∙ ap (λ (fs : List Carried). leaving v number fs) same))

  -- a node that is returned as it was taken
  pub gave-as-taken : (n back : Node F) (was_blank : Bool) → state_of n ≡ states.Resident → (was_blank ≡ true → state_of back ≡ states.Blank) → (was_blank ≡ false → back ≡ n) → w ≡ given_back v (noting_broken (fault_of back) (note_after v.note (seen_node held back) Nothing)) → w ≡ given_back v v.note
  gave-as-taken n back was_blank is blank same gave =
      gave ∙ (ap (λ (o : Option NodeError). given_back v (noting_broken o (note_after v.note (seen_node held back) Nothing))) (back-sound n back was_blank is blank same)
      ∙ ap (λ (m : Note). given_back v m) (kept-note held back v.note))

pub left-idle : (v w : View) (number : ℕ) (fresh : List Carried) → w ≡ leaving v number fresh → 0 < v.parts → IsIdle w
left-idle v w number fresh is share = subst (λ (u : View). IsIdle u) (sym is) (record { share = share; free = refl; undrawn = refl })

pub left-full : (told : Told) (v w : View) (number : ℕ) (fresh : List Carried) → w ≡ leaving v number fresh → 0 < v.refused → IsTooMany told → IsVisitCause told w TooManyNodes
left-full told v w number fresh is refused too_many = subst (λ (u : View). IsVisitCause told u TooManyNodes) (sym is) (inl (inl refused, too_many))

-- ---- what a seat notes of a refusal

-- the refusal of a node that stays is noted as a worker's refusal
noted_so : (v : View) (why : NodeError) → noting v (noting_broken (breaking (Some why)) v.note) ≡ refused_by (of_node why) v
noted_so v node.SpillFault = refl
noted_so v (node.SpillDamaged kept found at) = refl
noted_so v node.Memory = refl

pub refused-idle : (e : WorkError) (v w : View) → w ≡ refused_by e v → IsIdle v → IsIdle w
refused-idle e v w is idle = subst (λ (u : View). IsIdle u) (sym is) (any e)
  where
    any : (e : WorkError) → IsIdle (refused_by e v)
    any SourceFault = idle
    any (SourceChanged source number) = idle
    any TooManyNodes = idle
    any SpillFault = record { share = idle.share; free = idle.free; undrawn = idle.undrawn }
    any (SpillDamaged kept found at) = record { share = idle.share; free = idle.free; undrawn = idle.undrawn }
    any Memory = idle

pub refused-parts : (e : WorkError) (v w : View) → w ≡ refused_by e v → w.parts ≡ v.parts
refused-parts e v w is = ap (λ (u : View). u.parts) is ∙ any e
  where
    any : (e : WorkError) → (refused_by e v).parts ≡ v.parts
    any SourceFault = refl
    any (SourceChanged source number) = refl
    any TooManyNodes = refl
    any SpillFault = refl
    any (SpillDamaged kept found at) = refl
    any Memory = refl

-- a refusal is passed on, of a worker that knew the same before
pub handed-on : {X : Type 0} (r : Result X WorkError) (e : WorkError) (v mid w : View) → r ≡ Err e → w ≡ refused_by e mid → mid ≡ v → IfErr r (λ d. w ≡ refused_by d v)
handed-on {X} r e v mid w is noted same =
    subst (λ (a : Result X WorkError). IfErr a (λ d. w ≡ refused_by d v)) (sym is) (noted ∙ ap (λ (u : View). refused_by e u) same)

-- a node was taken and returned
pub gave-back : {F : Type 0} (held : F → Option (List ℕ)) (v u w : View) (slot : ℕ) (x : Taken) (n : Node F) → v.hold ≡ None → u ≡ holding v slot x → w ≡ given_back u (noting_broken (fault_of n) (note_after u.note (seen_node held n) Nothing)) → w ≡ noting v (noting_broken (fault_of n) v.note)
gave-back held v u w slot x n free took gave =
    gave ∙ (ap (λ (m : Note). given_back u (noting_broken (fault_of n) m)) (kept-note held n u.note)
    ∙ (ap (λ (z : View). given_back z (noting_broken (fault_of n) z.note)) took
    ∙ ap (λ (h : Option (ℕ × Taken)). let z : View = record { parts = v.parts; refused = v.refused; hold = h; note = noting_broken (fault_of n) v.note } in z) (sym free)))

-- the same if the seat stepped on its permits before and afterwards
pub gave-again : {F : Type 0} (held : F → Option (List ℕ)) (v mid u back w : View) (slot : ℕ) (x : Taken) (n : Node F) → v.hold ≡ None → mid ≡ v → u ≡ holding mid slot x → back ≡ given_back u (noting_broken (fault_of n) (note_after u.note (seen_node held n) Nothing)) → w ≡ back → w ≡ noting v (noting_broken (fault_of n) v.note)
gave-again held v mid u back w slot x n free same took gave after =
    after ∙ gave-back held v u back slot x n free (took ∙ ap (λ (z : View). holding z slot x) same) gave

-- a node that is not broken
pub gave-whole : (v w : View) (fault : Option NodeError) → fault ≡ None → w ≡ noting v (noting_broken fault v.note) → w ≡ v
gave-whole v w fault none is = is ∙ ap (λ (o : Option NodeError). noting v (noting_broken o v.note)) none

-- a node that stays for this reason
pub gave-refused : (v w : View) (fault : Option NodeError) (why : NodeError) → fault ≡ breaking (Some why) → w ≡ noting v (noting_broken fault v.note) → w ≡ refused_by (of_node why) v
gave-refused v w fault why reason is =
    is ∙ (ap (λ (o : Option NodeError). noting v (noting_broken o v.note)) reason ∙ noted_so v why)

-- what is noted is the cause
pub noted-cause : (told : Told) (v w : View) (why : NodeError) → w ≡ refused_by (of_node why) v → IsVisitCause told w (of_node why)
noted-cause told v w node.SpillFault is = subst (λ (u : View). IsMember node.SpillFault u.note.broken) (sym is) (inl refl)
noted-cause told v w (node.SpillDamaged kept found at) is = subst (λ (u : View). IsMember (node.SpillDamaged kept found at) u.note.broken) (sym is) (inl refl)
noted-cause told v w node.Memory is = tt

-- ---- what is returned for a node that stays

abbrev Staying : Type 0 → Type 0
Staying X = Result (Option X) WorkError

module _ (X : Type 0) (v w : View) (fault : Option NodeError) (gave : w ≡ noting v (noting_broken fault v.note)) where
  noted_if : (why : Option NodeError) → fault ≡ breaking why → IfErr (answer_staying {X = X} why) (λ e. w ≡ refused_by e v)
  noted_if None reason = tt
  noted_if (Some why) reason = gave-refused v w fault why reason gave

  again_if : (why : Option NodeError) → fault ≡ breaking why → IfOk (answer_staying {X = X} why) (λ (found : Option X). IsNone found → w ≡ v)
  again_if None reason = λ none. gave-whole v w fault reason gave
  again_if (Some why) reason = tt

  cause_if : (told : Told) (why : Option NodeError) → fault ≡ breaking why → IfErr (answer_staying {X = X} why) (IsVisitCause told w)
  cause_if told None reason = tt
  cause_if told (Some why) reason = noted-cause told v w why (gave-refused v w fault why reason gave)

  module _ (why : Option NodeError) (r : Result (Option X) WorkError) (is : r ≡ answer_staying why) (reason : fault ≡ breaking why) where
    pub staying-noted : IfErr r (λ e. w ≡ refused_by e v)
    staying-noted = subst (λ (a : Staying X). IfErr a (λ e. w ≡ refused_by e v)) (sym is) (noted_if why reason)

    pub staying-again : IfOk r (λ (found : Option X). IsNone found → w ≡ v)
    staying-again = subst (λ (a : Staying X). IfOk a (λ (found : Option X). IsNone found → w ≡ v)) (sym is) (again_if why reason)

    pub staying-refused : (told : Told) → IfErr r (IsVisitCause told w)
    staying-refused told = subst (λ (a : Staying X). IfErr a (IsVisitCause told w)) (sym is) (cause_if told why reason)
