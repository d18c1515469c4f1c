-- What is known of a connection is still known after units of a poll.
use Rattle.std.proofs.Common.{◌≡◌, ◌∙◌, ◌≤◌, ◌⊎◌, inl, inr, ℕ, List, [], ◌∷◌, Option, Some, None, refl, sym, ap, subst, arith}
use Rattle.std.proofs.Math.Path.{fun_ext}
use Rattle.ept_base.specs.Causes.{Rose}
use Rattle.ept_base.specs.Files.{Files, SameFiles, StepsBy, Tells}
use Rattle.ept_base.specs.Links.{Wire, FailsToRead, Writes}
use Rattle.ept_conn.specs.declared.hand.Hand.TheVariants.{Empty}
use Rattle.ept_conn.specs.declared.end.Fault.{Fault}
use Rattle.ept_conn.specs.declared.end.Fault.TheVariants as fault
use Rattle.ept_conn.specs.declared.end.Want.TheVariants as want
use Rattle.ept_conn.specs.Answers.{Served}
use Rattle.ept_conn.specs.State.{State, started, want_of, feeds}
use Rattle.ept_conn.specs.Works.{HasPlanOf, IsDamagedIn, IsDamaged}
use Rattle.ept_conn.specs.SessionCalls.{SessionCall, Fed, Worked, Sent, Failed}
use Rattle.ept_conn.proofs.Histories.{start-has}
use Rattle.ept_conn.proofs.Conversing.{steps-same, tells-of, read-hand, rose-earlier, rose-later, damaged-since}
use Rattle.ept_poll.specs.Links.{ReadsOn}
use Rattle.ept_poll.specs.Units.{Seen, IsAs, IsOverLink, IsUnit, AreUnits}
use Rattle.ept_poll.specs.Polls.{HasPassed, Stands}
use Rattle.ept_poll.specs.Runs.{IsUnused}
use Rattle.ept_poll.proofs.Passing.{read-passed, unread-passed, work-passed, write-passed, unwritten-passed}

-- ---- what is visible

-- a step leads from what is visible before it to what is visible after it
pub tells-step : {X : Type 0} (R : X → X → Type 0) (P Q : X → Type 0) (old new : Option X) → StepsBy R old new → Tells P old → ((a b : X) → R a b → P a → Q b) → Tells Q new
tells-step R P Q None None step told f = tt
tells-step R P Q None (Some b) step told f = absurd step
tells-step R P Q (Some a) None step told f = tt
tells-step R P Q (Some a) (Some b) step told f = f a b step told

pub tells-weaker : {X : Type 0} (P Q : X → Type 0) (o : Option X) → Tells P o → ((a : X) → P a → Q a) → Tells Q o
tells-weaker P Q None told f = tt
tells-weaker P Q (Some a) told f = f a told

-- the visible folder stays the same
pub same-told : (old new : Option Files) → StepsBy SameFiles old new → new ≡ old
same-told None None step = refl
same-told None (Some b) step = absurd step
same-told (Some a) None step = absurd step
same-told (Some a) (Some b) step = ap Some (fun_ext step)

-- ---- from the start

pub start-stands : (now : Seen) → now.state ≡ started → Tells IsUnused now.wire → Stands now.store_faults now
start-stands now is fresh = record {
  later = omega arith;
  passed = λ files told served served_is.
      tells-weaker IsUnused (λ w. HasPassed served (Rose now.store_faults now.store_faults) now.state w) now.wire fresh (λ w none.
      subst (λ (s : State). HasPassed served (Rose now.store_faults now.store_faults) s w) (sym is) (fresh-passed served (Rose now.store_faults now.store_faults) w none));
  plans = λ files told. subst (λ (s : State). HasPlanOf files s.hand) (sym is) tt;
  damaged = λ found fixed. absurd (none-fixed (fault.Damaged found) fixed);
  stores = λ fixed. absurd (none-fixed fault.Store fixed);
}
  where
    none-fixed : (cause : Fault) → now.state.fault ≡ Some cause → ⊥
    none-fixed cause fixed =
        let none : now.state.fault ≡ None = ap (λ (s : State). s.fault) is in
        absurd cc

    fresh-passed : (served : Served) (reason : Type 0) (w : Wire) → IsUnused w → HasPassed served reason started w
    fresh-passed served reason w none = record {
      converses = record {
        bytes = [];
        text = [];
        passes = record { taken = none.taken; written = none.written; reads = []; reads_are = none.reads; each = tt };
        has = start-has served reason;
        closed = λ closed. absurd cc;
      };
      refusing = λ write. inl refl;
    }

-- ---- unit by unit

pub as-stands : (first : ℕ) (old new : Seen) → IsAs old new → Stands first old → Stands first new
as-stands first old new is s = record {
  later = subst (λ (n : ℕ). first ≤ n) (sym is.store_faults) s.later;
  passed = λ files told served served_is.
      let was = s.passed files (sym is.files ∙ told) served served_is in
      let faults = subst (λ (n : ℕ). Tells (λ w. HasPassed served (Rose first n) old.state w) old.wire) (sym is.store_faults) was in
      let state = subst (λ (t : State). Tells (λ w. HasPassed served (Rose first new.store_faults) t w) old.wire) (sym is.state) faults in
      subst (λ (o : Option Wire). Tells (λ w. HasPassed served (Rose first new.store_faults) new.state w) o) (sym is.wire) state;
  plans = λ files told. subst (λ (t : State). HasPlanOf files t.hand) (sym is.state) (s.plans files (sym is.files ∙ told));
  damaged = λ found fixed. subst (λ (o : Option Files). Tells (IsDamaged found) o) (sym is.files) (s.damaged found (ap (λ (t : State). t.fault) (sym is.state) ∙ fixed));
  stores = λ fixed. subst (λ (n : ℕ). Rose first n) (sym is.store_faults) (s.stores (ap (λ (t : State). t.fault) (sym is.state) ∙ fixed));
}

-- the link was called: only what is said of the bytes is new
over-link-stands : (first : ℕ) (old new : Seen) → IsOverLink old new → Stands first old
    → ((served : Served) → Tells (λ w. HasPassed served (Rose first old.store_faults) old.state w) old.wire → Tells (λ w. HasPassed served (Rose first old.store_faults) new.state w) new.wire)
    → ((new.state.hand ≡ old.state.hand) ⊎ (new.state.hand ≡ Empty))
    → ((cause : Fault) → new.state.fault ≡ Some cause → (old.state.fault ≡ Some cause) ⊎ ((cause ≡ fault.Link) ⊎ (cause ≡ fault.Memory)))
    → Stands first new
over-link-stands first old new is s passes hand fixes = record {
  later = subst (λ (n : ℕ). first ≤ n) (sym is.store_faults) s.later;
  passed = λ files told served served_is.
      subst (λ (n : ℕ). Tells (λ w. HasPassed served (Rose first n) new.state w) new.wire) (sym is.store_faults) (passes served (s.passed files (sym is.files ∙ told) served served_is));
  plans = λ files told. planned files (s.plans files (sym is.files ∙ told)) hand;
  damaged = λ found fixed. subst (λ (o : Option Files). Tells (IsDamaged found) o) (sym is.files) (s.damaged found (was (fault.Damaged found) (λ same. absurd cc) (λ same. absurd cc) (fixes (fault.Damaged found) fixed)));
  stores = λ fixed. subst (λ (n : ℕ). Rose first n) (sym is.store_faults) (s.stores (was fault.Store (λ same. absurd cc) (λ same. absurd cc) (fixes fault.Store fixed)));
}
  where
    planned : (files : Files) → HasPlanOf files old.state.hand → (new.state.hand ≡ old.state.hand) ⊎ (new.state.hand ≡ Empty) → HasPlanOf files new.state.hand
    planned files has (inl same) = subst (HasPlanOf files) (sym same) has
    planned files has (inr none) = subst (HasPlanOf files) (sym none) tt

    was : (cause : Fault) → ¬ (cause ≡ fault.Link) → ¬ (cause ≡ fault.Memory) → (old.state.fault ≡ Some cause) ⊎ ((cause ≡ fault.Link) ⊎ (cause ≡ fault.Memory)) → old.state.fault ≡ Some cause
    was cause not_link not_memory (inl fixed) = fixed
    was cause not_link not_memory (inr (inl link)) = absurd (not_link link)
    was cause not_link not_memory (inr (inr memory)) = absurd (not_memory memory)

-- the end that is fixed by what is fed
fed-fixes : (old new : State) (piece : List ℕ) (cause : Fault) → (new ≡ feeds old piece) ⊎ (new ≡ record old { fault = Some fault.Memory }) → new.fault ≡ Some cause → (old.fault ≡ Some cause) ⊎ ((cause ≡ fault.Link) ⊎ (cause ≡ fault.Memory))
fed-fixes old new [] cause (inl is) fixed = inl (sym (ap (λ (s : State). s.fault) is) ∙ fixed)
fed-fixes old new (b ∷ piece) cause (inl is) fixed = inl (sym (ap (λ (s : State). s.fault) is) ∙ fixed)
fed-fixes old new piece cause (inr is) fixed =
    let memory : new.fault ≡ Some fault.Memory = ap (λ (s : State). s.fault) is in
    inr (inr (one cause (sym fixed ∙ memory)))
  where
    one : (x : Fault) → Some x ≡ Some fault.Memory → x ≡ fault.Memory
    one x same = cc

failed-fixes : (old new : State) (cause : Fault) → new ≡ record old { hand = Empty; out = []; fault = Some fault.Link } → new.fault ≡ Some cause → cause ≡ fault.Link
failed-fixes old new cause is fixed =
    let link : new.fault ≡ Some fault.Link = ap (λ (s : State). s.fault) is in
    one cause (sym fixed ∙ link)
  where
    one : (x : Fault) → Some x ≡ Some fault.Link → x ≡ fault.Link
    one x same = cc

fed-stands : (first : ℕ) (old new : Seen) (piece : List ℕ) → IsUnit old (Fed piece) new → Stands first old → Stands first new
fed-stands first old new piece unit s =
    over-link-stands first old new unit.1 s
    (λ served so_far. tells-step (ReadsOn piece) (λ w. HasPassed served (Rose first old.store_faults) old.state w) (λ w. HasPassed served (Rose first old.store_faults) new.state w) old.wire new.wire unit.2 so_far (λ a b reads was.
    read-passed served (Rose first old.store_faults) a b old.state new.state piece was unit.0 reads.reads reads.at_end unit.3))
    (read-hand old.state new.state piece unit.3)
    (λ cause fixed. fed-fixes old.state new.state piece cause unit.3 fixed)

sent-stands : (first : ℕ) (old new : Seen) (bytes : List ℕ) → IsUnit old (Sent bytes) new → Stands first old → Stands first new
sent-stands first old new bytes unit s =
    over-link-stands first old new unit.1 s
    (λ served so_far. tells-step (Writes bytes) (λ w. HasPassed served (Rose first old.store_faults) old.state w) (λ w. HasPassed served (Rose first old.store_faults) new.state w) old.wire new.wire unit.2 so_far (λ a b writes was.
    write-passed served (Rose first old.store_faults) a b old.state new.state bytes was unit.0 writes unit.4 unit.5))
    (inl (ap (λ (t : State). t.hand) unit.5))
    (λ cause fixed. inl (sym (ap (λ (t : State). t.fault) unit.5) ∙ fixed))

failed-stands : (first : ℕ) (old new : Seen) → IsUnit old Failed new → Stands first old → Stands first new
failed-stands first old new unit s =
    over-link-stands first old new unit.1 s (λ served so_far. failed served so_far unit.0) (inr (ap (λ (t : State). t.hand) unit.3)) (λ cause fixed. inr (inl (failed-fixes old.state new.state cause unit.3 fixed)))
  where
    failed : (served : Served) → Tells (λ w. HasPassed served (Rose first old.store_faults) old.state w) old.wire → ((want_of old.state ≡ want.Read) × StepsBy FailsToRead old.wire new.wire) ⊎ ((want_of old.state ≡ want.Write) × (new.wire ≡ old.wire)) → Tells (λ w. HasPassed served (Rose first old.store_faults) new.state w) new.wire
    failed served so_far (inl read) =
        tells-step FailsToRead (λ w. HasPassed served (Rose first old.store_faults) old.state w) (λ w. HasPassed served (Rose first old.store_faults) new.state w) old.wire new.wire read.1 so_far (λ a b fails was.
        unread-passed served (Rose first old.store_faults) a b old.state new.state was read.0 fails unit.3)
    failed served so_far (inr write) =
        subst (λ (o : Option Wire). Tells (λ w. HasPassed served (Rose first old.store_faults) new.state w) o) (sym write.1)
        (tells-weaker (λ w. HasPassed served (Rose first old.store_faults) old.state w) (λ w. HasPassed served (Rose first old.store_faults) new.state w) old.wire so_far (λ w was.
        unwritten-passed served (Rose first old.store_faults) w old.state new.state was unit.3))

worked-stands : (first : ℕ) (old new : Seen) → IsUnit old Worked new → Stands first old → Stands first new
worked-stands first old new unit s =
    let over = unit.1 in
    let one : new.files ≡ old.files = same-told old.files new.files over.files in record {
      later = (let up = s.later in let on = over.later in omega (arith, up, on));
      passed = λ files told served served_is.
          let told_old = sym one ∙ told in
          subst (λ (o : Option Wire). Tells (λ w. HasPassed served (Rose first new.store_faults) new.state w) o) (sym over.wire)
          (tells-weaker (λ w. HasPassed served (Rose first old.store_faults) old.state w) (λ w. HasPassed served (Rose first new.store_faults) new.state w) old.wire (s.passed files told_old served served_is) (λ w was.
          work-passed files served (Rose first old.store_faults) (Rose first new.store_faults) w old.state new.state served_is (λ rose. rose-later first old.store_faults new.store_faults rose over.later) was unit.0 over.closed
          (record {
            works = λ going planned. over.works going files told_old served served_is planned;
            plans = λ has. over.plans files told_old has;
            found = λ going. over.found going files told_old;
            stops = over.stops;
            damaged = λ found fixed. tells-of (IsDamagedIn old.state.hand found) old.files files told_old (over.damaged found fixed);
            stores = λ fixed. rose-earlier first old.store_faults new.store_faults s.later (over.stores fixed);
          })));
      plans = λ files told. over.plans files (sym one ∙ told) (s.plans files (sym one ∙ told));
      damaged = λ found fixed.
          subst (λ (o : Option Files). Tells (IsDamaged found) o) (sym one)
          (damaged-since old.state.hand found old.files old.files (steps-same SameFiles old.files old.files refl (λ all name. refl)) s.plans (over.damaged found fixed));
      stores = λ fixed. rose-earlier first old.store_faults new.store_faults s.later (over.stores fixed);
    }

unit-stands : (first : ℕ) (old new : Seen) (call : SessionCall) → IsUnit old call new → Stands first old → Stands first new
unit-stands first old new (Fed piece) unit s = fed-stands first old new piece unit s
unit-stands first old new Worked unit s = worked-stands first old new unit s
unit-stands first old new (Sent bytes) unit s = sent-stands first old new bytes unit s
unit-stands first old new Failed unit s = failed-stands first old new unit s

pub units-stand : (first : ℕ) (calls : List SessionCall) (old new : Seen) → AreUnits old calls new → Stands first old → Stands first new
units-stand first [] old new is s = subst (Stands first) (sym is) s
units-stand first (call ∷ calls) old new is s =
    units-stand first calls is.0 new is.2 (unit-stands first old is.0 call is.1 s)
