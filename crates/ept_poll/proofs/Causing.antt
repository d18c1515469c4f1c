-- Which ends units fix, and for what cause.
use Rattle.std.proofs.Common.{◌≡◌, ◌≢◌, ◌∙◌, ◌≤◌, ◌⊎◌, inl, inr, ℕ, List, [], ◌∷◌, ◌++◌, length, Option, Some, None, refl, sym, ap, subst, arith}
use Rattle.std.specs.Prelude.{IfSome, Bool}
use Rattle.ept_base.specs.Causes.{Rose}
use Rattle.ept_conn.specs.declared.hand.Hand.{Hand}
use Rattle.ept_conn.specs.declared.end.Fault.{Fault}
use Rattle.ept_conn.specs.declared.end.Fault.TheVariants as fault
use Rattle.ept_conn.specs.declared.end.End.{End}
use Rattle.ept_conn.specs.declared.end.End.TheVariants as end
use Rattle.ept_conn.specs.declared.end.Want.TheVariants as want
use Rattle.ept_conn.specs.State.{State, wants, want_of, feeds}
use Rattle.ept_conn.specs.Works.{Stops}
use Rattle.ept_conn.specs.SessionCalls.{SessionCall, Fed, Worked, Sent, Failed}
use Rattle.ept_conn.specs.Conversation.{HasCauseFor}
use Rattle.ept_conn.proofs.Conversing.{rose-earlier, rose-later}
use Rattle.ept_conn.proofs.Wanting.{read-parts, write-some}
use Rattle.ept_poll.specs.Units.{Seen, IsAs, IsUnit, AreUnits}

-- ---- a cause, on and on

cause-then : (cause : Fault) (old mid new : State) (a b c : ℕ) → HasCauseFor cause old mid a b → HasCauseFor cause mid new b c → HasCauseFor cause old new a c
cause-then cause old mid new a b c one two = record {
  later = (let x = one.later in let y = two.later in omega (arith, x, y));
  rose = λ fixed. either (two.rose fixed);
}
  where
    before : (old.fault ≡ Some cause) ⊎ Rose a b → (old.fault ≡ Some cause) ⊎ Rose a c
    before (inl fixed) = inl fixed
    before (inr rose) = inr (rose-later a b c rose two.later)

    either : (mid.fault ≡ Some cause) ⊎ Rose b c → (old.fault ≡ Some cause) ⊎ Rose a c
    either (inl fixed) = before (one.rose fixed)
    either (inr rose) = inr (rose-earlier a b c one.later rose)

cause-same : (cause : Fault) (old new : State) (a b : ℕ) → a ≤ b → new.fault ≡ old.fault → HasCauseFor cause old new a b
cause-same cause old new a b later same = record { later = later; rose = λ fixed. inl (sym same ∙ fixed) }

equal-later : (a b : ℕ) → b ≡ a → a ≤ b
equal-later a b same = omega (arith, same)

-- which end a unit may fix
other-fault : (old new : State) (piece : List ℕ) (cause : Fault) → ¬ (cause ≡ fault.Memory) → (new ≡ feeds old piece) ⊎ (new ≡ record old { fault = Some fault.Memory }) → new.fault ≡ Some cause → old.fault ≡ Some cause
other-fault old new [] cause not (inl is) fixed = sym (ap (λ (s : State). s.fault) is) ∙ fixed
other-fault old new (b ∷ piece) cause not (inl is) fixed = sym (ap (λ (s : State). s.fault) is) ∙ fixed
other-fault old new piece cause not (inr is) fixed =
    let memory : new.fault ≡ Some fault.Memory = ap (λ (s : State). s.fault) is in
    absurd (not (one cause (sym fixed ∙ memory)))
  where
    one : (x : Fault) → Some x ≡ Some fault.Memory → x ≡ fault.Memory
    one x same = cc

worked-not-link : (old new : State) → IfSome new.fault (Stops old.hand new) → ¬ (new.fault ≡ Some fault.Link)
worked-not-link old new stops fixed =
    let now = subst (λ (o : Option Fault). IfSome o (Stops old.hand new)) fixed stops in
    now.not_link refl

-- ---- the link

unit-links : (old new : Seen) (call : SessionCall) → IsUnit old call new → HasCauseFor fault.Link old.state new.state old.faults new.faults
unit-links old new (Fed piece) unit = record {
  later = unit.1.later;
  rose = λ fixed. inl (other-fault old.state new.state piece fault.Link (λ same. absurd cc) unit.3 fixed);
}
unit-links old new Worked unit = record {
  later = equal-later old.faults new.faults unit.1.faults;
  rose = λ fixed. absurd (worked-not-link old.state new.state unit.1.stops fixed);
}
unit-links old new (Sent bytes) unit =
    cause-same fault.Link old.state new.state old.faults new.faults unit.1.later (ap (λ (s : State). s.fault) unit.5)
unit-links old new Failed unit = record { later = unit.1.later; rose = λ fixed. inr unit.2 }

pub units-links : (calls : List SessionCall) (old new : Seen) → AreUnits old calls new → HasCauseFor fault.Link old.state new.state old.faults new.faults
units-links [] old new is =
    cause-same fault.Link old.state new.state old.faults new.faults (equal-later old.faults new.faults (ap (λ (s : Seen). s.faults) is)) (ap (λ (s : Seen). s.state.fault) is)
units-links (call ∷ calls) old new is =
    cause-then fault.Link old.state is.0.state new.state old.faults is.0.faults new.faults (unit-links old is.0 call is.1) (units-links calls is.0 new is.2)

-- ---- the store

unit-stores : (old new : Seen) (call : SessionCall) → IsUnit old call new → HasCauseFor fault.Store old.state new.state old.store_faults new.store_faults
unit-stores old new (Fed piece) unit = record {
  later = equal-later old.store_faults new.store_faults unit.1.store_faults;
  rose = λ fixed. inl (other-fault old.state new.state piece fault.Store (λ same. absurd cc) unit.3 fixed);
}
unit-stores old new Worked unit = record { later = unit.1.later; rose = λ fixed. inr (unit.1.stores fixed) }
unit-stores old new (Sent bytes) unit =
    cause-same fault.Store old.state new.state old.store_faults new.store_faults (equal-later old.store_faults new.store_faults unit.1.store_faults) (ap (λ (s : State). s.fault) unit.5)
unit-stores old new Failed unit = record {
  later = equal-later old.store_faults new.store_faults unit.1.store_faults;
  rose = λ fixed.
      let link : new.state.fault ≡ Some fault.Link = ap (λ (s : State). s.fault) unit.3 in
      absurd cc;
}

pub units-stores : (calls : List SessionCall) (old new : Seen) → AreUnits old calls new → HasCauseFor fault.Store old.state new.state old.store_faults new.store_faults
units-stores [] old new is =
    cause-same fault.Store old.state new.state old.store_faults new.store_faults (equal-later old.store_faults new.store_faults (ap (λ (s : Seen). s.store_faults) is)) (ap (λ (s : Seen). s.state.fault) is)
units-stores (call ∷ calls) old new is =
    cause-then fault.Store old.state is.0.state new.state old.store_faults is.0.store_faults new.store_faults (unit-stores old is.0 call is.1) (units-stores calls is.0 new is.2)

-- ---- a fault of the link is reported at once

-- if the link failed, nothing is to be sent
abbrev pub IsClear : State → Type 0
IsClear state = state.fault ≡ Some fault.Link → state.out ≡ []

unit-clear : (old new : Seen) (call : SessionCall) → IsUnit old call new → IsClear old.state → IsClear new.state
unit-clear old new (Fed piece) unit clear = λ fixed.
    let rest = (read-parts old.state unit.0).0 in
    let was = other-fault old.state new.state piece fault.Link (λ same. absurd cc) unit.3 fixed in
    let going = rest.going in
    absurd cc
unit-clear old new Worked unit clear = λ fixed. absurd (worked-not-link old.state new.state unit.1.stops fixed)
unit-clear old new (Sent bytes) unit clear = λ fixed.
    let was : old.state.fault ≡ Some fault.Link = sym (ap (λ (s : State). s.fault) unit.5) ∙ fixed in
    let none : length old.state.out ≡ 0 = ap length (clear was) in
    let some = write-some old.state unit.0 in
    absurd (omega (arith, none, some))
unit-clear old new Failed unit clear = λ fixed. ap (λ (s : State). s.out) unit.3

pub units-clear : (calls : List SessionCall) (old new : Seen) → AreUnits old calls new → IsClear old.state → IsClear new.state
units-clear [] old new is clear = subst (λ (s : Seen). IsClear s.state) (sym is) clear
units-clear (call ∷ calls) old new is clear = units-clear calls is.0 new is.2 (unit-clear old is.0 call is.1 clear)

-- so if a session wants to read, to write or to work, its link has not failed
link-over : (out : List ℕ) (f : Option Fault) (hand : Hand) (due over : Bool) → f ≡ Some fault.Link → out ≡ [] → wants out f hand due over ≡ want.End end.LinkFault
link-over [] (Some fault.Link) hand due over fixed none = refl
link-over [] (Some fault.Store) hand due over fixed none = absurd cc
link-over [] (Some (fault.Damaged found)) hand due over fixed none = absurd cc
link-over [] (Some fault.Memory) hand due over fixed none = absurd cc
link-over [] None hand due over fixed none = absurd cc
link-over (b ∷ out) f hand due over fixed none = absurd cc

pub goes-on-clear : (state : State) → IsClear state → ((ends : End) → want_of state ≢ want.End ends) → state.fault ≢ Some fault.Link
unfolding want_of
goes-on-clear state clear on fixed =
    on end.LinkFault (link-over state.out state.fault state.hand _ _ fixed (clear fixed))

-- ---- one more unit

pub as-once : (now : Seen) → IsAs now now
as-once now = record { wire = refl; later = omega arith; files = refl; store_faults = refl; gets = refl; state = refl }

-- one more unit after the others
pub units-more : (calls : List SessionCall) (old mid new : Seen) (call : SessionCall) → AreUnits old calls mid → IsUnit mid call new → AreUnits old (calls ++ call ∷ []) new
units-more [] old mid new call is unit = (new, subst (λ (s : Seen). IsUnit s call new) is unit, refl)
units-more (first ∷ calls) old mid new call is unit = (is.0, is.1, units-more calls is.0 mid new call is.2 unit)

-- ---- over all of a poll

pub polled-links : (calls : List SessionCall) (old last new : Seen) → AreUnits old calls last → IsAs last new → HasCauseFor fault.Link old.state new.state old.faults new.faults
polled-links calls old last new units rest =
    cause-then fault.Link old.state last.state new.state old.faults last.faults new.faults (units-links calls old last units) (cause-same fault.Link last.state new.state last.faults new.faults rest.later (ap (λ (s : State). s.fault) rest.state))

pub polled-stores : (calls : List SessionCall) (old last new : Seen) → AreUnits old calls last → IsAs last new → HasCauseFor fault.Store old.state new.state old.store_faults new.store_faults
polled-stores calls old last new units rest =
    cause-then fault.Store old.state last.state new.state old.store_faults last.store_faults new.store_faults (units-stores calls old last units) (cause-same fault.Store last.state new.state last.store_faults new.store_faults (equal-later last.store_faults new.store_faults rest.store_faults) (ap (λ (s : State). s.fault) rest.state))

pub polled-clear : (calls : List SessionCall) (old last new : Seen) → AreUnits old calls last → IsAs last new → IsClear old.state → IsClear new.state
polled-clear calls old last new units rest clear = subst IsClear (sym rest.state) (units-clear calls old last units clear)
