-- What one call of a link is as a unit, and what the result of a poll says.
use Rattle.std.proofs.Common.{◌≡◌, ◌∙◌, ◌<◌, ◌≤◌, ℕ, List, [], ◌++◌, length, take, drop, Option, Some, None, sym, ap, subst, arith, length-take-le}
use Rattle.std.specs.Prelude.{Result, Ok}
use Rattle.std.specs.Io.{ReadsAtMost, WritesAtMost}
use Rattle.std.proofs.lemmas.List.{take-append-drop}
use Rattle.futures.specs.declared.task.Poll.{Poll}
use Rattle.futures.specs.declared.task.Poll.TheVariants.{Ready, Pending}
use Rattle.futures.specs.Poll.{IfReady, OnPending}
use Rattle.ept_base.specs.declared.errors.Failed.{Failed}
use Rattle.ept_base.specs.Files.{StepsBy, Tells}
use Rattle.ept_base.specs.Links.{Wire, Reads, Writes}
use Rattle.ept_conn.specs.declared.end.End.{End}
use Rattle.ept_conn.specs.declared.end.Want.TheVariants as want
use Rattle.ept_conn.specs.State.{State, want_of}
use Rattle.ept_conn.proofs.Conversing.{steps-with, tells-when, taken-none}
use Rattle.ept_poll.specs.Links.{IfReadyOk, ReadsOn}
use Rattle.ept_poll.specs.Units.{Seen, IsAs}
use Rattle.ept_poll.specs.Steps.{IsSomeUnit, IsUnitOrEnd}

-- ---- what is known of a result

ready-at : {A : Type 0} (r : Poll A) (x : A) (P : A → Type 0) → r ≡ Ready x → IfReady r P → P x
ready-at r x P is holds = subst (λ q. IfReady q P) is holds

ok-at : {T E : Type 0} (r : Poll (Result T E)) (x : T) (P : T → Type 0) → r ≡ Ready (Ok x) → IfReadyOk r P → P x
ok-at r x P is holds = subst (λ q. IfReadyOk q P) is holds

pub pending-at : {A : Type 0} (r : Poll A) (P : Type 0) → r ≡ Pending → OnPending r P → P
pending-at r P is holds = subst (λ q. OnPending q P) is holds

pub on-pending : {A : Type 0} (r : Poll A) (P : Type 0) → r ≡ Pending → P → OnPending r P
on-pending r P is holds = subst (λ q. OnPending q P) (sym is) holds

pub if-pending : {A : Type 0} (r : Poll A) (P : A → Type 0) → r ≡ Pending → IfReady r P
if-pending r P is = subst (λ q. IfReady q P) (sym is) tt

pub not-ready : {A : Type 0} (r : Poll A) (x : A) → r ≡ Pending → ¬ (r ≡ Ready x)
not-ready r x is same = absurd cc

pub unit-end : (r : Poll (Option End)) (ends : End) (old new : Seen) → r ≡ Ready (Some ends) → IfReady r (λ ended. IsUnitOrEnd ended old new) → IsAs old new × (want_of new.state ≡ want.End ends)
unit-end r ends old new is holds = ready-at r (Some ends) (λ ended. IsUnitOrEnd ended old new) is holds

pub unit-done : (r : Poll (Option End)) (old new : Seen) → r ≡ Ready None → IfReady r (λ ended. IsUnitOrEnd ended old new) → IsSomeUnit old new
unit-done r old new is holds = ready-at r None (λ ended. IsUnitOrEnd ended old new) is holds

-- ---- a read

pub read-on : (r : Poll (Result ℕ Failed)) (n : ℕ) (into : List ℕ) (old new : Option Wire) → r ≡ Ready (Ok n) → IfReady r (λ read. ReadsAtMost read into) → IfReadyOk r (λ n. StepsBy (Reads (take n into)) old new) → IfReadyOk r (λ n. n ≡ 0 → 0 < length into → Tells (λ told. told.left ≡ []) new) → 0 < length into → StepsBy (ReadsOn (take n into)) old new
read-on r n into old new is bound ok at_end some =
    let within = ready-at r (Ok n) (λ read. ReadsAtMost read into) is bound in
    let over = tells-when (take n into ≡ []) (λ (w : Wire). w.left ≡ []) new (λ none. ok-at r n (λ n. n ≡ 0 → 0 < length into → Tells (λ told. told.left ≡ []) new) is at_end (taken-none n into within.0 none) some) in
    steps-with (Reads (take n into)) (ReadsOn (take n into)) (λ (w : Wire). take n into ≡ [] → w.left ≡ []) old new (ok-at r n (λ n. StepsBy (Reads (take n into)) old new) is ok) over (λ a b reads none.
    record { reads = reads; at_end = none })

-- ---- a write

pub write-on : (r : Poll (Result ℕ Failed)) (n : ℕ) (from : List ℕ) (old new : Option Wire) → r ≡ Ready (Ok n) → IfReadyOk r (λ n. StepsBy (Writes (take n from)) old new) → StepsBy (Writes (take n from)) old new
write-on r n from old new is ok = ok-at r n (λ n. StepsBy (Writes (take n from)) old new) is ok

pub written-some : (r : Poll (Result ℕ Failed)) (n : ℕ) (from : List ℕ) → r ≡ Ready (Ok n) → IfReady r (λ written. WritesAtMost written from) → IfReadyOk r (λ n. 0 < length from → 0 < n) → 0 < length from → 0 < length (take n from)
written-some r n from is bound some there =
    let within : n ≤ length from = ready-at r (Ok n) (λ written. WritesAtMost written from) is bound in
    let len : length (take n from) ≡ n = length-take-le n from within in
    let more : 0 < n = ok-at r n (λ n. 0 < length from → 0 < n) is some there in
    omega (arith, len, more)

pub written-split : (state new : State) (n : ℕ) (from : List ℕ) → from ≡ state.out → new ≡ record state { out = drop n state.out } → (state.out ≡ take n from ++ new.out) × (new ≡ record state { out = new.out })
written-split state new n from is same =
    let rest : new.out ≡ drop n state.out = ap (λ (s : State). s.out) same in (
      sym (take-append-drop n state.out) ∙ ap (λ (w : List ℕ). take n w ++ drop n state.out) (sym is) ∙ ap (λ (w : List ℕ). take n from ++ w) (sym rest),
      same ∙ ap (λ (w : List ℕ). record state { out = w }) (sym rest),
    )
