-- What has gone out of a connection since it was made, by what it wants.
use Rattle.std.proofs.Common.{◌≡◌, ℕ, List, [], ◌∷◌, take, Some, refl, sym, subst, arith}
use Rattle.std.specs.List.{AllByRecursion}
use Rattle.ept_base.specs.Causes.{Rose}
use Rattle.ept_base.specs.Links.{Wire}
use Rattle.ept_conn.specs.declared.hand.Hand.TheVariants.{Empty}
use Rattle.ept_conn.specs.declared.end.Fault.TheVariants as fault
use Rattle.ept_conn.specs.declared.end.End.{End}
use Rattle.ept_conn.specs.declared.end.End.TheVariants as end
use Rattle.ept_conn.specs.declared.end.Want.TheVariants as want
use Rattle.ept_base.specs.Files.{Files}
use Rattle.ept_conn.specs.Answers.{Served}
use Rattle.ept_conn.specs.Served.{IsServed}
use Rattle.ept_conn.specs.Whole.{HasAnswered}
use Rattle.ept_conn.specs.State.{State, want_of}
use Rattle.ept_conn.specs.Ends.{IsBroken, IsEnd}
use Rattle.ept_conn.specs.History.{Has}
use Rattle.ept_conn.specs.Serving.{IsAnsweredAt}
use Rattle.ept_conn.specs.Conversation.{Converses}
use Rattle.ept_conn.proofs.Histories.{failed-has, ends-has, reads-has, never-damaged}
use Rattle.ept_conn.proofs.Plans.{served-sent}
use Rattle.ept_poll.specs.Units.{Seen}
use Rattle.ept_poll.specs.Polls.{unused, Told, ToldOfWhole, HasPassed, Stands, IsFront, IsEndOver, IsAnswered, IsNotAnswered, IsReadAnswered, IsWell}
use Rattle.ept_poll.proofs.Standing.{tells-weaker}
use Rattle.ept_poll.proofs.Passing.{by-passed, passed-unanswered}

passed-by : (first : ℕ) (now : Seen) (P : Served → Wire → Type 0) → Stands first now → ((served : Served) (wire : Wire) → HasPassed served (Rose first now.store_faults) now.state wire → P served wire) → Told now P
passed-by first now P s f = λ files told served is.
    tells-weaker (λ wire. HasPassed served (Rose first now.store_faults) now.state wire) (P served) now.wire (s.passed files told served is) (λ wire p. f served wire p)

told-by : (first : ℕ) (now : Seen) (P : Served → Wire → Type 0) → Stands first now → ((served : Served) (wire : Wire) → Converses served (Rose first now.store_faults) unused now.state wire → P served wire) → Told now P
told-by first now P s f = passed-by first now P s (λ served wire p. f served wire p.converses)

-- ---- at any time

has-front : (served : Served) (reason : Type 0) (bytes sent : List ℕ) (state : State) → Has served reason bytes sent state → IsBroken served reason bytes sent
has-front served reason bytes sent state has =
    (failed-has served reason bytes sent state (record state { hand = Empty; out = []; fault = Some fault.Link }) has refl).1

pub stands-front : (first : ℕ) (now : Seen) → Stands first now → Told now (IsFront (Rose first now.store_faults))
stands-front first now s =
    told-by first now (IsFront (Rose first now.store_faults)) s (λ served wire c.
    by-passed (IsBroken served (Rose first now.store_faults)) served (Rose first now.store_faults) now.state wire c (has-front served (Rose first now.store_faults) c.bytes c.text now.state c.has))

-- ---- at each read

read-answered : (served : Served) (bytes text : List ℕ) (at : ℕ × ℕ) → IsAnsweredAt served unused bytes text at → HasAnswered served (take at.0 bytes) (take at.1 text)
read-answered served bytes text at is =
    let came : at.0 ≡ is.came = (let is_at = is.taken in omega (arith, is_at)) in
    let went : at.1 ≡ is.went = (let is_at = is.written in omega (arith, is_at)) in
    subst (λ (n : ℕ). HasAnswered served (take n bytes) (take at.1 text)) (sym came) (subst (λ (n : ℕ). HasAnswered served (take is.came bytes) (take n text)) (sym went) is.answers)

reads-answered : (served : Served) (bytes text : List ℕ) (reads : List (ℕ × ℕ)) → AllByRecursion (IsAnsweredAt served unused bytes text) reads → AllByRecursion (λ (at : ℕ × ℕ). HasAnswered served (take at.0 bytes) (take at.1 text)) reads
reads-answered served bytes text [] all = tt
reads-answered served bytes text (at ∷ reads) all = (read-answered served bytes text at all.0, reads-answered served bytes text reads all.1)

pub stands-reads : (first : ℕ) (now : Seen) → Stands first now → Told now IsReadAnswered
stands-reads first now s =
    told-by first now IsReadAnswered s (λ served wire c.
    subst (λ (reads : List (ℕ × ℕ)). AllByRecursion (λ (at : ℕ × ℕ). HasAnswered served (take at.0 wire.taken) (take at.1 wire.written)) reads) (sym c.passes.reads_are)
    (by-passed (λ bytes text. AllByRecursion (λ (at : ℕ × ℕ). HasAnswered served (take at.0 bytes) (take at.1 text)) c.passes.reads) served (Rose first now.store_faults) now.state wire c (reads-answered served c.bytes c.text c.passes.reads c.passes.each)))

-- ---- by what the session wants

pub stands-end : (first : ℕ) (now : Seen) (ends : End) → Stands first now → want_of now.state ≡ want.End ends → Told now (IsEndOver (Rose first now.store_faults) ends)
stands-end first now ends s is =
    told-by first now (IsEndOver (Rose first now.store_faults) ends) s (λ served wire c.
    by-passed (λ bytes text. IsEnd served (Rose first now.store_faults) (wire.left ≡ []) bytes text ends) served (Rose first now.store_faults) now.state wire c (ends-has served (Rose first now.store_faults) (wire.left ≡ []) c.bytes c.text now.state ends c.closed c.has is))

pub stands-answered : (first : ℕ) (now : Seen) → Stands first now → want_of now.state ≡ want.Read → Told now IsAnswered
stands-answered first now s is =
    told-by first now IsAnswered s (λ served wire c.
    by-passed (HasAnswered served) served (Rose first now.store_faults) now.state wire c (reads-has served (Rose first now.store_faults) c.bytes c.text now.state c.has is))

pub stands-unanswered : (first : ℕ) (now : Seen) → Stands first now → want_of now.state ≡ want.Write → Told now IsNotAnswered
stands-unanswered first now s is =
    passed-by first now IsNotAnswered s (λ served wire p. passed-unanswered served (Rose first now.store_faults) now.state wire p is)

-- ---- without a fault

store-reason : (files : Files) (served : Served) (reason closed : Type 0) (bytes text : List ℕ) (ends : End) → IsServed files served → (ends ≡ end.LinkFault → ⊥) → ¬ reason → IsEnd served reason closed bytes text ends → IsWell ends
store-reason files served reason closed bytes text end.Closed whole link store is = tt
store-reason files served reason closed bytes text end.LinkFault whole link store is = absurd (link refl)
store-reason files served reason closed bytes text end.StoreFault whole link store is = absurd (store is.0)
store-reason files served reason closed bytes text (end.Damaged found) whole link store is =
    absurd (never-damaged files served reason closed bytes text found whole is)
store-reason files served reason closed bytes text end.Memory whole link store is = tt

pub stands-well : (first : ℕ) (now : Seen) (ends : End) (links : Type 0) → Stands first now → want_of now.state ≡ want.End ends → (ends ≡ end.LinkFault → links) → ToldOfWhole now (λ served wire. (¬ links) → (¬ Rose first now.store_faults) → IsWell ends)
stands-well first now ends links s is why = λ files told served whole.
    tells-weaker (IsEndOver (Rose first now.store_faults) ends served) (λ wire. (¬ links) → (¬ Rose first now.store_faults) → IsWell ends) now.wire (stands-end first now ends s is files told served (served-sent files served whole)) (λ wire over not_links not_store.
    store-reason files served (Rose first now.store_faults) (wire.left ≡ []) wire.taken wire.written ends whole (λ same. not_links (why same)) not_store over)
