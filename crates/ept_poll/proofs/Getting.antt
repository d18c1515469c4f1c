-- How often a connection has called `get` after units of a poll.
use Rattle.std.proofs.Common.{◌≡◌, ◌∙◌, ◌⊎◌, inl, inr, ℕ, List, [], ◌∷◌, Option, Some, None, sym, ap, subst}
use Rattle.ept_base.specs.Files.{Files, StepsBy, Tells}
use Rattle.ept_base.specs.Links.{Wire, FailsToRead, Writes}
use Rattle.ept_conn.specs.declared.end.Want.TheVariants as want
use Rattle.ept_conn.specs.State.{State, started, want_of}
use Rattle.ept_conn.specs.Works.{GetsIn}
use Rattle.ept_conn.specs.SessionCalls.{SessionCall, Fed, Worked, Sent, Failed}
use Rattle.ept_conn.specs.Got.{GetsWithin, HasGotFor}
use Rattle.ept_conn.proofs.Getting.{got-all, start-got, worked-got, fed-got, sent-got, failed-got, same-taken}
use Rattle.ept_poll.specs.Links.{ReadsOn}
use Rattle.ept_poll.specs.Units.{Seen, IsAs, IsUnit, AreUnits}
use Rattle.ept_poll.specs.Runs.{IsUnused, IsNew, HavePolled, GetsForTurns}
use Rattle.ept_poll.proofs.Standing.{tells-step, tells-weaker, same-told}

-- the calls so far, if it is visible which bytes came
abbrev GotBy : Files → ℕ → ℕ → State → Wire → Type 0
GotBy files first now state wire = HasGotFor files first wire.taken state now state.fault

abbrev Got : ℕ → Seen → Type 0
Got first now = (files : Files) → now.files ≡ Some files → Tells (GotBy files first now.gets now.state) now.wire

start-is : (now : Seen) → now.state ≡ started → Tells IsUnused now.wire → Got now.gets now
start-is now is fresh = λ files told. tells-weaker IsUnused (GotBy files now.gets now.gets now.state) now.wire fresh (λ w none.
    subst (λ (s : State). HasGotFor files now.gets w.taken s now.gets s.fault) (sym is) (subst (λ (b : List ℕ). HasGotFor files now.gets b started now.gets None) (sym none.taken) (start-got files now.gets)))

as-is : (first : ℕ) (old new : Seen) → IsAs old new → Got first old → Got first new
as-is first old new is g = λ files told.
    let was = g files (sym is.files ∙ told) in
    let gets = subst (λ (n : ℕ). Tells (GotBy files first n old.state) old.wire) (sym is.gets) was in
    let state = subst (λ (s : State). Tells (GotBy files first new.gets s) old.wire) (sym is.state) gets in
    subst (λ (o : Option Wire). Tells (GotBy files first new.gets new.state) o) (sym is.wire) state

-- the link was called
over-link : (files : Files) (first : ℕ) (old new : Seen) → new.gets ≡ old.gets → Tells (GotBy files first old.gets new.state) new.wire → Tells (GotBy files first new.gets new.state) new.wire
over-link files first old new same got = subst (λ (n : ℕ). Tells (GotBy files first n new.state) new.wire) (sym same) got

unit-is : (first : ℕ) (old new : Seen) (call : SessionCall) → IsUnit old call new → Got first old → Got first new
unit-is first old new (Fed piece) unit g = λ files told.
    over-link files first old new unit.1.gets (tells-step (ReadsOn piece) (GotBy files first old.gets old.state) (GotBy files first old.gets new.state) old.wire new.wire unit.2 (g files (sym unit.1.files ∙ told)) (λ a b reads was.
    subst (λ (w : List ℕ). HasGotFor files first w new.state old.gets new.state.fault) (sym reads.reads.taken) (fed-got files first a.taken piece old.state new.state old.gets was unit.0 unit.3)))
unit-is first old new (Sent bytes) unit g = λ files told.
    over-link files first old new unit.1.gets (tells-step (Writes bytes) (GotBy files first old.gets old.state) (GotBy files first old.gets new.state) old.wire new.wire unit.2 (g files (sym unit.1.files ∙ told)) (λ a b writes was.
    subst (λ (w : List ℕ). HasGotFor files first w new.state old.gets new.state.fault) (sym writes.taken) (sent-got files first a.taken new.state.out old.state new.state old.gets was unit.5)))
unit-is first old new Failed unit g = λ files told.
    over-link files first old new unit.1.gets (failed files (g files (sym unit.1.files ∙ told)) unit.0)
  where
    failed : (files : Files) → Tells (GotBy files first old.gets old.state) old.wire → ((want_of old.state ≡ want.Read) × StepsBy FailsToRead old.wire new.wire) ⊎ ((want_of old.state ≡ want.Write) × (new.wire ≡ old.wire)) → Tells (GotBy files first old.gets new.state) new.wire
    failed files was (inl read) =
        tells-step FailsToRead (GotBy files first old.gets old.state) (GotBy files first old.gets new.state) old.wire new.wire read.1 was (λ a b fails got.
        subst (λ (w : List ℕ). HasGotFor files first w new.state old.gets new.state.fault) (sym (same-taken a b fails)) (failed-got files first a.taken old.state new.state old.gets got unit.3))
    failed files was (inr write) =
        subst (λ (o : Option Wire). Tells (GotBy files first old.gets new.state) o) (sym write.1)
        (tells-weaker (GotBy files first old.gets old.state) (GotBy files first old.gets new.state) old.wire was (λ w got.
        failed-got files first w.taken old.state new.state old.gets got unit.3))
unit-is first old new Worked unit g = λ files told.
    let over = unit.1 in
    let told_old : old.files ≡ Some files = sym (same-told old.files new.files over.files) ∙ told in
    subst (λ (o : Option Wire). Tells (GotBy files first new.gets new.state) o) (sym over.wire)
    (tells-weaker (GotBy files first old.gets old.state) (GotBy files first new.gets new.state) old.wire (g files told_old) (λ w got.
    worked-got files first w.taken old.state new.state old.gets new.gets got unit.0 over.one_step (subst (λ (o : Option Files). GetsIn old.state.hand old.gets new.gets o) told_old over.gets) (over.plans files told_old)))

units-are : (first : ℕ) (calls : List SessionCall) (old new : Seen) → AreUnits old calls new → Got first old → Got first new
units-are first [] old new is g = subst (Got first) (sym is) g
units-are first (call ∷ calls) old new is g = units-are first calls is.0 new is.2 (unit-is first old is.0 call is.1 g)

polls-are : (first : ℕ) (polls : List (List SessionCall)) (old now : Seen) → Got first old → HavePolled old polls now → Got first now
polls-are first [] old now g polled = subst (Got first) (sym polled) g
polls-are first (calls ∷ polls) old now g polled =
    polls-are first polls polled.1 now (as-is first polled.0 polled.1 polled.3 (units-are first calls old polled.0 polled.2 g)) polled.4

pub polls-get : GetsForTurns
polls-get polls old now is polled files told =
    tells-weaker (GotBy files old.gets now.gets now.state) (λ (wire : Wire). GetsWithin files old.gets wire.taken now.gets) now.wire (polls-are old.gets polls old now (start-is old is.fresh is.unused) polled files told) (λ w got.
    got-all files old.gets w.taken now.state now.gets now.state.fault got)
