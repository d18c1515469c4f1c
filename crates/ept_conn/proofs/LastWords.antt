-- The last words of a session.
use Rattle.std.proofs.Common.{◌≡◌, ◌∙◌, ◌⊎◌, inl, inr, List, ℕ, Option, Some, None, true, refl, sym, subst}
use Rattle.std.specs.Prelude.{IfSome}
use Rattle.ept_conn.specs.declared.turn.Turn.{Turn}
use Rattle.ept_conn.specs.declared.hand.Hand.TheVariants.{Empty, Decided}
use Rattle.ept_conn.specs.declared.end.Fault.{Fault}
use Rattle.ept_conn.specs.declared.end.Fault.TheVariants as fault
use Rattle.ept_conn.specs.Answers.{refusal}
use Rattle.ept_conn.specs.State.{State}
use Rattle.ept_conn.specs.Works.{last_status, IsLastWord, Stops}

pub last-word : (cause : Fault) (out : List ℕ) → ¬ (cause ≡ fault.Link) → out ≡ refusal (last_status cause) true → IsLastWord cause out
last-word fault.Link out not is = absurd (not refl)
last-word fault.Store out not is = is
last-word (fault.Damaged found) out not is = is
last-word fault.Memory out not is = inr is

-- a session that stops for a cause ends for that cause, or because memory ran out
abbrev pub StopsFor : Fault → Option Fault → Type 0
StopsFor cause ended = (other : Fault) → ended ≡ Some other → (other ≡ cause) ⊎ (other ≡ fault.Memory)

pub stops-as : (P : Fault → Type 0) (cause : Fault) (ended : Option Fault) → StopsFor cause ended → P cause → P fault.Memory → IfSome ended P
stops-as P cause None stops one two = tt
stops-as P cause (Some other) stops one two = either (stops other refl)
  where
    either : (other ≡ cause) ⊎ (other ≡ fault.Memory) → P other
    either (inl is) = subst P (sym is) one
    either (inr is) = subst P (sym is) two

-- so if it ends for a cause other than memory, that is why it stopped
pub stops-alone : (cause fixed : Fault) (ended : Option Fault) → StopsFor cause ended → ¬ (fixed ≡ fault.Memory) → ended ≡ Some fixed → cause ≡ fixed
stops-alone cause fixed ended stops not is = either (stops fixed is)
  where
    either : (fixed ≡ cause) ⊎ (fixed ≡ fault.Memory) → cause ≡ fixed
    either (inl same) = sym same
    either (inr memory) = absurd (not memory)

-- it stops with its status, and drops the turn in hand
pub stops-with : (turn : Turn) (new : State) (cause : Fault) → new.hand ≡ Empty → IfSome new.fault (λ other. IsLastWord other new.out) → StopsFor cause new.fault → ¬ (cause ≡ fault.Link) → IfSome new.fault (Stops (Decided turn) new)
stops-with turn new cause empty words stops not = by new.fault words stops
  where
    not_link : (other : Fault) → (other ≡ cause) ⊎ (other ≡ fault.Memory) → ¬ (other ≡ fault.Link)
    not_link other (inl is) link = not (sym is ∙ link)
    not_link other (inr is) link =
        let both : fault.Memory ≡ fault.Link = sym is ∙ link in
        absurd cc

    by : (ended : Option Fault) → IfSome ended (λ other. IsLastWord other new.out) → StopsFor cause ended → IfSome ended (Stops (Decided turn) new)
    by None word stop = tt
    by (Some other) word stop = record { is_empty = empty; words = word; not_link = not_link other (stop other refl) }
