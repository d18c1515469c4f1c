-- Runs of events, one event further.
use Rattle.std.proofs.Common.{◌≡◌, ◌∙◌, ℕ, zero, suc, arith, ◌+◌, ◌<◌, All, List, [], ◌∷◌, ◌++◌, refl, sym, ap, subst, length, get_or, take, drop}
use Rattle.std.proofs.Math.Seq.{take-suc, split_at}
use Rattle.std.proofs.lemmas.List.Elements.{All-append}
use Rattle.ept_space.specs.declared.cube.Rules.{Rules}
use Rattle.ept_core.specs.declared.event.Event.{Event}
use Rattle.ept_core.specs.declared.error.StepError.{StepError}
use Rattle.ept_core.specs.State.{State}
use Rattle.ept_core.specs.Steps.{Step, Run}
use Rattle.ept_core.specs.Refusals.{HasActor, Refuses, StopsAt}

-- an event after a run
run-more : (rules : Rules) (old : State) (events : List Event) (mid : State) (event : Event) (new : State) → Run rules old events mid → Step rules mid event new → Run rules old (events ++ event ∷ []) new
run-more rules old [] mid event new is step = (new, subst (λ (s : State). Step rules s event new) is step, refl)
run-more rules old (first ∷ events) mid event new (next, step, run) last =
    (next, step, run-more rules next events mid event new run last)

one_has : (P : Event → Type 0) (event : Event) → P event → All P (event ∷ [])
one_has P event has zero other low = has
one_has P event has (suc k) other low = absurd (omega (arith, low))

module _ (rules : Rules) (actors : ℕ) (old mid new : State) (events : List Event) (i : ℕ) (event : Event) (low : i < length events) (at : event ≡ get_or events i event) (run : Run rules old (take i events) mid) where
  next : i + 1 ≡ suc i
  next = omega arith

  one_more : take (i + 1) events ≡ take i events ++ event ∷ []
  one_more =
      ap (λ (n : ℕ). take n events) next ∙ take-suc events i event low ∙ subst (λ (e : Event). take i events ++ e ∷ [] ≡ take i events ++ event ∷ []) at refl

  pub run-next : Step rules mid event new → Run rules old (take (i + 1) events) new
  run-next step =
      subst (λ (es : List Event). Run rules old es new) (sym one_more) (run-more rules old (take i events) mid event new run step)

  pub actors-next : All (HasActor actors) (take i events) → HasActor actors event → All (HasActor actors) (take (i + 1) events)
  actors-next all has =
      subst (λ (es : List Event). All (HasActor actors) es) (sym one_more) (All-append (HasActor actors) (take i events) (event ∷ []) all (one_has (HasActor actors) event has))

  pub stops : (error : StepError) → All (HasActor actors) (take i events) → Refuses mid actors event error → new ≡ mid → StopsAt rules actors old events new error
  stops error all refuses same =
      (take i events, event, drop (suc i) events, split_at events i event low ∙ subst (λ (e : Event). take i events ++ e ∷ drop (suc i) events ≡ take i events ++ event ∷ drop (suc i) events) at refl, all, subst (λ (s : State). Run rules old (take i events) s) (sym same) run, subst (λ (s : State). Refuses s actors event error) (sym same) refuses)
