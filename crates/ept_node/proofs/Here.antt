-- Where the points of a node are: in memory, in its file, or with a broken node.
use Rattle.std.proofs.Common.{◌≡◌, ◌∙◌, ℕ, true, false, ◌⊎◌, inl, inr, List, refl, sym, Option, None}
use Rattle.std.proofs.lemmas.Bool.{false≢true}
use Rattle.ept_node.specs.declared.node.Node as node
use Rattle.ept_node.specs.declared.body.Body.{Body}
use Rattle.ept_node.specs.declared.body.Body.TheVariants.{Blank, Begun, Resident, Spilled, Unkept, Lost}
use Rattle.ept_node.specs.declared.state.NodeState.TheVariants as states
use Rattle.ept_node.specs.Shown.{state_in, is_here_in, fault_in, state_of, is_here, fault_of, AgreesWithFile}

resident_here : (b : Body) → state_in b ≡ states.Resident → is_here_in b ≡ true
resident_here Blank is = absurd (cc)
resident_here (Begun site) is = refl
resident_here (Resident kept) is = refl
resident_here (Spilled filed) is = absurd (cc)
resident_here (Unkept kept) is = absurd (cc)
resident_here (Lost filed why) is = absurd (cc)

blank_away : (b : Body) → state_in b ≡ states.Blank → is_here_in b ≡ false
blank_away Blank is = refl
blank_away (Begun site) is = absurd (cc)
blank_away (Resident kept) is = absurd (cc)
blank_away (Spilled filed) is = absurd (cc)
blank_away (Unkept kept) is = absurd (cc)
blank_away (Lost filed why) is = absurd (cc)

spilled_away : (b : Body) → state_in b ≡ states.Spilled → is_here_in b ≡ false
spilled_away Blank is = absurd (cc)
spilled_away (Begun site) is = absurd (cc)
spilled_away (Resident kept) is = absurd (cc)
spilled_away (Spilled filed) is = refl
spilled_away (Unkept kept) is = absurd (cc)
spilled_away (Lost filed why) is = absurd (cc)

no_fault : (b : Body) → (state_in b ≡ states.Broken → ⊥) → fault_in b ≡ None
no_fault Blank never = refl
no_fault (Begun site) never = refl
no_fault (Resident kept) never = refl
no_fault (Spilled filed) never = refl
no_fault (Unkept kept) never = absurd (never refl)
no_fault (Lost filed why) never = absurd (never refl)

sound_state : (b : Body) → fault_in b ≡ None → state_in b ≡ states.Broken → ⊥
sound_state Blank none is = cc
sound_state (Begun site) none is = cc
sound_state (Resident kept) none is = cc
sound_state (Spilled filed) none is = cc
sound_state (Unkept kept) none is = cc
sound_state (Lost filed why) none is = cc

here_resident : (b : Body) → is_here_in b ≡ true → fault_in b ≡ None → state_in b ≡ states.Resident
here_resident Blank here none = absurd (false≢true here)
here_resident (Begun site) here none = refl
here_resident (Resident kept) here none = refl
here_resident (Spilled filed) here none = absurd (false≢true here)
here_resident (Unkept kept) here none = absurd (cc)
here_resident (Lost filed why) here none = absurd (false≢true here)

either_state : (b : Body) → (state_in b ≡ states.Blank → ⊥) → fault_in b ≡ None → (state_in b ≡ states.Resident) ⊎ (state_in b ≡ states.Spilled)
either_state Blank named none = absurd (named refl)
either_state (Begun site) named none = inl refl
either_state (Resident kept) named none = inl refl
either_state (Spilled filed) named none = inr refl
either_state (Unkept kept) named none = absurd (cc)
either_state (Lost filed why) named none = absurd (cc)

-- of two nodes of one state that are not broken, both have their points in memory or neither has
same_here : (a b : Body) → state_in b ≡ state_in a → fault_in a ≡ None → fault_in b ≡ None → is_here_in b ≡ is_here_in a
same_here Blank b is none now = blank_away b is
same_here (Begun site) b is none now = resident_here b is
same_here (Resident kept) b is none now = resident_here b is
same_here (Spilled filed) b is none now = spilled_away b is
same_here (Unkept kept) b is none now = absurd (cc)
same_here (Lost filed why) b is none now = absurd (cc)

module _ {F : Type 0} where
  pub resident-here : (n : node.Node F) → state_of n ≡ states.Resident → is_here n ≡ true
  resident-here n is = resident_here n.body is

  pub blank-away : (n : node.Node F) → state_of n ≡ states.Blank → is_here n ≡ false
  blank-away n is = blank_away n.body is

  pub spilled-away : (n : node.Node F) → state_of n ≡ states.Spilled → is_here n ≡ false
  spilled-away n is = spilled_away n.body is

  pub no-fault : (n : node.Node F) → (state_of n ≡ states.Broken → ⊥) → fault_of n ≡ None
  no-fault n never = no_fault n.body never

  pub sound-state : (n : node.Node F) → fault_of n ≡ None → state_of n ≡ states.Broken → ⊥
  sound-state n none is = sound_state n.body none is

  pub here-resident : (n : node.Node F) → is_here n ≡ true → fault_of n ≡ None → state_of n ≡ states.Resident
  here-resident n here none = here_resident n.body here none

  pub either-state : (n : node.Node F) → (state_of n ≡ states.Blank → ⊥) → fault_of n ≡ None → (state_of n ≡ states.Resident) ⊎ (state_of n ≡ states.Spilled)
  either-state n named none = either_state n.body named none

  pub same-here : (n m : node.Node F) → state_of m ≡ state_of n → fault_of n ≡ None → fault_of m ≡ None → is_here m ≡ is_here n
  same-here n m is none now = same_here n.body m.body is none now

  -- a node that has the state of a node that is not broken is not broken
  pub same-fault : (n m : node.Node F) → state_of m ≡ state_of n → fault_of n ≡ None → fault_of m ≡ None
  same-fault n m is none = no-fault m (λ broken. sound-state n none (sym is ∙ broken))

module _ {F : Type 0} (held : F → Option (List ℕ)) (faults keeps : F → ℕ) where
  -- a node that is neither in its file nor broken
  pub apart-agrees : (n : node.Node F) → (state_of n ≡ states.Spilled → ⊥) → (state_of n ≡ states.Broken → ⊥) → AgreesWithFile held faults keeps n
  apart-agrees n here sound = record {
    filed = λ e. absurd (here e);
    kept = λ e. absurd (here e);
    failed = λ e. absurd (let none = no-fault n sound in cc);
  }
