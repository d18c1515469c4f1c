-- The words of a trial are those of no other command and name one number of points, and how it ends.
use Rattle.std.proofs.Common.{◌≡◌, ◌≢◌, ◌⊎◌, ⊎_elim, inl, inr, ℕ, List, [], ◌∷◌, Option, Ok, Err, ap, get_or, refl, sym, ◌∙◌, subst, arith}
use Rattle.std.specs.Prelude.{Result, Vec, IfOk, IfErr, codes, decimal}
use Rattle.std.specs.declared.alloc.Global.{Global}
use Rattle.std.proofs.lemmas.Fmt.{decimal_injective}
use Rattle.ept_base.specs.Files.{Files, Tells}
use Rattle.ept_space.specs.declared.box3.Box3.{Box3}
use Rattle.ept_command.specs.declared.refusal.Refusal.{Refusal}
use Rattle.ept_command.specs.declared.refusal.Refusal.TheVariants.{Usage, SourceFault, StoreFault, SpillFault, Memory}
use Rattle.ept_command.specs.Words.{IsBuild, IsInfo, IsQuery, IsTrial}
use Rattle.ept_command.specs.Statuses.{status_of}
use Rattle.ept_run.specs.Requests.{HasTrial, IsDefinite, IsEarly, Fails}
use Rattle.ept_run.specs.Answers.{AsksTrial, SaysOfStore, IsAnswer, IsDone, IsFaulty, IsRefused, IsTold, EndsTrial, EndsWith, Yields}
use Rattle.ept_run.proofs.Asked.{told_always, ok_weaker, err_weaker}
use Rattle.ept_run.proofs.Runs.{Carries}

-- out of memory is no other refusal
only_memory : (r : Refusal) → r ≡ Memory → (r ≢ Usage) × (r ≢ SourceFault) × (r ≢ StoreFault) × (r ≢ SpillFault)
only_memory r is = (λ usage. not_usage (sym is ∙ usage), λ source. not_source (sym is ∙ source), λ store. not_store (sym is ∙ store), λ spill. not_spill (sym is ∙ spill))
  where
    not_usage : ◌≡◌ {A = Refusal} Memory Usage → ⊥
    not_usage same = cc

    not_source : ◌≡◌ {A = Refusal} Memory SourceFault → ⊥
    not_source same = cc

    not_store : ◌≡◌ {A = Refusal} Memory StoreFault → ⊥
    not_store same = cc

    not_spill : ◌≡◌ {A = Refusal} Memory SpillFault → ⊥
    not_spill same = cc

refused_as : (answer : Result (Vec ℕ Global) Refusal) (r : Refusal) → IfErr answer (λ e. e ≡ Memory) → answer ≡ Err r → r ≡ Memory
refused_as answer r lacks is = subst (λ (a : Result (Vec ℕ Global) Refusal). IfErr a (λ e. e ≡ Memory)) is lacks

-- ---- one command

module _ (words : List (List ℕ)) (count workers cache : ℕ) (is : IsTrial words count workers cache) where
  pub trial_or_build : (a b : List ℕ) → IsBuild words a b → ⊥
  trial_or_build a b other = apart (sym other.words_are ∙ is.words_are)
    where
      apart : codes "build" ∷ a ∷ b ∷ [] ≡ codes "trial" ∷ decimal count ∷ decimal workers ∷ decimal cache ∷ [] → ⊥
      apart same = cc

  pub trial_or_info : (las : List ℕ) → IsInfo words las → ⊥
  trial_or_info las other = apart (sym other.words_are ∙ is.words_are)
    where
      apart : codes "info" ∷ las ∷ [] ≡ codes "trial" ∷ decimal count ∷ decimal workers ∷ decimal cache ∷ [] → ⊥
      apart same = cc

  pub trial_or_query : (out : List ℕ) (area : Box3) (first last : ℕ) → IsQuery words out area first last → ⊥
  trial_or_query out area first last other = apart other.box other.depths (sym other.words_are ∙ is.words_are)
    where
      apart : (box depths : List ℕ) → codes "query" ∷ out ∷ box ∷ depths ∷ [] ≡ codes "trial" ∷ decimal count ∷ decimal workers ∷ decimal cache ∷ [] → ⊥
      apart box depths same =
          let heads : 113 ≡ 116 = ap (λ (ws : List (List ℕ)). get_or (get_or ws 0 []) 0 0) same in
          omega (arith, heads)

  pub trial_unrefused : (all : Files) (r : Refusal) → IsFaulty words all r → ⊥
  trial_unrefused all r (inl usage) = usage.1.not_trial count workers cache is
  trial_unrefused all r (inr (inl asks)) = trial_or_build asks.path asks.out asks.words_are
  trial_unrefused all r (inr (inr asks)) = trial_or_info asks.path asks.words_are

  -- words ask for one number of points
  pub one_count : (n w k : ℕ) → IsTrial words n w k → count ≡ n
  one_count n w k other = decimal_injective count n (omega (arith, is.few)) (omega (arith, other.few)) (second (sym is.words_are ∙ other.words_are))
    where
      second : codes "trial" ∷ decimal count ∷ decimal workers ∷ decimal cache ∷ [] ≡ codes "trial" ∷ decimal n ∷ decimal w ∷ decimal k ∷ [] → decimal count ≡ decimal n
      second same = cc

  -- ---- what it does

  asked : {Fact : ℕ → Type 0} → Fact count → AsksTrial words Fact
  asked holds = record { count = count; workers = workers; cache = cache; words_are = is; holds = holds }

  module _ (answer : Result (Vec ℕ Global) Refusal) (told : IfOk answer (λ line. HasTrial count line.items)) (lacks : IfErr answer (λ r. r ≡ Memory)) where
    pub trial_carries : (files old : Option Files) (settled : Type 0) (Begins : Files → Files → Type 0) (new : Option Files) (shelf store room same : Type 0) → same → Carries words files Begins (SaysOfStore words files old new settled) new shelf store room same answer
    trial_carries files old settled Begins new shelf store room same unchanged = record {
      is_answer = ok_weaker (λ line. HasTrial count line.items) (λ line. IsAnswer words line.items) answer
          (λ line has. inr (inr (asked {Fact = λ n. HasTrial n line.items} has))) told;
      done = ok_weaker (λ line. HasTrial count line.items) (λ line. Tells (λ all. IsDone words all Begins line.items new) files) answer
          (λ line has. told_always (λ all. IsDone words all Begins line.items new) files (λ all. inr (inr (asked {Fact = λ n. HasTrial n line.items} has)))) told;
      named = err_weaker (λ r. r ≡ Memory) (λ r. r ≢ Usage) answer (λ r is. (only_memory r is).0) lacks;
      refused = err_weaker (λ r. r ≡ Memory) (λ r. Tells (λ all. IsRefused words all Begins r) files) answer
          (λ r is. told_always (λ all. IsRefused words all Begins r) files (λ all. inr (inr (inr (asked {Fact = λ _. r ≡ Memory} is))))) lacks;
      lacks = told_always (λ all. IsRefused words all Begins Memory) files (λ all. inr (inr (inr (asked {Fact = λ _. Memory ≡ Memory} refl))));
      of_store = err_weaker (λ r. r ≡ Memory) (SaysOfStore words files old new settled) answer (λ r lack path out other. absurd (trial_or_build path out other)) lacks;
      lacks_store = λ path out other. tt;
      sources = λ fault. absurd ((only_memory SourceFault (refused_as answer SourceFault lacks fault)).1 refl);
      stores = λ fault. absurd ((only_memory StoreFault (refused_as answer StoreFault lacks fault)).2 refl);
      spills = λ fault. absurd ((only_memory SpillFault (refused_as answer SpillFault lacks fault)).3 refl);
      early = err_weaker (λ r. r ≡ Memory) (λ r. IsEarly r → same) answer (λ r is early. unchanged) lacks;
      comes = told_always (λ all. (r : Refusal) → IsDefinite r → IsFaulty words all r → (answer ≡ Err r) ⊎ Fails answer) files
          (λ all r definite faulty. absurd (trial_unrefused all r faulty));
    }

-- how it ends follows from its line, and from how that is said
pub trial_ends : (count status : ℕ) (old new : Option (List ℕ)) (failed : Type 0) (answer : Result (Vec ℕ Global) Refusal)
    → IfOk answer (λ line. HasTrial count line.items) → IfErr answer (λ r. r ≡ Memory) → EndsWith answer status old new failed → EndsTrial count status old new failed
trial_ends count status old new failed (Ok line) told lacks said = inl (line.items, told, said)
trial_ends count status old new failed (Err r) told lacks said = inr (subst (λ (x : Refusal). IsTold x status old new failed) lacks said)

-- it ends with its line, or because memory runs out or the sink failed
pub trial_yields : (count status : ℕ) (old new : Option (List ℕ)) (failed : Type 0) → EndsTrial count status old new failed → Yields 0 status
trial_yields count status old new failed (inl (line, has, inl said)) = inl said.0
trial_yields count status old new failed (inl (line, has, inr device)) = inr (inl device.0)
trial_yields count status old new failed (inr told) =
    inr (inr (⊎_elim (λ is. sym told.status_is ∙ ap status_of is) (λ is. sym told.status_is ∙ ap status_of is) told.told_is))
