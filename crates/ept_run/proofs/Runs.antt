-- How a run ends follows from what its command does, and from how its line is said.
use Rattle.std.proofs.Common.{◌≡◌, ◌≢◌, ◌⊎◌, inl, inr, ⊎_elim, ℕ, List, Option, Some, None, Ok, Err, refl, sym, ◌∙◌, ap, subst, arith}
use Rattle.std.specs.Prelude.{◌↔◌, Result, Vec, IfOk, IfErr, IsOk, OnOk}
use Rattle.std.specs.Io.KnownBytes.{Appends}
use Rattle.std.specs.declared.alloc.Global.{Global}
use Rattle.ept_base.specs.Files.{Files, Tells}
use Rattle.ept_config_text.specs.declared.config_error.ConfigError.{ConfigError}
use Rattle.ept_command.specs.Words.{IsUsage}
use Rattle.ept_command.specs.declared.ended.Failure.{Failure}
use Rattle.ept_command.specs.declared.ended.Failure.TheVariants.{Refused, LineNotWritten}
use Rattle.ept_command.specs.declared.refusal.Refusal.{Refusal}
use Rattle.ept_command.specs.declared.refusal.Refusal.TheVariants.{Usage, BadConfiguration, BadLas, OutOfBounds, NoBounds, SourceChanged, TooManyPoints, TooManyNodes, Differs, BadCheckpoint, TileDamaged, SourceFault, StoreFault, SpillFault, SpillDamaged, Memory}
use Rattle.ept_command.specs.Statuses.{status_of}
use Rattle.ept_run.specs.Lines.{line_of}
use Rattle.ept_run.specs.Requests.{IsDefinite, IsEarly, TellsDifference, TellsDamage, Fails}
use Rattle.ept_run.specs.Answers.{Yields, YieldsRefusal, YieldsDifference, YieldsDamage, IsAnswer, IsDone, Ends, IsFaulty, IsRefused, HasRisen, Says, IsTold, EndsWith, EndsFor, Refuses, IsCut, IsUnwritten}

-- ---- statuses

pub usage_only : (r : Refusal) → status_of r ≡ 2 → r ≡ Usage
usage_only Usage is = refl
usage_only (BadConfiguration e) is = absurd (omega (arith, is))
usage_only (BadLas source fault) is = absurd (omega (arith, is))
usage_only (OutOfBounds source number) is = absurd (omega (arith, is))
usage_only NoBounds is = absurd (omega (arith, is))
usage_only (SourceChanged source number) is = absurd (omega (arith, is))
usage_only (TooManyPoints source) is = absurd (omega (arith, is))
usage_only TooManyNodes is = absurd (omega (arith, is))
usage_only (Differs field) is = absurd (omega (arith, is))
usage_only (BadCheckpoint letter) is = absurd (omega (arith, is))
usage_only (TileDamaged key) is = absurd (omega (arith, is))
usage_only SourceFault is = absurd (omega (arith, is))
usage_only StoreFault is = absurd (omega (arith, is))
usage_only SpillFault is = absurd (omega (arith, is))
usage_only SpillDamaged is = absurd (omega (arith, is))
usage_only Memory is = absurd (omega (arith, is))

pub device_only : (r : Refusal) → status_of r ≡ 7 → (r ≡ SourceFault) ⊎ (r ≡ StoreFault) ⊎ (r ≡ SpillFault)
device_only Usage is = absurd (omega (arith, is))
device_only (BadConfiguration e) is = absurd (omega (arith, is))
device_only (BadLas source fault) is = absurd (omega (arith, is))
device_only (OutOfBounds source number) is = absurd (omega (arith, is))
device_only NoBounds is = absurd (omega (arith, is))
device_only (SourceChanged source number) is = absurd (omega (arith, is))
device_only (TooManyPoints source) is = absurd (omega (arith, is))
device_only TooManyNodes is = absurd (omega (arith, is))
device_only (Differs field) is = absurd (omega (arith, is))
device_only (BadCheckpoint letter) is = absurd (omega (arith, is))
device_only (TileDamaged key) is = absurd (omega (arith, is))
device_only SourceFault is = inl refl
device_only StoreFault is = inr (inl refl)
device_only SpillFault is = inr (inr refl)
device_only SpillDamaged is = absurd (omega (arith, is))
device_only Memory is = absurd (omega (arith, is))

pub configuration_only : (r : Refusal) → status_of r ≡ 3 → (e : ConfigError) × (r ≡ BadConfiguration e)
configuration_only Usage is = absurd (omega (arith, is))
configuration_only (BadConfiguration e) is = (e, refl)
configuration_only (BadLas source fault) is = absurd (omega (arith, is))
configuration_only (OutOfBounds source number) is = absurd (omega (arith, is))
configuration_only NoBounds is = absurd (omega (arith, is))
configuration_only (SourceChanged source number) is = absurd (omega (arith, is))
configuration_only (TooManyPoints source) is = absurd (omega (arith, is))
configuration_only TooManyNodes is = absurd (omega (arith, is))
configuration_only (Differs field) is = absurd (omega (arith, is))
configuration_only (BadCheckpoint letter) is = absurd (omega (arith, is))
configuration_only (TileDamaged key) is = absurd (omega (arith, is))
configuration_only SourceFault is = absurd (omega (arith, is))
configuration_only StoreFault is = absurd (omega (arith, is))
configuration_only SpillFault is = absurd (omega (arith, is))
configuration_only SpillDamaged is = absurd (omega (arith, is))
configuration_only Memory is = absurd (omega (arith, is))

-- a refusal is not the work done
pub never_done : (r : Refusal) → status_of r ≢ 0
never_done Usage = omega arith
never_done (BadConfiguration e) = omega arith
never_done (BadLas source fault) = omega arith
never_done (OutOfBounds source number) = omega arith
never_done NoBounds = omega arith
never_done (SourceChanged source number) = omega arith
never_done (TooManyPoints source) = omega arith
never_done TooManyNodes = omega arith
never_done (Differs field) = omega arith
never_done (BadCheckpoint letter) = omega arith
never_done (TileDamaged key) = omega arith
never_done SourceFault = omega arith
never_done StoreFault = omega arith
never_done SpillFault = omega arith
never_done SpillDamaged = omega arith
never_done Memory = omega arith

-- the count of the device that a refusal names rose
risen_of : (r : Refusal) (shelf store room : Type 0) → (r ≡ SourceFault → shelf) → (r ≡ StoreFault → store) → (r ≡ SpillFault → room) → HasRisen r shelf store room
risen_of Usage shelf store room sources stores spills = tt
risen_of (BadConfiguration e) shelf store room sources stores spills = tt
risen_of (BadLas source fault) shelf store room sources stores spills = tt
risen_of (OutOfBounds source number) shelf store room sources stores spills = tt
risen_of NoBounds shelf store room sources stores spills = tt
risen_of (SourceChanged source number) shelf store room sources stores spills = tt
risen_of (TooManyPoints source) shelf store room sources stores spills = tt
risen_of TooManyNodes shelf store room sources stores spills = tt
risen_of (Differs field) shelf store room sources stores spills = tt
risen_of (BadCheckpoint letter) shelf store room sources stores spills = tt
risen_of (TileDamaged key) shelf store room sources stores spills = tt
risen_of SourceFault shelf store room sources stores spills = sources refl
risen_of StoreFault shelf store room sources stores spills = stores refl
risen_of SpillFault shelf store room sources stores spills = spills refl
risen_of SpillDamaged shelf store room sources stores spills = tt
risen_of Memory shelf store room sources stores spills = tt

pub some_or_none : {X : Type 0} (x : X) (o : Option X) → o ≡ Some x → o ≡ None → ⊥
some_or_none x o some none = cc

-- ---- what a command does

-- What is known of a command whose result is a line or a refusal. Shelf, store and room say that the count of that
-- device rose, and same that nothing was put. Begins says that a build begins with these files of the shelf and of the
-- store. OfStore says what a refusal says of the store.
pub record Carries (words : List (List ℕ)) (files : Option Files) (Begins : Files → Files → Type 0) (OfStore : Refusal → Type 0) (new : Option Files) (shelf store room same : Type 0) (answer : Result (Vec ℕ Global) Refusal) : Type 0 where
  pub is_answer : IfOk answer (λ line. IsAnswer words line.items)
  pub done : IfOk answer (λ line. Tells (λ all. IsDone words all Begins line.items new) files)
  pub named : IfErr answer (λ r. r ≢ Usage)
  pub refused : IfErr answer (λ r. Tells (λ all. IsRefused words all Begins r) files)
  pub lacks : Tells (λ all. IsRefused words all Begins Memory) files
  pub of_store : IfErr answer OfStore
  pub lacks_store : OfStore Memory
  pub sources : answer ≡ Err SourceFault → shelf
  pub stores : answer ≡ Err StoreFault → store
  pub spills : answer ≡ Err SpillFault → room
  pub early : IfErr answer (λ r. IsEarly r → same)
  pub comes : Tells (λ all. (r : Refusal) → IsDefinite r → IsFaulty words all r → (answer ≡ Err r) ⊎ Fails answer) files

module _ (status : ℕ) (said_old said_new : Option (List ℕ)) (failed : Type 0) where
  -- how a command ends, whatever its failure is
  pub ends_with : (answer : Result (Vec ℕ Global) Refusal) (failure : Option Failure) → EndsFor answer status failure said_old said_new failed → EndsWith answer status said_old said_new failed
  ends_with (Ok line) failure (inl ok) = inl (ok.0, ok.2)
  ends_with (Ok line) failure (inr device) = inr (device.0, device.2, device.3)
  ends_with (Err r) failure reports = reports.0

  -- there is a failure at each status but 0
  pub no_failure : (answer : Result (Vec ℕ Global) Refusal) (failure : Option Failure) → EndsFor answer status failure said_old said_new failed → (status ≡ 0) ↔ (failure ≡ None)
  no_failure (Ok line) failure (inl ok) = (λ is. ok.1, λ none. ok.0)
  no_failure (Ok line) failure (inr device) = (λ is. absurd (omega (arith, device.0, is)), λ none. absurd (some_or_none (LineNotWritten line) failure device.1 none))
  no_failure (Err r) failure reports = (λ is. absurd (never_done reports.0.told (reports.0.status_is ∙ is)), λ none. absurd (some_or_none (Refused reports.0.told) failure reports.1 none))

  pub never_usage : (answer : Result (Vec ℕ Global) Refusal) → IfErr answer (λ r. r ≢ Usage) → EndsWith answer status said_old said_new failed → status ≡ 2 → ⊥
  never_usage (Ok line) named (inl ok) is = omega (arith, ok.0, is)
  never_usage (Ok line) named (inr device) is = omega (arith, device.0, is)
  never_usage (Err r) named ends is =
      ⊎_elim (λ same. named (sym same ∙ usage_only ends.told (ends.status_is ∙ is))) (λ same. omega (arith, ap status_of same, ends.status_is, is)) ends.told_is

  -- status 3 is that of a bad configuration
  pub bad_configuration : (answer : Result (Vec ℕ Global) Refusal) → EndsWith answer status said_old said_new failed → status ≡ 3 → (e : ConfigError) × (answer ≡ Err (BadConfiguration e))
  bad_configuration (Ok line) (inl ok) is = absurd (omega (arith, ok.0, is))
  bad_configuration (Ok line) (inr device) is = absurd (omega (arith, device.0, is))
  bad_configuration (Err r) ends is =
      let told = configuration_only ends.told (ends.status_is ∙ is) in
      ⊎_elim (λ same. (told.0, ap (λ (w : Refusal). Err w) (sym same ∙ told.1))) (λ same. absurd (omega (arith, ap status_of same, ends.status_is, is))) ends.told_is

  -- status 0 is that of a command that is carried out
  pub carried_out : {P : Type 0} (answer : Result (Vec ℕ Global) Refusal) → OnOk answer P → EndsWith answer status said_old said_new failed → status ≡ 0 → P
  carried_out (Ok line) holds ends is = holds
  carried_out (Err r) holds ends is = absurd (never_done ends.told (ends.status_is ∙ is))

  told_status : (r : Refusal) → IsTold r status said_old said_new failed → (status ≡ status_of r) ⊎ (status ≡ 9)
  told_status r ends = ⊎_elim (λ same. inl (sym ends.status_is ∙ ap status_of same)) (λ same. inr (sym ends.status_is ∙ ap status_of same)) ends.told_is

  told_with : (answer : Result (Vec ℕ Global) Refusal) (r : Refusal) → answer ≡ Err r → EndsWith answer status said_old said_new failed → IsTold r status said_old said_new failed
  told_with answer r is ends = subst (λ (a : Result (Vec ℕ Global) Refusal). EndsWith a status said_old said_new failed) is ends

  fails_yields : (answer : Result (Vec ℕ Global) Refusal) → Fails answer → EndsWith answer status said_old said_new failed → (status ≡ 7) ⊎ (status ≡ 9)
  fails_yields answer (inl is) ends = told_status SourceFault (told_with answer SourceFault is ends)
  fails_yields answer (inr (inl is)) ends = told_status StoreFault (told_with answer StoreFault is ends)
  fails_yields answer (inr (inr (inl is))) ends = told_status SpillFault (told_with answer SpillFault is ends)
  fails_yields answer (inr (inr (inr is))) ends = ⊎_elim (λ memory. inr memory) (λ memory. inr memory) (told_status Memory (told_with answer Memory is ends))

  pub comes_yields : (answer : Result (Vec ℕ Global) Refusal) (r : Refusal) → (answer ≡ Err r) ⊎ Fails answer → EndsWith answer status said_old said_new failed → YieldsRefusal r status said_old said_new failed
  comes_yields answer r (inr fails) ends = inr (fails_yields answer fails ends)
  comes_yields answer r (inl is) ends =
      let told = told_with answer r is ends in
      ⊎_elim (λ same. inl (sym told.status_is ∙ ap status_of same, subst (λ (x : Refusal). Says (line_of x) said_old said_new failed) same told.says))
      (λ same. inr (inr (sym told.status_is ∙ ap status_of same))) told.told_is

  pub differs_yields : (answer : Result (Vec ℕ Global) Refusal) → TellsDifference answer ⊎ Fails answer → EndsWith answer status said_old said_new failed → YieldsDifference status said_old said_new failed
  differs_yields answer (inr fails) ends = inr (fails_yields answer fails ends)
  differs_yields answer (inl told) ends = ⊎_elim (λ said. inl (told.0, said.0, said.1)) (λ other. inr other) (comes_yields answer (Differs told.0) (inl told.1) ends)

  pub damage_yields : (answer : Result (Vec ℕ Global) Refusal) → TellsDamage answer ⊎ Fails answer → EndsWith answer status said_old said_new failed → YieldsDamage status said_old said_new failed
  damage_yields answer (inr fails) ends = inr (fails_yields answer fails ends)
  damage_yields answer (inl told) ends = ⊎_elim (λ said. inl (told.0, said.0, said.1)) (λ other. inr other) (comes_yields answer (TileDamaged told.0) (inl told.1) ends)

  ok_yields : (answer : Result (Vec ℕ Global) Refusal) → IsOk answer → EndsWith answer status said_old said_new failed → Yields 0 status
  ok_yields (Ok line) is (inl ok) = inl ok.0
  ok_yields (Ok line) is (inr device) = inr (inl device.0)
  ok_yields (Err r) is ends = absurd cc

  pub accepted_yields : (answer : Result (Vec ℕ Global) Refusal) → IsOk answer ⊎ Fails answer → EndsWith answer status said_old said_new failed → Yields 0 status
  accepted_yields answer (inl is) ends = ok_yields answer is ends
  accepted_yields answer (inr fails) ends = inr (fails_yields answer fails ends)

  module _ (words : List (List ℕ)) (files : Option Files) (Begins : Files → Files → Type 0) (OfStore : Refusal → Type 0) (new : Option Files) (shelf store room same : Type 0) where
    pub is_done : (answer : Result (Vec ℕ Global) Refusal) → Carries words files Begins OfStore new shelf store room same answer → EndsWith answer status said_old said_new failed → status ≡ 0
        → Ends words files Begins new (Appends said_old said_new)
    is_done (Ok line) carries (inl ok) is = record { line = line.items; is_answer = carries.is_answer; done = carries.done; said = ok.1 }
    is_done (Ok line) carries (inr device) is = absurd (omega (arith, device.0, is))
    is_done (Err r) carries ends is = absurd (never_done ends.told (ends.status_is ∙ is))

    pub has_risen : (answer : Result (Vec ℕ Global) Refusal) → Carries words files Begins OfStore new shelf store room same answer → EndsWith answer status said_old said_new failed → status ≡ 7 → shelf ⊎ store ⊎ room ⊎ failed
    has_risen (Ok line) carries (inl ok) is = absurd (omega (arith, ok.0, is))
    has_risen (Ok line) carries (inr device) is = inr (inr (inr device.1))
    has_risen (Err r) carries ends is =
        ⊎_elim (λ this. one_rose (device_only r (sym this ∙ is))) (λ memory. absurd (omega (arith, memory, is))) (told_status r ends)
      where
        one_rose : (r ≡ SourceFault) ⊎ (r ≡ StoreFault) ⊎ (r ≡ SpillFault) → shelf ⊎ store ⊎ room ⊎ failed
        one_rose (inl source) = inl (carries.sources (ap Err source))
        one_rose (inr (inl store)) = inr (inl (carries.stores (ap Err store)))
        one_rose (inr (inr spill)) = inr (inr (inl (carries.spills (ap Err spill))))

    pub is_refused : (answer : Result (Vec ℕ Global) Refusal) (failure : Option Failure) → Carries words files Begins OfStore new shelf store room same answer → EndsFor answer status failure said_old said_new failed → status ≢ 0
        → ((refuses : Refuses words files Begins OfStore status shelf store room failed said_old said_new same) × (failure ≡ Some (Refused refuses.cause)))
        ⊎ ((cut : IsCut words files Begins status new failed said_old said_new) × IsUnwritten failure cut.ends.line)
    is_refused (Ok line) failure carries (inl ok) not_ok = absurd (not_ok ok.0)
    is_refused (Ok line) failure carries (inr device) not_ok =
        inr (record { status_is = device.0; risen = device.2; ends = record { line = line.items; is_answer = carries.is_answer; done = carries.done; said = device.3 } }, (line, device.1, refl))
    is_refused (Err r) failure carries reports not_ok = inl (
      record {
        cause = reports.0.told;
        status_is = reports.0.status_is;
        has_cause = ⊎_elim (λ is. subst (λ (x : Refusal). Tells (λ all. IsRefused words all Begins x) files) (sym is) carries.refused)
            (λ is. subst (λ (x : Refusal). Tells (λ all. IsRefused words all Begins x) files) (sym is) carries.lacks) reports.0.told_is;
        of_store = ⊎_elim (λ is. subst OfStore (sym is) carries.of_store) (λ is. subst OfStore (sym is) carries.lacks_store) reports.0.told_is;
        risen = ⊎_elim (λ is. subst (λ (x : Refusal). HasRisen x shelf store room) (sym is) (risen_of r shelf store room (λ e. carries.sources (ap Err e)) (λ e. carries.stores (ap Err e)) (λ e. carries.spills (ap Err e))))
            (λ is. subst (λ (x : Refusal). HasRisen x shelf store room) (sym is) tt) reports.0.told_is;
        says = reports.0.says;
        early = λ early. ⊎_elim (λ is. carries.early (subst IsEarly is early)) (λ is. absurd (subst IsEarly is early)) reports.0.told_is;
      },
      reports.1,
    )

  -- if the files of the shelf are visible, a refusal that comes is reported
  pub refusal_yields : (answer : Result (Vec ℕ Global) Refusal) (files : Option Files) (Why : Files → Refusal → Type 0) → EndsWith answer status said_old said_new failed
      → Tells (λ all. (r : Refusal) → IsDefinite r → Why all r → (answer ≡ Err r) ⊎ Fails answer) files
      → Tells (λ all. (r : Refusal) → IsDefinite r → Why all r → YieldsRefusal r status said_old said_new failed) files
  refusal_yields answer None Why ends comes = tt
  refusal_yields answer (Some all) Why ends comes = λ r definite why. comes_yields answer r (comes r definite why) ends

-- ---- how it ends, whatever its failure is

pub first_parts : {A : Type 0} {B : A → Type 0} {C : Type 0} {D : C → Type 0} {E : Type 0} → ((a : A) × B a) ⊎ ((c : C) × D c) ⊎ E → A ⊎ C ⊎ E
first_parts (inl both) = inl both.0
first_parts (inr (inl both)) = inr (inl both.0)
first_parts (inr (inr last)) = inr (inr last)

-- ---- words that are no command ask nothing of the files

pub usage_yields : (files : Option Files) (words : List (List ℕ)) (status : ℕ) (said_old said_new : Option (List ℕ)) (failed : Type 0) → IsUsage words → status ≡ 2 → Says (line_of Usage) said_old said_new failed
    → Tells (λ all. (r : Refusal) → IsDefinite r → IsFaulty words all r → YieldsRefusal r status said_old said_new failed) files
usage_yields None words status said_old said_new failed usage is says = tt
usage_yields (Some all) words status said_old said_new failed usage is says = λ r definite why. of r why
  where
    of : (r : Refusal) → IsFaulty words all r → YieldsRefusal r status said_old said_new failed
    of r (inl named) = inl (is ∙ sym (ap status_of named.0), subst (λ (x : Refusal). Says (line_of x) said_old said_new failed) (sym named.0) says)
    of r (inr (inl asks)) = absurd (usage.not_build asks.path asks.out asks.words_are)
    of r (inr (inr asks)) = absurd (usage.not_info asks.path asks.words_are)
