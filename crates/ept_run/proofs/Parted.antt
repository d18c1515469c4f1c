-- What a part comes to, and how it ends.
use Rattle.std.proofs.Common.{◌≡◌, ◌≢◌, ◌⊎◌, inl, inr, ⊎_elim, ℕ, ◌≤◌, List, Option, None, Some, Ok, Err, refl, sym, ◌∙◌, ap, subst, arith}
use Rattle.std.specs.Prelude.{◌↔◌, Result, Vec, IsOk, IfOk, IfErr, OnOk}
use Rattle.std.specs.Io.KnownBytes.{Appends}
use Rattle.std.specs.declared.alloc.Global.{Global}
use Rattle.ept_base.specs.Devices.{AppendsPrefix}
use Rattle.ept_base.specs.Causes.{Rose}
use Rattle.ept_base.specs.Files.{Files, SameFiles, StepsBy, Tells}
use Rattle.ept_base.proofs.Moving.{moves_weaker}
use Rattle.ept_base.specs.Moves.{Moves, IsSettled}
use Rattle.ept_config.specs.declared.config.Config.{Config}
use Rattle.ept_config_text.specs.declared.config_error.ConfigError.{ConfigError}
use Rattle.ept_save.specs.Sound.{IsSound}
use Rattle.ept_save.specs.SoundLaws.{SameIsSound, BesideKeepsSound}
use Rattle.ept_save.proofs.Standing.{settled_some}
use Rattle.ept_part.specs.declared.error.PartError.{PartError}
use Rattle.ept_part.specs.declared.error.PartError.TheVariants as part
use Rattle.ept_part.specs.declared.part_done.PartDone.{PartDone}
use Rattle.ept_part.specs.Files.{ChangesPart, IsPartSound}
use Rattle.ept_part.specs.Making as making
use Rattle.ept_part.specs.PartLaws.{PartLeavesBuild, PartIsItsNames}
use Rattle.ept_command.specs.declared.ended.Failure.{Failure}
use Rattle.ept_command.specs.declared.ended.Failure.TheVariants as failure
use Rattle.ept_command.specs.declared.refusal.Refusal.{Refusal}
use Rattle.ept_command.specs.declared.refusal.Refusal.TheVariants.{Usage, BadConfiguration, BadLas, OutOfBounds, NoBounds, SourceChanged, TooManyPoints, TooManyNodes, Differs, BadCheckpoint, TileDamaged, SourceFault, StoreFault, SpillFault, SpillDamaged, Memory}
use Rattle.ept_command.specs.declared.refusal.PartRefusal.{PartRefusal}
use Rattle.ept_command.specs.declared.refusal.PartRefusal.TheVariants.{AsBuild, Shallow}
use Rattle.ept_command.specs.Statuses.{status_of}
use Rattle.ept_run.specs.Lines.{summary_text, line_of}
use Rattle.ept_command.specs.Configurations.{HasConfiguration, HasBadConfiguration, ConfigurationIsRefused, IsOfConfiguration}
use Rattle.ept_run.specs.Requests.{IsPartAcceptedAt}
use Rattle.ept_class.specs.Laws.{MembersMakeTheSet}
use Rattle.ept_command.specs.Words.{IsPart}
use Rattle.ept_run.specs.Answers.{Yields, AsksPart, Says, IsSaid, IsSaidFor, IsReported}
use Rattle.ept_run.specs.Parts.{Outcome, of_part, part_status, PartIsRefused, IsPartFault, FailsPart, IsPartMadeAt, ComesToPart, SaysPart, FailsAsPart, IsPartReported, EndsPart}
use Rattle.ept_run.proofs.Asked.{told_as, told_always}
use Rattle.ept_command.proofs.OctantTexts.{part_once}
use Rattle.ept_run.proofs.Refused.{one_config, not_both, one_error, stays}
use Rattle.ept_run.proofs.Runs.{usage_only, device_only, configuration_only, never_done, some_or_none}

-- ---- refusals

source_only : (e : PartError) → of_part e ≡ AsBuild SourceFault → e ≡ part.SourceFault
source_only part.SourceFault is = refl
source_only (part.BadLas source fault) is = absurd cc
source_only (part.OutOfBounds source number) is = absurd cc
source_only (part.TooManyPoints source) is = absurd cc
source_only part.NoBounds is = absurd cc
source_only part.Shallow is = absurd cc
source_only (part.SourceChanged source number) is = absurd cc
source_only part.TooManyNodes is = absurd cc
source_only part.StoreFault is = absurd cc
source_only part.Memory is = absurd cc

store_only : (e : PartError) → of_part e ≡ AsBuild StoreFault → e ≡ part.StoreFault
store_only part.SourceFault is = absurd cc
store_only (part.BadLas source fault) is = absurd cc
store_only (part.OutOfBounds source number) is = absurd cc
store_only (part.TooManyPoints source) is = absurd cc
store_only part.NoBounds is = absurd cc
store_only part.Shallow is = absurd cc
store_only (part.SourceChanged source number) is = absurd cc
store_only part.TooManyNodes is = absurd cc
store_only part.StoreFault is = refl
store_only part.Memory is = absurd cc

-- no refusal of a part is that of the words
pub never_usage : (e : PartError) → of_part e ≢ AsBuild Usage
never_usage part.SourceFault is = cc
never_usage (part.BadLas source fault) is = cc
never_usage (part.OutOfBounds source number) is = cc
never_usage (part.TooManyPoints source) is = cc
never_usage part.NoBounds is = cc
never_usage part.Shallow is = cc
never_usage (part.SourceChanged source number) is = cc
never_usage part.TooManyNodes is = cc
never_usage part.StoreFault is = cc
never_usage part.Memory is = cc

-- or that of a configuration
pub never_configured : (e : PartError) (error : ConfigError) → of_part e ≢ AsBuild (BadConfiguration error)
never_configured part.SourceFault error is = cc
never_configured (part.BadLas source fault) error is = cc
never_configured (part.OutOfBounds source number) error is = cc
never_configured (part.TooManyPoints source) error is = cc
never_configured part.NoBounds error is = cc
never_configured part.Shallow error is = cc
never_configured (part.SourceChanged source number) error is = cc
never_configured part.TooManyNodes error is = cc
never_configured part.StoreFault error is = cc
never_configured part.Memory error is = cc

-- or one of spill files, which a part has none of
pub never_spilled : (e : PartError) → of_part e ≢ AsBuild SpillFault
never_spilled part.SourceFault is = cc
never_spilled (part.BadLas source fault) is = cc
never_spilled (part.OutOfBounds source number) is = cc
never_spilled (part.TooManyPoints source) is = cc
never_spilled part.NoBounds is = cc
never_spilled part.Shallow is = cc
never_spilled (part.SourceChanged source number) is = cc
never_spilled part.TooManyNodes is = cc
never_spilled part.StoreFault is = cc
never_spilled part.Memory is = cc

inside_build : (a b : Refusal) → AsBuild a ≡ AsBuild b → a ≡ b
inside_build a b same = cc

-- nor is one of a configuration that is read
pub unread_named : (r : Refusal) → IsOfConfiguration r → (AsBuild r ≢ AsBuild Usage) × (AsBuild r ≢ AsBuild SpillFault)
unread_named r of = (λ is. subst IsOfConfiguration (inside_build r Usage is) of, λ is. subst IsOfConfiguration (inside_build r SpillFault is) of)

err_inside : (a b : PartRefusal) → ◌≡◌ {A = Outcome} (Err a) (Err b) → a ≡ b
err_inside a b same = cc

ok_is_no_err : (done : PartDone) (r : PartRefusal) → ◌≡◌ {A = Outcome} (Ok done) (Err r) → ⊥
ok_is_no_err done r same = cc

-- a configuration that is refused is bad, or a device failed or memory ran out
bad_or_fault : (all : Files) (path : List ℕ) (r : Refusal) → ConfigurationIsRefused all path r → ((e : ConfigError) × (r ≡ BadConfiguration e) × HasBadConfiguration all path e) ⊎ (r ≡ SourceFault) ⊎ (r ≡ Memory)
bad_or_fault all path Usage is = absurd is
bad_or_fault all path (BadConfiguration e) is = inl (e, refl, is)
bad_or_fault all path (BadLas source fault) is = absurd is
bad_or_fault all path (OutOfBounds source number) is = absurd is
bad_or_fault all path NoBounds is = absurd is
bad_or_fault all path (SourceChanged source number) is = absurd is
bad_or_fault all path (TooManyPoints source) is = absurd is
bad_or_fault all path TooManyNodes is = absurd is
bad_or_fault all path (Differs field) is = absurd is
bad_or_fault all path (BadCheckpoint letter) is = absurd is
bad_or_fault all path (TileDamaged key) is = absurd is
bad_or_fault all path SourceFault is = inr (inl refl)
bad_or_fault all path StoreFault is = absurd is
bad_or_fault all path SpillFault is = absurd is
bad_or_fault all path SpillDamaged is = absurd is
bad_or_fault all path Memory is = inr (inr refl)

-- ---- what a part comes to

-- there is no refusal
abbrev WasMade : Outcome → Type 0
WasMade outcome = IsOk outcome

-- the outcome of a part as this program's
abbrev pub told : Result PartDone PartError → Outcome
told (Ok done) = Ok done
told (Err e) = Err (of_part e)

fails_told : (outcome : Result PartDone PartError) → making.Fails outcome → FailsPart (told outcome)
fails_told outcome (inl is) = (AsBuild SourceFault, ap told is, inl refl)
fails_told outcome (inr (inl is)) = (AsBuild StoreFault, ap told is, inr (inl refl))
fails_told outcome (inr (inr is)) = (AsBuild Memory, ap told is, inr (inr refl))

pub tells_both : {X : Type 0} (P Q R : X → Type 0) (o : Option X) → ((x : X) → P x → Q x → R x) → Tells P o → Tells Q o → Tells R o
tells_both P Q R None step p q = tt
tells_both P Q R (Some x) step p q = step x p q

module _ (all : Files) (path : List ℕ) (octants : ℕ) where
  -- the configuration is refused, and nothing else comes
  came_unread : (r : Refusal) → ConfigurationIsRefused all path r → (wanted : PartRefusal) → ¬ IsPartFault wanted → PartIsRefused all path octants wanted → (◌≡◌ {A = Outcome} (Err (AsBuild r)) (Err wanted)) ⊎ FailsPart (Err (AsBuild r))
  came_unread r is wanted definite why = by (bad_or_fault all path r is) why
    where
      bad : (e : ConfigError) → r ≡ BadConfiguration e → HasBadConfiguration all path e → PartIsRefused all path octants wanted → (◌≡◌ {A = Outcome} (Err (AsBuild r)) (Err wanted)) ⊎ FailsPart (Err (AsBuild r))
      bad e r_is is_bad (inl (cause, same, refused)) = one (bad_or_fault all path cause refused)
        where
          one : ((f : ConfigError) × (cause ≡ BadConfiguration f) × HasBadConfiguration all path f) ⊎ (cause ≡ SourceFault) ⊎ (cause ≡ Memory) → (◌≡◌ {A = Outcome} (Err (AsBuild r)) (Err wanted)) ⊎ FailsPart (Err (AsBuild r))
          one (inl (f, cause_is, other)) = inl (ap (λ (x : Refusal). Err (AsBuild x)) (r_is ∙ ap BadConfiguration (one_error all path e f is_bad other) ∙ sym cause_is) ∙ ap (λ (x : PartRefusal). Err x) (sym same))
          one (inr (inl source)) = absurd (definite (inl (same ∙ ap AsBuild source)))
          one (inr (inr memory)) = absurd (definite (inr (inr (same ∙ ap AsBuild memory))))
      bad e r_is is_bad (inr (config, error, same, has, refused)) = absurd (not_both all path config e has is_bad)

      by : ((e : ConfigError) × (r ≡ BadConfiguration e) × HasBadConfiguration all path e) ⊎ (r ≡ SourceFault) ⊎ (r ≡ Memory) → PartIsRefused all path octants wanted → (◌≡◌ {A = Outcome} (Err (AsBuild r)) (Err wanted)) ⊎ FailsPart (Err (AsBuild r))
      by (inl (e, r_is, is_bad)) why = bad e r_is is_bad why
      by (inr (inl source)) why = inr (AsBuild r, refl, inl (ap AsBuild source))
      by (inr (inr memory)) why = inr (AsBuild r, refl, inr (inr (ap AsBuild memory)))

  accepted_unread : (r : Refusal) → ConfigurationIsRefused all path r → IsPartAcceptedAt all path octants → WasMade (Err (AsBuild r)) ⊎ FailsPart (Err (AsBuild r))
  accepted_unread r is asked = by (bad_or_fault all path r is)
    where
      by : ((e : ConfigError) × (r ≡ BadConfiguration e) × HasBadConfiguration all path e) ⊎ (r ≡ SourceFault) ⊎ (r ≡ Memory) → WasMade (Err (AsBuild r)) ⊎ FailsPart (Err (AsBuild r))
      by (inl (e, r_is, is_bad)) = absurd (not_both all path asked.config e asked.configures is_bad)
      by (inr (inl source)) = inr (AsBuild r, refl, inl (ap AsBuild source))
      by (inr (inr memory)) = inr (AsBuild r, refl, inr (inr (ap AsBuild memory)))

  module _ (config : Config) (configures : HasConfiguration all path config) (outcome : Result PartDone PartError) where
    came_part : ((e : PartError) → making.IsDefinite e → making.IsRefused all config octants e → (outcome ≡ Err e) ⊎ making.Fails outcome)
        → (wanted : PartRefusal) → ¬ IsPartFault wanted → PartIsRefused all path octants wanted → (told outcome ≡ Err wanted) ⊎ FailsPart (told outcome)
    came_part comes wanted definite (inl (cause, same, refused)) = by (bad_or_fault all path cause refused)
      where
        by : ((e : ConfigError) × (cause ≡ BadConfiguration e) × HasBadConfiguration all path e) ⊎ (cause ≡ SourceFault) ⊎ (cause ≡ Memory) → (told outcome ≡ Err wanted) ⊎ FailsPart (told outcome)
        by (inl (e, cause_is, is_bad)) = absurd (not_both all path config e configures is_bad)
        by (inr (inl source)) = absurd (definite (inl (same ∙ ap AsBuild source)))
        by (inr (inr memory)) = absurd (definite (inr (inr (same ∙ ap AsBuild memory))))
    came_part comes wanted definite (inr (other, error, same, has, refused)) =
        let mine : making.IsRefused all config octants error = subst (λ (c : Config). making.IsRefused all c octants error) (one_config all path other config has configures) refused in
        ⊎_elim (λ is. inl (ap told is ∙ ap (λ (x : PartRefusal). Err x) (sym same))) (λ fails. inr (fails_told outcome fails))
        (comes error (record {
          no_source = λ is. definite (inl (same ∙ ap of_part is));
          no_store = λ is. definite (inr (inl (same ∙ ap of_part is)));
          no_memory = λ is. definite (inr (inr (same ∙ ap of_part is)));
        }) mine)

    ok_told : (o : Result PartDone PartError) → IsOk o → IsOk (told o)
    ok_told (Ok done) is = is
    ok_told (Err e) is = absurd cc

    accepted_part : (making.IsAccepted all config octants → IsOk outcome ⊎ making.Fails outcome) → IsPartAcceptedAt all path octants → IsOk (told outcome) ⊎ FailsPart (told outcome)
    accepted_part accepts asked =
        let mine : making.IsAccepted all config octants = subst (λ (c : Config). making.IsAccepted all c octants) (one_config all path asked.config config asked.configures configures) asked.accepted in
        ⊎_elim (λ is. inl (ok_told outcome is)) (λ fails. inr (fails_told outcome fails)) (accepts mine)

module _ (path : List ℕ) (octants : ℕ) (new : Option Files) (settled same source store : Type 0) where
  -- a part whose configuration can't be read
  pub unread : (files : Option Files) (r : Refusal) → IsOfConfiguration r → Tells (λ all. ConfigurationIsRefused all path r) files → same → (r ≡ SourceFault → source) → ComesToPart path octants (Err (AsBuild r)) files new settled same source store
  unread files r of refused unchanged cause = record {
    made = tt;
    settled = tt;
    refused = told_as (λ all. ConfigurationIsRefused all path r) (λ all. PartIsRefused all path octants (AsBuild r)) files (λ all is. inl (r, refl, is)) refused;
    comes = told_as (λ all. ConfigurationIsRefused all path r) (λ all. (wanted : PartRefusal) → ¬ IsPartFault wanted → PartIsRefused all path octants wanted → (◌≡◌ {A = Outcome} (Err (AsBuild r)) (Err wanted)) ⊎ FailsPart (Err (AsBuild r))) files
        (λ all is. came_unread all path octants r is) refused;
    accepted = told_as (λ all. ConfigurationIsRefused all path r) (λ all. IsPartAcceptedAt all path octants → WasMade (Err (AsBuild r)) ⊎ FailsPart (Err (AsBuild r))) files
        (λ all is. accepted_unread all path octants r is) refused;
    early = λ no_store no_memory. unchanged;
    sources = λ is. cause (inside_build r SourceFault (err_inside (AsBuild r) (AsBuild SourceFault) is));
    stores = λ is. absurd (subst IsOfConfiguration (inside_build r StoreFault (err_inside (AsBuild r) (AsBuild StoreFault) is)) of);
  }

  -- one that is out of memory
  pub lacking : (files : Option Files) → ComesToPart path octants (Err (AsBuild Memory)) files new settled same source store
  lacking files = record {
    made = tt;
    settled = tt;
    refused = told_always (λ all. PartIsRefused all path octants (AsBuild Memory)) files (λ all. inl (Memory, refl, tt));
    comes = told_always (λ all. (wanted : PartRefusal) → ¬ IsPartFault wanted → PartIsRefused all path octants wanted → (◌≡◌ {A = Outcome} (Err (AsBuild Memory)) (Err wanted)) ⊎ FailsPart (Err (AsBuild Memory))) files
        (λ all wanted definite why. inr (AsBuild Memory, refl, inr (inr refl)));
    accepted = told_always (λ all. IsPartAcceptedAt all path octants → WasMade (Err (AsBuild Memory)) ⊎ FailsPart (Err (AsBuild Memory))) files
        (λ all asked. inr (AsBuild Memory, refl, inr (inr refl)));
    early = λ no_store no_memory. absurd (no_memory refl);
    sources = λ is. absurd (not_source (inside_build Memory SourceFault (err_inside (AsBuild Memory) (AsBuild SourceFault) is)));
    stores = λ is. absurd (not_store (inside_build Memory StoreFault (err_inside (AsBuild Memory) (AsBuild StoreFault) is)));
  }
    where
      not_source : ◌≡◌ {A = Refusal} Memory SourceFault → ⊥
      not_source is = cc

      not_store : ◌≡◌ {A = Refusal} Memory StoreFault → ⊥
      not_store is = cc

  -- one whose configuration is read
  module _ (files : Option Files) (config : Config) (configures : Tells (λ all. HasConfiguration all path config) files) where
    made_told : (outcome : Result PartDone PartError) → IfOk outcome (λ done. (all : Files) → files ≡ Some all → Tells (making.IsMade all config octants done) new) → IfOk (told outcome) (λ done. Tells (λ all. IsPartMadeAt all path octants done new) files)
    made_told (Err e) made = tt
    made_told (Ok done) made = by files configures made
      where
        by : (o : Option Files) → Tells (λ all. HasConfiguration all path config) o → ((all : Files) → o ≡ Some all → Tells (making.IsMade all config octants done) new) → Tells (λ all. IsPartMadeAt all path octants done new) o
        by None has of = tt
        by (Some all) has of = record { config = config; configures = has; made = of all refl }

    settled_told : (outcome : Result PartDone PartError) → OnOk outcome settled → OnOk (told outcome) settled
    settled_told (Ok done) is = is
    settled_told (Err e) is = tt

    refused_told : (outcome : Result PartDone PartError) → IfErr outcome (λ e. Tells (λ all. making.IsRefused all config octants e) files) → IfErr (told outcome) (λ r. Tells (λ all. PartIsRefused all path octants r) files)
    refused_told (Ok done) refused = tt
    refused_told (Err e) refused =
        tells_both (λ all. HasConfiguration all path config) (λ all. making.IsRefused all config octants e) (λ all. PartIsRefused all path octants (of_part e)) files
        (λ all has is. inr (config, e, refl, has, is)) configures refused

    early_told : (outcome : Result PartDone PartError) → IfErr outcome (λ e. e ≢ part.StoreFault → e ≢ part.Memory → same) → IfErr (told outcome) (λ r. r ≢ AsBuild StoreFault → r ≢ AsBuild Memory → same)
    early_told (Ok done) early = tt
    early_told (Err e) early = λ no_store no_memory. early (λ is. no_store (ap of_part is)) (λ is. no_memory (ap of_part is))

    sources_told : (outcome : Result PartDone PartError) → (outcome ≡ Err part.SourceFault → source) → told outcome ≡ Err (AsBuild SourceFault) → source
    sources_told (Ok done) rose is = absurd (ok_is_no_err done (AsBuild SourceFault) is)
    sources_told (Err e) rose is = rose (ap Err (source_only e (err_inside (of_part e) (AsBuild SourceFault) is)))

    stores_told : (outcome : Result PartDone PartError) → (outcome ≡ Err part.StoreFault → store) → told outcome ≡ Err (AsBuild StoreFault) → store
    stores_told (Ok done) rose is = absurd (ok_is_no_err done (AsBuild StoreFault) is)
    stores_told (Err e) rose is = rose (ap Err (store_only e (err_inside (of_part e) (AsBuild StoreFault) is)))

    pub carried_out : (outcome : Result PartDone PartError)
        → IfOk outcome (λ done. (all : Files) → files ≡ Some all → Tells (making.IsMade all config octants done) new)
        → OnOk outcome settled
        → IfErr outcome (λ e. Tells (λ all. making.IsRefused all config octants e) files)
        → Tells (λ all. (e : PartError) → making.IsDefinite e → making.IsRefused all config octants e → (outcome ≡ Err e) ⊎ making.Fails outcome) files
        → Tells (λ all. making.IsAccepted all config octants → IsOk outcome ⊎ making.Fails outcome) files
        → IfErr outcome (λ e. e ≢ part.StoreFault → e ≢ part.Memory → same)
        → (outcome ≡ Err part.SourceFault → source) → (outcome ≡ Err part.StoreFault → store)
        → ComesToPart path octants (told outcome) files new settled same source store
    carried_out outcome made is_settled refused comes accepted early sources stores = record {
      made = made_told outcome made;
      settled = settled_told outcome is_settled;
      refused = refused_told outcome refused;
      comes = tells_both (λ all. HasConfiguration all path config) (λ all. (e : PartError) → making.IsDefinite e → making.IsRefused all config octants e → (outcome ≡ Err e) ⊎ making.Fails outcome)
          (λ all. (wanted : PartRefusal) → ¬ IsPartFault wanted → PartIsRefused all path octants wanted → (told outcome ≡ Err wanted) ⊎ FailsPart (told outcome)) files
          (λ all has of. came_part all path octants config has outcome of) configures comes;
      accepted = tells_both (λ all. HasConfiguration all path config) (λ all. making.IsAccepted all config octants → IsOk outcome ⊎ making.Fails outcome)
          (λ all. IsPartAcceptedAt all path octants → IsOk (told outcome) ⊎ FailsPart (told outcome)) files
          (λ all has of. accepted_part all path octants config has outcome of) configures accepted;
      early = early_told outcome early;
      sources = sources_told outcome sources;
      stores = stores_told outcome stores;
    }

-- ---- how it ends

pub part_ends : (path : List ℕ) (octants status : ℕ) (why_not : Option Failure) (files new : Option Files) (settled same : Type 0) (said_old said_new : Option (List ℕ)) (source store out : Type 0) (outcome : Outcome)
    → ComesToPart path octants outcome files new settled same source store
    → IsPartReported outcome status why_not said_old said_new out ⊎ IsPartReported (Err (AsBuild Memory)) status why_not said_old said_new out
    → (ends : EndsPart path octants status files new settled same said_old said_new source store out) × FailsAsPart ends.outcome why_not
part_ends path octants status why_not files new settled same said_old said_new source store out outcome comes (inl reported) =
    (record { outcome = outcome; says = reported.says; comes_to = comes }, reported.fails)
part_ends path octants status why_not files new settled same said_old said_new source store out outcome comes (inr reported) =
    (record { outcome = Err (AsBuild Memory); says = reported.says; comes_to = lacking path octants new settled same source store files }, reported.fails)

-- the same of words that ask for the same part
pub ends_same : (path other : List ℕ) (octants mask status : ℕ) (why_not : Option Failure) (files new : Option Files) (settled same : Type 0) (said_old said_new : Option (List ℕ)) (source store out : Type 0) → path ≡ other → octants ≡ mask
    → ((ends : EndsPart path octants status files new settled same said_old said_new source store out) × FailsAsPart ends.outcome why_not)
    → (ends : EndsPart other mask status files new settled same said_old said_new source store out) × FailsAsPart ends.outcome why_not
ends_same path other octants mask status why_not files new settled same said_old said_new source store out same_path same_octants ends =
    subst (λ (p : List ℕ). (ends : EndsPart p mask status files new settled same said_old said_new source store out) × FailsAsPart ends.outcome why_not) same_path
    (subst (λ (o : ℕ). (ends : EndsPart path o status files new settled same said_old said_new source store out) × FailsAsPart ends.outcome why_not) same_octants ends)

module _ (status : ℕ) (old new : Option (List ℕ)) (failed : Type 0) where
  pub said_not : (n : ℕ) → n ≢ 0 → n ≢ 7 → (line : List ℕ) → IsSaid line status old new failed → status ≢ n
  said_not n not_0 not_7 line (inl done) is = not_0 (sym is ∙ done.0)
  said_not n not_0 not_7 line (inr cut) is = not_7 (sym is ∙ cut.0)

  pub part_not_usage : (outcome : Outcome) → IfErr outcome (λ r. r ≢ AsBuild Usage) → SaysPart outcome status old new failed → status ≢ 2
  part_not_usage (Ok done) named says = said_not 2 (omega arith) (omega arith) (summary_text done.points done.nodes) says
  part_not_usage (Err (AsBuild r)) named says = λ is. named (ap AsBuild (usage_only r (sym says.0 ∙ is)))
  part_not_usage (Err Shallow) named says = λ is. omega (arith, says.0, is)

  pub part_configured : (outcome : Outcome) → SaysPart outcome status old new failed → status ≡ 3 → (e : ConfigError) × (outcome ≡ Err (AsBuild (BadConfiguration e)))
  part_configured (Ok done) says is = absurd (said_not 3 (omega arith) (omega arith) (summary_text done.points done.nodes) says is)
  part_configured (Err (AsBuild r)) says is = let bad = configuration_only r (sym says.0 ∙ is) in (bad.0, ap (λ (x : Refusal). Err (AsBuild x)) bad.1)
  part_configured (Err Shallow) says is = absurd (omega (arith, says.0, is))

  module _ (path : List ℕ) (octants : ℕ) (files after : Option Files) (settled same source store : Type 0) where
    pub part_rose : (outcome : Outcome) → ComesToPart path octants outcome files after settled same source store → SaysPart outcome status old new failed → IfErr outcome (λ r. r ≢ AsBuild SpillFault) → status ≡ 7 → source ⊎ store ⊎ failed
    part_rose (Ok done) comes (inl ok) no_spill is = absurd (omega (arith, ok.0, is))
    part_rose (Ok done) comes (inr cut) no_spill is = inr (inr cut.1)
    part_rose (Err (AsBuild cause)) comes says no_spill is = by (device_only cause (sym says.0 ∙ is))
      where
        by : (cause ≡ SourceFault) ⊎ (cause ≡ StoreFault) ⊎ (cause ≡ SpillFault) → source ⊎ store ⊎ failed
        by (inl is_source) = inl (comes.sources (ap (λ (x : Refusal). Err (AsBuild x)) is_source))
        by (inr (inl is_store)) = inr (inl (comes.stores (ap (λ (x : Refusal). Err (AsBuild x)) is_store)))
        by (inr (inr is_spill)) = absurd (no_spill (ap AsBuild is_spill))
    part_rose (Err Shallow) comes says no_spill is = absurd (omega (arith, says.0, is))

  -- a part that is accepted is made, or a device fails, or memory runs out
  pub part_yields : (outcome : Outcome) → IsOk outcome ⊎ FailsPart outcome → SaysPart outcome status old new failed → Yields 0 status
  part_yields (Ok done) came (inl ok) = inl ok.0
  part_yields (Ok done) came (inr cut) = inr (inl cut.0)
  part_yields (Err r) (inl ok) says = absurd cc
  part_yields (Err r) (inr (wanted, is, fault)) says = by fault
    where
      same : r ≡ wanted
      same = err_inside r wanted is

      by : IsPartFault wanted → Yields 0 status
      by (inl source) = inr (inl (says.0 ∙ ap part_status (same ∙ source)))
      by (inr (inl store)) = inr (inl (says.0 ∙ ap part_status (same ∙ store)))
      by (inr (inr memory)) = inr (inr (says.0 ∙ ap part_status (same ∙ memory)))

-- ---- how it is reported

module _ (status : ℕ) (why_not : Option Failure) (old new : Option (List ℕ)) (failed : Type 0) where
  pub fails_at : (n : ℕ) (f : Failure) → status ≡ n → n ≢ 0 → why_not ≡ Some f → (status ≡ 0) ↔ (why_not ≡ None)
  fails_at n f is not fails = (λ zero_is. absurd (not (sym is ∙ zero_is)), λ none. absurd (some_or_none f why_not fails none))

  pub made_reported : (done : PartDone) (line : Vec ℕ Global) → line.items ≡ summary_text done.points done.nodes → IsSaidFor line status why_not old new failed → IsPartReported (Ok done) status why_not old new failed
  made_reported done line same (inl ok) = record {
    says = inl (ok.0, subst (λ (text : List ℕ). Appends old new text) same ok.2);
    fails = inl ok.1;
    unless_done = (λ is. ok.1, λ none. ok.0);
  }
  made_reported done line same (inr cut) = record {
    says = inr (cut.0, cut.2, subst (λ (text : List ℕ). AppendsPrefix old new text) same cut.3);
    fails = inr (line, cut.1, same);
    unless_done = fails_at 7 (failure.LineNotWritten line) cut.0 (omega arith) cut.1;
  }

  -- a refusal that a build may have too
  pub refusal_reported : (r : Refusal) → IsReported r status why_not old new failed
      → IsPartReported (Err (AsBuild r)) status why_not old new failed ⊎ IsPartReported (Err (AsBuild Memory)) status why_not old new failed
  refusal_reported r reports = ⊎_elim (λ is. inl (by r is)) (λ is. inr (by Memory is)) reports.0.told_is
    where
      by : (x : Refusal) → reports.0.told ≡ x → IsPartReported (Err (AsBuild x)) status why_not old new failed
      by x is = record {
        says = (sym reports.0.status_is ∙ ap status_of is, subst (λ (y : Refusal). Says (line_of y) old new failed) is reports.0.says);
        fails = reports.1 ∙ ap (λ (y : Refusal). Some (failure.Refused y)) is;
        unless_done = fails_at (status_of reports.0.told) (failure.Refused reports.0.told) (sym reports.0.status_is) (never_done reports.0.told) reports.1;
      }

  -- out of memory, for which the same line is written
  pub memory_reported : status ≡ 9 → why_not ≡ Some (failure.Refused Memory) → Says (line_of Memory) old new failed → IsPartReported (Err (AsBuild Memory)) status why_not old new failed
  memory_reported is fails says = record { says = (is, says); fails = fails; unless_done = fails_at 9 (failure.Refused Memory) is (omega arith) fails }

-- ---- the build next to it

module _ {D : Type 0} (files : D → Option Files) (may_leave : D → Files → Type 0) (moment : D → ℕ) (image_since : D → ℕ → Files → Type 0) where
  -- files that are sound stay so whatever a part does, at each moment
  pub build_beside : SameIsSound → BesideKeepsSound → PartLeavesBuild → (octants : ℕ) (all start : Files) (old new : D) → files old ≡ Some start → IsSettled (files old) (may_leave old) → IsSound all start
      → Moves files may_leave moment image_since (ChangesPart octants) old new → Moves files may_leave moment image_since (λ (a b : Files). IsSound all b) old new
  build_beside same beside leaves octants all start old new told settled sound moved = record {
    reads = subst (λ (o : Option Files). StepsBy (λ (a b : Files). IsSound all b) o (files new)) (sym told) (reads (files new) (subst (λ (o : Option Files). StepsBy (ChangesPart octants) o (files new)) told moved.reads));
    leaves = λ image now. let was = moved.leaves image now in (was.0, was.1, sound_beside was.0 image (earlier_sound was.0 was.1) was.2);
    later = moved.later;
    moments = λ t image le since. ⊎_elim (λ past. inl past) (λ (was : (earlier : Files) × may_leave old earlier × ChangesPart octants earlier image). inr (was.0, was.1, sound_beside was.0 image (earlier_sound was.0 was.1) was.2)) (moved.moments t image le since);
  }
    where
      sound_beside : (a b : Files) → IsSound all a → ChangesPart octants a b → IsSound all b
      sound_beside a b is changes = beside all a b (leaves octants a b changes) is

      earlier_sound : (image : Files) → may_leave old image → IsSound all image
      earlier_sound image now = same all start image (settled_some (files old) (may_leave old) start told settled image now) sound

      reads : (o : Option Files) → StepsBy (ChangesPart octants) (Some start) o → StepsBy (λ (a b : Files). IsSound all b) (Some start) o
      reads None goes = goes
      reads (Some after) changes = sound_beside start after sound changes

-- ---- what can be done

-- for words that ask for this part
pub part_comes : (words : List (List ℕ)) (path out : List ℕ) (octants : ℕ) → IsPart words path out octants → MembersMakeTheSet → (files new : Option Files) (settled same : Type 0) (status : ℕ) (said_old said_new : Option (List ℕ)) (source store sink : Type 0)
    → EndsPart path octants status files new settled same said_old said_new source store sink
    → (all : Files) → files ≡ Some all → AsksPart words (λ p o. IsPartAcceptedAt all p o) → Yields 0 status
part_comes words path out octants is once files new settled same status said_old said_new source store sink ends all told asks =
    let one = part_once once words asks.path asks.out path out asks.octants octants asks.words_are is in
    let mine : IsPartAcceptedAt all path octants = subst (λ (p : List ℕ). IsPartAcceptedAt all p octants) one.0 (subst (λ (o : ℕ). IsPartAcceptedAt all asks.path o) one.1 asks.holds) in
    let accepts : IsPartAcceptedAt all path octants → IsOk ends.outcome ⊎ FailsPart ends.outcome = subst (λ (o : Option Files). Tells (λ a. IsPartAcceptedAt a path octants → IsOk ends.outcome ⊎ FailsPart ends.outcome) o) told ends.comes_to.accepted in
    part_yields status said_old said_new sink ends.outcome (accepts mine) ends.says

-- ---- of the shelf as it was

-- the shelf has the same files when the part begins as before its configuration was read
pub carried_from : (path : List ℕ) (octants : ℕ) (new : Option Files) (settled same source store : Type 0) (files later : Option Files) → later ≡ files → (config : Config) → Tells (λ all. HasConfiguration all path config) files → (outcome : Result PartDone PartError)
    → IfOk outcome (λ done. (all : Files) → later ≡ Some all → Tells (making.IsMade all config octants done) new)
    → OnOk outcome settled
    → IfErr outcome (λ e. Tells (λ all. making.IsRefused all config octants e) later)
    → Tells (λ all. (e : PartError) → making.IsDefinite e → making.IsRefused all config octants e → (outcome ≡ Err e) ⊎ making.Fails outcome) later
    → Tells (λ all. making.IsAccepted all config octants → IsOk outcome ⊎ making.Fails outcome) later
    → IfErr outcome (λ e. e ≢ part.StoreFault → e ≢ part.Memory → same)
    → (outcome ≡ Err part.SourceFault → source) → (outcome ≡ Err part.StoreFault → store)
    → ComesToPart path octants (told outcome) files new settled same source store
carried_from path octants new settled same source store files later are config configures outcome made is_settled refused comes accepted early sources stores =
    subst (λ (o : Option Files). ComesToPart path octants (told outcome) o new settled same source store) are
    (carried_out path octants new settled same source store later config (subst (λ (o : Option Files). Tells (λ all. HasConfiguration all path config) o) (sym are) configures) outcome made is_settled refused comes accepted early sources stores)

-- a count that rose in the second of two calls rose in both
pub rose_after : (a b c : ℕ) → a ≤ b → Rose b c → Rose a c
rose_after a b c later rose = omega (arith, later, rose)

-- ---- if nothing is put

module _ {D : Type 0} (files : D → Option Files) (may_leave : D → Files → Type 0) (moment : D → ℕ) (image_since : D → ℕ → Files → Type 0) (octants : ℕ) (d : D) where
  pub stays_folder : Moves files may_leave moment image_since (ChangesPart octants) d d
  stays_folder = moves_weaker files may_leave moment image_since SameFiles (ChangesPart octants) (λ a b same name not. same name) d d (stays files may_leave moment image_since d)

  pub stays_own : PartIsItsNames → (all start : Files) → files d ≡ Some start → IsSettled (files d) (may_leave d) → IsPartSound all start octants → Moves files may_leave moment image_since (λ (a b : Files). IsPartSound all b octants) d d
  stays_own own all start told settled sound = record {
    reads = subst (λ (o : Option Files). StepsBy (λ (a b : Files). IsPartSound all b octants) o o) (sym told) sound;
    leaves = λ image now. (image, now, own all start image octants (λ name of. settled_some (files d) (may_leave d) start told settled image now name) sound);
    later = omega arith;
    moments = λ t image le since. inl since;
  }

-- ---- what a report says

module _ (status : ℕ) (why_not : Option Failure) (old new : Option (List ℕ)) (failed : Type 0) where
  pub reported_not_usage : (outcome : Outcome) → IfErr outcome (λ r. (r ≢ AsBuild Usage) × (r ≢ AsBuild SpillFault)) → IsPartReported outcome status why_not old new failed ⊎ IsPartReported (Err (AsBuild Memory)) status why_not old new failed → status ≢ 2
  reported_not_usage (Ok done) named (inl reported) = part_not_usage status old new failed (Ok done) tt reported.says
  reported_not_usage (Err r) named (inl reported) = part_not_usage status old new failed (Err r) named.0 reported.says
  reported_not_usage outcome named (inr reported) = λ is. omega (arith, reported.says.0, is)

  pub reported_configured : (outcome : Outcome) → IsPartReported outcome status why_not old new failed ⊎ IsPartReported (Err (AsBuild Memory)) status why_not old new failed → status ≡ 3 → (e : ConfigError) × (outcome ≡ Err (AsBuild (BadConfiguration e)))
  reported_configured outcome (inl reported) is = part_configured status old new failed outcome reported.says is
  reported_configured outcome (inr reported) is = absurd (omega (arith, reported.says.0, is))

  pub reported_rose : (path : List ℕ) (octants : ℕ) (files after : Option Files) (settled same source store : Type 0) (outcome : Outcome) → IfErr outcome (λ r. (r ≢ AsBuild Usage) × (r ≢ AsBuild SpillFault)) → ComesToPart path octants outcome files after settled same source store
      → IsPartReported outcome status why_not old new failed ⊎ IsPartReported (Err (AsBuild Memory)) status why_not old new failed → status ≡ 7 → source ⊎ store ⊎ failed
  reported_rose path octants files after settled same source store (Ok done) named comes (inl reported) is = part_rose status old new failed path octants files after settled same source store (Ok done) comes reported.says tt is
  reported_rose path octants files after settled same source store (Err r) named comes (inl reported) is = part_rose status old new failed path octants files after settled same source store (Err r) comes reported.says named.1 is
  reported_rose path octants files after settled same source store outcome named comes (inr reported) is = absurd (omega (arith, reported.says.0, is))
