-- A build is refused for what its configuration, or its inputs, are refused for.
use Rattle.std.proofs.Common.{◌≡◌, ◌⊎◌, inl, inr, ⊎_elim, ℕ, List, Option, Some, None, Ok, Err, refl, sym, ◌∙◌, ap, subst, arith}
use Rattle.std.specs.Prelude.{Result, IsOk, IsErrAnd, IfOk, IfErr, Vec}
use Rattle.std.specs.declared.alloc.Global.{Global}
use Rattle.ept_base.specs.Files.{Files, SameFiles, StepsBy, Tells}
use Rattle.ept_base.specs.Moves.{Moves}
use Rattle.ept_space.specs.VoxelKey.{VoxelKey}
use Rattle.ept_meta.specs.declared.fields.Field.{Field}
use Rattle.ept_ckpt.specs.declared.letter.Letter.{Letter}
use Rattle.ept_save.specs.Opening.{IsBad}
use Rattle.ept_save.specs.Current.{Current, HasCurrent}
use Rattle.ept_save.specs.Sound.{IsSound}
use Rattle.ept_save.specs.SoundLaws.{SameIsSound}
use Rattle.ept_save.proofs.Standing.{settled_some}
use Rattle.ept_config.specs.declared.config.Config.{Config}
use Rattle.ept_config_text.specs.declared.config_error.ConfigError.{ConfigError}
use Rattle.ept_config_text.specs.Configuration.{reading}
use Rattle.ept_config.specs.Facts.{Facts, facts}
use Rattle.ept_build.specs.declared.error.BuildError.{BuildError}
use Rattle.ept_build.specs.declared.error.BuildError.TheVariants as build
use Rattle.ept_build.specs.declared.summary.Summary.{Summary}
use Rattle.ept_build.specs.Building as building
use Rattle.ept_build.specs.Errors.{of_scan}
use Rattle.ept_build.specs.Phases.{HasDamage}
use Rattle.ept_scan.specs.declared.scan_error.ScanError.{ScanError}
use Rattle.ept_scan.specs.declared.scan_error.ScanError.TheVariants as scan
use Rattle.ept_plan.specs.Plans as plans
use Rattle.ept_command.specs.declared.refusal.Refusal.{Refusal}
use Rattle.ept_command.specs.declared.refusal.Refusal.TheVariants.{Usage, BadConfiguration, BadLas, OutOfBounds, NoBounds, SourceChanged, TooManyPoints, TooManyNodes, Differs, BadCheckpoint, TileDamaged, SourceFault, StoreFault, SpillFault, SpillDamaged, Memory}
use Rattle.ept_run.specs.Errors.{of_build}
use Rattle.ept_command.specs.Configurations.{HasConfiguration, HasBadConfiguration, ConfigurationIsRefused, IsOfConfiguration}
use Rattle.ept_run.specs.Requests.{IsAcceptedAt, IsDoneAt, IsBuiltAt, Comes, ComesAt, DiffersAt, ComesToDamageAt, HasDifference, IsOfStore, IsConfigured, HasSpilled, TellsDifference, TellsDamage, BuildIsRefused, IsDefinite, IsEarly, Fails}
use Rattle.ept_config.proofs.FactsTell.{config_same}

-- a fact of a visible thing gives another
pub tells_as : {X : Type 0} (P Q : X → Type 0) (told : Option X) → ((x : X) → P x → Q x) → Tells P told → Tells Q told
tells_as P Q None step p = tt
tells_as P Q (Some x) step p = step x p

-- the refusal of a build as this program's
abbrev pub told_as : Result Summary BuildError → Result Summary Refusal
told_as (Ok summary) = Ok summary
told_as (Err error) = Err (of_build error)

-- no refusal of a build is that of a configuration
pub never_configured : (e : BuildError) (error : ConfigError) → of_build e ≡ BadConfiguration error → ⊥
never_configured build.StoreFault error is = cc
never_configured build.SpillFault error is = cc
never_configured (build.SpillDamaged kept found at) error is = cc
never_configured (build.BadCheckpoint letter) error is = cc
never_configured (build.TileDamaged key) error is = cc
never_configured (build.Differs field kept given) error is = cc
never_configured build.SourceFault error is = cc
never_configured (build.BadLas source fault) error is = cc
never_configured (build.OutOfBounds source number) error is = cc
never_configured (build.TooManyPoints source) error is = cc
never_configured build.NoBounds error is = cc
never_configured (build.SourceChanged source number) error is = cc
never_configured build.TooManyNodes error is = cc
never_configured build.Memory error is = cc

some_same : {X : Type 0} (o : Option X) (a b : X) → o ≡ Some a → o ≡ Some b → a ≡ b
some_same o a b left right = cc

ok_same : {A E : Type 0} (x y : A) → ◌≡◌ {A = Result A E} (Ok x) (Ok y) → x ≡ y
ok_same x y same = cc

err_same : {A E : Type 0} (x y : E) → ◌≡◌ {A = Result A E} (Err x) (Err y) → x ≡ y
err_same x y same = cc

differ : {A E : Type 0} (x : A) (y : E) → ◌≡◌ {A = Result A E} (Ok x) (Err y) → ⊥
differ x y same = cc

pub is_err : {A E : Type 0} (r : Result A E) (e : E) → IsErrAnd r (λ x. x ≡ e) → r ≡ Err e
is_err (Ok x) e h = absurd h
is_err (Err x) e h = ap Err h

-- a refusal that is passed on comes as it came
pub carried : {A B : Type 0} (a : Result A Refusal) (b : Result B Refusal) (e r : Refusal) → a ≡ Err e → b ≡ Err e → (a ≡ Err r) ⊎ Fails a → (b ≡ Err r) ⊎ Fails b
carried {A} a b e r is_a is_b (inl same) = inl (is_b ∙ ap Err (err_same {A = A} e r (sym is_a ∙ same)))
carried {A} a b e r is_a is_b (inr (inl fault)) = inr (inl (is_b ∙ ap Err (err_same {A = A} e SourceFault (sym is_a ∙ fault))))
carried {A} a b e r is_a is_b (inr (inr (inl fault))) = inr (inr (inl (is_b ∙ ap Err (err_same {A = A} e StoreFault (sym is_a ∙ fault)))))
carried {A} a b e r is_a is_b (inr (inr (inr (inl fault)))) = inr (inr (inr (inl (is_b ∙ ap Err (err_same {A = A} e SpillFault (sym is_a ∙ fault))))))
carried {A} a b e r is_a is_b (inr (inr (inr (inr lack)))) = inr (inr (inr (inr (is_b ∙ ap Err (err_same {A = A} e Memory (sym is_a ∙ lack))))))

pub carried_comes : {A B : Type 0} (files : Option Files) (Why : Files → Refusal → Type 0) (a : Result A Refusal) (b : Result B Refusal) (e : Refusal) → a ≡ Err e → IsErrAnd b (λ x. x ≡ e)
    → Tells (λ all. (r : Refusal) → IsDefinite r → Why all r → (a ≡ Err r) ⊎ Fails a) files → Tells (λ all. (r : Refusal) → IsDefinite r → Why all r → (b ≡ Err r) ⊎ Fails b) files
carried_comes None Why a b e is_a is_b comes = tt
carried_comes (Some all) Why a b e is_a is_b comes = λ r definite why. carried a b e r is_a (is_err b e is_b) (comes r definite why)

-- so does one of a command that is accepted
no_ok : {A : Type 0} (a : Result A Refusal) (e : Refusal) → a ≡ Err e → IsOk a → ⊥
no_ok (Ok x) e same ok = differ x e same
no_ok (Err x) e same ok = cc

pub carried_accepted : {A B : Type 0} (a : Result A Refusal) (b : Result B Refusal) (e : Refusal) → a ≡ Err e → IsErrAnd b (λ x. x ≡ e) → IsOk a ⊎ Fails a → IsOk b ⊎ Fails b
carried_accepted a b e is_a is_b (inl ok) = absurd (no_ok a e is_a ok)
carried_accepted {A} a b e is_a is_b (inr (inl fault)) = inr (inl (is_err b e is_b ∙ ap Err (err_same {A = A} e SourceFault (sym is_a ∙ fault))))
carried_accepted {A} a b e is_a is_b (inr (inr (inl fault))) = inr (inr (inl (is_err b e is_b ∙ ap Err (err_same {A = A} e StoreFault (sym is_a ∙ fault)))))
carried_accepted {A} a b e is_a is_b (inr (inr (inr (inl fault)))) = inr (inr (inr (inl (is_err b e is_b ∙ ap Err (err_same {A = A} e SpillFault (sym is_a ∙ fault))))))
carried_accepted {A} a b e is_a is_b (inr (inr (inr (inr lack)))) = inr (inr (inr (inr (is_err b e is_b ∙ ap Err (err_same {A = A} e Memory (sym is_a ∙ lack))))))

module _ (all : Files) (path : List ℕ) where
  one_reading : (a b : List ℕ) (x y : Result Facts ConfigError) → all path ≡ Some a → all path ≡ Some b → reading a ≡ x → reading b ≡ y → x ≡ y
  one_reading a b x y left right is_x is_y = sym is_x ∙ ap reading (some_same (all path) a b left right) ∙ is_y

  pub one_config : (a b : Config) → HasConfiguration all path a → HasConfiguration all path b → a ≡ b
  one_config a b is_a is_b =
      let same : ◌≡◌ {A = Result Facts ConfigError} (Ok (facts a)) (Ok (facts b)) = one_reading is_a.bytes is_b.bytes (Ok (facts a)) (Ok (facts b)) is_a.content is_b.content is_a.reads is_b.reads in
      config_same a b (ok_same {E = ConfigError} (facts a) (facts b) same)

  pub not_both : (a : Config) (e : ConfigError) → HasConfiguration all path a → HasBadConfiguration all path e → ⊥
  not_both a e is_a is_e =
      differ (facts a) e (one_reading is_a.bytes is_e.bytes (Ok (facts a)) (Err e) is_a.content is_e.content is_a.reads is_e.refused)

  pub one_error : (e f : ConfigError) → HasBadConfiguration all path e → HasBadConfiguration all path f → e ≡ f
  one_error e f is_e is_f =
      err_same {A = Facts} e f (one_reading is_e.bytes is_f.bytes (Err e) (Err f) is_e.content is_f.content is_e.refused is_f.refused)

  -- ---- the configuration is refused

  -- one that is refused is refused for this cause alone
  came_bad : {A : Type 0} (e : ConfigError) (r : Refusal) → HasBadConfiguration all path e → IsDefinite r → ConfigurationIsRefused all path r
      → (◌≡◌ {A = Result A Refusal} (Err (BadConfiguration e)) (Err r)) ⊎ Fails {A = A} (Err (BadConfiguration e))
  came_bad e (BadConfiguration f) bad definite why = inl (ap (λ x. Err (BadConfiguration x)) (one_error e f bad why))
  came_bad e Usage bad definite why = absurd why
  came_bad e (BadLas source fault) bad definite why = absurd why
  came_bad e (OutOfBounds source number) bad definite why = absurd why
  came_bad e NoBounds bad definite why = absurd why
  came_bad e (SourceChanged source number) bad definite why = absurd why
  came_bad e (TooManyPoints source) bad definite why = absurd why
  came_bad e TooManyNodes bad definite why = absurd why
  came_bad e (Differs field) bad definite why = absurd why
  came_bad e (BadCheckpoint letter) bad definite why = absurd why
  came_bad e (TileDamaged key) bad definite why = absurd why
  came_bad e SourceFault bad definite why = absurd (definite (inl refl))
  came_bad e StoreFault bad definite why = absurd why
  came_bad e SpillFault bad definite why = absurd why
  came_bad e SpillDamaged bad definite why = absurd why
  came_bad e Memory bad definite why = absurd (definite (inr (inr (inr refl))))

  pub came_before : {A : Type 0} (e r : Refusal) → ConfigurationIsRefused all path e → IsDefinite r → ConfigurationIsRefused all path r
      → (◌≡◌ {A = Result A Refusal} (Err e) (Err r)) ⊎ Fails {A = A} (Err e)
  came_before (BadConfiguration e) r is definite why = came_bad e r is definite why
  came_before SourceFault r is definite why = inr (inl refl)
  came_before Memory r is definite why = inr (inr (inr (inr refl)))
  came_before Usage r is definite why = absurd is
  came_before (BadLas source fault) r is definite why = absurd is
  came_before (OutOfBounds source number) r is definite why = absurd is
  came_before NoBounds r is definite why = absurd is
  came_before (SourceChanged source number) r is definite why = absurd is
  came_before (TooManyPoints source) r is definite why = absurd is
  came_before TooManyNodes r is definite why = absurd is
  came_before (Differs field) r is definite why = absurd is
  came_before (BadCheckpoint letter) r is definite why = absurd is
  came_before (TileDamaged key) r is definite why = absurd is
  came_before StoreFault r is definite why = absurd is
  came_before SpillFault r is definite why = absurd is
  came_before SpillDamaged r is definite why = absurd is

  -- why a configuration is refused is why its build is
  pub refused_before : (Begins : Files → Files → Type 0) (e : Refusal) → ConfigurationIsRefused all path e → BuildIsRefused all Begins path e
  refused_before Begins (BadConfiguration e) is = is
  refused_before Begins SourceFault is = tt
  refused_before Begins Memory is = tt
  refused_before Begins Usage is = absurd is
  refused_before Begins (BadLas source fault) is = absurd is
  refused_before Begins (OutOfBounds source number) is = absurd is
  refused_before Begins NoBounds is = absurd is
  refused_before Begins (SourceChanged source number) is = absurd is
  refused_before Begins (TooManyPoints source) is = absurd is
  refused_before Begins TooManyNodes is = absurd is
  refused_before Begins (Differs field) is = absurd is
  refused_before Begins (BadCheckpoint letter) is = absurd is
  refused_before Begins (TileDamaged key) is = absurd is
  refused_before Begins StoreFault is = absurd is
  refused_before Begins SpillFault is = absurd is
  refused_before Begins SpillDamaged is = absurd is

  -- ---- the configuration is read, and its build returns

  module _ (config : Config) (configures : HasConfiguration all path config) where
    -- then it is not refused
    pub not_refused : (r : Refusal) → IsDefinite r → ConfigurationIsRefused all path r → ⊥
    not_refused (BadConfiguration e) definite why = not_both config e configures why
    not_refused Usage definite why = why
    not_refused (BadLas source fault) definite why = why
    not_refused (OutOfBounds source number) definite why = why
    not_refused NoBounds definite why = why
    not_refused (SourceChanged source number) definite why = why
    not_refused (TooManyPoints source) definite why = why
    not_refused TooManyNodes definite why = why
    not_refused (Differs field) definite why = why
    not_refused (BadCheckpoint letter) definite why = why
    not_refused (TileDamaged key) definite why = why
    not_refused SourceFault definite why = definite (inl refl)
    not_refused StoreFault definite why = why
    not_refused SpillFault definite why = why
    not_refused SpillDamaged definite why = why
    not_refused Memory definite why = definite (inr (inr (inr refl)))

    module _ (Begins : Files → Files → Type 0) where
      -- why a build is refused is why the command is
      refused_as : (e : BuildError) → ((start : Files) → Begins all start → building.IsRefused all config start e) → BuildIsRefused all Begins path (of_build e)
      refused_as build.StoreFault is = tt
      refused_as build.SpillFault is = tt
      refused_as (build.SpillDamaged kept found at) is = (kept, found, at, (config, configures, is))
      refused_as build.SourceFault is = tt
      refused_as (build.BadCheckpoint letter) is = (config, configures, is)
      refused_as (build.TileDamaged key) is = (config, configures, is)
      refused_as (build.Differs field kept given) is = (kept, given, (config, configures, is))
      refused_as (build.BadLas source fault) is = (config, configures, is)
      refused_as (build.OutOfBounds source number) is = (config, configures, is)
      refused_as (build.TooManyPoints source) is = (config, configures, is)
      refused_as build.NoBounds is = (config, configures, is)
      refused_as (build.SourceChanged source number) is = (config, configures, is)
      refused_as build.TooManyNodes is = (config, configures, is)
      refused_as build.Memory is = tt

    done_as : (start : Files) → IsDoneAt all start path → building.IsDoneAlready config start
    done_as start asked = subst (λ (c : Config). building.IsDoneAlready c start) (one_config asked.config config asked.configures configures) asked.done

    module _ (answer : Result Summary BuildError) where
      fails_as : building.Fails answer → Fails (told_as answer)
      fails_as (inl is) = inr (inl (ap told_as is))
      fails_as (inr (inl is)) = inl (ap told_as is)
      fails_as (inr (inr (inl is))) = inr (inr (inl (ap told_as is)))
      fails_as (inr (inr (inr is))) = inr (inr (inr (ap told_as is)))

      -- if a build returns Ok or a fault, so does the command
      passed_on : IsOk answer ⊎ building.Fails answer → IsOk (told_as answer) ⊎ Fails (told_as answer)
      passed_on came = ⊎_elim (λ is. inl (ok_as answer is)) (λ fails. inr (fails_as fails)) came
        where
          ok_as : (a : Result Summary BuildError) → IsOk a → IsOk (told_as a)
          ok_as (Ok summary) is = is
          ok_as (Err e) is = absurd cc

      accepted_after : (start : Files) → (building.IsAccepted all config start → IsOk answer ⊎ building.Fails answer)
          → IsAcceptedAt all start path → IsOk (told_as answer) ⊎ Fails (told_as answer)
      accepted_after start accepts asked =
          let mine : building.IsAccepted all config start = subst (λ (c : Config). building.IsAccepted all c start) (one_config asked.config config asked.configures configures) asked.accepted in
          passed_on (accepts mine)

-- ---- after which refusals nothing was put

pub early_as : (e : BuildError) → IsEarly (of_build e) → building.IsEarly e
early_as build.StoreFault early = early
early_as build.SpillFault early = early
early_as (build.SpillDamaged kept found at) early = early
early_as build.SourceFault early = early
early_as (build.BadCheckpoint letter) early = tt
early_as (build.TileDamaged key) early = early
early_as (build.Differs field kept given) early = tt
early_as (build.BadLas source fault) early = tt
early_as (build.OutOfBounds source number) early = tt
early_as (build.TooManyPoints source) early = tt
early_as build.NoBounds early = tt
early_as (build.SourceChanged source number) early = early
early_as build.TooManyNodes early = early
early_as build.Memory early = early

-- ---- what a refused configuration says of the store

pub unstored : (shelf old new : Option Files) (settled : Type 0) (path : List ℕ) (r : Refusal) → IsOfConfiguration r → IsOfStore shelf old new settled path r
unstored shelf old new settled path Usage of = tt
unstored shelf old new settled path (BadConfiguration e) of = tt
unstored shelf old new settled path (BadLas source fault) of = tt
unstored shelf old new settled path (OutOfBounds source number) of = tt
unstored shelf old new settled path NoBounds of = tt
unstored shelf old new settled path (SourceChanged source number) of = tt
unstored shelf old new settled path (TooManyPoints source) of = tt
unstored shelf old new settled path TooManyNodes of = tt
unstored shelf old new settled path (Differs field) of = absurd of
unstored shelf old new settled path (BadCheckpoint letter) of = absurd of
unstored shelf old new settled path (TileDamaged key) of = absurd of
unstored shelf old new settled path SourceFault of = tt
unstored shelf old new settled path StoreFault of = tt
unstored shelf old new settled path SpillFault of = tt
unstored shelf old new settled path SpillDamaged of = tt
unstored shelf old new settled path Memory of = tt

-- ---- the same of a shelf whose files may be visible

module _ {F : Type 0} (held : F → Option (List ℕ)) (shelf later : Option Files) (same : later ≡ shelf) (path : List ℕ) (config : Config) (configures : Tells (λ all. HasConfiguration all path config) shelf) (store : Option Files) (may : Files → Type 0) where
  -- what the build begins with is what the command does
  begins : (all start : Files) → building.BeginsWith held shelf store may all start → building.BeginsWith held later store may all start
  begins all start b = record { spills = b.spills; shelf_told = same ∙ b.shelf_told; told = b.told; settled = b.settled; sound = b.sound }

  -- a shelf with visible files has the configuration
  known : (all start : Files) → building.BeginsWith held shelf store may all start → HasConfiguration all path config
  known all start b = subst (λ (o : Option Files). Tells (λ all. HasConfiguration all path config) o) b.shelf_told configures

  module _ (answer : Result Summary BuildError) where
    pub build_refused : (e : BuildError) → answer ≡ Err e
        → ((all start : Files) → building.BeginsWith held later store may all start → IfErr answer (building.IsRefused all config start))
        → Tells (λ all. BuildIsRefused all (building.BeginsWith held shelf store may) path (of_build e)) shelf
    build_refused e is refused =
        tells_as (λ all. HasConfiguration all path config) (λ all. BuildIsRefused all (building.BeginsWith held shelf store may) path (of_build e)) shelf
        (λ all has. refused_as all path config has (building.BeginsWith held shelf store may) e (λ start b. subst (λ (a : Result Summary BuildError). IfErr a (building.IsRefused all config start)) is (refused all start (begins all start b)))) configures

    pub built_at : (summary : Summary) (new : Option Files) → answer ≡ Ok summary
        → ((all start : Files) → building.BeginsWith held later store may all start → IfOk answer (λ summary. Tells (building.IsBuilt all config start summary) new))
        → Tells (λ all. IsBuiltAt all (building.BeginsWith held shelf store may) path summary new) shelf
    built_at summary new is built =
        tells_as (λ all. HasConfiguration all path config) (λ all. IsBuiltAt all (building.BeginsWith held shelf store may) path summary new) shelf
        (λ all has. record {
          config = config;
          configures = has;
          built = λ start b. subst (λ (a : Result Summary BuildError). IfOk a (λ summary. Tells (building.IsBuilt all config start summary) new)) is (built all start (begins all start b));
        }) configures

    -- the room was asked to keep each node past those in memory
    pub spilled_at : (summary : Summary) (new : Option Files) (old_keeps new_keeps : ℕ) → answer ≡ Ok summary
        → ((all start : Files) → building.BeginsWith held later store may all start → IfOk answer (λ summary. Tells (building.IsBuilt all config start summary) new))
        → ((all start : Files) → building.BeginsWith held later store may all start → StepsBy (λ (a b : Files). building.IsUnderWay all config start b) store new)
        → ((start : Files) → store ≡ Some start → ¬ building.IsDoneAlready config start → IfOk answer (λ summary. building.HasKeptBut config.cache summary.nodes old_keeps new_keeps))
        → (all start : Files) → building.BeginsWith held shelf store may all start → HasSpilled all start old_keeps new_keeps path
    spilled_at summary new old_keeps new_keeps is built moves kept all start b = by new left reads
      where
        left : Tells (building.IsBuilt all config start summary) new
        left = subst (λ (a : Result Summary BuildError). IfOk a (λ summary. Tells (building.IsBuilt all config start summary) new)) is (built all start (begins all start b))

        reads : StepsBy (λ (a c : Files). building.IsUnderWay all config start c) (Some start) new
        reads = subst (λ (o : Option Files). StepsBy (λ (a c : Files). building.IsUnderWay all config start c) o new) b.told (moves all start (begins all start b))

        by : (o : Option Files) → Tells (building.IsBuilt all config start summary) o → StepsBy (λ (a c : Files). building.IsUnderWay all config start c) (Some start) o → HasSpilled all start old_keeps new_keeps path
        by None has goes = absurd goes
        by (Some files) has goes = record {
          config = config;
          configures = known all start b;
          current = has.current;
          has_current = has.has_current;
          kept = has.kept;
          points = has.points;
          has_points = has.has_points;
          spilled = λ left_to_do. subst (λ (n : ℕ). building.HasKeptBut config.cache n old_keeps new_keeps) has.nodes_are
              (subst (λ (a : Result Summary BuildError). IfOk a (λ summary. building.HasKeptBut config.cache summary.nodes old_keeps new_keeps)) is (kept start b.told left_to_do));
        }

    pub build_accepted : ((all start : Files) → building.BeginsWith held later store may all start → building.IsAccepted all config start → IsOk answer ⊎ building.Fails answer)
        → (all start : Files) → building.BeginsWith held shelf store may all start → IsAcceptedAt all start path → IsOk (told_as answer) ⊎ Fails (told_as answer)
    build_accepted accepts all start b asked = accepted_after all path config (known all start b) answer start (accepts all start (begins all start b)) asked

    -- so is one of a folder that is done already
    pub build_finished : ((all start : Files) → building.BeginsWith held later store may all start → building.IsDoneAlready config start → IsOk answer ⊎ building.Fails answer)
        → (all start : Files) → building.BeginsWith held shelf store may all start → IsDoneAt all start path → IsOk (told_as answer) ⊎ Fails (told_as answer)
    build_finished finishes all start b asked =
        passed_on all path config (known all start b) answer (finishes all start (begins all start b) (done_as all path config (known all start b) start asked))

  -- a configuration that is read is refused for nothing
  pub build_comes : {A : Type 0} (a : Result A Refusal) → Tells (λ all. (r : Refusal) → IsDefinite r → ConfigurationIsRefused all path r → (a ≡ Err r) ⊎ Fails a) shelf
  build_comes a =
      tells_as (λ all. HasConfiguration all path config) (λ all. (r : Refusal) → IsDefinite r → ConfigurationIsRefused all path r → (a ≡ Err r) ⊎ Fails a) shelf
      (λ all has r definite why. absurd (not_refused all path config has r definite why)) configures

  -- what holds of a build that begins with sound files holds of the command
  pub begun : {M : Files → Type 0} → ((all start : Files) → building.BeginsWith held later store may all start → M all) → (all start : Files) → building.BeginsWith held shelf store may all start → M all
  begun holds all start b = holds all start (begins all start b)

  pub begun_done : {M : Type 0} → ((all start : Files) → building.BeginsWith held later store may all start → building.IsDoneAlready config start → M)
      → (all start : Files) → building.BeginsWith held shelf store may all start → IsDoneAt all start path → M
  begun_done holds all start b asked = holds all start (begins all start b) (done_as all path config (known all start b) start asked)

  -- why a build comes to a refusal is why the command does
  module _ (answer : Result Summary BuildError) where
    pub came_to : ((all start : Files) → building.BeginsWith held later store may all start → (current : Current) (e : ScanError) → HasCurrent current start → plans.IsDefinite e → building.InputsAreRefused all config current e → (answer ≡ Err (of_scan e)) ⊎ building.Fails answer)
        → ((all start : Files) → building.BeginsWith held later store may all start → (current : Current) → HasCurrent current start → plans.GoesOn config current → ¬ building.IsDoneAlready config start → building.HasTooManyNodes all config current → (answer ≡ Err build.TooManyNodes) ⊎ building.Fails answer)
        → (all start : Files) → building.BeginsWith held shelf store may all start → (r : Refusal) → ComesAt all start r path → (told_as answer ≡ Err r) ⊎ Fails (told_as answer)
    came_to inputs many all start b r asked = by r (subst (λ (c : Config). Comes all c start asked.current r) (one_config all path asked.config config asked.configures (known all start b)) asked.because)
      where
        of : (e : BuildError) → (answer ≡ Err e) ⊎ building.Fails answer → (told_as answer ≡ Err (of_build e)) ⊎ Fails (told_as answer)
        of e came = ⊎_elim (λ is. inl (ap told_as is)) (λ fails. inr (fails_as all path config (known all start b) answer fails)) came

        by : (r : Refusal) → Comes all config start asked.current r → (told_as answer ≡ Err r) ⊎ Fails (told_as answer)
        by Usage why = absurd why
        by (BadConfiguration e) why = absurd why
        by (BadLas source fault) why = of (build.BadLas source fault) (inputs all start (begins all start b) asked.current (scan.BadLas source fault) asked.has_current (λ same. cc, λ same. cc) why)
        by (OutOfBounds source number) why = of (build.OutOfBounds source number) (inputs all start (begins all start b) asked.current (scan.OutOfBounds source number) asked.has_current (λ same. cc, λ same. cc) why)
        by NoBounds why = of build.NoBounds (inputs all start (begins all start b) asked.current scan.NoBounds asked.has_current (λ same. cc, λ same. cc) why)
        by (SourceChanged source number) why = absurd why
        by (TooManyPoints source) why = of (build.TooManyPoints source) (inputs all start (begins all start b) asked.current (scan.TooManyPoints source) asked.has_current (λ same. cc, λ same. cc) why)
        by TooManyNodes why = of build.TooManyNodes (many all start (begins all start b) asked.current asked.has_current why.0 why.1 why.2)
        by (Differs field) why = absurd why
        by (BadCheckpoint letter) why = absurd why
        by (TileDamaged key) why = absurd why
        by SourceFault why = absurd why
        by StoreFault why = absurd why
        by SpillFault why = absurd why
        by SpillDamaged why = absurd why
        by Memory why = absurd why

    -- what is asked of the configuration that the shelf has is asked of this one
    configured : (all : Files) → shelf ≡ Some all → HasConfiguration all path config
    configured all told = subst (λ (o : Option Files). Tells (λ all. HasConfiguration all path config) o) told configures

    pub differed_to : ((start : Files) (current : Current) → store ≡ Some start → HasCurrent current start → ¬ plans.GoesOn config current → building.TellsDifference answer ⊎ building.Fails answer)
        → (all start : Files) → shelf ≡ Some all → store ≡ Some start → DiffersAt all start path → TellsDifference (told_as answer) ⊎ Fails (told_as answer)
    differed_to differs all start told stored asked =
        let mine : ¬ plans.GoesOn config asked.current = subst (λ (c : Config). ¬ plans.GoesOn c asked.current) (one_config all path asked.config config asked.configures (configured all told)) asked.differs in
        ⊎_elim (λ (is : building.TellsDifference answer). inl (is.0, ap told_as is.3)) (λ fails. inr (fails_as all path config (configured all told) answer fails)) (differs start asked.current stored asked.has_current mine)

    pub damaged_to : ((all start : Files) (current : Current) → later ≡ Some all → store ≡ Some start → HasCurrent current start → building.ComesToDamage all config start current → building.TellsDamage answer ⊎ building.Fails answer)
        → (all start : Files) → shelf ≡ Some all → store ≡ Some start → ComesToDamageAt all start path → TellsDamage (told_as answer) ⊎ Fails (told_as answer)
    damaged_to damaged all start told stored asked =
        let mine : building.ComesToDamage all config start asked.current = subst (λ (c : Config). building.ComesToDamage all c start asked.current) (one_config all path asked.config config asked.configures (configured all told)) asked.comes in
        ⊎_elim (λ (is : building.TellsDamage answer). inl (is.0, ap told_as is.1)) (λ fails. inr (fails_as all path config (configured all told) answer fails)) (damaged all start asked.current (same ∙ told) stored asked.has_current mine)

    -- what its refusal says of the store
    pub stored_as : (new : Option Files) (settled : Type 0) (e : BuildError) → answer ≡ Err e
        → ((field : Field) (kept given : Vec ℕ Global) → answer ≡ Err (build.Differs field kept given) → (start : Files) (current : Current) → store ≡ Some start → HasCurrent current start → plans.DiffersBy config current (record { field = field; kept = kept; given = given }))
        → ((letter : Letter) → answer ≡ Err (build.BadCheckpoint letter) → Tells (λ start. IsBad start letter) store)
        → ((key : VoxelKey) → answer ≡ Err (build.TileDamaged key) → (start : Files) → store ≡ Some start → settled → (current : Current) × HasDamage current key new)
        → IsOfStore shelf store new settled path (of_build e)
    stored_as new settled (build.Differs field kept given) is differs bad damaged =
        tells_as (λ all. HasConfiguration all path config) (λ all. HasDifference all store path field) shelf
        (λ all has. record { config = config; configures = has; differs = λ start current stored current_is. (kept, given, differs field kept given is start current stored current_is) }) configures
    stored_as new settled (build.BadCheckpoint letter) is differs bad damaged = bad letter is
    stored_as new settled (build.TileDamaged key) is differs bad damaged = damaged key is
    stored_as new settled build.StoreFault is differs bad damaged = tt
    stored_as new settled build.SpillFault is differs bad damaged = tt
    stored_as new settled (build.SpillDamaged kept found at) is differs bad damaged = tt
    stored_as new settled build.SourceFault is differs bad damaged = tt
    stored_as new settled (build.BadLas source fault) is differs bad damaged = tt
    stored_as new settled (build.OutOfBounds source number) is differs bad damaged = tt
    stored_as new settled (build.TooManyPoints source) is differs bad damaged = tt
    stored_as new settled build.NoBounds is differs bad damaged = tt
    stored_as new settled (build.SourceChanged source number) is differs bad damaged = tt
    stored_as new settled build.TooManyNodes is differs bad damaged = tt
    stored_as new settled build.Memory is differs bad damaged = tt

    pub bad_to : ((letter : Letter) → (start : Files) → store ≡ Some start → IsBad start letter → (answer ≡ Err (build.BadCheckpoint letter)) ⊎ building.Fails answer)
        → (all start : Files) (letter : Letter) → shelf ≡ Some all → store ≡ Some start → IsBad start letter → IsConfigured all path → (told_as answer ≡ Err (BadCheckpoint letter)) ⊎ Fails (told_as answer)
    bad_to bad all start letter told stored is asked =
        ⊎_elim (λ is. inl (ap told_as is)) (λ fails. inr (fails_as all path config (configured all told) answer fails)) (bad letter start stored is)

-- ---- of a configuration that is refused

module _ (files : Option Files) (path : List ℕ) {A : Type 0} (answer : Result A Refusal) (e : Refusal) (is : answer ≡ Err e) (refused : Tells (λ all. ConfigurationIsRefused all path e) files) where
  refused_told : (all : Files) → files ≡ Some all → ConfigurationIsRefused all path e
  refused_told all told = subst (λ (o : Option Files). Tells (λ all. ConfigurationIsRefused all path e) o) told refused

  -- it is none, so it is refused because memory ran out or the shelf failed
  pub only_fails : (all : Files) (config : Config) → files ≡ Some all → HasConfiguration all path config → Fails answer
  only_fails all config told has = by e is (refused_told all told)
    where
      by : (r : Refusal) → answer ≡ Err r → ConfigurationIsRefused all path r → Fails answer
      by (BadConfiguration error) same why = absurd (not_both all path config error has why)
      by SourceFault same why = inl same
      by Memory same why = inr (inr (inr same))
      by Usage same why = absurd why
      by (BadLas source fault) same why = absurd why
      by (OutOfBounds source number) same why = absurd why
      by NoBounds same why = absurd why
      by (SourceChanged source number) same why = absurd why
      by (TooManyPoints source) same why = absurd why
      by TooManyNodes same why = absurd why
      by (Differs field) same why = absurd why
      by (BadCheckpoint letter) same why = absurd why
      by (TileDamaged key) same why = absurd why
      by StoreFault same why = absurd why
      by SpillFault same why = absurd why
      by SpillDamaged same why = absurd why

-- a difference that is passed on comes as it came
pub carried_difference : {A B : Type 0} (a : Result A Refusal) (b : Result B Refusal) (e : Refusal) → a ≡ Err e → IsErrAnd b (λ x. x ≡ e) → TellsDifference a ⊎ Fails a → TellsDifference b ⊎ Fails b
carried_difference {A} a b e is_a is_b (inl told) = inl (told.0, is_err b e is_b ∙ ap Err (err_same {A = A} e (Differs told.0) (sym is_a ∙ told.1)))
carried_difference {A} a b e is_a is_b (inr (inl fault)) = inr (inl (is_err b e is_b ∙ ap Err (err_same {A = A} e SourceFault (sym is_a ∙ fault))))
carried_difference {A} a b e is_a is_b (inr (inr (inl fault))) = inr (inr (inl (is_err b e is_b ∙ ap Err (err_same {A = A} e StoreFault (sym is_a ∙ fault)))))
carried_difference {A} a b e is_a is_b (inr (inr (inr (inl fault)))) = inr (inr (inr (inl (is_err b e is_b ∙ ap Err (err_same {A = A} e SpillFault (sym is_a ∙ fault))))))
carried_difference {A} a b e is_a is_b (inr (inr (inr (inr lack)))) = inr (inr (inr (inr (is_err b e is_b ∙ ap Err (err_same {A = A} e Memory (sym is_a ∙ lack))))))

pub carried_damage : {A B : Type 0} (a : Result A Refusal) (b : Result B Refusal) (e : Refusal) → a ≡ Err e → IsErrAnd b (λ x. x ≡ e) → TellsDamage a ⊎ Fails a → TellsDamage b ⊎ Fails b
carried_damage {A} a b e is_a is_b (inl told) = inl (told.0, is_err b e is_b ∙ ap Err (err_same {A = A} e (TileDamaged told.0) (sym is_a ∙ told.1)))
carried_damage {A} a b e is_a is_b (inr (inl fault)) = inr (inl (is_err b e is_b ∙ ap Err (err_same {A = A} e SourceFault (sym is_a ∙ fault))))
carried_damage {A} a b e is_a is_b (inr (inr (inl fault))) = inr (inr (inl (is_err b e is_b ∙ ap Err (err_same {A = A} e StoreFault (sym is_a ∙ fault)))))
carried_damage {A} a b e is_a is_b (inr (inr (inr (inl fault)))) = inr (inr (inr (inl (is_err b e is_b ∙ ap Err (err_same {A = A} e SpillFault (sym is_a ∙ fault))))))
carried_damage {A} a b e is_a is_b (inr (inr (inr (inr lack)))) = inr (inr (inr (inr (is_err b e is_b ∙ ap Err (err_same {A = A} e Memory (sym is_a ∙ lack))))))

pub carried_one : {A B : Type 0} (a : Result A Refusal) (b : Result B Refusal) (e r : Refusal) → a ≡ Err e → IsErrAnd b (λ x. x ≡ e) → (a ≡ Err r) ⊎ Fails a → (b ≡ Err r) ⊎ Fails b
carried_one a b e r is_a is_b came = carried a b e r is_a (is_err b e is_b) came

-- a result that is Ok is no fault
ok_fails : {A : Type 0} (a : Result A Refusal) (x : A) → a ≡ Ok x → Fails a → ⊥
ok_fails a x is (inl fault) = differ x SourceFault (sym is ∙ fault)
ok_fails a x is (inr (inl fault)) = differ x StoreFault (sym is ∙ fault)
ok_fails a x is (inr (inr (inl fault))) = differ x SpillFault (sym is ∙ fault)
ok_fails a x is (inr (inr (inr lack))) = differ x Memory (sym is ∙ lack)

pub ok_comes : {A : Type 0} (a : Result A Refusal) (x : A) (r : Refusal) → a ≡ Ok x → (a ≡ Err r) ⊎ Fails a → ⊥
ok_comes a x r is (inl refused) = differ x r (sym is ∙ refused)
ok_comes a x r is (inr fails) = ok_fails a x is fails

pub ok_differs : {A : Type 0} (a : Result A Refusal) (x : A) → a ≡ Ok x → TellsDifference a ⊎ Fails a → ⊥
ok_differs a x is (inl told) = differ x (Differs told.0) (sym is ∙ told.1)
ok_differs a x is (inr fails) = ok_fails a x is fails

pub ok_damaged : {A : Type 0} (a : Result A Refusal) (x : A) → a ≡ Ok x → TellsDamage a ⊎ Fails a → ⊥
ok_damaged a x is (inl told) = differ x (TileDamaged told.0) (sym is ∙ told.1)
ok_damaged a x is (inr fails) = ok_fails a x is fails

-- ---- a store that is left as it is

module _ {D : Type 0} (files : D → Option Files) (may_leave : D → Files → Type 0) (moment : D → ℕ) (image_since : D → ℕ → Files → Type 0) where
  pub stays : (d : D) → Moves files may_leave moment image_since SameFiles d d
  stays d = record {
    reads = same_reads (files d);
    leaves = λ image now. (image, now, λ name. refl);
    later = omega arith;
    moments = λ t image le since. inl since;
  }
    where
      same_reads : (o : Option Files) → StepsBy SameFiles o o
      same_reads None = tt
      same_reads (Some all) = λ name. refl

  pub stays_sound : SameIsSound → {F : Type 0} (held : F → Option (List ℕ)) (shelf : Option Files) (d : D) (all start : Files) → building.BeginsWith held shelf (files d) (may_leave d) all start → Moves files may_leave moment image_since (λ (a b : Files). IsSound all b) d d
  stays_sound same_sound held shelf d all start b = record {
    reads = subst (λ (o : Option Files). StepsBy (λ (a b : Files). IsSound all b) o o) (sym b.told) b.sound;
    leaves = λ image now. (image, now, same_sound all start image (settled_some (files d) (may_leave d) start b.told b.settled image now) b.sound);
    later = omega arith;
    moments = λ t image le since. inl since;
  }
