-- What a merge comes to, and how it ends.
use Rattle.std.proofs.Common.{◌≡◌, ◌≢◌, ◌⊎◌, inl, inr, ℕ, List, Option, None, Some, Ok, Err, refl, sym, ◌∙◌, ap, subst, arith}
use Rattle.std.specs.Prelude.{Vec, IsOk, IfOk, IfErr, OnOk, ⊤}
use Rattle.std.specs.Io.KnownBytes.{Appends}
use Rattle.std.specs.declared.alloc.Global.{Global}
use Rattle.ept_base.specs.Devices.{AppendsPrefix}
use Rattle.ept_base.specs.Files.{Files, StepsBy, Tells}
use Rattle.ept_base.specs.Moves.{Moves, IsSettled}
use Rattle.ept_base.proofs.Moving.{moves_both}
use Rattle.ept_config.specs.declared.config.Config.{Config}
use Rattle.ept_config_text.specs.declared.config_error.ConfigError.{ConfigError}
use Rattle.ept_save.specs.Sound.{IsSound}
use Rattle.ept_build.specs.declared.error.BuildError.{BuildError}
use Rattle.ept_build.specs.declared.error.BuildError.TheVariants as build
use Rattle.ept_build.specs.declared.summary.Summary.{Summary}
use Rattle.ept_build.specs.Building as building
use Rattle.ept_merge.specs.declared.error.MergeError.{MergeError}
use Rattle.ept_merge.specs.declared.error.MergeError.TheVariants as merge
use Rattle.ept_merge.specs.Errors.{IsOfTiles}
use Rattle.ept_merge.specs.Merging as merging
use Rattle.ept_command.specs.declared.ended.Failure.{Failure}
use Rattle.ept_command.specs.declared.ended.Failure.TheVariants as failure
use Rattle.ept_command.specs.declared.refusal.Refusal.{Refusal}
use Rattle.ept_command.specs.declared.refusal.Refusal.TheVariants.{Usage, BadConfiguration, BadLas, OutOfBounds, NoBounds, SourceChanged, TooManyPoints, TooManyNodes, Differs, BadCheckpoint, TileDamaged, SourceFault, StoreFault, SpillFault, SpillDamaged, Memory}
use Rattle.ept_command.specs.declared.refusal.PartRefusal.TheVariants.{AsBuild, Shallow}
use Rattle.ept_command.specs.declared.refusal.MergeRefusal.{MergeRefusal}
use Rattle.ept_command.specs.declared.refusal.MergeRefusal.TheVariants.{AsPart, HasCheckpoint, NoPart, PartDiffers, PartDamaged}
use Rattle.ept_command.specs.Words.{IsMerge}
use Rattle.ept_command.specs.Configurations.{HasConfiguration, ConfigurationIsRefused, IsOfConfiguration}
use Rattle.ept_command.proofs.PartTexts.{merge_once}
use Rattle.ept_class.specs.Laws.{MembersMakeTheSet}
use Rattle.ept_run.specs.Errors.{of_build}
use Rattle.ept_run.specs.Requests.{IsMergeReadyAt, IsDefinite}
use Rattle.ept_run.specs.Lines.{summary_text}
use Rattle.ept_run.specs.Answers.{Yields, AsksMerge, Says, IsSaidFor}
use Rattle.ept_run.specs.Merges.{Outcome, as_build, of_merge, merge_status, merge_line, FailsMerge, ReportsMerge, IsFaultOfParts, IsEarlyMerge, AfterMerge, IsMergedAt, MergeIsRefused, MergingIsRefusedAt, AreOwnAt, ComesToMerge, SaysMerge, merge_failure, FailsAsMerge, IsMergeReported, EndsMerge}
use Rattle.ept_run.proofs.Asked.{told_as, told_always}
use Rattle.ept_run.proofs.Parted.{tells_both, fails_at}
use Rattle.ept_run.proofs.Ready.{unread_fails, unread_cause, accepted_after, ready_sound}
use Rattle.ept_run.proofs.Refused.{one_config, not_refused}

-- ---- refusals

inside : (a b : Refusal) → as_build a ≡ as_build b → a ≡ b
inside a b same = cc

merge_inside : (a b : MergeRefusal) → ◌≡◌ {A = Outcome} (Err a) (Err b) → a ≡ b
merge_inside a b same = cc

is_ok : (summary : Summary) → IsOk {T = Summary} {E = MergeRefusal} (Ok summary)
is_ok summary = refl

ok_is_no_err : (summary : Summary) (r : MergeRefusal) → ◌≡◌ {A = Outcome} (Ok summary) (Err r) → ⊥
ok_is_no_err summary r same = cc

-- no refusal of merging is that of the words, of spill files or of a configuration
abbrev ForeignCause : Refusal → Type 0
ForeignCause Usage = ⊤
ForeignCause (BadConfiguration error) = ⊤
ForeignCause (BadLas source fault) = ⊥
ForeignCause (OutOfBounds source number) = ⊥
ForeignCause NoBounds = ⊥
ForeignCause (SourceChanged source number) = ⊥
ForeignCause (TooManyPoints source) = ⊥
ForeignCause TooManyNodes = ⊥
ForeignCause (Differs field) = ⊥
ForeignCause (BadCheckpoint letter) = ⊥
ForeignCause (TileDamaged key) = ⊥
ForeignCause SourceFault = ⊥
ForeignCause StoreFault = ⊥
ForeignCause SpillFault = ⊤
ForeignCause SpillDamaged = ⊥
ForeignCause Memory = ⊥

abbrev IsForeign : MergeRefusal → Type 0
IsForeign r = (r ≡ as_build Usage) ⊎ (r ≡ as_build SpillFault) ⊎ ((error : ConfigError) × (r ≡ as_build (BadConfiguration error)))

abbrev Foreign : MergeRefusal → Type 0
Foreign (AsPart (AsBuild r)) = ForeignCause r
Foreign (AsPart Shallow) = ⊥
Foreign HasCheckpoint = ⊥
Foreign (NoPart octants) = ⊥
Foreign (PartDiffers octants) = ⊥
Foreign (PartDamaged octants key) = ⊥

foreign_of : (r : MergeRefusal) → IsForeign r → Foreign r
foreign_of r (inl is) = subst Foreign (sym is) tt
foreign_of r (inr (inl is)) = subst Foreign (sym is) tt
foreign_of r (inr (inr (error, is))) = subst Foreign (sym is) tt

merge_foreign : (e : MergeError) → ¬ IsForeign (of_merge e)
merge_foreign e is = none e (foreign_of (of_merge e) is)
  where
    none : (e : MergeError) → Foreign (of_merge e) → ⊥
    none merge.StoreFault of = of
    none (merge.BadCheckpoint letter) of = of
    none (merge.HasCheckpoint generation) of = of
    none merge.SourceFault of = of
    none (merge.BadLas source fault) of = of
    none (merge.OutOfBounds source number) of = of
    none (merge.TooManyPoints source) of = of
    none merge.NoBounds of = of
    none merge.Shallow of = of
    none (merge.NoPart octants) of = of
    none (merge.PartDiffers octants) of = of
    none (merge.PartDamaged octants key) of = of
    none merge.TooManyNodes of = of
    none merge.Memory of = of

-- which of the refusals of merging are of the parts, and which are early
abbrev OfParts : MergeRefusal → Type 0
OfParts (AsPart r) = ⊥
OfParts HasCheckpoint = ⊥
OfParts (NoPart octants) = ⊥
OfParts (PartDiffers octants) = ⊤
OfParts (PartDamaged octants key) = ⊤

of_parts : (r : MergeRefusal) → IsFaultOfParts r → OfParts r
of_parts r (inl (octants, is)) = subst OfParts (sym is) tt
of_parts r (inr (octants, key, is)) = subst OfParts (sym is) tt

fault_of : (e : MergeError) → OfParts (of_merge e) → merging.IsPartFault e
fault_of merge.StoreFault of = absurd of
fault_of (merge.BadCheckpoint letter) of = absurd of
fault_of (merge.HasCheckpoint generation) of = absurd of
fault_of merge.SourceFault of = absurd of
fault_of (merge.BadLas source fault) of = absurd of
fault_of (merge.OutOfBounds source number) of = absurd of
fault_of (merge.TooManyPoints source) of = absurd of
fault_of merge.NoBounds of = absurd of
fault_of merge.Shallow of = absurd of
fault_of (merge.NoPart octants) of = absurd of
fault_of (merge.PartDiffers octants) of = inl (octants, refl)
fault_of (merge.PartDamaged octants key) of = inr (octants, key, refl)
fault_of merge.TooManyNodes of = absurd of
fault_of merge.Memory of = absurd of

pub never_parts : (e : MergeError) → ¬ merging.IsPartFault e → ¬ IsFaultOfParts (of_merge e)
never_parts e none fault = none (fault_of e (of_parts (of_merge e) fault))

abbrev OfTiles : MergeError → Type 0
OfTiles merge.StoreFault = ⊤
OfTiles (merge.BadCheckpoint letter) = ⊥
OfTiles (merge.HasCheckpoint generation) = ⊥
OfTiles merge.SourceFault = ⊥
OfTiles (merge.BadLas source fault) = ⊥
OfTiles (merge.OutOfBounds source number) = ⊥
OfTiles (merge.TooManyPoints source) = ⊥
OfTiles merge.NoBounds = ⊥
OfTiles merge.Shallow = ⊥
OfTiles (merge.NoPart octants) = ⊥
OfTiles (merge.PartDiffers octants) = ⊥
OfTiles (merge.PartDamaged octants None) = ⊥
OfTiles (merge.PartDamaged octants (Some key)) = ⊤
OfTiles merge.TooManyNodes = ⊥
OfTiles merge.Memory = ⊤

of_tiles : (e : MergeError) → IsOfTiles e → OfTiles e
of_tiles e (inl (inl is)) = subst OfTiles (sym is) tt
of_tiles e (inl (inr is)) = subst OfTiles (sym is) tt
of_tiles e (inr (octants, key, is)) = subst OfTiles (sym is) tt

not_both : (e : MergeError) → OfTiles e → IsEarlyMerge (of_merge e) → ⊥
not_both merge.StoreFault of early = never_bad StoreFault (λ error same. cc) early
  where
    never_bad : (r : Refusal) → ((error : ConfigError) → r ≡ BadConfiguration error → ⊥) → ((error : ConfigError) × (r ≡ BadConfiguration error)) → ⊥
    never_bad r never is = never is.0 is.1
not_both (merge.BadCheckpoint letter) of early = of
not_both (merge.HasCheckpoint generation) of early = of
not_both merge.SourceFault of early = of
not_both (merge.BadLas source fault) of early = of
not_both (merge.OutOfBounds source number) of early = of
not_both (merge.TooManyPoints source) of early = of
not_both merge.NoBounds of early = of
not_both merge.Shallow of early = of
not_both (merge.NoPart octants) of early = of
not_both (merge.PartDiffers octants) of early = of
not_both (merge.PartDamaged octants None) of early = of
not_both (merge.PartDamaged octants (Some key)) of early = early
not_both merge.TooManyNodes of early = of
not_both merge.Memory of early = never_bad Memory (λ error same. cc) early
  where
    never_bad : (r : Refusal) → ((error : ConfigError) → r ≡ BadConfiguration error → ⊥) → ((error : ConfigError) × (r ≡ BadConfiguration error)) → ⊥
    never_bad r never is = never is.0 is.1

pub before_tiles : (e : MergeError) → IsEarlyMerge (of_merge e) → ¬ IsOfTiles e
before_tiles e early tiles = not_both e (of_tiles e tiles) early

pub refused_foreign : (r : MergeRefusal) (e : MergeError) → r ≡ of_merge e → ¬ IsForeign r
refused_foreign r e is foreign = merge_foreign e (subst IsForeign is foreign)

-- of a build that follows
pub never_of_parts : (r : Refusal) → ¬ IsFaultOfParts (as_build r)
never_of_parts r (inl (octants, is)) = cc
never_of_parts r (inr (octants, key, is)) = cc

pub build_words : (e : BuildError) → of_build e ≢ Usage
build_words build.StoreFault is = cc
build_words build.SpillFault is = cc
build_words (build.SpillDamaged kept found at) is = cc
build_words (build.BadCheckpoint letter) is = cc
build_words (build.TileDamaged key) is = cc
build_words (build.Differs field kept given) is = cc
build_words build.SourceFault is = cc
build_words (build.BadLas source fault) is = cc
build_words (build.OutOfBounds source number) is = cc
build_words (build.TooManyPoints source) is = cc
build_words build.NoBounds is = cc
build_words (build.SourceChanged source number) is = cc
build_words build.TooManyNodes is = cc
build_words build.Memory is = cc

build_config : (e : BuildError) (error : ConfigError) → of_build e ≢ BadConfiguration error
build_config build.StoreFault error is = cc
build_config build.SpillFault error is = cc
build_config (build.SpillDamaged kept found at) error is = cc
build_config (build.BadCheckpoint letter) error is = cc
build_config (build.TileDamaged key) error is = cc
build_config (build.Differs field kept given) error is = cc
build_config build.SourceFault error is = cc
build_config (build.BadLas source fault) error is = cc
build_config (build.OutOfBounds source number) error is = cc
build_config (build.TooManyPoints source) error is = cc
build_config build.NoBounds error is = cc
build_config (build.SourceChanged source number) error is = cc
build_config build.TooManyNodes error is = cc
build_config build.Memory error is = cc

-- ---- what a merge comes to

-- files between the merge and the build are sound, and the build begins with them
pub between_of : {F : Type 0} (held : F → Option (List ℕ)) (all : Files) (config : Config) (shelf later store mid : Option Files) (may after : Files → Type 0) (start : Files)
    → later ≡ shelf → building.BeginsWith held shelf store may all start → StepsBy (λ (a b : Files). IsSound all b) store mid → Tells (merging.HasMerged all config) mid → IsSettled mid after
    → (between : Files) × building.BeginsWith held later mid after all between × merging.HasMerged all config between
between_of held all config shelf later store mid may after start same begins steps merged settled =
    by mid refl (subst (λ (o : Option Files). StepsBy (λ (a b : Files). IsSound all b) o mid) begins.told steps) merged
  where
    by : (o : Option Files) → mid ≡ o → StepsBy (λ (a b : Files). IsSound all b) (Some start) o → Tells (merging.HasMerged all config) o → (between : Files) × building.BeginsWith held later mid after all between × merging.HasMerged all config between
    by None is steps merged = absurd steps
    by (Some between) is sound merged = (between, record { spills = begins.spills; shelf_told = same ∙ begins.shelf_told; told = is; settled = settled; sound = sound }, merged)

-- a fact of the shelf's files and the store's, of those that they are
pub of_both : (P : Files → Files → Type 0) (files old : Option Files) (all start : Files) → files ≡ Some all → old ≡ Some start → Tells (λ a. Tells (λ s. P a s) old) files → P all start
of_both P files old all start told stored tells =
    let at_all : Tells (λ s. P all s) old = subst (λ (o : Option Files). Tells (λ a. Tells (λ s. P a s) old) o) told tells in
    subst (λ (o : Option Files). Tells (λ s. P all s) o) stored at_all

module _ (path parts : List ℕ) (old : Option Files) (Begins : Files → Files → Type 0) (new : Option Files) (flushed same source store room : Type 0) where
  -- what comes of parts that are ready, of a merge that is refused, and of a configuration that is
  abbrev Ready : Outcome → Files → Files → Type 0
  Ready outcome all start = Begins all start → IsMergeReadyAt all start path parts → IsOk outcome ⊎ FailsMerge outcome

  abbrev Comes : Outcome → Files → Files → Type 0
  Comes outcome all start = (error : MergeError) → MergingIsRefusedAt all start path parts error → ReportsMerge (of_merge error) outcome ⊎ FailsMerge outcome

  abbrev Unread : Outcome → Files → Type 0
  Unread outcome all = (cause : Refusal) → IsDefinite cause → ConfigurationIsRefused all path cause → (outcome ≡ Err (as_build cause)) ⊎ FailsMerge outcome

  -- the configuration can't be read
  pub unread_merge : (files : Option Files) (r : Refusal) → IsOfConfiguration r → Tells (λ all. ConfigurationIsRefused all path r) files → same → (r ≡ SourceFault → source)
      → ComesToMerge path parts (Err (as_build r)) files old Begins new flushed same source store room
  unread_merge files r of refused unchanged cause = record {
    merged = tt;
    settled = tt;
    refused = told_as (λ all. ConfigurationIsRefused all path r) (λ all. MergeIsRefused all old Begins path parts (as_build r)) files (λ all is. inl (r, refl, is)) refused;
    ready = told_as (λ all. ConfigurationIsRefused all path r) (λ all. Tells (λ start. Ready (Err (as_build r)) all start) old) files
        (λ all is. told_always (λ start. Ready (Err (as_build r)) all start) old (λ start begins asked. inr (unread_fails all path r asked.config is asked.configures))) refused;
    comes = told_as (λ all. ConfigurationIsRefused all path r) (λ all. Tells (λ start. Comes (Err (as_build r)) all start) old) files
        (λ all is. told_always (λ start. Comes (Err (as_build r)) all start) old (λ start error asked. inr (unread_fails all path r asked.config is asked.configures))) refused;
    unread = told_as (λ all. ConfigurationIsRefused all path r) (λ all. Unread (Err (as_build r)) all) files
        (λ all is cause definite also. unread_cause all path r cause is definite also) refused;
    own = told_always (λ all. Tells (λ start. AreOwnAt all start path parts → ¬ IsFaultOfParts (as_build r)) old) files (λ all. told_always (λ start. AreOwnAt all start path parts → ¬ IsFaultOfParts (as_build r)) old (λ start own. never_of_parts r));
    early = λ is. unchanged;
    sources = λ is. cause (inside r SourceFault (merge_inside (as_build r) (as_build SourceFault) is));
    stores = λ is. absurd (subst IsOfConfiguration (inside r StoreFault (merge_inside (as_build r) (as_build StoreFault) is)) of);
    spills = λ is. absurd (subst IsOfConfiguration (inside r SpillFault (merge_inside (as_build r) (as_build SpillFault) is)) of);
  }

  module _ (files : Option Files) (config : Config) (configures : Tells (λ all. HasConfiguration all path config) files) where
    own_asked : (r : MergeRefusal) → ((all start : Files) → files ≡ Some all → old ≡ Some start → merging.AreOwnParts all config start parts → ¬ IsFaultOfParts r)
        → Tells (λ all. Tells (λ start. AreOwnAt all start path parts → ¬ IsFaultOfParts r) old) files
    own_asked r own = by files old refl refl configures
      where
        by : (f o : Option Files) → files ≡ f → old ≡ o → Tells (λ all. HasConfiguration all path config) f → Tells (λ all. Tells (λ start. AreOwnAt all start path parts → ¬ IsFaultOfParts r) o) f
        by None o is told has = tt
        by (Some all) None is told has = tt
        by (Some all) (Some start) is told has = λ asked. own all start is told (subst (λ (c : Config). merging.AreOwnParts all c start parts) (one_config all path asked.config config asked.configures has) asked.own)

    -- what is asked of the configuration that the shelf has is asked of this one
    ready_asked : (outcome : Outcome) → ((all start : Files) → files ≡ Some all → old ≡ Some start → Begins all start → merging.AreReady all start config parts → IsOk outcome ⊎ FailsMerge outcome) → Tells (λ all. Tells (λ start. Ready outcome all start) old) files
    ready_asked outcome comes = by files old refl refl configures
      where
        by : (f o : Option Files) → files ≡ f → old ≡ o → Tells (λ all. HasConfiguration all path config) f → Tells (λ all. Tells (λ start. Ready outcome all start) o) f
        by None o is told has = tt
        by (Some all) None is told has = tt
        by (Some all) (Some start) is told has = λ begins asked. comes all start is told begins (subst (λ (c : Config). merging.AreReady all start c parts) (one_config all path asked.config config asked.configures has) asked.ready)

    comes_asked : (outcome : Outcome) → ((all start : Files) → files ≡ Some all → old ≡ Some start → (error : MergeError) → merging.IsDefinite error → merging.IsRefused all start config parts error → ReportsMerge (of_merge error) outcome ⊎ FailsMerge outcome) → Tells (λ all. Tells (λ start. Comes outcome all start) old) files
    comes_asked outcome comes = by files old refl refl configures
      where
        by : (f o : Option Files) → files ≡ f → old ≡ o → Tells (λ all. HasConfiguration all path config) f → Tells (λ all. Tells (λ start. Comes outcome all start) o) f
        by None o is told has = tt
        by (Some all) None is told has = tt
        by (Some all) (Some start) is told has = λ error asked. comes all start is told error asked.definite (subst (λ (c : Config). merging.IsRefused all start c parts error) (one_config all path asked.config config asked.configures has) asked.refused)

    -- it is not refused
    is_read : (outcome : Outcome) → Tells (λ all. Unread outcome all) files
    is_read outcome = told_as (λ all. HasConfiguration all path config) (λ all. Unread outcome all) files (λ all has cause definite refused. absurd (not_refused all path config has cause definite refused)) configures

    -- the parts are not merged
    pub unmerged : (r : MergeRefusal) (error : MergeError) → r ≡ of_merge error → Tells (λ all. Tells (λ start. merging.IsRefused all start config parts error) old) files
        → ((all start : Files) → files ≡ Some all → old ≡ Some start → merging.AreReady all start config parts → IsOk {T = Summary} {E = MergeRefusal} (Err r) ⊎ FailsMerge {A = Summary} (Err r))
        → ((all start : Files) → files ≡ Some all → old ≡ Some start → (error : MergeError) → merging.IsDefinite error → merging.IsRefused all start config parts error → ReportsMerge {A = Summary} (of_merge error) (Err r) ⊎ FailsMerge {A = Summary} (Err r))
        → ((all start : Files) → files ≡ Some all → old ≡ Some start → merging.AreOwnParts all config start parts → ¬ IsFaultOfParts r)
        → (IsEarlyMerge r → same) → (r ≡ as_build SourceFault → source) → (r ≡ as_build StoreFault → store)
        → ComesToMerge path parts (Err r) files old Begins new flushed same source store room
    unmerged r error r_is refused ready comes own early sources stores = record {
      merged = tt;
      settled = tt;
      refused = tells_both (λ all. HasConfiguration all path config) (λ all. Tells (λ start. merging.IsRefused all start config parts error) old) (λ all. MergeIsRefused all old Begins path parts r) files
          (λ all has is. inr (inl (config, error, r_is, has, is))) configures refused;
      ready = ready_asked (Err r) (λ all start told stored begins is. ready all start told stored is);
      comes = comes_asked (Err r) comes;
      unread = is_read (Err r);
      own = own_asked r own;
      early = early;
      sources = λ is. sources (merge_inside r (as_build SourceFault) is);
      stores = λ is. stores (merge_inside r (as_build StoreFault) is);
      spills = λ is. absurd (refused_foreign r error r_is (inr (inl (merge_inside r (as_build SpillFault) is))));
    }

    -- they are, and the build that follows comes to this
    module _ (accepted : Tells (λ all. Tells (λ start. merging.WereMerged all start config parts) old) files) (never : (all start : Files) → files ≡ Some all → old ≡ Some start → (error : MergeError) → merging.IsDefinite error → merging.IsRefused all start config parts error → ⊥) where
      pub built_after : (summary : Summary) → flushed
          → ((all start : Files) → files ≡ Some all → Begins all start → merging.AreSoundParts all start parts → Tells (λ after. AfterMerge all config (λ between. building.IsBuilt all config between summary after)) new)
          → ComesToMerge path parts (Ok summary) files old Begins new flushed same source store room
      built_after summary settled built = record {
        merged = by files refl configures accepted;
        settled = settled;
        refused = tt;
        ready = ready_asked (Ok summary) (λ all start told stored begins ready. inl (is_ok summary));
        comes = comes_asked (Ok summary) (λ all start told stored error definite refused. absurd (never all start told stored error definite refused));
        unread = is_read (Ok summary);
        own = tt;
        early = tt;
        sources = λ is. absurd (ok_is_no_err summary (as_build SourceFault) is);
        stores = λ is. absurd (ok_is_no_err summary (as_build StoreFault) is);
        spills = λ is. absurd (ok_is_no_err summary (as_build SpillFault) is);
      }
        where
          by : (f : Option Files) → files ≡ f → Tells (λ all. HasConfiguration all path config) f → Tells (λ all. Tells (λ start. merging.WereMerged all start config parts) old) f → Tells (λ all. IsMergedAt all old Begins path parts summary new) f
          by None is has were = tt
          by (Some all) is has were = record { config = config; configures = has; accepted = were; built = λ start begins sound. built all start is begins sound }

      pub unbuilt_after : (r : MergeRefusal) (error : BuildError) → r ≡ as_build (of_build error)
          → ((all start : Files) → files ≡ Some all → old ≡ Some start → Begins all start → merging.AreReady all start config parts → IsOk {T = Summary} {E = MergeRefusal} (Err r) ⊎ FailsMerge {A = Summary} (Err r))
          → ((all start : Files) → files ≡ Some all → Begins all start → merging.AreSoundParts all start parts → AfterMerge all config (λ between. building.IsRefused all config between error))
          → (r ≡ as_build SourceFault → source) → (r ≡ as_build StoreFault → store) → (r ≡ as_build SpillFault → room)
          → ComesToMerge path parts (Err r) files old Begins new flushed same source store room
      unbuilt_after r error r_is ready refused sources stores spills = record {
        merged = tt;
        settled = tt;
        refused = by files refl configures;
        ready = ready_asked (Err r) ready;
        comes = comes_asked (Err r) (λ all start told stored error definite refused. absurd (never all start told stored error definite refused));
        unread = is_read (Err r);
        own = own_asked r (λ all start told stored own. subst (λ (x : MergeRefusal). ¬ IsFaultOfParts x) (sym r_is) (never_of_parts (of_build error)));
        early = λ is. absurd (late (subst IsEarlyMerge r_is is));
        sources = λ is. sources (merge_inside r (as_build SourceFault) is);
        stores = λ is. stores (merge_inside r (as_build StoreFault) is);
        spills = λ is. spills (merge_inside r (as_build SpillFault) is);
      }
        where
          late : IsEarlyMerge (as_build (of_build error)) → ⊥
          late early = build_config error early.0 early.1

          by : (f : Option Files) → files ≡ f → Tells (λ all. HasConfiguration all path config) f → Tells (λ all. MergeIsRefused all old Begins path parts r) f
          by None is has = tt
          by (Some all) is has = inr (inr (config, error, r_is, has, λ start begins sound. refused all start is begins sound))

module _ (path parts : List ℕ) (old : Option Files) (Begins : Files → Files → Type 0) (new : Option Files) (flushed same source store room : Type 0) (files : Option Files) (config : Config) (configures : Tells (λ all. HasConfiguration all path config) files) where
  -- what comes of the build that follows, which begins as Again says
  pub came_after : Tells (λ all. Tells (λ start. merging.WereMerged all start config parts) old) files → ((all start : Files) → files ≡ Some all → old ≡ Some start → (error : MergeError) → merging.IsDefinite error → merging.IsRefused all start config parts error → ⊥)
      → (Again : Files → Files → Type 0) → ((all between : Files) → Again all between → IsSound all between)
      → ((all start : Files) → files ≡ Some all → Begins all start → merging.AreSoundParts all start parts → (between : Files) × Again all between × merging.HasMerged all config between)
      → (outcome : Outcome) → OnOk outcome flushed
      → ((all start : Files) → Again all start → IfOk outcome (λ summary. Tells (building.IsBuilt all config start summary) new))
      → IfErr outcome (λ r. (error : BuildError) × (r ≡ as_build (of_build error)) × ((all start : Files) → Again all start → building.IsRefused all config start error))
      → ((all start : Files) → Again all start → building.IsAccepted all config start → IsOk outcome ⊎ FailsMerge outcome)
      → (outcome ≡ Err (as_build SourceFault) → source) → (outcome ≡ Err (as_build StoreFault) → store) → (outcome ≡ Err (as_build SpillFault) → room)
      → ComesToMerge path parts outcome files old Begins new flushed same source store room
  came_after accepted never Again sound_of again (Ok summary) settled built refused accepts sources stores spills =
      built_after path parts old Begins new flushed same source store room files config configures accepted never summary settled (λ all start told begins sound.
      let m = again all start told begins sound in
      told_as (λ after. building.IsBuilt all config m.0 summary after) (λ after. AfterMerge all config (λ between. building.IsBuilt all config between summary after)) new
      (λ after is. record { between = m.0; merged = m.2; sound = sound_of all m.0 m.1; holds = is }) (built all m.0 m.1))
  came_after accepted never Again sound_of again (Err r) settled built refused accepts sources stores spills =
      unbuilt_after path parts old Begins new flushed same source store room files config configures accepted never r refused.0 refused.1
      (λ all start told stored begins ready.
      let m = again all start told begins (ready_sound all start config parts ready.own) in
      accepts all m.0 m.1 (accepted_after all start m.0 config parts m.2 ready))
      (λ all start told begins sound.
      let m = again all start told begins sound in
      record { between = m.0; merged = m.2; sound = sound_of all m.0 m.1; holds = refused.2 all m.0 m.1 })
      (λ is. sources (ap (λ (x : MergeRefusal). Err x) is)) (λ is. stores (ap (λ (x : MergeRefusal). Err x) is)) (λ is. spills (ap (λ (x : MergeRefusal). Err x) is))

-- ---- its moments

module _ {D : Type 0} (files : D → Option Files) (may_leave : D → Files → Type 0) (moment : D → ℕ) (image_since : D → ℕ → Files → Type 0) where
  pub sound_both : (all : Files) (old mid new : D) → Moves files may_leave moment image_since (λ (a b : Files). IsSound all b) old mid → Moves files may_leave moment image_since (λ (a b : Files). IsSound all b) mid new
      → Moves files may_leave moment image_since (λ (a b : Files). IsSound all b) old new
  sound_both all old mid new = moves_both files may_leave moment image_since (λ (a b : Files). IsSound all b) (λ (a b : Files). IsSound all b) (λ (a b : Files). IsSound all b) (λ a b c first second. second) (λ a b first. first) old mid new

-- ---- how it is reported

module _ (status : ℕ) (why_not : Option Failure) (old new : Option (List ℕ)) (failed : Type 0) where
  pub built_reported : (summary : Summary) (line : Vec ℕ Global) → line.items ≡ summary_text summary.points summary.nodes → IsSaidFor line status why_not old new failed → IsMergeReported (Ok summary) status why_not old new failed
  built_reported summary line same (inl ok) = record {
    says = inl (ok.0, subst (λ (text : List ℕ). Appends old new text) same ok.2);
    fails = inl ok.1;
    unless_done = (λ is. ok.1, λ none. ok.0);
  }
  built_reported summary line same (inr cut) = record {
    says = inr (cut.0, cut.2, subst (λ (text : List ℕ). AppendsPrefix old new text) same cut.3);
    fails = inr (line, cut.1, same);
    unless_done = fails_at status why_not old new failed 7 (failure.LineNotWritten line) cut.0 (omega arith) cut.1;
  }

  -- a part that is not there, that differs, or that is damaged
  pub named_reported : (r : MergeRefusal) (n : ℕ) → merge_failure r ≡ failure.MergeRefused r → merge_status r ≡ n → n ≢ 0 → (line : List ℕ) → merge_line r ≡ line
      → ((status ≡ n) × (why_not ≡ Some (failure.MergeRefused r)) × Says line old new failed) ⊎ IsMergeReported (Err (as_build Memory)) status why_not old new failed
      → IsMergeReported (Err r) status why_not old new failed ⊎ IsMergeReported (Err (as_build Memory)) status why_not old new failed
  named_reported r n names at not_0 line says_line (inr lacks) = inr lacks
  named_reported r n names at not_0 line says_line (inl told) = inl (record {
    says = (told.0 ∙ sym at, subst (λ (l : List ℕ). Says l old new failed) (sym says_line) told.2);
    fails = told.1 ∙ ap (λ (f : Failure). Some f) (sym names);
    unless_done = fails_at status why_not old new failed n (failure.MergeRefused r) told.0 not_0 told.1;
  })

-- ---- what a report says

module _ (status : ℕ) (why_not : Option Failure) (old new : Option (List ℕ)) (failed : Type 0) where
  module _ (path parts : List ℕ) (files before : Option Files) (Begins : Files → Files → Type 0) (after : Option Files) (flushed same source store room : Type 0) where
    abbrev lack : Outcome
    lack = Err (as_build Memory)

    lack_fails : FailsMerge lack
    lack_fails = inr (inr (inr refl))

    lacking : ComesToMerge path parts (Err (as_build Memory)) files before Begins after flushed same source store room
    lacking = record {
      merged = tt;
      settled = tt;
      refused = told_always (λ all. MergeIsRefused all before Begins path parts (as_build Memory)) files (λ all. inl (Memory, refl, tt));
      ready = told_always (λ all. Tells (λ start. Begins all start → IsMergeReadyAt all start path parts → IsOk lack ⊎ FailsMerge lack) before) files (λ all. told_always (λ start. Begins all start → IsMergeReadyAt all start path parts → IsOk lack ⊎ FailsMerge lack) before (λ start begins asked. inr lack_fails));
      comes = told_always (λ all. Tells (λ start. (error : MergeError) → MergingIsRefusedAt all start path parts error → ReportsMerge (of_merge error) lack ⊎ FailsMerge lack) before) files (λ all. told_always (λ start. (error : MergeError) → MergingIsRefusedAt all start path parts error → ReportsMerge (of_merge error) lack ⊎ FailsMerge lack) before (λ start error asked. inr lack_fails));
      unread = told_always (λ all. (cause : Refusal) → IsDefinite cause → ConfigurationIsRefused all path cause → (lack ≡ Err (as_build cause)) ⊎ FailsMerge lack) files (λ all cause definite refused. inr lack_fails);
      own = told_always (λ all. Tells (λ start. AreOwnAt all start path parts → ¬ IsFaultOfParts (as_build Memory)) before) files (λ all. told_always (λ start. AreOwnAt all start path parts → ¬ IsFaultOfParts (as_build Memory)) before (λ start own. never_of_parts Memory));
      early = λ is. absurd (not_bad is.0 is.1);
      sources = λ is. absurd (not_source (inside Memory SourceFault (merge_inside (as_build Memory) (as_build SourceFault) is)));
      stores = λ is. absurd (not_store (inside Memory StoreFault (merge_inside (as_build Memory) (as_build StoreFault) is)));
      spills = λ is. absurd (not_spill (inside Memory SpillFault (merge_inside (as_build Memory) (as_build SpillFault) is)));
    }
      where
        not_bad : (e : ConfigError) → ◌≡◌ {A = Refusal} Memory (BadConfiguration e) → ⊥
        not_bad e is = cc

        not_source : ◌≡◌ {A = Refusal} Memory SourceFault → ⊥
        not_source is = cc

        not_store : ◌≡◌ {A = Refusal} Memory StoreFault → ⊥
        not_store is = cc

        not_spill : ◌≡◌ {A = Refusal} Memory SpillFault → ⊥
        not_spill is = cc

    pub merge_ends : (outcome : Outcome) → ComesToMerge path parts outcome files before Begins after flushed same source store room
        → IsMergeReported outcome status why_not old new failed ⊎ IsMergeReported (Err (as_build Memory)) status why_not old new failed
        → (ends : EndsMerge path parts status files before Begins after flushed same old new source store room failed) × FailsAsMerge ends.outcome why_not
    merge_ends outcome comes (inl reported) = (record { outcome = outcome; says = reported.says; comes_to = comes }, reported.fails)
    merge_ends outcome comes (inr reported) = (record { outcome = Err (as_build Memory); says = reported.says; comes_to = lacking }, reported.fails)

-- ---- what can be done

module _ (status : ℕ) (old new : Option (List ℕ)) (failed : Type 0) where
  -- parts that are ready are merged and built, or a device fails, or memory runs out
  pub merge_yields : (outcome : Outcome) → IsOk outcome ⊎ FailsMerge outcome → SaysMerge outcome status old new failed → Yields 0 status
  merge_yields (Ok summary) came (inl ok) = inl ok.0
  merge_yields (Ok summary) came (inr cut) = inr (inl cut.0)
  merge_yields (Err r) (inl ok) says = absurd cc
  merge_yields (Err r) (inr fails) says = by fails
    where
      by : FailsMerge {A = Summary} (Err r) → Yields 0 status
      by (inl is) = inr (inl (says.0 ∙ ap merge_status (merge_inside r (as_build SourceFault) is)))
      by (inr (inl is)) = inr (inl (says.0 ∙ ap merge_status (merge_inside r (as_build StoreFault) is)))
      by (inr (inr (inl is))) = inr (inl (says.0 ∙ ap merge_status (merge_inside r (as_build SpillFault) is)))
      by (inr (inr (inr is))) = inr (inr (says.0 ∙ ap merge_status (merge_inside r (as_build Memory) is)))

-- for words that ask for this merge
pub merge_comes : (words : List (List ℕ)) (path out parts : List ℕ) → IsMerge words path out parts → MembersMakeTheSet → (files before : Option Files) (Begins : Files → Files → Type 0) (after : Option Files) (flushed same : Type 0) (status : ℕ) (old new : Option (List ℕ)) (source store room failed : Type 0)
    → EndsMerge path parts status files before Begins after flushed same old new source store room failed
    → (all start : Files) → files ≡ Some all → before ≡ Some start → Begins all start → AsksMerge words (λ p q. IsMergeReadyAt all start p q) → Yields 0 status
merge_comes words path out parts is once files before Begins after flushed same status old new source store room failed ends all start told stored begins asks =
    let one = merge_once once words asks.path asks.out path out asks.parts parts asks.words_are is in
    let mine : IsMergeReadyAt all start path parts = subst (λ (p : List ℕ). IsMergeReadyAt all start p parts) one.0 (subst (λ (q : List ℕ). IsMergeReadyAt all start asks.path q) one.1 asks.holds) in
    let comes : Begins all start → IsMergeReadyAt all start path parts → IsOk ends.outcome ⊎ FailsMerge ends.outcome =
    of_both (λ a s. Begins a s → IsMergeReadyAt a s path parts → IsOk ends.outcome ⊎ FailsMerge ends.outcome) files before all start told stored ends.comes_to.ready in
    merge_yields status old new failed ends.outcome (comes begins mine) ends.says

-- ends of the same words are the same
pub merge_same : (path other parts others : List ℕ) (status : ℕ) (why_not : Option Failure) (files before : Option Files) (Begins : Files → Files → Type 0) (after : Option Files) (flushed same : Type 0) (old new : Option (List ℕ)) (source store room failed : Type 0)
    → path ≡ other → parts ≡ others
    → ((ends : EndsMerge path parts status files before Begins after flushed same old new source store room failed) × FailsAsMerge ends.outcome why_not)
    → (ends : EndsMerge other others status files before Begins after flushed same old new source store room failed) × FailsAsMerge ends.outcome why_not
merge_same path other parts others status why_not files before Begins after flushed same old new source store room failed same_path same_parts ends =
    subst (λ (p : List ℕ). (ends : EndsMerge p others status files before Begins after flushed same old new source store room failed) × FailsAsMerge ends.outcome why_not) same_path
    (subst (λ (q : List ℕ). (ends : EndsMerge path q status files before Begins after flushed same old new source store room failed) × FailsAsMerge ends.outcome why_not) same_parts ends)
