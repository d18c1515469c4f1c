-- How a build of the configuration of a path comes out, from how the configuration is read and how its build ends.
use Rattle.std.proofs.Common.{◌≡◌, ◌⊎◌, inl, inr, ℕ, List, Option, Some, Ok, Err, refl, sym, subst}
use Rattle.std.specs.Prelude.{Result, Vec, IsOk, IsErrAnd, IfErr}
use Rattle.std.specs.declared.alloc.Global.{Global}
use Rattle.ept_base.specs.Files.{Files, Tells}
use Rattle.ept_space.specs.VoxelKey.{VoxelKey}
use Rattle.ept_meta.specs.declared.fields.Field.{Field}
use Rattle.ept_ckpt.specs.declared.letter.Letter.{Letter}
use Rattle.ept_save.specs.Opening.{IsBad}
use Rattle.ept_save.specs.Current.{Current, HasCurrent}
use Rattle.ept_config.specs.declared.config.Config.{Config}
use Rattle.ept_scan.specs.declared.scan_error.ScanError.{ScanError}
use Rattle.ept_plan.specs.Plans as plans
use Rattle.ept_build.specs.declared.error.BuildError.{BuildError}
use Rattle.ept_build.specs.declared.error.BuildError.TheVariants as build
use Rattle.ept_build.specs.declared.summary.Summary.{Summary}
use Rattle.ept_build.specs.Building as building
use Rattle.ept_build.specs.Errors.{of_scan}
use Rattle.ept_build.specs.Phases.{HasDamage}
use Rattle.ept_command.specs.declared.refusal.Refusal.{Refusal}
use Rattle.ept_command.specs.declared.refusal.Refusal.TheVariants.{Usage, BadCheckpoint, Memory}
use Rattle.ept_command.specs.Configurations.{HasConfiguration, ConfigurationIsRefused, IsOfConfiguration}
use Rattle.ept_run.specs.Requests.{IsOfStore, BuildIsRefused, IsOfBuild, IsDefinite, IsEarly, Fails}
use Rattle.ept_run.specs.Builds.{ComesToBuild}
use Rattle.ept_run.proofs.Asked.{told_always}
use Rattle.ept_run.proofs.Refused.{tells_as, told_as, refused_before, unstored, only_fails, came_before, carried_accepted, carried_comes, carried_one, carried_difference, carried_damage, ok_comes, ok_differs, ok_damaged, build_refused, build_accepted, build_finished, build_comes, came_to, differed_to, damaged_to, bad_to, stored_as, early_as}
use Rattle.ept_run.proofs.Merged.{build_words}

-- what holds of a refusal holds of the result that it is
of_err : {A : Type 0} (P : Refusal → Type 0) (result : Result A Refusal) (r : Refusal) → result ≡ Err r → P r → IfErr result P
of_err {A} P result r is holds = subst (λ (a : Result A Refusal). IfErr a P) (sym is) holds

at_err : {A : Type 0} (P : Refusal → Type 0) (result : Result A Refusal) (r : Refusal) → result ≡ Err r → IfErr result P → P r
at_err {A} P result r is holds = subst (λ (a : Result A Refusal). IfErr a P) is holds

memory_names : ◌≡◌ {A = Refusal} Memory Usage → ⊥
memory_names same = cc

-- ---- the result is passed on

module _ (path : List ℕ) (files old : Option Files) (Begins : Files → Files → Type 0) (new : Option Files) (settled same : Type 0) where
  -- a refusal comes out as it came
  pub carried_build : {A B : Type 0} (result : Result A Refusal) (other : Result B Refusal) (r : Refusal) → result ≡ Err r → IsErrAnd other (λ x. x ≡ r)
      → ComesToBuild path result files old Begins new settled same → ComesToBuild path other files old Begins new settled same
  carried_build {A} {B} result other r is passed came = record {
    refused = over (λ x. Tells (λ all. BuildIsRefused all Begins path x) files) came.refused;
    causes = over IsOfBuild came.causes;
    of_store = over (IsOfStore files old new settled path) came.of_store;
    early = over (λ x. IsEarly x → same) came.early;
    accepted = λ all start begins asked. carried_accepted result other r is passed (came.accepted all start begins asked);
    done_comes = λ all start begins asked. carried_accepted result other r is passed (came.done_comes all start begins asked);
    refusal_comes = carried_comes files (λ all x. ConfigurationIsRefused all path x) result other r is passed came.refusal_comes;
    comes = λ all start begins x asked. carried_one result other r x is passed (came.comes all start begins x asked);
    differs_comes = λ all start told stored asked. carried_difference result other r is passed (came.differs_comes all start told stored asked);
    damaged_comes = λ all start told stored asked. carried_damage result other r is passed (came.damaged_comes all start told stored asked);
    bad_comes = λ all start letter told stored bad asked. carried_one result other r (BadCheckpoint letter) is passed (came.bad_comes all start letter told stored bad asked);
  }
    where
      over : (P : Refusal → Type 0) → IfErr result P → IfErr other P
      over P holds = by other passed (at_err P result r is holds)
        where
          by : (o : Result B Refusal) → IsErrAnd o (λ x. x ≡ r) → P r → IfErr o P
          by (Ok x) wrong holds = tt
          by (Err x) one holds = subst P (sym one) holds

  -- what is built is refused for nothing
  pub built_whole : {A B : Type 0} (result : Result A Refusal) (x : A) (y : B) → result ≡ Ok x → ComesToBuild path result files old Begins new settled same → ComesToBuild path (Ok y) files old Begins new settled same
  built_whole {A} {B} result x y is came = record {
    refused = tt;
    causes = tt;
    of_store = tt;
    early = tt;
    accepted = λ all start begins asked. inl refl;
    done_comes = λ all start begins asked. inl refl;
    refusal_comes = tells_as (λ all. (r : Refusal) → IsDefinite r → ConfigurationIsRefused all path r → (result ≡ Err r) ⊎ Fails result) (λ all. (r : Refusal) → IsDefinite r → ConfigurationIsRefused all path r → (◌≡◌ {A = Result B Refusal} (Ok y) (Err r)) ⊎ Fails {A = B} (Ok y)) files
        (λ all comes r definite why. absurd (ok_comes result x r is (comes r definite why))) came.refusal_comes;
    comes = λ all start begins r asked. absurd (ok_comes result x r is (came.comes all start begins r asked));
    differs_comes = λ all start told stored asked. absurd (ok_differs result x is (came.differs_comes all start told stored asked));
    damaged_comes = λ all start told stored asked. absurd (ok_damaged result x is (came.damaged_comes all start told stored asked));
    bad_comes = λ all start letter told stored bad asked. absurd (ok_comes result x (BadCheckpoint letter) is (came.bad_comes all start letter told stored bad asked));
  }

  -- there is no memory for the line
  pub lacks_line : {A : Type 0} (result : Result A Refusal) → result ≡ Err Memory → ComesToBuild path result files old Begins new settled same
  lacks_line {A} result is = record {
    refused = of_err (λ x. Tells (λ all. BuildIsRefused all Begins path x) files) result Memory is (told_always (λ all. BuildIsRefused all Begins path Memory) files (λ all. tt));
    causes = of_err IsOfBuild result Memory is memory_names;
    of_store = of_err (IsOfStore files old new settled path) result Memory is tt;
    early = of_err (λ x. IsEarly x → same) result Memory is (λ early. absurd early);
    accepted = λ all start begins asked. inr lacks;
    done_comes = λ all start begins asked. inr lacks;
    refusal_comes = told_always (λ all. (r : Refusal) → IsDefinite r → ConfigurationIsRefused all path r → (result ≡ Err r) ⊎ Fails result) files (λ all r definite why. inr lacks);
    comes = λ all start begins r asked. inr lacks;
    differs_comes = λ all start told stored asked. inr lacks;
    damaged_comes = λ all start told stored asked. inr lacks;
    bad_comes = λ all start letter told stored bad asked. inr lacks;
  }
    where
      lacks : Fails result
      lacks = inr (inr (inr is))

-- ---- the configuration is read, or not

module _ {F : Type 0} (held : F → Option (List ℕ)) (files store : Option Files) (may : Files → Type 0) (path : List ℕ) (new : Option Files) (settled same : Type 0) where
  pub unread_build : {A : Type 0} (result : Result A Refusal) (r : Refusal) → result ≡ Err r → IsOfConfiguration r → Tells (λ all. ConfigurationIsRefused all path r) files → same
      → ComesToBuild path result files store (building.BeginsWith held files store may) new settled same
  unread_build {A} result r is of refused unchanged = record {
    refused = of_err (λ x. Tells (λ all. BuildIsRefused all (building.BeginsWith held files store may) path x) files) result r is
        (tells_as (λ all. ConfigurationIsRefused all path r) (λ all. BuildIsRefused all (building.BeginsWith held files store may) path r) files (λ all why. refused_before all path (building.BeginsWith held files store may) r why) refused);
    causes = of_err IsOfBuild result r is (λ usage. subst IsOfConfiguration usage of);
    of_store = of_err (IsOfStore files store new settled path) result r is (unstored files store new settled path r of);
    early = of_err (λ x. IsEarly x → same) result r is (λ early. unchanged);
    accepted = λ all start begins asked. inr (only_fails files path result r is refused all asked.config begins.shelf_told asked.configures);
    done_comes = λ all start begins asked. inr (only_fails files path result r is refused all asked.config begins.shelf_told asked.configures);
    refusal_comes = tells_as (λ all. ConfigurationIsRefused all path r) (λ all. (x : Refusal) → IsDefinite x → ConfigurationIsRefused all path x → (result ≡ Err x) ⊎ Fails result) files
        (λ all why x definite also. subst (λ (a : Result A Refusal). (a ≡ Err x) ⊎ Fails a) (sym is) (came_before all path {A = A} r x why definite also)) refused;
    comes = λ all start begins x asked. inr (only_fails files path result r is refused all asked.config begins.shelf_told asked.configures);
    differs_comes = λ all start told stored asked. inr (only_fails files path result r is refused all asked.config told asked.configures);
    damaged_comes = λ all start told stored asked. inr (only_fails files path result r is refused all asked.config told asked.configures);
    bad_comes = λ all start letter told stored bad asked. inr (only_fails files path result r is refused all asked.0 told asked.1);
  }

  module _ (later : Option Files) (same_files : later ≡ files) (config : Config) (configures : Tells (λ all. HasConfiguration all path config) files) where
    refusals_of : (answer : Result Summary BuildError)
        → ((all start : Files) → building.BeginsWith held later store may all start → IfErr answer (building.IsRefused all config start))
        → IfErr (told_as answer) (λ r. Tells (λ all. BuildIsRefused all (building.BeginsWith held files store may) path r) files)
    refusals_of (Ok summary) refused = tt
    refusals_of (Err e) refused = build_refused held files later same_files path config configures store may (Err e) e refl refused

    causes_of : (answer : Result Summary BuildError) → IfErr (told_as answer) IsOfBuild
    causes_of (Ok summary) = tt
    causes_of (Err e) = build_words e

    early_of : (answer : Result Summary BuildError) → IfErr answer (λ e. building.IsEarly e → same) → IfErr (told_as answer) (λ r. IsEarly r → same)
    early_of (Ok summary) early = tt
    early_of (Err e) early = λ is. early (early_as e is)

    stored_of : (answer : Result Summary BuildError)
        → ((field : Field) (kept given : Vec ℕ Global) → answer ≡ Err (build.Differs field kept given) → (start : Files) (current : Current) → store ≡ Some start → HasCurrent current start → plans.DiffersBy config current (record { field = field; kept = kept; given = given }))
        → ((letter : Letter) → answer ≡ Err (build.BadCheckpoint letter) → Tells (λ start. IsBad start letter) store)
        → ((key : VoxelKey) → answer ≡ Err (build.TileDamaged key) → (start : Files) → store ≡ Some start → settled → (current : Current) × HasDamage current key new)
        → IfErr (told_as answer) (IsOfStore files store new settled path)
    stored_of (Ok summary) differs bad damaged = tt
    stored_of (Err e) differs bad damaged = stored_as held files later same_files path config configures store may (Err e) new settled e refl differs bad damaged

    pub answered_build : (answer : Result Summary BuildError)
        → ((all start : Files) → building.BeginsWith held later store may all start → IfErr answer (building.IsRefused all config start))
        → ((field : Field) (kept given : Vec ℕ Global) → answer ≡ Err (build.Differs field kept given) → (start : Files) (current : Current) → store ≡ Some start → HasCurrent current start → plans.DiffersBy config current (record { field = field; kept = kept; given = given }))
        → ((letter : Letter) → answer ≡ Err (build.BadCheckpoint letter) → Tells (λ start. IsBad start letter) store)
        → ((key : VoxelKey) → answer ≡ Err (build.TileDamaged key) → (start : Files) → store ≡ Some start → settled → (current : Current) × HasDamage current key new)
        → IfErr answer (λ e. building.IsEarly e → same)
        → ((all start : Files) → building.BeginsWith held later store may all start → building.IsAccepted all config start → IsOk answer ⊎ building.Fails answer)
        → ((all start : Files) → building.BeginsWith held later store may all start → building.IsDoneAlready config start → IsOk answer ⊎ building.Fails answer)
        → ((all start : Files) → building.BeginsWith held later store may all start → (current : Current) (e : ScanError) → HasCurrent current start → plans.IsDefinite e → building.InputsAreRefused all config current e → (answer ≡ Err (of_scan e)) ⊎ building.Fails answer)
        → ((all start : Files) → building.BeginsWith held later store may all start → (current : Current) → HasCurrent current start → plans.GoesOn config current → ¬ building.IsDoneAlready config start → building.HasTooManyNodes all config current → (answer ≡ Err build.TooManyNodes) ⊎ building.Fails answer)
        → ((start : Files) (current : Current) → store ≡ Some start → HasCurrent current start → ¬ plans.GoesOn config current → building.TellsDifference answer ⊎ building.Fails answer)
        → ((all start : Files) (current : Current) → later ≡ Some all → store ≡ Some start → HasCurrent current start → building.ComesToDamage all config start current → building.TellsDamage answer ⊎ building.Fails answer)
        → ((letter : Letter) → (start : Files) → store ≡ Some start → IsBad start letter → (answer ≡ Err (build.BadCheckpoint letter)) ⊎ building.Fails answer)
        → ComesToBuild path (told_as answer) files store (building.BeginsWith held files store may) new settled same
    answered_build answer refused differs bad damaged early accepted done inputs many differs_comes damaged_comes bad_comes = record {
      refused = refusals_of answer refused;
      causes = causes_of answer;
      of_store = stored_of answer differs bad damaged;
      early = early_of answer early;
      accepted = build_accepted held files later same_files path config configures store may answer accepted;
      done_comes = build_finished held files later same_files path config configures store may answer done;
      refusal_comes = build_comes held files later same_files path config configures store may (told_as answer);
      comes = came_to held files later same_files path config configures store may answer inputs many;
      differs_comes = differed_to held files later same_files path config configures store may answer differs_comes;
      damaged_comes = damaged_to held files later same_files path config configures store may answer damaged_comes;
      bad_comes = bad_to held files later same_files path config configures store may answer bad_comes;
    }
