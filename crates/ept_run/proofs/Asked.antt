-- What the words of a build, and of an info, ask of the files is asked of the path in them.
use Rattle.std.proofs.Common.{◌≡◌, ◌≢◌, ◌⊎◌, inl, inr, ℕ, List, [], ◌∷◌, Option, Some, None, Ok, Err, sym, ◌∙◌, subst}
use Rattle.std.specs.Prelude.{Result, Vec, IfOk, IfErr, IsOk, codes}
use Rattle.std.specs.declared.alloc.Global.{Global}
use Rattle.ept_base.specs.Files.{Files, Tells}
use Rattle.ept_las.specs.declared.header.Header.{Header}
use Rattle.ept_command.specs.declared.refusal.Refusal.{Refusal}
use Rattle.ept_command.specs.declared.refusal.Refusal.TheVariants.{Usage, SourceFault, StoreFault, SpillFault, Memory}
use Rattle.ept_command.specs.Words.{IsBuild, IsInfo}
use Rattle.ept_run.specs.Lines.{summary_text, header_text}
use Rattle.ept_command.specs.Configurations.{ConfigurationIsRefused}
use Rattle.ept_run.specs.Requests.{HasBuilt, HasTold, HasHeader, BuildIsRefused, InfoIsRefused, IsOfStore, IsOfHeader, IsDefinite, IsEarly, Fails}
use Rattle.ept_run.specs.Answers.{AsksBuild, AsksInfo, SaysOfStore, IsAnswer, IsDone, IsFaulty, IsRefused}
use Rattle.ept_run.proofs.Runs.{Carries}

pub one_build : (words : List (List ℕ)) (a b c d : List ℕ) → IsBuild words a b → IsBuild words c d → c ≡ a
one_build words a b c d is other = first (sym other.words_are ∙ is.words_are)
  where
    first : codes "build" ∷ c ∷ d ∷ [] ≡ codes "build" ∷ a ∷ b ∷ [] → c ≡ a
    first same = cc

one_info : (words : List (List ℕ)) (a c : List ℕ) → IsInfo words a → IsInfo words c → c ≡ a
one_info words a c is other = first (sym other.words_are ∙ is.words_are)
  where
    first : codes "info" ∷ c ∷ [] ≡ codes "info" ∷ a ∷ [] → c ≡ a
    first same = cc

pub build_or_info : (words : List (List ℕ)) (a b c : List ℕ) → IsBuild words a b → IsInfo words c → ⊥
build_or_info words a b c is other = first (sym other.words_are ∙ is.words_are)
  where
    first : codes "info" ∷ c ∷ [] ≡ codes "build" ∷ a ∷ b ∷ [] → ⊥
    first same = cc

pub told_as : {X : Type 0} (P Q : X → Type 0) (told : Option X) → ((x : X) → P x → Q x) → Tells P told → Tells Q told
told_as P Q None step p = tt
told_as P Q (Some x) step p = step x p

pub told_always : {X : Type 0} (Q : X → Type 0) (told : Option X) → ((x : X) → Q x) → Tells Q told
told_always Q None holds = tt
told_always Q (Some x) holds = holds x

pub ok_weaker : {A E : Type 0} (P Q : A → Type 0) (r : Result A E) → ((a : A) → P a → Q a) → IfOk r P → IfOk r Q
ok_weaker P Q (Ok a) step p = step a p
ok_weaker P Q (Err e) step p = tt

pub err_weaker : {A E : Type 0} (P Q : E → Type 0) (r : Result A E) → ((e : E) → P e → Q e) → IfErr r P → IfErr r Q
err_weaker P Q (Ok a) step p = tt
err_weaker P Q (Err e) step p = step e p

module _ (words : List (List ℕ)) (path out : List ℕ) (is : IsBuild words path out) where
  pub of_build : {P : List ℕ → Type 0} → AsksBuild words P → P path
  of_build {P} asks = subst P (one_build words path out asks.path asks.out is asks.words_are) asks.holds

  module _ (answer : Result (Vec ℕ Global) Refusal) where
    build_came : (all : Files) → ((r : Refusal) → IsDefinite r → ConfigurationIsRefused all path r → (answer ≡ Err r) ⊎ Fails answer) → (r : Refusal) → IsDefinite r → IsFaulty words all r → (answer ≡ Err r) ⊎ Fails answer
    build_came all comes r definite (inl usage) = absurd (usage.1.not_build path out is)
    build_came all comes r definite (inr (inl asks)) = comes r definite (of_build {P = λ p. ConfigurationIsRefused all p r} asks)
    build_came all comes r definite (inr (inr asks)) = absurd (build_or_info words path out asks.path is asks.words_are)

    pub build_carries : (files old : Option Files) (settled : Type 0) (Begins : Files → Files → Type 0) (new : Option Files) (shelf store room same : Type 0)
        → IfOk answer (λ line. (points : ℕ) × (nodes : ℕ) × (line.items ≡ summary_text points nodes))
        → IfOk answer (λ line. Tells (λ all. HasBuilt all Begins path line.items new) files)
        → IfErr answer (λ r. r ≢ Usage)
        → IfErr answer (λ r. Tells (λ all. BuildIsRefused all Begins path r) files)
        → IfErr answer (IsOfStore files old new settled path)
        → (answer ≡ Err SourceFault → shelf) → (answer ≡ Err StoreFault → store) → (answer ≡ Err SpillFault → room)
        → IfErr answer (λ r. IsEarly r → same)
        → Tells (λ all. (r : Refusal) → IsDefinite r → ConfigurationIsRefused all path r → (answer ≡ Err r) ⊎ Fails answer) files
        → Carries words files Begins (SaysOfStore words files old new settled) new shelf store room same answer
    build_carries files old settled Begins new shelf store room same said built named refused stored sources stores spills early comes = record {
      is_answer = ok_weaker (λ line. (points : ℕ) × (nodes : ℕ) × (line.items ≡ summary_text points nodes)) (λ line. IsAnswer words line.items) answer
          (λ line text. inl (record { path = path; out = out; words_are = is; holds = text })) said;
      done = ok_weaker (λ line. Tells (λ all. HasBuilt all Begins path line.items new) files) (λ line. Tells (λ all. IsDone words all Begins line.items new) files) answer
          (λ line has. told_as (λ all. HasBuilt all Begins path line.items new) (λ all. IsDone words all Begins line.items new) files (λ all h. inl (record { path = path; out = out; words_are = is; holds = h })) has) built;
      named = named;
      refused = err_weaker (λ r. Tells (λ all. BuildIsRefused all Begins path r) files) (λ r. Tells (λ all. IsRefused words all Begins r) files) answer
          (λ r why. told_as (λ all. BuildIsRefused all Begins path r) (λ all. IsRefused words all Begins r) files (λ all h. inr (inl (record { path = path; out = out; words_are = is; holds = h }))) why) refused;
      lacks = told_always (λ all. IsRefused words all Begins Memory) files (λ all. inr (inl (record { path = path; out = out; words_are = is; holds = tt })));
      of_store = err_weaker (IsOfStore files old new settled path) (SaysOfStore words files old new settled) answer
          (λ r says other folder also. subst (λ (p : List ℕ). IsOfStore files old new settled p r) (sym (one_build words path out other folder is also)) says) stored;
      lacks_store = λ other folder also. tt;
      sources = sources;
      stores = stores;
      spills = spills;
      early = early;
      comes = told_as (λ all. (r : Refusal) → IsDefinite r → ConfigurationIsRefused all path r → (answer ≡ Err r) ⊎ Fails answer) (λ all. (r : Refusal) → IsDefinite r → IsFaulty words all r → (answer ≡ Err r) ⊎ Fails answer) files
          build_came comes;
    }

module _ (words : List (List ℕ)) (path : List ℕ) (is : IsInfo words path) where
  of_info : {P : List ℕ → Type 0} → AsksInfo words P → P path
  of_info {P} asks = subst P (one_info words path asks.path is asks.words_are) asks.holds

  named_of : (r : Refusal) → IsOfHeader r → (r ≢ Usage) × (r ≢ StoreFault)
  named_of r of = (λ same. subst IsOfHeader same of, λ same. subst IsOfHeader same of)

  module _ (answer : Result (Vec ℕ Global) Refusal) where
    info_came : (all : Files) → ((r : Refusal) → IsDefinite r → InfoIsRefused all path r → (answer ≡ Err r) ⊎ Fails answer) → (r : Refusal) → IsDefinite r → IsFaulty words all r → (answer ≡ Err r) ⊎ Fails answer
    info_came all comes r definite (inl usage) = absurd (usage.1.not_info path is)
    info_came all comes r definite (inr (inl asks)) = absurd (build_or_info words asks.path asks.out path asks.words_are is)
    info_came all comes r definite (inr (inr asks)) = comes r definite (of_info {P = λ p. InfoIsRefused all p r} asks)

    no_store : (a : Result (Vec ℕ Global) Refusal) → IfErr a IsOfHeader → a ≡ Err StoreFault → ⊥
    no_store a of fault = subst (λ (b : Result (Vec ℕ Global) Refusal). IfErr b IsOfHeader) fault of

    no_spill : (a : Result (Vec ℕ Global) Refusal) → IfErr a IsOfHeader → a ≡ Err SpillFault → ⊥
    no_spill a of fault = subst (λ (b : Result (Vec ℕ Global) Refusal). IfErr b IsOfHeader) fault of

    pub info_carries : (files old : Option Files) (settled : Type 0) (Begins : Files → Files → Type 0) (new : Option Files) (shelf store room same : Type 0) → same
        → IfOk answer (λ line. (header : Header) × (line.items ≡ header_text header))
        → IfOk answer (λ line. Tells (λ all. HasTold all path line.items) files)
        → IfErr answer IsOfHeader
        → IfErr answer (λ r. Tells (λ all. InfoIsRefused all path r) files)
        → (answer ≡ Err SourceFault → shelf)
        → Tells (λ all. (r : Refusal) → IsDefinite r → InfoIsRefused all path r → (answer ≡ Err r) ⊎ Fails answer) files
        → Carries words files Begins (SaysOfStore words files old new settled) new shelf store room same answer
    info_carries files old settled Begins new shelf store room same unchanged said told of refused sources comes = record {
      is_answer = ok_weaker (λ line. (header : Header) × (line.items ≡ header_text header)) (λ line. IsAnswer words line.items) answer
          (λ line text. inr (inl (record { path = path; words_are = is; holds = text }))) said;
      done = ok_weaker (λ line. Tells (λ all. HasTold all path line.items) files) (λ line. Tells (λ all. IsDone words all Begins line.items new) files) answer
          (λ line has. told_as (λ all. HasTold all path line.items) (λ all. IsDone words all Begins line.items new) files (λ all h. inr (inl (record { path = path; words_are = is; holds = h }))) has) told;
      named = err_weaker IsOfHeader (λ r. r ≢ Usage) answer (λ r o. (named_of r o).0) of;
      refused = err_weaker (λ r. Tells (λ all. InfoIsRefused all path r) files) (λ r. Tells (λ all. IsRefused words all Begins r) files) answer
          (λ r why. told_as (λ all. InfoIsRefused all path r) (λ all. IsRefused words all Begins r) files (λ all h. inr (inr (inl (record { path = path; words_are = is; holds = h })))) why) refused;
      lacks = told_always (λ all. IsRefused words all Begins Memory) files (λ all. inr (inr (inl (record { path = path; words_are = is; holds = tt }))));
      of_store = err_weaker IsOfHeader (SaysOfStore words files old new settled) answer (λ r o other folder also. absurd (build_or_info words other folder path also is)) of;
      lacks_store = λ other folder also. tt;
      sources = sources;
      stores = λ fault. absurd (no_store answer of fault);
      spills = λ fault. absurd (no_spill answer of fault);
      early = err_weaker IsOfHeader (λ r. IsEarly r → same) answer (λ r o early. unchanged) of;
      comes = told_as (λ all. (r : Refusal) → IsDefinite r → InfoIsRefused all path r → (answer ≡ Err r) ⊎ Fails answer) (λ all. (r : Refusal) → IsDefinite r → IsFaulty words all r → (answer ≡ Err r) ⊎ Fails answer) files
          info_came comes;
    }

    pub info_accepted : (files : Option Files) → Tells (λ all. (header : Header) → HasHeader all path header → IsOk answer ⊎ Fails answer) files
        → (all : Files) (header : Header) → files ≡ Some all → AsksInfo words (λ p. HasHeader all p header) → IsOk answer ⊎ Fails answer
    info_accepted files accepted all header told asks =
        subst (λ (o : Option Files). Tells (λ all. (header : Header) → HasHeader all path header → IsOk answer ⊎ Fails answer) o) told accepted header (of_info {P = λ p. HasHeader all p header} asks)
