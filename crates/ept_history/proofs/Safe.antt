-- What holds between two builds of a history: the files are sound for each shelf that a later build finds.
use Rattle.std.proofs.Common.{◌≡◌, ◌∙◌, ◌⊎◌, inl, inr, suc, List, [], ◌∷◌, ◌++◌, get_or, Some, None, sym, ap, subst, arith}
use Rattle.std.specs.Prelude.{All, AllPairs, slice_get}
use Rattle.std.proofs.lemmas.Bool.{cases_lt}
use Rattle.std.proofs.lemmas.List.Elements.{All-head, All-tail}
use Rattle.ept_base.specs.Files.{Files}
use Rattle.ept_config.specs.declared.input.Input.{Input}
use Rattle.ept_config.specs.declared.kept.Kept.{Kept}
use Rattle.ept_ckpt.specs.declared.letter.Letter.{Letter}
use Rattle.ept_ckpt.specs.declared.checkpoint.Checkpoint.{Checkpoint}
use Rattle.ept_save.specs.Current.{Current, HasCurrent}
use Rattle.ept_save.specs.Sound.{IsSound}
use Rattle.ept_save.specs.SoundLaws.{no_files, EmptyIsSound, CurrentIsOne, InputsAreEnough, HaveSameInputs}
use Rattle.ept_build.specs.Building.{HasContinued, IsUnderWay}
use Rattle.ept_build.specs.Reached.{KeepsAs, HasTurned, IsTakenUp}
use Rattle.ept_history.specs.Histories.{Step, IsStepFrom, AreStepsFrom, left_from, FindsScansOf}

-- ---- shelves and lists

same-between : (one two three : Files) (current : Current) → HaveSameInputs one two current → HaveSameInputs one three current → HaveSameInputs two three current
same-between one two three None first second = tt
same-between one two three (Some (letter, c)) first second = λ i input is. second i input is ∙ sym (first i input is)

-- a checkpoint that is taken up has the inputs of the one before
turned-inputs : (one two : Files) (from base : Current) → HasTurned from base → HaveSameInputs one two from → HaveSameInputs one two base
turned-inputs one two from base t same =
    let its : HaveSameInputs one two (Some (t.letter, t.c)) = subst (λ (w : Current). HaveSameInputs one two w) t.was same in
    subst (λ (w : Current). HaveSameInputs one two w) (sym t.is) (λ i input at. its i input (subst (λ (k : Kept). slice_get k.inputs i ≡ Some input) t.turns.kept_is at))

later-finds : (step : Step) (later : List Step) → AllPairs FindsScansOf (step ∷ later) → All (FindsScansOf step) later
later-finds step later pairs = λ k d lt. pairs 0 (suc k) d (omega arith) (omega (arith, lt))

later-pairs : (step : Step) (later : List Step) → AllPairs FindsScansOf (step ∷ later) → AllPairs FindsScansOf later
later-pairs step later pairs = λ i j d lt within. pairs (suc i) (suc j) d (omega (arith, lt)) (omega (arith, within))

-- ---- from build to build

-- The files are sound for a shelf, and each later build finds the inputs of their current checkpoint as they are on it.
-- `Holds` is what is known of this checkpoint.
pub record IsSafe (Holds : Files → Current → Type 0) (files : Files) (later : List Step) : Type 0 where
  pub current : Current
  pub has_current : HasCurrent current files
  pub shelf : Files
  pub sound : IsSound shelf files
  pub same : All (λ (step : Step). HaveSameInputs shelf step.shelf current) later
  pub holds : Holds shelf current

-- at first
pub safe-first : (Holds : Files → Current → Type 0) → EmptyIsSound → Holds no_files None → (later : List Step) → IsSafe Holds no_files later
safe-first Holds empty holds later = record {
  current = None;
  has_current = λ letter counts. cc;
  shelf = no_files;
  sound = empty no_files;
  same = λ k d lt. tt;
  holds = holds;
}

-- they are sound for the next build
pub safe-next : (Holds : Files → Current → Type 0) → InputsAreEnough → (files : Files) (step : Step) (later : List Step) → IsSafe Holds files (step ∷ later) → IsSound step.shelf files
safe-next Holds enough files step later safe =
    enough safe.shelf step.shelf files safe.current safe.has_current (All-head (λ (s : Step). HaveSameInputs safe.shelf s.shelf safe.current) step later safe.same) safe.sound

-- and what is known is so for its shelf
pub holds-next : (Holds : Files → Current → Type 0) → ((one two : Files) (current : Current) → HaveSameInputs one two current → Holds one current → Holds two current) → (files : Files) (step : Step) (later : List Step) → (safe : IsSafe Holds files (step ∷ later)) → Holds step.shelf safe.current
holds-next Holds there files step later safe =
    there safe.shelf step.shelf safe.current (All-head (λ (s : Step). HaveSameInputs safe.shelf s.shelf safe.current) step later safe.same) safe.holds

-- what is known of the checkpoint that a build of these makes
abbrev pub HoldsOfNext : (Files → Current → Type 0) → (Step → Type 0) → Type 0
HoldsOfNext Holds Among =
    (step : Step) (current : Current) (letter : Letter) (c : Checkpoint) → Among step → Holds step.shelf current → IsSound step.shelf step.left → (on : HasContinued step.shelf step.config current step.left) → HasCurrent (Some (letter, c)) step.left → c.kept ≡ on.kept → Holds step.shelf (Some (letter, c))

module _ (Holds : Files → Current → Type 0) (Among : Step → Type 0) (enough : InputsAreEnough) (one : CurrentIsOne) (there : (one two : Files) (current : Current) → HaveSameInputs one two current → Holds one current → Holds two current) (next : HoldsOfNext Holds Among) (turn : (shelf : Files) (from base : Current) → HasTurned from base → Holds shelf from → Holds shelf base) where
  safe-then : (files : Files) (step : Step) (later : List Step) → IsSafe Holds files (step ∷ later) → Among step → IsStepFrom files step → AllPairs FindsScansOf (step ∷ later) → IsSafe Holds step.left later
  safe-then files step later safe among is pairs = by under.either
    where
      under : IsUnderWay step.shelf step.config files step.left
      under = is (safe-next Holds enough files step later safe)

      its : under.current ≡ safe.current
      its = one files under.current safe.current under.has_current safe.has_current

      known : Holds step.shelf safe.current
      known = holds-next Holds there files step later safe

      unchanged : HasCurrent safe.current step.left → IsSafe Holds step.left later
      unchanged has = record {
        current = safe.current;
        has_current = has;
        shelf = step.shelf;
        sound = under.sound;
        same = λ k d lt.
            same-between safe.shelf step.shelf (get_or later k d).shelf safe.current (All-head (λ (s : Step). HaveSameInputs safe.shelf s.shelf safe.current) step later safe.same)
            (All-tail (λ (s : Step). HaveSameInputs safe.shelf s.shelf safe.current) step later safe.same k d lt);
        holds = known;
      }

      turned_over : (base : Current) → HasTurned safe.current base → HasCurrent base step.left → IsSafe Holds step.left later
      turned_over base t has = record {
        current = base;
        has_current = has;
        shelf = step.shelf;
        sound = under.sound;
        same = λ k d lt. turned-inputs step.shelf (get_or later k d).shelf safe.current base t
            (same-between safe.shelf step.shelf (get_or later k d).shelf safe.current (All-head (λ (s : Step). HaveSameInputs safe.shelf s.shelf safe.current) step later safe.same)
            (All-tail (λ (s : Step). HaveSameInputs safe.shelf s.shelf safe.current) step later safe.same k d lt));
        holds = turn step.shelf safe.current base t known;
      }

      as_taken : (base : Current) → IsTakenUp safe.current base → HasCurrent base step.left → IsSafe Holds step.left later
      as_taken base (inl same) has = unchanged (subst (λ (w : Current). HasCurrent w step.left) same.1 has)
      as_taken base (inr t) has = turned_over base t has

      changed : (on : HasContinued step.shelf step.config safe.current step.left) (now : Current) → HasCurrent now step.left → KeepsAs on.kept now → IsSafe Holds step.left later
      changed on None has keeps = absurd keeps
      changed on (Some (letter, c)) has keeps =
          let inputs : c.kept.inputs ≡ step.config.inputs = ap (λ (k : Kept). k.inputs) keeps ∙ on.has_points.kept_is.inputs_is in
          record {
            current = Some (letter, c);
            has_current = has;
            shelf = step.shelf;
            sound = under.sound;
            same = λ k d lt i input at. later-finds step later pairs k d lt i input (subst (λ (w : List Input). slice_get w i ≡ Some input) inputs at);
            holds = next step safe.current letter c among known under.sound on has keeps;
          }

      gone : HasContinued step.shelf step.config safe.current step.left → IsSafe Holds step.left later
      gone on = elim (cases_lt 0 on.reached.gone.phases) [
        | inl some ↦ changed on on.reached.gone.now on.reached.gone.has_now (on.reached.gone.after.keeps some)
        | inr none ↦ as_taken on.reached.base on.reached.taken_up (subst (λ (w : Current). HasCurrent w step.left) (on.reached.gone.after.unchanged (omega (arith, none))) on.reached.gone.has_now)
      ]

      by : HasCurrent under.current step.left ⊎ HasContinued step.shelf step.config under.current step.left → IsSafe Holds step.left later
      by (inl has) = unchanged (subst (λ (w : Current). HasCurrent w step.left) its has)
      by (inr on) = gone (subst (λ (w : Current). HasContinued step.shelf step.config w step.left) its on)

  -- so it is of a whole list
  pub safe-last : (files : Files) (steps : List Step) (last : Step) → IsSafe Holds files (steps ++ last ∷ []) → All Among steps → AreStepsFrom files steps → AllPairs FindsScansOf (steps ++ last ∷ []) → IsSafe Holds (left_from files steps) (last ∷ [])
  safe-last files [] last safe among are pairs = safe
  safe-last files (step ∷ later) last safe among are pairs =
      safe-last step.left later last (safe-then files step (later ++ last ∷ []) safe (All-head Among step later among) are.0 pairs) (All-tail Among step later among) are.1 (later-pairs step (later ++ last ∷ []) pairs)
