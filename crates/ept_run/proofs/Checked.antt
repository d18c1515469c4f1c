-- How a check ends, and what its status says.
use Rattle.std.proofs.Common.{◌≡◌, ◌≢◌, ◌⊎◌, inl, inr, ℕ, List, Option, None, Some, Ok, Err, refl, sym, ◌∙◌, subst, arith}
use Rattle.std.specs.Prelude.{◌↔◌, Vec, length}
use Rattle.std.specs.Io.KnownBytes.{Appends}
use Rattle.std.specs.declared.alloc.Global.{Global}
use Rattle.ept_base.specs.Devices.{AppendsPrefix}
use Rattle.ept_base.specs.Files.{Files}
use Rattle.ept_point.specs.declared.point.Point.{Point}
use Rattle.ept_sample.specs.Nodes.{node_keys}
use Rattle.ept_config.specs.declared.kept.Kept.{Kept}
use Rattle.ept_meta.specs.Output.{rules_of}
use Rattle.ept_save.specs.Complete.{IsComplete}
use Rattle.ept_check.specs.declared.verdict.Verdict.TheVariants.{Fit, Unfit}
use Rattle.ept_check.specs.declared.check_error.CheckError.TheVariants.{NotComplete, StoreFault, Damaged, Memory}
use Rattle.ept_check.specs.Answers.{Answer, IsCalledFor, ComesAsCalled, ComesOrFails}
use Rattle.ept_command.specs.declared.ended.Failure.{Failure}
use Rattle.ept_command.specs.declared.ended.Failure.TheVariants as failure
use Rattle.ept_run.specs.Lines.{fit_text}
use Rattle.ept_run.specs.Answers.{Yields, IsSaid, IsSaidFor}
use Rattle.ept_run.specs.Checks.{SaysCheck, FailsCheck, IsCheckReported, EndsCheck}
use Rattle.ept_run.proofs.Runs.{some_or_none}

-- what is called for is reported, or out of memory is, which may be at any time
pub check_ends : (status : ℕ) (failure : Option Failure) (files : Option Files) (old new : Option (List ℕ)) (store out : Type 0) (answer : Answer)
    → IsCalledFor files answer → ComesAsCalled files answer
    → ((kept : Kept) (points : List Point) (all : Files) → files ≡ Some all → IsComplete kept points all → ComesOrFails (Ok (Fit (length points) (length (node_keys (rules_of kept) points)))) answer)
    → (answer ≡ Err StoreFault → store)
    → IsCheckReported answer status failure old new out ⊎ IsCheckReported (Err Memory) status failure old new out
    → (ends : EndsCheck status files old new store out) × FailsCheck ends.answer failure
check_ends status failure files old new store out answer called comes complete stores (inl told) =
    (record { answer = answer; says = told.says; called = called; comes = comes; complete = complete; stores = stores }, told.fails)
check_ends status failure files old new store out answer called comes complete stores (inr told) = (
  record {
    answer = Err Memory;
    says = told.says;
    called = tt;
    comes = λ all is other calls. inr (inr refl);
    complete = λ kept points all is whole. inr (inr refl);
    stores = λ is. absurd (not_store is);
  },
  told.fails,
)
  where
    not_store : ◌≡◌ {A = Answer} (Err Memory) (Err StoreFault) → ⊥
    not_store same = cc

module _ (status : ℕ) (old new : Option (List ℕ)) (failed : Type 0) where
  pub check_not_usage : (answer : Answer) → SaysCheck answer status old new failed → status ≡ 2 → ⊥
  check_not_usage (Ok (Fit points nodes)) (inl done) is = omega (arith, done.0, is)
  check_not_usage (Ok (Fit points nodes)) (inr cut) is = omega (arith, cut.0, is)
  check_not_usage (Ok (Unfit key why)) says is = omega (arith, says.0, is)
  check_not_usage (Err NotComplete) says is = omega (arith, says.0, is)
  check_not_usage (Err StoreFault) says is = omega (arith, says.0, is)
  check_not_usage (Err (Damaged file)) says is = omega (arith, says.0, is)
  check_not_usage (Err Memory) says is = omega (arith, says.0, is)

  pub check_rose : (answer : Answer) (store : Type 0) → (answer ≡ Err StoreFault → store) → SaysCheck answer status old new failed → status ≡ 7 → store ⊎ failed
  check_rose (Ok (Fit points nodes)) store stores (inl done) is = absurd (omega (arith, done.0, is))
  check_rose (Ok (Fit points nodes)) store stores (inr cut) is = inr cut.1
  check_rose (Ok (Unfit key why)) store stores says is = absurd (omega (arith, says.0, is))
  check_rose (Err NotComplete) store stores says is = absurd (omega (arith, says.0, is))
  check_rose (Err StoreFault) store stores says is = inl (stores refl)
  check_rose (Err (Damaged file)) store stores says is = absurd (omega (arith, says.0, is))
  check_rose (Err Memory) store stores says is = absurd (omega (arith, says.0, is))

  said_yields : (line : List ℕ) → IsSaid line status old new failed → Yields 0 status
  said_yields line (inl done) = inl done.0
  said_yields line (inr cut) = inr (inl cut.0)

  -- the dataset of complete files is fit, or a device fails, or memory runs out
  pub check_yields : (points nodes : ℕ) (answer : Answer) → ComesOrFails (Ok (Fit points nodes)) answer → SaysCheck answer status old new failed → Yields 0 status
  check_yields points nodes answer (inl is) says =
      said_yields (fit_text points nodes) (subst (λ (a : Answer). SaysCheck a status old new failed) is says)
  check_yields points nodes answer (inr (inl is)) says =
      inr (inl (subst (λ (a : Answer). SaysCheck a status old new failed) is says).0)
  check_yields points nodes answer (inr (inr is)) says =
      inr (inr (subst (λ (a : Answer). SaysCheck a status old new failed) is says).0)

-- ---- how a dataset that is fit is reported

module _ (status : ℕ) (why_not : Option Failure) (old new : Option (List ℕ)) (failed : Type 0) where
  never_done : (n : ℕ) (f : Failure) → status ≡ n → n ≢ 0 → why_not ≡ Some f → (status ≡ 0) ↔ (why_not ≡ None)
  never_done n f is not fails = (λ zero_is. absurd (not (sym is ∙ zero_is)), λ none. absurd (some_or_none f why_not fails none))

  pub fit_reported : (points nodes : ℕ) (line : Vec ℕ Global) → line.items ≡ fit_text points nodes → IsSaidFor line status why_not old new failed → IsCheckReported (Ok (Fit points nodes)) status why_not old new failed
  fit_reported points nodes line same (inl ok) = record {
    says = inl (ok.0, subst (λ (text : List ℕ). Appends old new text) same ok.2);
    fails = inl ok.1;
    unless_done = (λ is. ok.1, λ none. ok.0);
  }
  fit_reported points nodes line same (inr cut) = record {
    says = inr (cut.0, cut.2, subst (λ (text : List ℕ). AppendsPrefix old new text) same cut.3);
    fails = inr (line, cut.1, same);
    unless_done = never_done 7 (failure.LineNotWritten line) cut.0 (omega arith) cut.1;
  }
