-- How a check ends.
use Rattle.std.specs.Prelude.{◌≡◌, ◌⊎◌, ◌↔◌, ℕ, Option, None, Some, List, length, Ok, Err, codes}
use Rattle.ept_base.specs.Files.{Files}
use Rattle.ept_point.specs.declared.point.Point.{Point}
use Rattle.ept_sample.specs.Nodes.{node_keys}
use Rattle.ept_config.specs.declared.kept.Kept.{Kept}
use Rattle.ept_meta.specs.Output.{rules_of}
use Rattle.ept_save.specs.Complete.{IsComplete}
use Rattle.ept_check.specs.declared.verdict.Verdict.TheVariants.{Fit, Unfit}
use Rattle.ept_check.specs.declared.check_error.CheckError.TheVariants.{NotComplete, StoreFault, Damaged, Memory}
use Rattle.ept_check.specs.Answers.{Answer, IsCalledFor, ComesAsCalled, ComesOrFails}
use Rattle.ept_command.specs.declared.ended.Failure.{Failure}
use Rattle.ept_command.specs.declared.ended.Failure.TheVariants as failure
use Rattle.ept_run.specs.Lines.{fit_text, unfit_text}
use Rattle.ept_run.specs.Answers.{Says, IsSaid, IsUnwritten}

-- The status of a check with this result, and its line. The sink has gained the line, or a prefix of it if the sink
-- failed.
abbrev pub SaysCheck : Answer → ℕ → Option (List ℕ) → Option (List ℕ) → Type 0 → Type 0
SaysCheck (Ok (Fit points nodes)) status old new failed = IsSaid (fit_text points nodes) status old new failed
SaysCheck (Ok (Unfit key why)) status old new failed = (status ≡ 8) × Says (unfit_text key why) old new failed
SaysCheck (Err NotComplete) status old new failed = (status ≡ 6) × Says (codes "error 6 complete\n") old new failed
SaysCheck (Err StoreFault) status old new failed = (status ≡ 7) × Says (codes "error 7 store\n") old new failed
SaysCheck (Err (Damaged file)) status old new failed = (status ≡ 8) × Says (codes "error 8 damaged\n") old new failed
SaysCheck (Err Memory) status old new failed = (status ≡ 9) × Says (codes "error 9 memory\n") old new failed

-- why it does not end with status 0: a fit dataset is no failure, unless its line could not be written
abbrev pub FailsCheck : Answer → Option Failure → Type 0
FailsCheck (Ok (Fit points nodes)) why_not = (why_not ≡ None) ⊎ IsUnwritten why_not (fit_text points nodes)
FailsCheck (Ok (Unfit key why)) why_not = why_not ≡ Some (failure.Unfit key why)
FailsCheck (Err error) why_not = why_not ≡ Some (failure.CheckRefused error)

-- a check with this result is reported by this status, failure and line
pub record IsCheckReported (answer : Answer) (status : ℕ) (why_not : Option Failure) (old new : Option (List ℕ)) (failed : Type 0) : Type 0 where
  pub says : SaysCheck answer status old new failed
  pub fails : FailsCheck answer why_not
  pub unless_done : (status ≡ 0) ↔ (why_not ≡ None)

-- A check ends with a status. Its result is a verdict or a refusal, which these files call for, and has this status and
-- its line. Store and out say that the count of that device rose.
pub record EndsCheck (status : ℕ) (files : Option Files) (old new : Option (List ℕ)) (store out : Type 0) : Type 0 where
  pub answer : Answer
  pub says : SaysCheck answer status old new out
  pub called : IsCalledFor files answer
  pub comes : ComesAsCalled files answer
  pub complete : (kept : Kept) (points : List Point) (all : Files) → files ≡ Some all → IsComplete kept points all
      → ComesOrFails (Ok (Fit (length points) (length (node_keys (rules_of kept) points)))) answer
  pub stores : answer ≡ Err StoreFault → store
