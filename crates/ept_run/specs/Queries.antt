-- How a query ends, and a selection.
use Rattle.std.specs.Prelude.{◌≡◌, ℕ, Option, None, Some, List, Result, Ok, Err, IfOk, IfErr}
use Rattle.ept_base.specs.Files.{Files, Tells}
use Rattle.ept_point.specs.declared.point.Point.{Point}
use Rattle.ept_space.specs.declared.box3.Box3.{Box3}
use Rattle.ept_config.specs.declared.kept.Kept.{Kept}
use Rattle.ept_query.specs.declared.query_error.QueryError.{QueryError}
use Rattle.ept_query.specs.declared.query_error.QueryError.TheVariants.{NotComplete, StoreFault, Damaged, SinkFault, Memory}
use Rattle.ept_filter.specs.declared.sift.Sift.{Sift}
use Rattle.ept_query.specs.Answers.{Selects, LeavesSelection}
use Rattle.ept_save.specs.Complete.{IsComplete}
use Rattle.ept_query.specs.Complete.{AnswersWhole, SelectsWhole}
use Rattle.ept_query.specs.Refusals.{RefusesQuery, CallsOfQuery, RefusesAsCalled}
use Rattle.ept_command.specs.declared.ended.Failure.{Failure}
use Rattle.ept_command.specs.declared.ended.Failure.TheVariants.{QueryRefused}

-- the status of a query with this result
abbrev pub query_status : Result ℕ QueryError → ℕ
query_status (Ok count) = 0
query_status (Err NotComplete) = 6
query_status (Err StoreFault) = 7
query_status (Err (Damaged file)) = 8
query_status (Err SinkFault) = 7
query_status (Err Memory) = 9

-- why a query with this result does not end with status 0
abbrev pub query_failure : Result ℕ QueryError → Option Failure
query_failure (Ok count) = None
query_failure (Err error) = Some (QueryRefused error)

-- what is returned for complete files: all that a query gives, or what a selection keeps of it
abbrev pub GivesWhole : Option Sift → Kept → List Point → Box3 → ℕ → ℕ → Option (List ℕ) → Option (List ℕ) → Result ℕ QueryError → Type 0
GivesWhole None kept points area first last old new answer = AnswersWhole kept points area first last old new answer
GivesWhole (Some sift) kept points area first last old new answer = SelectsWhole sift kept points area first last old new answer

-- A query of an area and depths, or a selection from it, ends with a status. This is the status of its result: the
-- points, or a refusal. Store and out say that the count of that device rose.
pub record EndsSelection (sift : Option Sift) (area : Box3) (first last : ℕ) (status : ℕ) (files : Option Files) (old new : Option (List ℕ)) (store out : Type 0) : Type 0 where
  pub answer : Result ℕ QueryError
  pub status_is : status ≡ query_status answer
  pub done : IfOk answer (λ count. Tells (Selects sift area first last old new count) files)
  pub complete : (kept : Kept) (points : List Point) (all : Files) → files ≡ Some all → IsComplete kept points all → GivesWhole sift kept points area first last old new answer
  pub refused : IfErr answer (RefusesQuery area first last files)
  pub comes : RefusesAsCalled (CallsOfQuery area first last) files answer
  pub leaves : IfErr answer (LeavesSelection sift area first last files old new)
  pub stores : answer ≡ Err StoreFault → store
  pub sinks : answer ≡ Err SinkFault → out

-- how a query ends
abbrev pub EndsQuery : Box3 → ℕ → ℕ → ℕ → Option Files → Option (List ℕ) → Option (List ℕ) → Type 0 → Type 0 → Type 0
EndsQuery area first last status files old new store out = EndsSelection None area first last status files old new store out

-- how a selection ends
abbrev pub EndsSelect : Sift → Box3 → ℕ → ℕ → ℕ → Option Files → Option (List ℕ) → Option (List ℕ) → Type 0 → Type 0 → Type 0
EndsSelect sift area first last status files old new store out = EndsSelection (Some sift) area first last status files old new store out
