-- What passes over a link while a connection is served.
use Rattle.std.specs.Prelude.{◌≡◌, ℕ, ◌+◌, ◌≤◌, List, [], ◌++◌, length, take}
use Rattle.std.specs.List.{AllByRecursion}
use Rattle.ept_base.specs.Links.{Wire}
use Rattle.ept_conn.specs.declared.end.End.{End}
use Rattle.ept_conn.specs.Answers.{Served}
use Rattle.ept_conn.specs.Whole.{HasAnswered}
use Rattle.ept_conn.specs.Ends.{IsEnd}

-- A read, given by the number of bytes taken and written before it. What the call had written before the read is the
-- responses to the bytes that it had read before.
pub record IsAnsweredAt (served : Served) (old : Wire) (bytes text : List ℕ) (at : ℕ × ℕ) : Type 0 where
  pub came : ℕ
  pub went : ℕ
  pub within : came ≤ length bytes
  pub up_to : went ≤ length text
  pub taken : at.0 ≡ length old.taken + came
  pub written : at.1 ≡ length old.written + went
  pub answers : HasAnswered served (take came bytes) (take went text)

-- the call read these bytes and wrote this text, and no turn waited for bytes that follow it
pub record Passes (served : Served) (old new : Wire) (bytes text : List ℕ) : Type 0 where
  pub taken : new.taken ≡ old.taken ++ bytes
  pub written : new.written ≡ old.written ++ text
  pub reads : List (ℕ × ℕ)
  pub reads_are : new.reads ≡ old.reads ++ reads
  pub each : AllByRecursion (IsAnsweredAt served old bytes text) reads

-- the connection was served to its end; status 503 was sent only for this reason, or for a damaged file
pub record IsServedOver (served : Served) (reason : Type 0) (ends : End) (old new : Wire) : Type 0 where
  pub bytes : List ℕ
  pub text : List ℕ
  pub passes : Passes served old new bytes text
  pub ended : IsEnd served reason (new.left ≡ []) bytes text ends
