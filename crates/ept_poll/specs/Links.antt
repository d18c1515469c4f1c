-- What one poll of a link does.
use Rattle.std.specs.Prelude.{◌≡◌, ℕ, ⊤, List, [], Option, Result, Ok, Err}
use Rattle.futures.specs.declared.task.Poll.{Poll}
use Rattle.futures.specs.declared.task.Poll.TheVariants.{Ready, Pending}
use Rattle.futures.specs.declared.task.context.Context.{Context}
use Rattle.futures.specs.Task.{IsArmed}
use Rattle.ept_base.specs.Causes.{Rose}
use Rattle.ept_base.specs.Links.{Wire, Reads}

-- a fact about the value that is ready, and a fact that holds after an error that is ready
abbrev pub IfReadyOk : {T E : Type 0} → Poll (Result T E) → (T → Type 0) → Type 0
IfReadyOk (Ready (Ok value)) P = P value
IfReadyOk (Ready (Err error)) P = ⊤
IfReadyOk Pending P = ⊤

abbrev pub OnReadyErr : {T E : Type 0} → Poll (Result T E) → Type 0 → Type 0
OnReadyErr (Ready (Ok value)) P = ⊤
OnReadyErr (Ready (Err error)) P = P
OnReadyErr Pending P = ⊤

-- a read took these bytes, and took none only at the end of the input
pub record ReadsOn (bytes : List ℕ) (old new : Wire) : Type 0 where
  pub reads : Reads bytes old new
  pub at_end : bytes ≡ [] → new.left ≡ []

-- a call waits: the count of such waits rose, no byte moved, and the task is to be woken
pub record Waits (before now : ℕ) (old new : Option Wire) (cx : Context) : Type 0 where
  pub rose : Rose before now
  pub unmoved : new ≡ old
  pub armed : IsArmed cx
