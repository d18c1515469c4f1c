-- A batch of records is drawn.
use Rattle.std.specs.Prelude.{◌≡◌, ⊤, ℕ, ◌<◌, ◌≤◌, ◌⊎◌, Bool, true, false, List, [], length, min, None, Result, Ok, Err}
use Rattle.ept_point.specs.declared.point.Point.{Point}
use Rattle.ept_space.specs.VoxelKey.{root}
use Rattle.ept_scan.specs.declared.read_error.ReadError.{ReadError}
use Rattle.ept_scan.specs.declared.read_error.ReadError.TheVariants as read
use Rattle.ept_sample.specs.Members.{IsMember}
use Rattle.ept_table.specs.declared.note.Told.{Told}
use Rattle.ept_table.specs.declared.taken.Progress.{Progress}
use Rattle.ept_table.specs.Shown.{FitsReader}
use Rattle.ept_table.specs.Steps as table
use Rattle.ept_table.specs.Steps.{given_back, carried_to, HasRead}
use Rattle.ept_table.specs.View.{View}
use Rattle.ept_work.specs.Errors.{of_read}
use Rattle.ept_work.specs.declared.error.WorkError.{WorkError}
use Rattle.ept_work.specs.declared.error.WorkError.TheVariants.{SourceFault, SourceChanged, TooManyNodes, SpillFault, SpillDamaged, Memory}

-- The reader was taken and returned: it has drawn these points, which now fly to the root by slot 1, or has failed.
pub record HasDrawn (told : Told) (number : ℕ) (v w : View) (points : List Point) : Type 0 where
  pub old : Progress
  pub new : Progress
  pub fits : FitsReader told new
  pub has_read : HasRead told old new points
  pub after : w ≡ given_back v (table.read v.note new (carried_to number 1 root points))

-- A batch was drawn: 1,024 points, or fewer if the allowance or the inputs have fewer. The result is whether there were
-- any.
pub record DrawsBatch (told : Told) (number : ℕ) (v w : View) (is_some : Bool) : Type 0 where
  pub points : List Point
  pub drawn : HasDrawn told number v w points
  pub sound : drawn.new.failed ≡ None
  pub batch : length points ≡ min 1024 (min drawn.old.allowed drawn.old.left)
  pub some : is_some ≡ true → 0 < length points
  pub none : is_some ≡ false → points ≡ []

-- nothing was drawn, and the reader was left where it lies, or was returned
abbrev pub DrawsNone : Told → ℕ → View → View → Type 0
DrawsNone told number v w = (w ≡ v) ⊎ HasDrawn told number v w []

-- all points were drawn that the allowance and the inputs have
abbrev pub HasDrawnAll : Told → View → Type 0
HasDrawnAll told v = (told.end ≤ v.note.given) ⊎ (told.total ≤ v.note.given)

-- the cause of a refusal at a draw: out of memory, or the refusal by which the reader has failed, which the seat notes
abbrev pub IsReadCause : View → WorkError → Type 0
IsReadCause v SourceFault = IsMember read.SourceFault v.note.failures
IsReadCause v (SourceChanged source number) = IsMember (read.SourceChanged source number) v.note.failures
IsReadCause v TooManyNodes = ⊥
IsReadCause v SpillFault = ⊥
IsReadCause v (SpillDamaged kept found at) = ⊥
IsReadCause v Memory = ⊤

-- what a draw returns after this result of the reader
abbrev pub answer_of : Result (Unit {0}) ReadError → Bool → Result Bool WorkError
answer_of (Ok u) is_some = Ok is_some
answer_of (Err e) is_some = Err (of_read e)
