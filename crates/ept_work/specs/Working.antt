-- The work of one worker, and of several.
use Rattle.std.specs.Prelude.{◌≡◌, ⊤, ◌⊎◌, true, [], Result, Ok, Err}
use Rattle.ept_node.specs.declared.error.NodeError.TheVariants as node
use Rattle.ept_scan.specs.declared.read_error.ReadError.TheVariants as read
use Rattle.ept_sample.specs.Members.{IsMember}
use Rattle.ept_table.specs.declared.note.Told.{Told}
use Rattle.ept_table.specs.Steps.{lacks_slot}
use Rattle.ept_table.specs.Tells.{IsTooMany}
use Rattle.ept_table.specs.View.{View, NotesFull}
use Rattle.ept_work.specs.declared.error.WorkError.{WorkError}
use Rattle.ept_work.specs.declared.error.WorkError.TheVariants.{SourceFault, SourceChanged, TooManyNodes, SpillFault, SpillDamaged, Memory}
use Rattle.ept_work.specs.Rest.{IsIdle}
use Rattle.ept_work.specs.Drawing.{HasDrawnAll}

-- nothing was abandoned, refused or failed besides what the seat noted before
pub record Keeps (v w : View) : Type 0 where
  pub parts : w.parts ≡ v.parts
  pub refused : w.refused ≡ v.refused
  pub gone : w.note.gone ≡ v.note.gone
  pub over : w.note.over ≡ v.note.over
  pub failures : w.note.failures ≡ v.note.failures

-- and the reader that it last returned has drawn all that the allowance and the inputs have
pub record HasWorked (told : Told) (v w : View) : Type 0 where
  pub keeps : Keeps v w
  pub all : HasDrawnAll told w

-- it holds no slot and carries no flight
pub record HasEnded (v w : View) : Type 0 where
  pub idle : IsIdle w
  pub landed : w.note.flights ≡ []
  pub parts : w.parts ≡ v.parts

-- The cause for which a worker stops.
abbrev pub IsStopped : Told → View → WorkError → Type 0
IsStopped told v SourceFault = IsMember read.SourceFault v.note.failures
IsStopped told v (SourceChanged source number) = IsMember (read.SourceChanged source number) v.note.failures
IsStopped told v TooManyNodes = (NotesFull v × IsTooMany told) ⊎ (lacks_slot v.note.flights ≡ true)
IsStopped told v SpillFault = IsMember node.SpillFault v.note.broken
IsStopped told v (SpillDamaged kept found at) = IsMember (node.SpillDamaged kept found at) v.note.broken
IsStopped told v Memory = ⊤

-- The cause of a refusal. The reader has failed by it, or a node that was returned is broken by it; the seat notes
-- either. Or the seat notes that all slots are drawn, and if contents are visible, the sampling has more nodes than
-- there may be. Or memory ran out.
abbrev pub IsCause : Told → View → WorkError → Type 0
IsCause told v SourceFault = IsMember read.SourceFault v.note.failures
IsCause told v (SourceChanged source number) = IsMember (read.SourceChanged source number) v.note.failures
IsCause told v TooManyNodes = NotesFull v × IsTooMany told
IsCause told v SpillFault = IsMember node.SpillFault v.note.broken
IsCause told v (SpillDamaged kept found at) = IsMember (node.SpillDamaged kept found at) v.note.broken
IsCause told v Memory = ⊤

-- the refusal of the first, and otherwise the result of the second
abbrev pub first_refusal : Result (Unit {0}) WorkError → Result (Unit {0}) WorkError → Result (Unit {0}) WorkError
first_refusal (Ok u) second = second
first_refusal (Err e) second = Err e
