-- What holds of sound files. Each statement follows from the contract of a function of `laws`.
use Rattle.std.specs.Prelude.{◌≡◌, ◌⊎◌, ℕ, List, length, Some, None, ⊤, Contains, slice_get}
use Rattle.ept_base.specs.Files.{Files, SameFiles}
use Rattle.ept_point.specs.declared.point.Point.{Point}
use Rattle.ept_point.specs.declared.layout.Layout.TheVariants.{Old}
use Rattle.ept_config.specs.declared.input.Input.{Input}
use Rattle.ept_ckpt.specs.declared.letter.Letter.{Letter}
use Rattle.ept_ckpt.specs.declared.checkpoint.Checkpoint.{Checkpoint}
use Rattle.ept_ckpt.specs.Versions.{layout_of}
use Rattle.ept_meta.specs.Output.{File, IsOutput, IsOutsideWork, names_of}
use Rattle.ept_save.specs.Names.{done_name, IsSavedName}
use Rattle.ept_save.specs.Current.{Current, HasCurrent, Keeps, Commits}
use Rattle.ept_save.specs.Done.{IsDone, Guards}
use Rattle.ept_save.specs.Migrating.{IsTurnOf, Migrates}
use Rattle.ept_save.specs.Opening.{IsBad}
use Rattle.ept_save.specs.Complete.{IsComplete}
use Rattle.ept_save.specs.Sound.{HasPointsOf, IsSaved, IsWhole, IsSound}

-- ---- what is sound

-- a folder without files
abbrev pub no_files : Files
no_files name = None

abbrev pub EmptyIsSound : Type 0
EmptyIsSound = (shelf : Files) → IsSound shelf no_files

-- files have one current checkpoint
abbrev pub CurrentIsOne : Type 0
CurrentIsOne = (files : Files) (a b : Current) → HasCurrent a files → HasCurrent b files → a ≡ b

-- where there is a current checkpoint, or none for want of any, no checkpoint is bad
abbrev pub CurrentIsNotBad : Type 0
CurrentIsNotBad = (current : Current) (files : Files) (letter : Letter) → HasCurrent current files → ¬ IsBad files letter

-- sound files have no bad checkpoint
abbrev pub SoundHasNoBad : Type 0
SoundHasNoBad = (shelf files : Files) (letter : Letter) → IsSound shelf files → ¬ IsBad files letter

-- sound files whose done gate is open are complete
abbrev pub DoneIsComplete : Type 0
DoneIsComplete =
    (shelf files : Files) (letter : Letter) (c : Checkpoint) → HasCurrent (Some (letter, c)) files → IsSound shelf files → IsDone files → (points : List Point) × HasPointsOf shelf c points × (c.inserted ≡ length points) × IsComplete c.kept points files

-- ---- what keeps files sound

-- a step that keeps the current checkpoint, its tiles, and all files but those of checkpoints
abbrev pub KeepingKeepsSound : Type 0
KeepingKeepsSound =
    (shelf old new : Files) (current : Current) → HasCurrent current old → Keeps current old new → IsSound shelf old → IsSound shelf new

-- so soundness depends on what is read alone
abbrev pub SameIsSound : Type 0
SameIsSound = (shelf old new : Files) → SameFiles old new → IsSound shelf old → IsSound shelf new

-- soundness speaks of the name: it is a checkpoint's, that of the done gate, or outside a build's own folders
abbrev pub IsOfBuild : List ℕ → Type 0
IsOfBuild name = IsSavedName name ⊎ (name ≡ done_name) ⊎ IsOutsideWork name

-- each such name reads as before
abbrev pub LeavesBuild : Files → Files → Type 0
LeavesBuild old new = (name : List ℕ) → IsOfBuild name → new name ≡ old name

-- a step that changes no such name
abbrev pub BesideKeepsSound : Type 0
BesideKeepsSound = (shelf old new : Files) → LeavesBuild old new → IsSound shelf old → IsSound shelf new

-- two shelves have the same files under the paths of the checkpoint's inputs
abbrev pub HaveSameInputs : Files → Files → Current → Type 0
HaveSameInputs one two None = ⊤
HaveSameInputs one two (Some (letter, c)) =
    (i : ℕ) (input : Input) → slice_get c.kept.inputs i ≡ Some input → two input.path ≡ one input.path

-- and of the shelf on the inputs of the current checkpoint alone. So a folder stays sound if scans are added, or
-- another configuration lies there.
abbrev pub InputsAreEnough : Type 0
InputsAreEnough =
    (one two files : Files) (current : Current) → HasCurrent current files → HaveSameInputs one two current → IsSound one files → IsSound two files

-- The current checkpoint has all points inserted, and their output is all there.
abbrev pub IsPublished : Files → Current → Files → Type 0
IsPublished shelf None files = ⊥
IsPublished shelf (Some (letter, c)) files =
    (points : List Point) × (output : List File) × HasPointsOf shelf c points × IsOutput c.kept points output × IsWhole c points output files

-- it is so where the done gate is open
abbrev pub DoneIsPublished : Type 0
DoneIsPublished =
    (shelf files : Files) (current : Current) → HasCurrent current files → IsSound shelf files → IsDone files → IsPublished shelf current files

-- where it is so at the start, closing and opening the done gate
abbrev pub GuardingKeepsSound : Type 0
GuardingKeepsSound =
    (shelf start old new : Files) (current : Current) → HasCurrent current old → IsPublished shelf current start → Guards start old new → IsSound shelf old → IsSound shelf new

-- where the done gate is not open, a change of files of the output
abbrev pub PuttingKeepsSound : Type 0
PuttingKeepsSound =
    (shelf old new : Files) (letter : Letter) (c : Checkpoint) (points : List Point) (output : List File) → HasCurrent (Some (letter, c)) old → HasPointsOf shelf c points → IsOutput c.kept points output → ¬ IsDone old
    → ((name : List ℕ) → ¬ Contains (names_of output) name → new name ≡ old name) → IsSound shelf old → IsSound shelf new

-- these are names of each output that the current checkpoint's points have
abbrev pub HasNamesOf : Files → Current → List (List ℕ) → Type 0
HasNamesOf shelf None names = ⊤
HasNamesOf shelf (Some (letter, c)) names =
    (points : List Point) (output : List File) → HasPointsOf shelf c points → IsOutput c.kept points output → (name : List ℕ) → Contains (names_of output) name → Contains names name

-- where the done gate is not open, a commit of a checkpoint with its tiles, whose output has each name that there may be
abbrev pub CommittingKeepsSound : Type 0
CommittingKeepsSound =
    (shelf start old new : Files) (current : Current) (letter : Letter) (next : Checkpoint) (points : List Point) (output : List File) → HasCurrent current old → ¬ IsDone old → IsSaved shelf start next points → IsOutput next.kept points output → HasNamesOf shelf current (names_of output)
    → Commits current letter next start old new → IsSound shelf old → IsSound shelf new

-- where the done gate is not open, a migration of the checkpoint that was current in sound files of the start
abbrev pub MigratingKeepsSound : Type 0
MigratingKeepsSound =
    (shelf start old new : Files) (letter : Letter) (c next : Checkpoint) → layout_of c.version ≡ Old → IsTurnOf c next → HasCurrent (Some (letter, c)) start → IsSound shelf start → HasCurrent (Some (letter, c)) old → ¬ IsDone old
    → Migrates letter c next start old new → IsSound shelf old → IsSound shelf new
