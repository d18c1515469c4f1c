-- How a run ends, and what it leaves.
use Rattle.std.specs.Prelude.{◌≡◌, ◌⊎◌, ℕ, Option, None, Some, List, [], ◌∷◌, take, Vec, Result, Ok, Err, ⊤}
use Rattle.std.specs.Io.KnownBytes.{Appends}
use Rattle.std.specs.declared.alloc.Global.{Global}
use Rattle.ept_base.specs.Devices.{AppendsPrefix}
use Rattle.ept_base.specs.Files.{Files, Tells}
use Rattle.ept_filter.specs.declared.sift.Sift.{Sift}
use Rattle.ept_las.specs.declared.header.Header.{Header}
use Rattle.ept_point.specs.declared.point.Point.{Point}
use Rattle.ept_space.specs.declared.box3.Box3.{Box3}
use Rattle.ept_space.specs.VoxelKey.{VoxelKey}
use Rattle.ept_config.specs.declared.kept.Kept.{Kept}
use Rattle.ept_scan.specs.Asking.{AsksFor}
use Rattle.ept_meta.specs.declared.fields.Field.{Field}
use Rattle.ept_save.specs.Complete.{IsComplete}
use Rattle.ept_command.specs.declared.ended.Failure.{Failure}
use Rattle.ept_command.specs.declared.ended.Failure.TheVariants.{Refused, LineNotWritten}
use Rattle.ept_command.specs.declared.refusal.Refusal.{Refusal}
use Rattle.ept_command.specs.declared.refusal.Refusal.TheVariants.{Usage, BadConfiguration, BadLas, OutOfBounds, NoBounds, SourceChanged, TooManyPoints, TooManyNodes, Differs, BadCheckpoint, TileDamaged, SourceFault, StoreFault, SpillFault, SpillDamaged, Memory}
use Rattle.ept_command.specs.Words.{IsBuild, IsPart, IsMerge, IsInfo, IsQuery, IsSelect, IsCheck, IsTrial, IsUsage}
use Rattle.ept_command.specs.Statuses.{status_of}
use Rattle.ept_run.specs.Lines.{summary_text, header_text, line_of}
use Rattle.ept_command.specs.Configurations.{ConfigurationIsRefused}
use Rattle.ept_run.specs.Requests.{HasBuilt, HasTold, HasTrial, HasHeader, IsAcceptedAt, IsDoneAt, IsPartAcceptedAt, IsMergeReadyAt, AsksForBuild, BuildIsRefused, InfoIsRefused, IsOfStore, IsEarly}

-- this status, if no device failed and memory sufficed
abbrev pub Yields : ℕ → ℕ → Type 0
Yields wanted status = (status ≡ wanted) ⊎ (status ≡ 7) ⊎ (status ≡ 9)

-- ---- what the words ask for

-- a build of the configuration of some path, of which this holds
pub record AsksBuild (words : List (List ℕ)) (Fact : List ℕ → Type 0) : Type 0 where
  pub path : List ℕ
  pub out : List ℕ
  pub words_are : IsBuild words path out
  pub holds : Fact path

-- a part of the build of the configuration of some path, of which this holds with its octants
pub record AsksPart (words : List (List ℕ)) (Fact : List ℕ → ℕ → Type 0) : Type 0 where
  pub path : List ℕ
  pub out : List ℕ
  pub octants : ℕ
  pub words_are : IsPart words path out octants
  pub holds : Fact path octants

-- a merge of some parts with the configuration of some path, of which this holds
pub record AsksMerge (words : List (List ℕ)) (Fact : List ℕ → List ℕ → Type 0) : Type 0 where
  pub path : List ℕ
  pub out : List ℕ
  pub parts : List ℕ
  pub words_are : IsMerge words path out parts
  pub holds : Fact path parts

-- a part, or a merge of parts
abbrev pub AsksForParts : List (List ℕ) → Type 0
AsksForParts words = AsksPart words (λ _ _. ⊤) ⊎ AsksMerge words (λ _ _. ⊤)

-- what is known of the LAS file of some path, of which this holds
pub record AsksInfo (words : List (List ℕ)) (Fact : List ℕ → Type 0) : Type 0 where
  pub path : List ℕ
  pub words_are : IsInfo words path
  pub holds : Fact path

-- the points of some area and depths of the dataset in some folder
pub record AsksQuery (words : List (List ℕ)) : Type 0 where
  pub folder : List ℕ
  pub area : Box3
  pub first : ℕ
  pub last : ℕ
  pub words_are : IsQuery words folder area first last

-- what some selection keeps of these points
pub record AsksSelect (words : List (List ℕ)) : Type 0 where
  pub folder : List ℕ
  pub area : Box3
  pub first : ℕ
  pub last : ℕ
  pub sift : Sift
  pub words_are : IsSelect words folder area first last sift

-- whether the dataset in some folder is the sampling of its own points
pub record AsksCheck (words : List (List ℕ)) : Type 0 where
  pub folder : List ℕ
  pub words_are : IsCheck words folder

-- something of a finished dataset
abbrev pub AsksDataset : List (List ℕ) → Type 0
AsksDataset words = AsksQuery words ⊎ AsksSelect words ⊎ AsksCheck words

-- something whose end has a clause of its own: of a finished dataset, or of parts
abbrev pub HasOwnEnd : List (List ℕ) → Type 0
HasOwnEnd words = AsksDataset words ⊎ AsksForParts words

-- a trial of some number of points, of which this holds
pub record AsksTrial (words : List (List ℕ)) (Fact : ℕ → Type 0) : Type 0 where
  pub count : ℕ
  pub workers : ℕ
  pub cache : ℕ
  pub words_are : IsTrial words count workers cache
  pub holds : Fact count

-- What the words ask the shelf for, over a store with these files. A build asks for its configuration, and then for
-- what its build asks for. `info` asks for its file. All other words, except a part and a merge, ask for nothing.
abbrev pub IsAskedFor : List (List ℕ) → Option Files → Files → Option (List (List ℕ)) → Option (List (List ℕ)) → Type 0
IsAskedFor words shelf start old new =
    AsksBuild words (λ path. AsksForBuild shelf start path old new)
    ⊎ AsksInfo words (λ path. (n : ℕ) × AsksFor (take n (path ∷ [])) old new)
    ⊎ AsksForParts words
    ⊎ (new ≡ old)

-- ---- what is done

-- the line that a command ends with, whatever the files are
abbrev pub IsAnswer : List (List ℕ) → List ℕ → Type 0
IsAnswer words line =
    AsksBuild words (λ _. (points : ℕ) × (nodes : ℕ) × (line ≡ summary_text points nodes))
    ⊎ AsksInfo words (λ _. (header : Header) × (line ≡ header_text header))
    ⊎ AsksTrial words (λ count. HasTrial count line)

-- The store has the output of a build, a LAS file has a header, or a trial was made, and this line reports it. Begins
-- says that the build begins with these files of the shelf and of the store.
abbrev pub IsDone : List (List ℕ) → Files → (Files → Files → Type 0) → List ℕ → Option Files → Type 0
IsDone words files Begins line new =
    AsksBuild words (λ path. HasBuilt files Begins path line new)
    ⊎ AsksInfo words (λ path. HasTold files path line)
    ⊎ AsksTrial words (λ count. HasTrial count line)

-- A command is carried out, and its line is said, as far as Said says.
pub record Ends (words : List (List ℕ)) (files : Option Files) (Begins : Files → Files → Type 0) (new : Option Files)
    (Said : List ℕ → Type 0) : Type 0 where
  pub line : List ℕ
  pub is_answer : IsAnswer words line
  pub done : Tells (λ all. IsDone words all Begins line new) files
  pub said : Said line

-- ---- refusals

-- the words, or the file that they name, are refused for this cause, whatever the store has
abbrev pub IsFaulty : List (List ℕ) → Files → Refusal → Type 0
IsFaulty words files r =
    ((r ≡ Usage) × IsUsage words)
    ⊎ AsksBuild words (λ path. ConfigurationIsRefused files path r) ⊎ AsksInfo words (λ path. InfoIsRefused files path r)

-- the words, or the files that they name, are refused for this cause; a trial is refused only if memory runs out
abbrev pub IsRefused : List (List ℕ) → Files → (Files → Files → Type 0) → Refusal → Type 0
IsRefused words files Begins r =
    ((r ≡ Usage) × IsUsage words)
    ⊎ AsksBuild words (λ path. BuildIsRefused files Begins path r) ⊎ AsksInfo words (λ path. InfoIsRefused files path r)
    ⊎ AsksTrial words (λ _. r ≡ Memory)

-- the count of a device rose, if the refusal is that device's fault: of the shelf, of the store, or of the room
abbrev pub HasRisen : Refusal → Type 0 → Type 0 → Type 0 → Type 0
HasRisen SourceFault shelf store room = shelf
HasRisen StoreFault shelf store room = store
HasRisen SpillFault shelf store room = room
HasRisen Usage shelf store room = ⊤
HasRisen (BadConfiguration e) shelf store room = ⊤
HasRisen (BadLas source fault) shelf store room = ⊤
HasRisen (OutOfBounds source number) shelf store room = ⊤
HasRisen NoBounds shelf store room = ⊤
HasRisen (SourceChanged source number) shelf store room = ⊤
HasRisen (TooManyPoints source) shelf store room = ⊤
HasRisen TooManyNodes shelf store room = ⊤
HasRisen (Differs field) shelf store room = ⊤
HasRisen (BadCheckpoint letter) shelf store room = ⊤
HasRisen (TileDamaged key) shelf store room = ⊤
HasRisen SpillDamaged shelf store room = ⊤
HasRisen Memory shelf store room = ⊤

-- the sink has gained this line, or a prefix of it if the sink failed
abbrev pub Says : List ℕ → Option (List ℕ) → Option (List ℕ) → Type 0 → Type 0
Says line old new failed = Appends old new line ⊎ (failed × AppendsPrefix old new line)

-- a refusal is reported by its line and its status; if memory does not suffice for that, out of memory is reported
pub record IsTold (r : Refusal) (status : ℕ) (old new : Option (List ℕ)) (failed : Type 0) : Type 0 where
  pub told : Refusal
  pub told_is : (told ≡ r) ⊎ (told ≡ Memory)
  pub status_is : status_of told ≡ status
  pub says : Says (line_of told) old new failed

-- the same, and the failure is the refusal that is reported
abbrev pub IsReported : Refusal → ℕ → Option Failure → Option (List ℕ) → Option (List ℕ) → Type 0 → Type 0
IsReported r status failure old new failed =
    (reports : IsTold r status old new failed) × (failure ≡ Some (Refused reports.told))

-- the line of a command that is carried out is said, or the sink failed at it
abbrev pub IsSaid : List ℕ → ℕ → Option (List ℕ) → Option (List ℕ) → Type 0 → Type 0
IsSaid line status old new failed = ((status ≡ 0) × Appends old new line)
    ⊎ ((status ≡ 7) × failed × AppendsPrefix old new line)

-- the same: there is no failure, or it has the line
abbrev pub IsSaidFor : Vec ℕ Global → ℕ → Option Failure → Option (List ℕ) → Option (List ℕ) → Type 0 → Type 0
IsSaidFor line status failure old new failed = ((status ≡ 0) × (failure ≡ None) × Appends old new line.items)
    ⊎ ((status ≡ 7) × (failure ≡ Some (LineNotWritten line)) × failed × AppendsPrefix old new line.items)

-- the failure has this line, which could not be written
abbrev pub IsUnwritten : Option Failure → List ℕ → Type 0
IsUnwritten failure line = (kept : Vec ℕ Global) × (failure ≡ Some (LineNotWritten kept)) × (kept.items ≡ line)

-- a trial of this number of points ends: its line is said, or out of memory is reported
abbrev pub EndsTrial : ℕ → ℕ → Option (List ℕ) → Option (List ℕ) → Type 0 → Type 0
EndsTrial count status old new failed =
    ((line : List ℕ) × HasTrial count line × IsSaid line status old new failed) ⊎ IsTold Memory status old new failed

-- how a command ends that has this line, or is refused
abbrev pub EndsWith : Result (Vec ℕ Global) Refusal → ℕ → Option (List ℕ) → Option (List ℕ)
    → Type 0 → Type 0
EndsWith (Ok line) status old new failed = IsSaid line.items status old new failed
EndsWith (Err r) status old new failed = IsTold r status old new failed

-- the same, with the failure that says why its status is not 0
abbrev pub EndsFor : Result (Vec ℕ Global) Refusal → ℕ → Option Failure → Option (List ℕ) → Option (List ℕ)
    → Type 0 → Type 0
EndsFor (Ok line) status failure old new failed = IsSaidFor line status failure old new failed
EndsFor (Err r) status failure old new failed = IsReported r status failure old new failed

-- What a refusal says of the store that a build began with (old) and left (new), if the words ask for a build.
abbrev pub SaysOfStore : List (List ℕ) → Option Files → Option Files → Option Files → Type 0 → Refusal → Type 0
SaysOfStore words shelf old new settled r = (path out : List ℕ) → IsBuild words path out → IsOfStore shelf old new settled path r

-- A run is refused for a cause, with its status and its line. The device that the cause names has failed: shelf, store,
-- room and out say that the count of that device rose. The cause is one that the store gives, as OfStore says. If the
-- cause is an early one, nothing was put, as same says.
pub record Refuses (words : List (List ℕ)) (files : Option Files) (Begins : Files → Files → Type 0) (OfStore : Refusal → Type 0) (status : ℕ) (shelf store room out : Type 0)
    (old new : Option (List ℕ)) (same : Type 0) : Type 0 where
  pub cause : Refusal
  pub status_is : status_of cause ≡ status
  pub has_cause : Tells (λ all. IsRefused words all Begins cause) files
  pub of_store : OfStore cause
  pub risen : HasRisen cause shelf store room
  pub says : Says (line_of cause) old new out
  pub early : IsEarly cause → same

-- A command is carried out, and its line is cut where the sink failed.
pub record IsCut (words : List (List ℕ)) (files : Option Files) (Begins : Files → Files → Type 0) (status : ℕ) (new : Option Files)
    (failed : Type 0) (said_old said_new : Option (List ℕ)) : Type 0 where
  pub status_is : status ≡ 7
  pub risen : failed
  pub ends : Ends words files Begins new (AppendsPrefix said_old said_new)

-- this refusal is reported, if no device failed and memory sufficed
abbrev pub YieldsRefusal : Refusal → ℕ → Option (List ℕ) → Option (List ℕ) → Type 0 → Type 0
YieldsRefusal r status old new failed =
    ((status ≡ status_of r) × Says (line_of r) old new failed) ⊎ (status ≡ 7) ⊎ (status ≡ 9)

-- some field is reported as one that differs, if no device failed and memory sufficed
abbrev pub YieldsDifference : ℕ → Option (List ℕ) → Option (List ℕ) → Type 0 → Type 0
YieldsDifference status old new failed =
    ((field : Field) × (status ≡ 6) × Says (line_of (Differs field)) old new failed) ⊎ (status ≡ 7) ⊎ (status ≡ 9)

-- the tile of some key is reported as damaged, if no device failed and memory sufficed
abbrev pub YieldsDamage : ℕ → Option (List ℕ) → Option (List ℕ) → Type 0 → Type 0
YieldsDamage status old new failed =
    ((key : VoxelKey) × (status ≡ 8) × Says (line_of (TileDamaged key)) old new failed) ⊎ (status ≡ 7) ⊎ (status ≡ 9)

-- ---- what can be done

-- The contents of the devices are visible, and what the words ask for can be done. A build can if it begins with sound
-- files, and its inputs are accepted or nothing of it is left to be done. A part can if its inputs are accepted. A
-- merge can if it begins with sound files, and its parts are all there and were made of its inputs with its
-- configuration. A query, a selection or a check can if the files are complete. An `info` can if the file has a header.
-- A trial always can.
pub data CanBeDone (words : List (List ℕ)) (shelf store : Option Files) (Begins : Files → Files → Type 0) : Type 0 where
  a_build : (all start : Files) → Begins all start → AsksBuild words (λ path. IsAcceptedAt all start path ⊎ IsDoneAt all start path) → CanBeDone words shelf store Begins
  a_part : (all : Files) → shelf ≡ Some all → AsksPart words (λ path octants. IsPartAcceptedAt all path octants) → CanBeDone words shelf store Begins
  a_merge : (all start : Files) → Begins all start → AsksMerge words (λ path parts. IsMergeReadyAt all start path parts) → CanBeDone words shelf store Begins
  of_dataset : (start : Files) (kept : Kept) (points : List Point) → store ≡ Some start → IsComplete kept points start → AsksDataset words → CanBeDone words shelf store Begins
  a_header : (all : Files) (header : Header) → shelf ≡ Some all → AsksInfo words (λ path. HasHeader all path header) → CanBeDone words shelf store Begins
  a_trial : AsksTrial words (λ _. ⊤) → CanBeDone words shelf store Begins

-- status 0, or 9 if memory ran out, or 7 if a device failed
abbrev pub EndsWell : ℕ → Type 0 → Type 0
EndsWell status failed = (status ≡ 0) ⊎ (status ≡ 9) ⊎ ((status ≡ 7) × failed)
