-- What the files of these paths are, on a shelf of these files, and why a command on them is refused.
use Rattle.std.specs.Prelude.{◌≡◌, ◌≢◌, ◌⊎◌, ℕ, List, [], ◌∷◌, Vec, Option, None, Some, Result, Ok, Err, take, ⊤}
use Rattle.std.specs.declared.alloc.Global.{Global}
use Rattle.ept_base.specs.Files.{Files, Tells}
use Rattle.ept_point.specs.declared.point.Point.{Point}
use Rattle.ept_space.specs.VoxelKey.{VoxelKey}
use Rattle.ept_config.specs.declared.config.Config.{Config}
use Rattle.ept_config.specs.declared.kept.Kept.{Kept}
use Rattle.ept_las.specs.declared.header.Header.{Header}
use Rattle.ept_las.specs.declared.las_error.LasError.{LasError}
use Rattle.ept_las.specs.LasHeader.{HeaderReadsAs}
use Rattle.ept_scan.specs.Asking.{AsksFor}
use Rattle.ept_scan.specs.LasFile.{head_of}
use Rattle.ept_scan.specs.declared.scan_error.ScanError.TheVariants as scan
use Rattle.ept_meta.specs.declared.fields.Field.{Field}
use Rattle.ept_save.specs.Current.{Current, HasCurrent}
use Rattle.ept_save.specs.Opening.{IsBad}
use Rattle.ept_plan.specs.Plans.{GoesOn, DiffersBy}
use Rattle.ept_build.specs.declared.error.BuildError.{BuildError}
use Rattle.ept_build.specs.declared.error.BuildError.TheVariants as build
use Rattle.ept_build.specs.declared.summary.Summary.{Summary}
use Rattle.ept_build.specs.Building as building
use Rattle.ept_build.specs.Phases.{HasDamage}
use Rattle.ept_part.specs.Making as part
use Rattle.ept_merge.specs.Merging as merging
use Rattle.ept_trial.specs.declared.trial.Trial.{Trial}
use Rattle.ept_trial.specs.Trials.{IsTrialOf}
use Rattle.ept_command.specs.Configurations.{HasConfiguration, HasBadConfiguration}
use Rattle.ept_command.specs.declared.refusal.Refusal.{Refusal}
use Rattle.ept_command.specs.declared.refusal.Refusal.TheVariants.{Usage, BadConfiguration, BadLas, OutOfBounds, NoBounds, SourceChanged, TooManyPoints, TooManyNodes, Differs, BadCheckpoint, TileDamaged, SourceFault, StoreFault, SpillFault, SpillDamaged, Memory}
use Rattle.ept_run.specs.Lines.{summary_text, header_text, trial_text}

-- ---- a build

-- The file is a configuration, and its build over a store that begins with sound files is refused for this cause.
-- Begins says that the build begins with these files of the shelf and of the store.
abbrev pub HasBadBuild : Files → (Files → Files → Type 0) → List ℕ → BuildError → Type 0
HasBadBuild files Begins path error =
    (config : Config) × HasConfiguration files path config × ((start : Files) → Begins files start → building.IsRefused files config start error)

-- it is a configuration, and its build over a store with these files is accepted
pub record IsAcceptedAt (files start : Files) (path : List ℕ) : Type 0 where
  pub config : Config
  pub configures : HasConfiguration files path config
  pub accepted : building.IsAccepted files config start

-- why a build of the configuration over a store with this current checkpoint comes to a refusal
abbrev pub Comes : Files → Config → Files → Current → Refusal → Type 0
Comes files config start current Usage = ⊥
Comes files config start current (BadConfiguration error) = ⊥
Comes files config start current (BadLas source fault) = building.InputsAreRefused files config current (scan.BadLas source fault)
Comes files config start current (OutOfBounds source number) = building.InputsAreRefused files config current (scan.OutOfBounds source number)
Comes files config start current NoBounds = building.InputsAreRefused files config current scan.NoBounds
Comes files config start current (SourceChanged source number) = ⊥
Comes files config start current (TooManyPoints source) = building.InputsAreRefused files config current (scan.TooManyPoints source)
Comes files config start current TooManyNodes = GoesOn config current × (¬ building.IsDoneAlready config start) × building.HasTooManyNodes files config current
Comes files config start current (Differs field) = ⊥
Comes files config start current (BadCheckpoint letter) = ⊥
Comes files config start current (TileDamaged key) = ⊥
Comes files config start current SourceFault = ⊥
Comes files config start current StoreFault = ⊥
Comes files config start current SpillFault = ⊥
Comes files config start current SpillDamaged = ⊥
Comes files config start current Memory = ⊥

-- it is a configuration, and its build over a store with these files comes to this refusal
pub record ComesAt (files start : Files) (r : Refusal) (path : List ℕ) : Type 0 where
  pub config : Config
  pub configures : HasConfiguration files path config
  pub current : Current
  pub has_current : HasCurrent current start
  pub because : Comes files config start current r

-- it is a configuration that does not continue from what the current checkpoint of these files keeps
pub record DiffersAt (files start : Files) (path : List ℕ) : Type 0 where
  pub config : Config
  pub configures : HasConfiguration files path config
  pub current : Current
  pub has_current : HasCurrent current start
  pub differs : ¬ GoesOn config current

-- It is a configuration, and its build over a store with these files comes to the octree of the current checkpoint. A
-- tile of this octree is damaged.
pub record ComesToDamageAt (files start : Files) (path : List ℕ) : Type 0 where
  pub config : Config
  pub configures : HasConfiguration files path config
  pub current : Current
  pub has_current : HasCurrent current start
  pub comes : building.ComesToDamage files config start current

-- It is a configuration. If the files of the store are visible, this is the first field in which it differs from what
-- their current checkpoint keeps.
pub record HasDifference (files : Files) (store : Option Files) (path : List ℕ) (field : Field) : Type 0 where
  pub config : Config
  pub configures : HasConfiguration files path config
  pub differs : (start : Files) (current : Current) → store ≡ Some start → HasCurrent current start
      → (kept : Vec ℕ Global) × (given : Vec ℕ Global) × DiffersBy config current (record { field = field; kept = kept; given = given })

-- What the refusal of a build says of the store, whether its files are sound or not. The visible files of the store are
-- `old` when the build begins, and `new` when it ends. Settled says that the store is settled when the build begins.
abbrev pub IsOfStore : Option Files → Option Files → Option Files → Type 0 → List ℕ → Refusal → Type 0
IsOfStore shelf old new settled path (Differs field) = Tells (λ files. HasDifference files old path field) shelf
IsOfStore shelf old new settled path (BadCheckpoint letter) = Tells (λ start. IsBad start letter) old
IsOfStore shelf old new settled path (TileDamaged key) = (start : Files) → old ≡ Some start → settled → (current : Current) × HasDamage current key new
IsOfStore shelf old new settled path Usage = ⊤
IsOfStore shelf old new settled path (BadConfiguration error) = ⊤
IsOfStore shelf old new settled path (BadLas source fault) = ⊤
IsOfStore shelf old new settled path (OutOfBounds source number) = ⊤
IsOfStore shelf old new settled path NoBounds = ⊤
IsOfStore shelf old new settled path (SourceChanged source number) = ⊤
IsOfStore shelf old new settled path (TooManyPoints source) = ⊤
IsOfStore shelf old new settled path TooManyNodes = ⊤
IsOfStore shelf old new settled path SourceFault = ⊤
IsOfStore shelf old new settled path StoreFault = ⊤
IsOfStore shelf old new settled path SpillFault = ⊤
IsOfStore shelf old new settled path SpillDamaged = ⊤
IsOfStore shelf old new settled path Memory = ⊤

-- What a build of the configuration of this path asks the shelf for: this path, and then what its build asks for. The
-- build is over a store with these files, and there is none if the file of the path is no configuration.
abbrev pub AsksForBuild : Option Files → Files → List ℕ → Option (List (List ℕ)) → Option (List (List ℕ)) → Type 0
AsksForBuild shelf start path old new =
    ((n : ℕ) × AsksFor (take n (path ∷ [])) old new)
    ⊎ ((config : Config) × Tells (λ all. HasConfiguration all path config) shelf
    × (asked : Option (List (List ℕ))) × AsksFor (path ∷ []) old asked
    × ((current : Current) → HasCurrent current start → building.AsksInOrder shelf config start current asked new))

-- it is a configuration
abbrev pub IsConfigured : Files → List ℕ → Type 0
IsConfigured files path = (config : Config) × HasConfiguration files path config

-- it is a configuration, and nothing of its build is left to be done over a store with these files
pub record IsDoneAt (files start : Files) (path : List ℕ) : Type 0 where
  pub config : Config
  pub configures : HasConfiguration files path config
  pub done : building.IsDoneAlready config start

-- it is a configuration, and a store that began with sound files has the output of its build
pub record IsBuiltAt (files : Files) (Begins : Files → Files → Type 0) (path : List ℕ) (summary : Summary) (new : Option Files)
    : Type 0 where
  pub config : Config
  pub configures : HasConfiguration files path config
  pub built : (start : Files) → Begins files start → Tells (building.IsBuilt files config start summary) new

-- the same, and this line says so
pub record HasBuilt (files : Files) (Begins : Files → Files → Type 0) (path line : List ℕ) (new : Option Files) : Type 0 where
  pub summary : Summary
  pub built : IsBuiltAt files Begins path summary new
  pub line_is : line ≡ summary_text summary.points summary.nodes

-- It is a configuration, and its inputs have points. Unless its build over a store with these files was done already, a
-- room was asked to keep what was not in memory. As far as its count goes, it was asked at least once for each node of
-- the sampling beyond those that may be in memory.
pub record HasSpilled (files start : Files) (old new : ℕ) (path : List ℕ) : Type 0 where
  pub config : Config
  pub configures : HasConfiguration files path config
  pub current : Current
  pub has_current : HasCurrent current start
  pub kept : Kept
  pub points : List Point
  pub has_points : building.HasPoints files config current kept points
  pub spilled : ¬ building.IsDoneAlready config start → building.HasKeptBut config.cache (building.node_count kept points) old new

-- why a build of the configuration of this path is refused; device faults and out of memory say nothing of files
abbrev pub BuildIsRefused : Files → (Files → Files → Type 0) → List ℕ → Refusal → Type 0
BuildIsRefused files Begins path Usage = ⊥
BuildIsRefused files Begins path (BadConfiguration error) = HasBadConfiguration files path error
BuildIsRefused files Begins path (BadLas source fault) = HasBadBuild files Begins path (build.BadLas source fault)
BuildIsRefused files Begins path (OutOfBounds source number) = HasBadBuild files Begins path (build.OutOfBounds source number)
BuildIsRefused files Begins path NoBounds = HasBadBuild files Begins path build.NoBounds
BuildIsRefused files Begins path (SourceChanged source number) = HasBadBuild files Begins path (build.SourceChanged source number)
BuildIsRefused files Begins path (TooManyPoints source) = HasBadBuild files Begins path (build.TooManyPoints source)
BuildIsRefused files Begins path TooManyNodes = HasBadBuild files Begins path build.TooManyNodes
BuildIsRefused files Begins path (Differs field) = (kept : Vec ℕ Global) × (given : Vec ℕ Global) × HasBadBuild files Begins path (build.Differs field kept given)
BuildIsRefused files Begins path (BadCheckpoint letter) = HasBadBuild files Begins path (build.BadCheckpoint letter)
BuildIsRefused files Begins path (TileDamaged key) = HasBadBuild files Begins path (build.TileDamaged key)
BuildIsRefused files Begins path SourceFault = ⊤
BuildIsRefused files Begins path StoreFault = ⊤
BuildIsRefused files Begins path SpillFault = ⊤
BuildIsRefused files Begins path SpillDamaged = (kept : ℕ) × (found : ℕ) × (at : ℕ) × HasBadBuild files Begins path (build.SpillDamaged kept found at)
BuildIsRefused files Begins path Memory = ⊤

-- ---- a part of a build

-- it is a configuration, and its part with these octants is accepted
pub record IsPartAcceptedAt (files : Files) (path : List ℕ) (octants : ℕ) : Type 0 where
  pub config : Config
  pub configures : HasConfiguration files path config
  pub accepted : part.IsAccepted files config octants

-- ---- a merge of parts

-- it is a configuration, and the parts are ready to be merged
pub record IsMergeReadyAt (files start : Files) (path parts : List ℕ) : Type 0 where
  pub config : Config
  pub configures : HasConfiguration files path config
  pub ready : merging.AreReady files start config parts

-- ---- what is known of a LAS file

-- the file of this path has this header
pub record HasHeader (files : Files) (path : List ℕ) (header : Header) : Type 0 where
  pub bytes : List ℕ
  pub content : files path ≡ Some bytes
  pub reads : HeaderReadsAs (head_of bytes) None (Ok header)

-- its header has this fault, and none before
pub record HasBadHeader (files : Files) (path : List ℕ) (fault : LasError) : Type 0 where
  pub bytes : List ℕ
  pub content : files path ≡ Some bytes
  pub faulty : HeaderReadsAs (head_of bytes) None (Err fault)

-- it has a header, and this line reports it
pub record HasTold (files : Files) (path line : List ℕ) : Type 0 where
  pub header : Header
  pub has_header : HasHeader files path header
  pub line_is : line ≡ header_text header

-- why what is known of the LAS file of this path, which is source 0, can't be reported
abbrev pub InfoIsRefused : Files → List ℕ → Refusal → Type 0
InfoIsRefused files path Usage = ⊥
InfoIsRefused files path (BadConfiguration error) = ⊥
InfoIsRefused files path (BadLas source fault) = (source ≡ 0) × HasBadHeader files path fault
InfoIsRefused files path (OutOfBounds source number) = ⊥
InfoIsRefused files path NoBounds = ⊥
InfoIsRefused files path (SourceChanged source number) = ⊥
InfoIsRefused files path (TooManyPoints source) = ⊥
InfoIsRefused files path TooManyNodes = ⊥
InfoIsRefused files path (Differs field) = ⊥
InfoIsRefused files path (BadCheckpoint letter) = ⊥
InfoIsRefused files path (TileDamaged key) = ⊥
InfoIsRefused files path SourceFault = ⊤
InfoIsRefused files path StoreFault = ⊥
InfoIsRefused files path SpillFault = ⊥
InfoIsRefused files path SpillDamaged = ⊥
InfoIsRefused files path Memory = ⊤

-- ---- a trial

-- this line reports what the octree of the generated scans of this number of points comes to
pub record HasTrial (count : ℕ) (line : List ℕ) : Type 0 where
  pub trial : Trial
  pub is_trial : IsTrialOf count trial
  pub line_is : line ≡ trial_text trial

-- ---- causes

-- a fault of a device, or out of memory
abbrev pub IsFault : Refusal → Type 0
IsFault r = (r ≡ SourceFault) ⊎ (r ≡ StoreFault) ⊎ (r ≡ SpillFault) ⊎ (r ≡ Memory)

-- a cause that lies in the words or in the files
abbrev pub IsDefinite : Refusal → Type 0
IsDefinite r = IsFault r → ⊥

-- the result is a fault of a device, or out of memory
abbrev pub Fails : {A : Type 0} → Result A Refusal → Type 0
Fails answer = (answer ≡ Err SourceFault) ⊎ (answer ≡ Err StoreFault) ⊎ (answer ≡ Err SpillFault) ⊎ (answer ≡ Err Memory)

-- the result is a field that differs
abbrev pub TellsDifference : {A : Type 0} → Result A Refusal → Type 0
TellsDifference answer = (field : Field) × (answer ≡ Err (Differs field))

-- the result is a damaged tile
abbrev pub TellsDamage : {A : Type 0} → Result A Refusal → Type 0
TellsDamage answer = (key : VoxelKey) × (answer ≡ Err (TileDamaged key))

-- a cause after which nothing was put: what is given is read, compared and scanned before
abbrev pub IsEarly : Refusal → Type 0
IsEarly Usage = ⊤
IsEarly (BadConfiguration error) = ⊤
IsEarly (BadLas source fault) = ⊤
IsEarly (OutOfBounds source number) = ⊤
IsEarly NoBounds = ⊤
IsEarly (SourceChanged source number) = ⊥
IsEarly (TooManyPoints source) = ⊤
IsEarly TooManyNodes = ⊥
IsEarly (Differs field) = ⊤
IsEarly (BadCheckpoint letter) = ⊤
IsEarly (TileDamaged key) = ⊥
IsEarly SourceFault = ⊥
IsEarly StoreFault = ⊥
IsEarly SpillFault = ⊥
IsEarly SpillDamaged = ⊥
IsEarly Memory = ⊥

-- ---- which causes a step may have, whatever the files are

-- of reading a header, which is that of source 0
abbrev pub IsOfHeader : Refusal → Type 0
IsOfHeader Usage = ⊥
IsOfHeader (BadConfiguration error) = ⊥
IsOfHeader (BadLas source fault) = source ≡ 0
IsOfHeader (OutOfBounds source number) = ⊥
IsOfHeader NoBounds = ⊥
IsOfHeader (SourceChanged source number) = ⊥
IsOfHeader (TooManyPoints source) = ⊥
IsOfHeader TooManyNodes = ⊥
IsOfHeader (Differs field) = ⊥
IsOfHeader (BadCheckpoint letter) = ⊥
IsOfHeader (TileDamaged key) = ⊥
IsOfHeader SourceFault = ⊤
IsOfHeader StoreFault = ⊥
IsOfHeader SpillFault = ⊥
IsOfHeader SpillDamaged = ⊥
IsOfHeader Memory = ⊤

-- of a build
abbrev pub IsOfBuild : Refusal → Type 0
IsOfBuild r = r ≢ Usage
