-- What a build of a configuration is of, over a shelf and a store with these files, what it leaves, and why it is
-- refused.
use Rattle.std.specs.Prelude.{◌≡◌, ◌⊎◌, ℕ, ◌+◌, ◌-◌, ◌<◌, ◌≤◌, ◌++◌, take, List, Option, Result, Err, Some, Vec, length, ⊤}
use Rattle.std.specs.declared.alloc.Global.{Global}
use Rattle.ept_base.specs.Devices.{counts_on}
use Rattle.ept_base.specs.Files.{Files}
use Rattle.ept_base.specs.Moves.{IsSettled}
use Rattle.ept_point.specs.declared.layout.Layout.TheVariants.{Old}
use Rattle.ept_point.specs.declared.point.Point.{Point}
use Rattle.ept_sample.specs.Nodes.{sampled}
use Rattle.ept_config.specs.declared.config.Config.{Config}
use Rattle.ept_config.specs.declared.kept.Kept.{Kept}
use Rattle.ept_config.specs.declared.source_count.SourceCount.{SourceCount}
use Rattle.ept_config.specs.KeptOf.{IsKeptOf}
use Rattle.ept_space.specs.declared.bounds.Bounds.{Bounds}
use Rattle.ept_space.specs.VoxelKey.{VoxelKey}
use Rattle.ept_scan.specs.Asking.{AsksFor, paths_left}
use Rattle.ept_scan.specs.declared.scan_done.ScanDone.{ScanDone}
use Rattle.ept_scan.specs.declared.scan_error.ScanError.{ScanError}
use Rattle.ept_scan.specs.declared.scan_error.ScanError.TheVariants as scan
use Rattle.ept_scan.specs.Scans.{IsScan}
use Rattle.ept_meta.specs.Output.{rules_of}
use Rattle.ept_meta.specs.declared.fields.Field.{Field}
use Rattle.ept_node.specs.Shown.{IsTelling}
use Rattle.ept_forest.specs.Slots as forest
use Rattle.ept_save.specs.Complete.{IsComplete}
use Rattle.ept_save.specs.Current.{Current, HasCurrent}
use Rattle.ept_save.specs.Done.{IsDone}
use Rattle.ept_save.specs.Loading.{IsDamaged}
use Rattle.ept_save.specs.Sound.{IsSound}
use Rattle.ept_save.specs.Tiles.{IsOfLayout}
use Rattle.ept_save.specs.View.{View}
use Rattle.ept_octree_ckpt.specs.Loaded.{HasSlot}
use Rattle.ept_plan.specs.declared.plan.Plan.{Plan}
use Rattle.ept_plan.specs.Plans.{inputs_by, inserted_by, limits_by, new_paths, GoesOn, ScansAll, DiffersBy, AreRefused}
use Rattle.ept_build.specs.declared.error.BuildError.{BuildError}
use Rattle.ept_build.specs.declared.error.BuildError.TheVariants.{StoreFault, BadCheckpoint, TileDamaged, Differs, SourceFault, BadLas, OutOfBounds, TooManyPoints, NoBounds, SourceChanged, SpillFault, SpillDamaged, TooManyNodes, Memory}
use Rattle.ept_build.specs.declared.summary.Summary.{Summary}
use Rattle.ept_build.specs.Phases.{IsReady}
use Rattle.ept_build.specs.Reached.{HasReached, HasGoneThrough}

-- ---- what a build begins with

-- The contents of the spill files, the shelf and the store are visible. The store is settled, and its files are sound
-- for the shelf.
pub record BeginsWith {F : Type 0} (held : F → Option (List ℕ)) (shelf files : Option Files) (may_leave : Files → Type 0) (all start : Files) : Type 0 where
  pub spills : IsTelling held
  pub shelf_told : shelf ≡ Some all
  pub told : files ≡ Some start
  pub settled : IsSettled files may_leave
  pub sound : IsSound all start

-- The inputs of the configuration have these points, all in order, within the bounds. The bounds are those that the
-- current checkpoint keeps, or if there is none the given ones, or else the extent of the points. Together with the
-- bounds, this is kept of the configuration.
pub record HasPoints (all : Files) (config : Config) (current : Current) (kept : Kept) (points : List Point) : Type 0 where
  pub done : ScanDone
  pub scan : IsScan all config.scale (limits_by config.bounds current) config.inputs 0 points done
  pub kept_is : IsKeptOf config done.bounds kept

-- how many nodes the sampling of these points has
abbrev pub node_count : Kept → List Point → ℕ
node_count kept points = length (sampled (rules_of kept) points)

-- What is left to be done begins with such files. The contents of the spill files are visible, the current checkpoint
-- is known, and there is a plan.
pub record Starts {F : Type 0} (held : F → Option (List ℕ)) (all : Files) (config : Config) (view : View) (plan : Plan) (start : Files) (files : Option Files) (may_leave : Files → Type 0) : Type 0 where
  pub spills : IsTelling held
  pub ready : IsReady all start view files may_leave
  pub scans : ScansAll all config view.current plan

-- ---- what it leaves

-- The configuration continues from the current checkpoint. The files are complete for the points of its inputs, after
-- the phases that were needed, and the summary has their numbers.
pub record IsBuilt (all : Files) (config : Config) (start : Files) (summary : Summary) (files : Files) : Type 0 where
  pub current : Current
  pub has_current : HasCurrent current start
  pub goes_on : GoesOn config current
  pub kept : Kept
  pub points : List Point
  pub has_points : HasPoints all config current kept points
  pub complete : IsComplete kept points files
  pub through : HasGoneThrough current kept config.checkpoint (length points) (length config.inputs) files
  pub points_are : summary.points ≡ length points
  pub nodes_are : summary.nodes ≡ node_count kept points

-- The configuration continues from the checkpoint that was current when the build began, and its inputs have points.
-- The current one of the files is one that the build reaches by phases.
pub record HasContinued (all : Files) (config : Config) (current : Current) (files : Files) : Type 0 where
  pub goes_on : GoesOn config current
  pub kept : Kept
  pub points : List Point
  pub has_points : HasPoints all config current kept points
  pub reached : HasReached current kept config.checkpoint (length points) files

-- The files are sound, and their current checkpoint is the one that the build began with, or one that it reaches.
pub record IsUnderWay (all : Files) (config : Config) (start files : Files) : Type 0 where
  pub sound : IsSound all files
  pub current : Current
  pub has_current : HasCurrent current start
  pub either : HasCurrent current files ⊎ HasContinued all config current files

-- The done gate is open. The current checkpoint has all inputs of the configuration, with what is kept of it, and no
-- tiles of the old layout.
pub record IsDoneAlready (config : Config) (start : Files) : Type 0 where
  pub done : IsDone start
  pub current : Current
  pub has_current : HasCurrent current start
  pub goes_on : GoesOn config current
  pub no_more : inputs_by current ≡ length config.inputs
  pub newest : ¬ IsOfLayout Old current

-- the files of a room were asked at least `nodes - cache` times to keep something, as far as the room's count goes
abbrev pub HasKeptBut : ℕ → ℕ → ℕ → ℕ → Type 0
HasKeptBut cache nodes old new = counts_on old (nodes - cache) ≤ forest.told new

-- ---- what the shelf is asked for

-- the inputs are accepted, and have these counts of records
abbrev pub HasCounts : Files → Config → Current → List SourceCount → Type 0
HasCounts all config current counts =
    (points : List Point) × (bounds : Bounds) × IsScan all config.scale (limits_by config.bounds current) config.inputs 0 points (record { counts = counts; bounds = bounds })

-- The shelf is asked first for the new inputs, to scan them, and then for those with records after the inserted ones,
-- to read them. It is asked for all of these, in this order, or for the first ones only. It is asked for more than the
-- new inputs only if all inputs are accepted.
pub record AsksInOrder (shelf : Option Files) (config : Config) (start : Files) (current : Current) (old new : Option (List (List ℕ))) : Type 0 where
  pub counts : List SourceCount
  pub number : ℕ
  pub asked : AsksFor (take number (new_paths config current ++ paths_left config.inputs counts (inserted_by current))) old new
  pub counted : (all : Files) → shelf ≡ Some all → IsSound all start → length (new_paths config current) < number → HasCounts all config current counts

-- ---- why it is refused

-- The inputs are accepted: they have points, and the sampling of these has few enough nodes.
pub record IsAccepted (all : Files) (config : Config) (start : Files) : Type 0 where
  pub current : Current
  pub has_current : HasCurrent current start
  pub goes_on : GoesOn config current
  pub kept : Kept
  pub points : List Point
  pub has_points : HasPoints all config current kept points
  pub few : node_count kept points ≤ config.max_nodes

-- the sampling of the inputs' points has more nodes than there may be
pub record HasTooManyNodes (all : Files) (config : Config) (current : Current) : Type 0 where
  pub kept : Kept
  pub points : List Point
  pub has_points : HasPoints all config current kept points
  pub many : config.max_nodes < node_count kept points

-- the points that the current checkpoint has inserted have too many already
pub record HasTooManyAlready (all : Files) (config : Config) (start : Files) : Type 0 where
  pub current : Current
  pub has_current : HasCurrent current start
  pub kept : Kept
  pub points : List Point
  pub has_points : HasPoints all config current kept points
  pub many : config.max_nodes < node_count kept (take (inserted_by current) points)

-- The configuration continues from the current checkpoint. The checkpoint of the files is some phases later, and its
-- points have few enough nodes. With the points of the next phase there are too many.
pub record IsStopped (all : Files) (config : Config) (start files : Files) : Type 0 where
  pub current : Current
  pub has_current : HasCurrent current start
  pub goes_on : GoesOn config current
  pub kept : Kept
  pub points : List Point
  pub has_points : HasPoints all config current kept points
  pub reached : HasReached current kept config.checkpoint (length points) files
  pub few : node_count kept (take (inserted_by reached.gone.now) points) ≤ config.max_nodes
  pub many : config.max_nodes < node_count kept (take (inserted_by reached.gone.now + config.checkpoint) points)

-- The build gets to the octree of the current checkpoint. The configuration continues from this, and the inputs are
-- accepted. The done gate is not open, or an input is new. A node for which there is a slot has a damaged tile, that of
-- the key.
pub record ComesToDamage (all : Files) (config : Config) (start : Files) (current : Current) : Type 0 where
  pub goes_on : GoesOn config current
  pub points : List Point
  pub done : ScanDone
  pub scan : IsScan all config.scale (limits_by config.bounds current) config.inputs 0 points done
  pub left : ¬ IsDone start ⊎ (inputs_by current < length config.inputs)
  pub key : VoxelKey
  pub slot : HasSlot current config.max_nodes key
  pub damaged : IsDamaged current key start

-- the new inputs are refused for this cause
abbrev pub InputsAreRefused : Files → Config → Current → ScanError → Type 0
InputsAreRefused all config current error = GoesOn config current × AreRefused all config current error

-- Why a build that began with sound files is refused. A fault of a device or a lack of memory says nothing of the
-- files. Visible files stay as they are, those of the store, of the shelf and the spill files.
abbrev pub IsRefusedAt : Files → Config → Current → BuildError → Type 0
IsRefusedAt all config current StoreFault = ⊤
IsRefusedAt all config current SourceFault = ⊤
IsRefusedAt all config current SpillFault = ⊤
IsRefusedAt all config current (SpillDamaged kept found at) = ⊥
IsRefusedAt all config current Memory = ⊤
IsRefusedAt all config current (BadCheckpoint letter) = ⊥
IsRefusedAt all config current (TileDamaged key) = ⊥
IsRefusedAt all config current (Differs field kept given) = DiffersBy config current (record { field = field; kept = kept; given = given })
IsRefusedAt all config current (BadLas source fault) = InputsAreRefused all config current (scan.BadLas source fault)
IsRefusedAt all config current (OutOfBounds source number) = InputsAreRefused all config current (scan.OutOfBounds source number)
IsRefusedAt all config current (TooManyPoints source) = InputsAreRefused all config current (scan.TooManyPoints source)
IsRefusedAt all config current NoBounds = InputsAreRefused all config current scan.NoBounds
IsRefusedAt all config current (SourceChanged source number) = ⊥
IsRefusedAt all config current TooManyNodes = HasTooManyNodes all config current

-- so it is with the current checkpoint of the files
pub record IsRefused (all : Files) (config : Config) (start : Files) (error : BuildError) : Type 0 where
  pub current : Current
  pub has_current : HasCurrent current start
  pub because : IsRefusedAt all config current error

-- a fault of a device, or out of memory
abbrev pub IsFault : BuildError → Type 0
IsFault e = (e ≡ StoreFault) ⊎ (e ≡ SourceFault) ⊎ (e ≡ SpillFault) ⊎ (e ≡ Memory)

-- the result is a fault of a device, or out of memory
abbrev pub Fails : Result Summary BuildError → Type 0
Fails answer = (answer ≡ Err StoreFault) ⊎ (answer ≡ Err SourceFault) ⊎ (answer ≡ Err SpillFault) ⊎ (answer ≡ Err Memory)

-- the result reports a field that differs
abbrev pub TellsDifference : Result Summary BuildError → Type 0
TellsDifference answer = (field : Field) × (kept : Vec ℕ Global) × (given : Vec ℕ Global) × (answer ≡ Err (Differs field kept given))

-- the result reports a damaged tile
abbrev pub TellsDamage : Result Summary BuildError → Type 0
TellsDamage answer = (key : VoxelKey) × (answer ≡ Err (TileDamaged key))

-- a cause after which nothing was put: what is given is compared and scanned before
abbrev pub IsEarly : BuildError → Type 0
IsEarly StoreFault = ⊥
IsEarly SourceFault = ⊥
IsEarly SpillFault = ⊥
IsEarly (SpillDamaged kept found at) = ⊥
IsEarly Memory = ⊥
IsEarly (BadCheckpoint letter) = ⊤
IsEarly (TileDamaged key) = ⊥
IsEarly (Differs field kept given) = ⊤
IsEarly (BadLas source fault) = ⊤
IsEarly (OutOfBounds source number) = ⊤
IsEarly (TooManyPoints source) = ⊤
IsEarly NoBounds = ⊤
IsEarly (SourceChanged source number) = ⊥
IsEarly TooManyNodes = ⊥
