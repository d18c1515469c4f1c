-- Where a build stands between two phases.
use Rattle.std.specs.Prelude.{◌≡◌, ◌⊎◌, ℕ, ◌+◌, ◌<◌, ◌≤◌, List, [], ◌∷◌, length, take, drop, Option, Some, None, ⊤, All}
use Rattle.ept_base.specs.Files.{Files, SameFiles, Tells}
use Rattle.ept_base.specs.Moves.{IsSettled}
use Rattle.ept_point.specs.declared.point.Point.{Point}
use Rattle.ept_space.specs.OctreeCube.{InCube}
use Rattle.ept_space.specs.CubeOfBounds.{IsCubeOf}
use Rattle.ept_space.specs.VoxelKey.{VoxelKey, root}
use Rattle.ept_sample.specs.Place.{place}
use Rattle.ept_sample.specs.Nodes.{sampled}
use Rattle.ept_config.specs.Counts.{IsCount, total}
use Rattle.ept_ckpt.specs.Valid.{ExtentInRange}
use Rattle.ept_scan.specs.declared.second_reading.Reader.{Reader}
use Rattle.ept_scan.specs.Opening.{IsKeptScan}
use Rattle.ept_scan.specs.Queue.{LiesIn}
use Rattle.ept_scan.specs.Reader.{drawn_of, left_of, refusal_of, files_of, IsRest, IsReader}
use Rattle.ept_node.specs.Shown.{empty_node, IsTelling}
use Rattle.ept_table.specs.Octree.{Branch, AreSampled}
use Rattle.ept_octree.specs.declared.octree.Octree.{Octree}
use Rattle.ept_octree.specs.Octree as tree
use Rattle.ept_sample.specs.SamplingLaws.{CanBeSampled}
use Rattle.ept_node_bound.specs.Few.{most_nodes}
use Rattle.ept_meta.specs.Output.{File, IsOutput, rules_of, names_of}
use Rattle.ept_save.specs.Current.{Current, HasCurrent}
use Rattle.ept_save.specs.Done.{IsDone}
use Rattle.ept_save.specs.Loading.{HasLine, IsDamaged}
use Rattle.ept_save.specs.Migrating.{IsTurnOf, Migrates}
use Rattle.ept_save.specs.Opening.{lines_of}
use Rattle.ept_save.specs.Sound.{HasPointsOf, IsSound}
use Rattle.ept_save.specs.SoundLaws.{HasNamesOf}
use Rattle.ept_save.specs.Tiles.{IsOfLayout}
use Rattle.ept_save.specs.View.{View, StandsFor}
use Rattle.ept_point.specs.declared.layout.Layout.TheVariants.{Old}
use Rattle.ept_ckpt.specs.declared.checkpoint.Checkpoint.{Checkpoint}
use Rattle.ept_ckpt.specs.Versions.{layout_of}
use Rattle.ept_octree_ckpt.specs.Lines.{TellNodes, NameTiles}
use Rattle.ept_octree_ckpt.specs.Loaded.{OfCurrent}
use Rattle.ept_octree_ckpt.specs.Saving.{HasEachNodeOf}
use Rattle.ept_plan.specs.declared.plan.Plan.{Plan}
use Rattle.ept_plan.specs.Plans.{inputs_by, inserted_by, RulesStay}
use Rattle.ept_build.specs.Reached.{IsAfter, HasTurned, IsTakenUp}
use Rattle.ept_build.specs.declared.error.BuildError.{BuildError}
use Rattle.ept_build.specs.declared.error.BuildError.TheVariants.{StoreFault, BadCheckpoint, TileDamaged, Differs, SourceFault, BadLas, OutOfBounds, TooManyPoints, NoBounds, SourceChanged, SpillFault, SpillDamaged, TooManyNodes, Memory}

-- ---- the plan

-- there is a count for each input, in range, and these are all the points
pub record IsFit (plan : Plan) : Type 0 where
  pub each : length plan.counts ≡ length plan.kept.inputs
  pub counted : All (IsCount plan.kept.bounds) plan.counts
  pub extents : All ExtentInRange plan.counts
  pub points_are : plan.points ≡ total plan.counts

-- the checkpoint is of all inputs, with all their points inserted
pub record HasAll (plan : Plan) (current : Current) : Type 0 where
  pub inserted : inserted_by current ≡ plan.points
  pub inputs : inputs_by current ≡ length plan.kept.inputs

-- ---- the octree, the reader and the checkpoint

-- The octree is that of no points, with its root in memory. Its rules are those that are kept, whose cube is that of
-- the bounds. The number of points that count as inserted is that of the checkpoint from which the plan continues.
pub record IsBegun {F : Type 0} (held : F → Option (List ℕ)) (faults keeps : F → ℕ) (plan : Plan) (inserted : ℕ) (octree : Octree F) (view : View) : Type 0 where
  pub rules : tree.rules_of octree ≡ rules_of plan.kept
  pub of_bounds : IsCubeOf plan.kept.bounds plan.kept.s plan.kept.max_depth (rules_of plan.kept).cube
  pub root_alone : tree.nodes_of held octree ≡ (root, empty_node root (tree.rules_of octree)) ∷ []
  pub empty : AreSampled (rules_of plan.kept) [] (tree.nodes_of held octree)
  pub here : tree.residents_of octree ≡ 1
  pub agrees : tree.AgreesWithFiles held faults keeps octree
  pub unbroken : tree.IsUnbroken octree
  pub fresh : view.lines ≡ lines_of view.current
  pub rules_stay : RulesStay view.current plan.kept
  pub by_checkpoint : inserted_by view.current ≡ inserted
  pub inputs_least : inputs_by view.current ≤ length plan.kept.inputs

-- The octree is whole and has `inserted` points, under the rules that are kept. Each of its nodes is unbroken and
-- agrees with its file. It has each node of the checkpoint. The checkpoint too has `inserted` points inserted, these
-- rules, and no tiles of the old layout.
pub record IsTreeOf {F : Type 0} (held : F → Option (List ℕ)) (faults keeps : F → ℕ) (plan : Plan) (inserted : ℕ) (octree : Octree F) (view : View) : Type 0 where
  pub rules : tree.rules_of octree ≡ rules_of plan.kept
  pub whole : tree.IsWhole held octree
  pub linked : tree.IsLinked held octree
  pub agrees : tree.AgreesWithFiles held faults keeps octree
  pub unbroken : tree.IsUnbroken octree
  pub number : length (tree.points_of held octree) ≡ inserted
  pub fresh : view.lines ≡ lines_of view.current
  pub newest : ¬ IsOfLayout Old view.current
  pub each : HasEachNodeOf view.current (tree.nodes_of held octree)
  pub rules_stay : RulesStay view.current plan.kept
  pub by_checkpoint : inserted_by view.current ≡ inserted
  pub inputs_least : inputs_by view.current ≤ length plan.kept.inputs

-- The nodes are those of the checkpoint: its lines describe them, and name their tiles, in its layout. If there is no
-- checkpoint, the nodes are those of no points.
pub record AreLoaded (plan : Plan) (current : Current) (nodes : List Branch) (files : Option Files) : Type 0 where
  pub told : OfCurrent current (λ (c : Checkpoint). TellNodes nodes c.nodes)
  pub tiles : OfCurrent current (λ (c : Checkpoint). Tells (λ all. NameTiles (layout_of c.version) all nodes c.nodes) files)
  pub begun : current ≡ None → AreSampled (rules_of plan.kept) [] nodes

-- The slots are enough, and at most `max`. If they are fewer than `max`, they suffice for the nodes of the checkpoint
-- and for the most nodes that the points can have.
pub record HasRoom (plan : Plan) (current : Current) (max slots : ℕ) : Type 0 where
  pub few : slots ≤ max
  pub for_lines : slots < length (lines_of current) → slots ≡ max
  pub for_points : slots < most_nodes (rules_of plan.kept) plan.points → slots ≡ max

-- the reader has the other points to come, which lie in the cube
pub record ReadsRest {S : Type 0} (whole left : S → Option (List ℕ)) (given faults : S → ℕ) (plan : Plan) (inserted : ℕ) (reader : Reader S) : Type 0 where
  pub is_reader : IsReader whole left given faults reader
  pub fresh : refusal_of reader ≡ None
  pub drawn : drawn_of reader ≡ inserted
  pub to_come : left_of reader + inserted ≡ plan.points
  pub inside : (p : Point) → LiesIn (files_of whole reader) p → InCube (rules_of plan.kept).cube (place p)

-- ---- of devices with visible contents

-- The store is settled with these files, which are sound for the shelf, and represents their current checkpoint.
pub record IsReady (shelf start : Files) (view : View) (files : Option Files) (may_leave : Files → Type 0) : Type 0 where
  pub told : files ≡ Some start
  pub settled : IsSettled files may_leave
  pub sound : IsSound shelf start
  pub has_current : HasCurrent view.current start
  pub stands : StandsFor view files may_leave

-- the contents of the spill files are visible, the octree is that of the first points, and the reader has the others
pub record HasInserted {F S : Type 0} (held : F → Option (List ℕ)) (whole : S → Option (List ℕ)) (plan : Plan) (points : List Point) (inserted : ℕ) (reader : Reader S) (octree : Octree F) : Type 0 where
  pub telling : IsTelling held
  pub sampled : AreSampled (rules_of plan.kept) (take inserted points) (tree.nodes_of held octree)
  pub rest : IsRest whole reader (drop inserted points)

-- What is known of the checkpoints is as it was, unless the tiles of the current checkpoint were of the old layout.
-- Then the next one is current now.
pub record TakesUp (old new : View) : Type 0 where
  pub taken : IsTakenUp old.current new.current
  pub fresh : old.lines ≡ lines_of old.current → new.lines ≡ lines_of new.current

-- files are sound, and their done gate is closed
pub record IsSoundUndone (shelf files : Files) : Type 0 where
  pub sound : IsSound shelf files
  pub undone : ¬ IsDone files

-- files are sound, and this is their current checkpoint
pub record IsSoundAt (shelf : Files) (current : Current) (files : Files) : Type 0 where
  pub sound : IsSound shelf files
  pub has : HasCurrent current files

-- Nothing changes, or the current checkpoint, whose tiles are of the old layout, is being migrated.
abbrev pub Renews : Current → Files → Files → Files → Type 0
Renews None start old new = SameFiles old new
Renews (Some (letter, c)) start old new =
    SameFiles old new ⊎ ((layout_of c.version ≡ Old) × ((next : Checkpoint) → IsTurnOf c next → Migrates letter c next start old new))

-- files are sound, and this is their current checkpoint, or the next one of the same points
pub record IsSoundTaken (shelf : Files) (from : Current) (files : Files) : Type 0 where
  pub sound : IsSound shelf files
  pub now : Current
  pub has_now : HasCurrent now files
  pub taken : (now ≡ from) ⊎ HasTurned from now

-- ---- a shelf and a store with visible contents

-- all inputs have these points, which can be sampled, and this is their output
pub record AreOfShelf (shelf : Files) (plan : Plan) (points : List Point) (output : List File) : Type 0 where
  pub scan : IsKeptScan shelf plan.kept plan.counts points
  pub can : CanBeSampled (rules_of plan.kept) points
  pub is_output : IsOutput plan.kept points output

-- the points that the checkpoint has inserted are the first of these
abbrev pub HasInsertedFirst : Files → Current → List Point → Type 0
HasInsertedFirst shelf None points = ⊤
HasInsertedFirst shelf (Some (letter, c)) points =
    (own : List Point) → HasPointsOf shelf c own → take c.inserted own ≡ take c.inserted points

-- The store represents the checkpoint, which has inserted the first of these points, and whose output has no other
-- names. Each image is sound, with a closed done gate.
pub record IsOnWay (shelf : Files) (points : List Point) (output : List File) (view : View) (files : Option Files) (may_leave : Files → Type 0) : Type 0 where
  pub first : HasInsertedFirst shelf view.current points
  pub names : HasNamesOf shelf view.current (names_of output)
  pub stands : StandsFor view files may_leave
  pub sound : (image : Files) → may_leave image → IsSoundUndone shelf image

-- ---- why a phase is refused

-- The current checkpoint of the files names a tile for the key, which is damaged.
abbrev pub HasDamage : Current → VoxelKey → Option Files → Type 0
HasDamage current key files = HasLine current key × Tells (λ all. HasCurrent current all × IsDamaged current key all) files

-- This checkpoint is some phases later. The sampling of the points that it has inserted has few enough nodes. With the
-- points of the next phase there are more than there may be.
pub record AreMany (plan : Plan) (from : Current) (step most : ℕ) (points : List Point) (now : Current) : Type 0 where
  pub phases : ℕ
  pub after : IsAfter from plan.kept step plan.points phases now
  pub few : length (sampled (rules_of plan.kept) (take (inserted_by now) points)) ≤ most
  pub many : most < length (sampled (rules_of plan.kept) (take (inserted_by now + step) points))

-- a cause that the second reading, the insertion, the saving and the putting of the output may have
abbrev pub IsPhaseFault : BuildError → Type 0
IsPhaseFault StoreFault = ⊤
IsPhaseFault (TileDamaged key) = ⊤
IsPhaseFault SourceFault = ⊤
IsPhaseFault (SourceChanged source number) = ⊤
IsPhaseFault SpillFault = ⊤
IsPhaseFault (SpillDamaged kept found at) = ⊤
IsPhaseFault TooManyNodes = ⊤
IsPhaseFault Memory = ⊤
IsPhaseFault (BadCheckpoint letter) = ⊥
IsPhaseFault (Differs field kept given) = ⊥
IsPhaseFault (BadLas source fault) = ⊥
IsPhaseFault (OutOfBounds source number) = ⊥
IsPhaseFault (TooManyPoints source) = ⊥
IsPhaseFault NoBounds = ⊥

-- a cause that the taking up of the current checkpoint may have
abbrev pub IsStartFault : BuildError → Type 0
IsStartFault StoreFault = ⊤
IsStartFault (TileDamaged key) = ⊤
IsStartFault SpillFault = ⊤
IsStartFault TooManyNodes = ⊤
IsStartFault Memory = ⊤
IsStartFault SourceFault = ⊥
IsStartFault (SourceChanged source number) = ⊥
IsStartFault (SpillDamaged kept found at) = ⊥
IsStartFault (BadCheckpoint letter) = ⊥
IsStartFault (Differs field kept given) = ⊥
IsStartFault (BadLas source fault) = ⊥
IsStartFault (OutOfBounds source number) = ⊥
IsStartFault (TooManyPoints source) = ⊥
IsStartFault NoBounds = ⊥

-- a fault of the room, or out of memory
abbrev pub IsRoomFault : BuildError → Type 0
IsRoomFault e = (e ≡ SpillFault) ⊎ (e ≡ Memory)

-- a fault of the store, or out of memory
abbrev pub IsStoreFault : BuildError → Type 0
IsStoreFault e = (e ≡ StoreFault) ⊎ (e ≡ Memory)

-- the same, or a damaged tile
abbrev pub IsRenewFault : BuildError → Type 0
IsRenewFault e = IsStoreFault e ⊎ ((key : VoxelKey) × (e ≡ TileDamaged key))

-- so it is with the end: the files of the output are copies of the tiles
abbrev pub IsEndFault : BuildError → Type 0
IsEndFault e = IsRenewFault e
