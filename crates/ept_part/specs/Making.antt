-- A part that is ready to be put, and why there is none.
use Rattle.std.specs.Prelude.{◌≡◌, ◌≢◌, ◌⊎◌, ◌≤◌, ◌<◌, ℕ, List, length, map, Result, Err, ⊤}
use Rattle.ept_base.specs.Files.{Files}
use Rattle.ept_point.specs.declared.point.Point.{Point}
use Rattle.ept_sample.specs.Nodes.{sampled}
use Rattle.ept_grid.specs.Mask.{opened}
use Rattle.ept_config.specs.declared.config.Config.{Config}
use Rattle.ept_config.specs.declared.kept.Kept.{Kept}
use Rattle.ept_config.specs.KeptOf.{IsKeptOf}
use Rattle.ept_scan.specs.declared.scan_done.ScanDone.{ScanDone}
use Rattle.ept_scan.specs.declared.scan_error.ScanError.TheVariants as scan
use Rattle.ept_ckpt.specs.declared.checkpoint.Checkpoint.{Checkpoint}
use Rattle.ept_ckpt.specs.declared.version.BodyVersion.TheVariants.{V3}
use Rattle.ept_meta.specs.Output.{rules_of}
use Rattle.ept_save.specs.Gates.{IsOpen}
use Rattle.ept_save.specs.Sound.{HasPointsOf}
use Rattle.ept_table.specs.Octree.{AreSampled}
use Rattle.ept_tree.specs.Grown.{nodes_of}
use Rattle.ept_parts.specs.Parts.{part_of}
use Rattle.ept_part.specs.declared.error.PartError.{PartError}
use Rattle.ept_part.specs.declared.error.PartError.TheVariants.{SourceFault, BadLas, OutOfBounds, TooManyPoints, NoBounds, Shallow, SourceChanged, TooManyNodes, StoreFault, Memory}
use Rattle.ept_part.specs.declared.making.Ready.{Ready}
use Rattle.ept_part.specs.declared.part_done.PartDone.{PartDone}
use Rattle.ept_part.specs.Names.{part_gate}
use Rattle.ept_part.specs.Files.{HasPart}
use Rattle.ept_part.specs.Scanned.{IsScanOf, AreRefused, found_by}
use Rattle.ept_part.specs.Filling.{line_for, HaveKeys}

-- ---- a part that is ready

-- The body keeps the configuration, and has a line of each node. They are few enough, and the root has octants.
pub record IsReady (config : Config) (ready : Ready) : Type 0 where
  pub kept_is : IsKeptOf config ready.checkpoint.kept.bounds ready.checkpoint.kept
  pub newest : ready.checkpoint.version ≡ V3
  pub first : ready.checkpoint.generation ≡ 1
  pub lines : ready.checkpoint.nodes ≡ map line_for (nodes_of ready.tree)
  pub deep : 0 < (rules_of ready.checkpoint.kept).cube.depth
  pub few : length (nodes_of ready.tree) ≤ config.max_nodes
  pub keys : HaveKeys (nodes_of ready.tree)

-- The inputs have these points, and the nodes are the sampling of those of the part.
pub record IsPartOf (shelf : Files) (config : Config) (octants : ℕ) (ready : Ready) (points : List Point) : Type 0 where
  pub scanned : IsScanOf shelf config points (found_by ready.checkpoint)
  pub scan : HasPointsOf shelf ready.checkpoint points
  pub sampled : AreSampled (rules_of ready.checkpoint.kept) (part_of (rules_of ready.checkpoint.kept) (opened octants) points) (nodes_of ready.tree)
  pub inserted : ready.checkpoint.inserted ≡ length (part_of (rules_of ready.checkpoint.kept) (opened octants) points)

-- ---- a part that was made

-- The files have the part, with its gate open, and it has this number of points and of nodes. They are few enough, and the root has octants.
pub record IsMade (shelf : Files) (config : Config) (octants : ℕ) (done : PartDone) (files : Files) : Type 0 where
  pub body : Checkpoint
  pub points : List Point
  pub kept_is : IsKeptOf config body.kept.bounds body.kept
  pub scanned : IsScanOf shelf config points (found_by body)
  pub has : HasPart shelf files octants body points
  pub opened : IsOpen files (part_gate octants)
  pub points_are : done.points ≡ body.inserted
  pub nodes_are : done.nodes ≡ length body.nodes
  pub few : done.nodes ≤ config.max_nodes
  pub deep : 0 < (rules_of body.kept).cube.depth

-- ---- why there is none

-- The inputs have these points, within the given bounds or else within their extent. With these bounds this is kept of the configuration.
pub record HasInputs (shelf : Files) (config : Config) (kept : Kept) (points : List Point) : Type 0 where
  pub done : ScanDone
  pub scan : IsScanOf shelf config points done
  pub kept_is : IsKeptOf config done.bounds kept

-- the greatest depth of a node
abbrev pub depth_of : Kept → ℕ
depth_of kept = (rules_of kept).cube.depth

-- how many nodes the sampling of the part has
abbrev pub node_count : ℕ → Kept → List Point → ℕ
node_count octants kept points = length (sampled (rules_of kept) (part_of (rules_of kept) (opened octants) points))

-- the inputs have points of which this holds
abbrev pub OfInputs : Files → Config → (Kept → List Point → Type 0) → Type 0
OfInputs shelf config fact = (kept : Kept) × (points : List Point) × HasInputs shelf config kept points × fact kept points

-- the inputs are accepted: the root has octants, and the sampling of the part has few enough nodes
abbrev pub IsAccepted : Files → Config → ℕ → Type 0
IsAccepted shelf config octants = OfInputs shelf config (λ kept points. (0 < depth_of kept) × (node_count octants kept points ≤ config.max_nodes))

-- What a refusal says of the inputs. A fault of a device and out of memory say nothing. No source changes if the shelf reports its files.
abbrev pub IsRefused : Files → Config → ℕ → PartError → Type 0
IsRefused shelf config octants SourceFault = ⊤
IsRefused shelf config octants (BadLas source fault) = AreRefused shelf config (scan.BadLas source fault)
IsRefused shelf config octants (OutOfBounds source number) = AreRefused shelf config (scan.OutOfBounds source number)
IsRefused shelf config octants (TooManyPoints source) = AreRefused shelf config (scan.TooManyPoints source)
IsRefused shelf config octants NoBounds = AreRefused shelf config scan.NoBounds
IsRefused shelf config octants Shallow = OfInputs shelf config (λ kept points. depth_of kept ≡ 0)
IsRefused shelf config octants (SourceChanged source number) = ⊥
IsRefused shelf config octants TooManyNodes = OfInputs shelf config (λ kept points. (0 < depth_of kept) × (config.max_nodes < node_count octants kept points))
IsRefused shelf config octants StoreFault = ⊤
IsRefused shelf config octants Memory = ⊤

-- a refusal that lies in the inputs: no fault of a device, and not out of memory
pub record IsDefinite (e : PartError) : Type 0 where
  pub no_source : e ≢ SourceFault
  pub no_store : e ≢ StoreFault
  pub no_memory : e ≢ Memory

-- the result is a fault of a device, or out of memory
abbrev pub Fails : {T : Type 0} → Result T PartError → Type 0
Fails answer = (answer ≡ Err SourceFault) ⊎ (answer ≡ Err StoreFault) ⊎ (answer ≡ Err Memory)
