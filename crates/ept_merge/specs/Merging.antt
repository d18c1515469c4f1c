-- Parts of a build, merged: what they are together, what a merge leaves, and why there is none.
use Rattle.std.specs.Prelude.{◌≡◌, ◌≢◌, ◌⊎◌, ℕ, ◌+◌, ◌-◌, ◌<◌, ◌≤◌, true, List, [], ◌∷◌, ◌++◌, length, map, sum_by, count_by, Option, Some, None, Result, Err, All, ⊤}
use Rattle.std.specs.List.{AllZip}
use Rattle.ept_base.specs.Files.{Files}
use Rattle.ept_point.specs.declared.layout.Layout.TheVariants.{New}
use Rattle.ept_point.specs.declared.point.Point.{Point}
use Rattle.ept_point.specs.Packed.{tile}
use Rattle.ept_space.specs.declared.cube.Rules.{Rules}
use Rattle.ept_space.specs.VoxelKey.{VoxelKey, root}
use Rattle.ept_sample.specs.Arrivals.{octant}
use Rattle.ept_sample.specs.Members.{IsMember}
use Rattle.ept_sample.specs.Nodes.{sampled}
use Rattle.ept_grid.specs.Mask.{opened}
use Rattle.ept_config.specs.declared.config.Config.{Config}
use Rattle.ept_config.specs.KeptOf.{IsKeptOf}
use Rattle.ept_config.specs.Ranges.{BoundsInRange}
use Rattle.ept_scan.specs.declared.scan_done.ScanDone.{ScanDone}
use Rattle.ept_scan.specs.declared.scan_error.ScanError.TheVariants as scan
use Rattle.ept_ckpt.specs.declared.letter.Letter.{Letter}
use Rattle.ept_ckpt.specs.declared.node_line.NodeLine.{NodeLine}
use Rattle.ept_ckpt.specs.declared.checkpoint.Checkpoint.{Checkpoint}
use Rattle.ept_ckpt.specs.Body.{body}
use Rattle.ept_ckpt.specs.Facts.{facts}
use Rattle.ept_ckpt.specs.Octree.{keys_of, is_among}
use Rattle.ept_ckpt.specs.Valid.{ExtentInRange}
use Rattle.ept_ckpt.specs.Versions.{layout_of}
use Rattle.ept_save.specs.Gates.{IsOpen}
use Rattle.ept_save.specs.Current.{HasCurrent}
use Rattle.ept_save.specs.Opening.{IsBad}
use Rattle.ept_save.specs.Loading.{IsDamagedUnder}
use Rattle.ept_parts.specs.Parts.{AreAllOctants}
use Rattle.ept_part.specs.Names.{part_gate, part_body, part_tile, IsPartName}
use Rattle.ept_part.specs.Files.{HasPart, IsPartSound}
use Rattle.ept_part.specs.Scanned.{IsScanOf, AreRefused, rules_by, found_by, OfScan}
use Rattle.ept_merge.specs.declared.error.MergeError.{MergeError}
use Rattle.ept_merge.specs.declared.error.MergeError.TheVariants.{StoreFault, BadCheckpoint, HasCheckpoint, SourceFault, BadLas, OutOfBounds, TooManyPoints, NoBounds, Shallow, NoPart, PartDiffers, PartDamaged, TooManyNodes, Memory}

-- each octant is in exactly one of these parts
abbrev pub AreAllParts : List ℕ → Type 0
AreAllParts parts = AreAllOctants (map opened parts)

-- What a scan finds is in range: the bounds, and the extent of each input, have numbers of 32 bits. So inputs have one.
pub record IsInRange (done : ScanDone) : Type 0 where
  pub bounds : BoundsInRange done.bounds
  pub extents : All ExtentInRange done.counts

-- ---- one part

-- the body keeps the configuration, and what the scan found of the inputs
pub record IsOfScan (config : Config) (done : ScanDone) (c : Checkpoint) : Type 0 where
  pub kept_is : IsKeptOf config done.bounds c.kept
  pub counts_are : c.counts ≡ done.counts

-- the part is there, with this body: that of a checkpoint whose tiles are of the newest layout
pub record HasBody (files : Files) (octants : ℕ) (c : Checkpoint) : Type 0 where
  pub opened : IsOpen files (part_gate octants)
  pub body : files (part_body octants) ≡ Some (body (facts c))
  pub newest : layout_of c.version ≡ New

-- the part is there, and its body is missing or that of no such checkpoint
pub record IsBroken (files : Files) (octants : ℕ) : Type 0 where
  pub opened : IsOpen files (part_gate octants)
  pub no_body : (c : Checkpoint) → layout_of c.version ≡ New → files (part_body octants) ≢ Some (body (facts c))

-- the part is there, with a body of this scan
abbrev pub IsPartOfScan : Files → Config → ScanDone → ℕ → Checkpoint → Type 0
IsPartOfScan files config done octants c = HasBody files octants c × IsOfScan config done c

-- the part has such a body, and no other one
abbrev pub DiffersFromScan : Files → Config → ScanDone → ℕ → Type 0
DiffersFromScan files config done octants = (c : Checkpoint) × HasBody files octants c × ¬ IsOfScan config done c

-- the tile of a part's line is missing or malformed, or it has a point outside the part
abbrev pub IsTileDamaged : Rules → Files → ℕ → NodeLine → Type 0
IsTileDamaged rules files octants line =
    IsDamagedUnder New rules (part_tile octants line.key) line files
    ⊎ ((points : List Point) × (files (part_tile octants line.key) ≡ Some (tile points)) × ¬ All (λ p. opened octants (octant rules 0 p) ≡ true) points)

-- ---- the parts together

-- each part is there, with a body of this scan
abbrev pub HaveBodies : Files → Config → ScanDone → List ℕ → List Checkpoint → Type 0
HaveBodies files config done parts bodies = AllZip (IsPartOfScan files config done) parts bodies

-- this part has the fault, and each before it has a body of this scan
pub record IsFirst (files : Files) (config : Config) (done : ScanDone) (parts : List ℕ) (octants : ℕ) (fault : Type 0) : Type 0 where
  pub before : List ℕ
  pub later : List ℕ
  pub among : parts ≡ before ++ octants ∷ later
  pub bodies : List Checkpoint
  pub have : HaveBodies files config done before bodies
  pub has_fault : fault

-- the part is the last one
abbrev pub IsLast : List ℕ → ℕ → Type 0
IsLast parts octants = (before : List ℕ) × (parts ≡ before ++ octants ∷ [])

-- no key below the root is in two bodies, and together they have this number of points
pub record AreTogether (bodies : List Checkpoint) (points : ℕ) : Type 0 where
  pub apart : (key : VoxelKey) → key ≢ root → count_by (λ (c : Checkpoint). is_among (keys_of c.nodes) key) bodies ≤ 1
  pub inserted : sum_by (λ (c : Checkpoint). c.inserted) bodies ≡ points

-- no tile of a part's lines is damaged
abbrev pub IsIntact : Rules → Files → ℕ → Checkpoint → Type 0
IsIntact rules files octants c = (line : NodeLine) → IsMember line c.nodes → ¬ IsTileDamaged rules files octants line

-- how many nodes the parts have together: the root, and those below it
abbrev pub nodes_together : List Checkpoint → ℕ
nodes_together bodies = 1 + sum_by (λ (c : Checkpoint). length c.nodes - 1) bodies

-- ---- how far a merge comes

-- there is no checkpoint, the inputs have these points, and the root has octants
pub record IsBegun (shelf files : Files) (config : Config) (points : List Point) (done : ScanDone) : Type 0 where
  pub fresh : HasCurrent None files
  pub scanned : IsScanOf shelf config points done
  pub in_range : IsInRange done
  pub deep : 0 < (rules_by config done).cube.depth

-- of a merge that came so far this holds
abbrev pub OfBegun : Files → Files → Config → (List Point → ScanDone → Type 0) → Type 0
OfBegun shelf files config fact = (points : List Point) × (done : ScanDone) × IsBegun shelf files config points done × fact points done

-- each part is there, and of the bodies this holds
abbrev pub OfBodies : Files → Files → Config → List ℕ → (List Point → ScanDone → List Checkpoint → Type 0) → Type 0
OfBodies shelf files config parts fact =
    OfBegun shelf files config (λ points done. (bodies : List Checkpoint) × HaveBodies files config done parts bodies × fact points done bodies)

-- the bodies fit together, and of their tiles this holds
abbrev pub OfTiles : Files → Files → Config → List ℕ → (ScanDone → List Checkpoint → Type 0) → Type 0
OfTiles shelf files config parts fact =
    OfBodies shelf files config parts (λ points done bodies. AreTogether bodies (length points) × fact done bodies)

-- ---- what a merge leaves

-- the current checkpoint keeps the configuration, and all points of the inputs are inserted
pub record HasMerged (shelf : Files) (config : Config) (files : Files) : Type 0 where
  pub letter : Letter
  pub c : Checkpoint
  pub points : List Point
  pub is_current : HasCurrent (Some (letter, c)) files
  pub kept_is : IsKeptOf config c.kept.bounds c.kept
  pub scanned : IsScanOf shelf config points (found_by c)
  pub inserted : c.inserted ≡ length points

-- the parts were merged: nothing refused them
abbrev pub WereMerged : Files → Files → Config → List ℕ → Type 0
WereMerged shelf files config parts =
    OfTiles shelf files config parts (λ done bodies. AllZip (IsIntact (rules_by config done) files) parts bodies × (nodes_together bodies ≤ config.max_nodes))

-- ---- why they are not merged

-- What a refusal says of the inputs and of the folder; a fault of a device and out of memory say nothing.
abbrev pub IsRefused : Files → Files → Config → List ℕ → MergeError → Type 0
IsRefused shelf files config parts StoreFault = ⊤
IsRefused shelf files config parts (BadCheckpoint letter) = IsBad files letter
IsRefused shelf files config parts (HasCheckpoint generation) =
    (letter : Letter) × (c : Checkpoint) × HasCurrent (Some (letter, c)) files × (c.generation ≡ generation)
IsRefused shelf files config parts SourceFault = ⊤
IsRefused shelf files config parts (BadLas source fault) = HasCurrent None files × AreRefused shelf config (scan.BadLas source fault)
IsRefused shelf files config parts (OutOfBounds source number) = HasCurrent None files × AreRefused shelf config (scan.OutOfBounds source number)
IsRefused shelf files config parts (TooManyPoints source) = HasCurrent None files × AreRefused shelf config (scan.TooManyPoints source)
IsRefused shelf files config parts NoBounds = HasCurrent None files × AreRefused shelf config scan.NoBounds
IsRefused shelf files config parts Shallow = HasCurrent None files × OfScan shelf config (λ points done. ((rules_by config done).cube.depth ≡ 0) × IsInRange done)
IsRefused shelf files config parts (NoPart octants) =
    OfBegun shelf files config (λ points done. IsFirst files config done parts octants (¬ IsOpen files (part_gate octants)))
IsRefused shelf files config parts (PartDiffers octants) =
    OfBegun shelf files config (λ points done. IsFirst files config done parts octants (DiffersFromScan files config done octants))
IsRefused shelf files config parts (PartDamaged octants None) =
    OfBegun shelf files config (λ points done. IsFirst files config done parts octants (IsBroken files octants))
    ⊎ OfBodies shelf files config parts (λ points done bodies. IsLast parts octants × ¬ AreTogether bodies (length points))
IsRefused shelf files config parts (PartDamaged octants (Some key)) =
    OfTiles shelf files config parts (λ done bodies. (c : Checkpoint) × (line : NodeLine) × IsPartOfScan files config done octants c × IsMember octants parts × IsMember line c.nodes × (line.key ≡ key) × IsTileDamaged (rules_by config done) files octants line)
IsRefused shelf files config parts TooManyNodes =
    OfTiles shelf files config parts (λ done bodies. AllZip (IsIntact (rules_by config done) files) parts bodies × (config.max_nodes < nodes_together bodies))
IsRefused shelf files config parts Memory = ⊤

-- a cause that lies in the inputs or in the folder: no fault of a device, and not out of memory
abbrev pub IsDefinite : MergeError → Type 0
IsDefinite e = (e ≢ StoreFault) × (e ≢ SourceFault) × (e ≢ Memory)

-- the result is a fault of a device, or out of memory
abbrev pub Fails : {T : Type 0} → Result T MergeError → Type 0
Fails answer = (answer ≡ Err StoreFault) ⊎ (answer ≡ Err SourceFault) ⊎ (answer ≡ Err Memory)

-- the result is this refusal; of several damaged tiles, one is reported
abbrev pub Reports : {T : Type 0} → MergeError → Result T MergeError → Type 0
Reports (PartDamaged octants (Some key)) answer = (o : ℕ) × (k : VoxelKey) × (answer ≡ Err (PartDamaged o (Some k)))
Reports e answer = answer ≡ Err e

-- a fault of the parts: their bodies or their tiles
abbrev pub IsPartFault : MergeError → Type 0
IsPartFault e = ((octants : ℕ) × (e ≡ PartDiffers octants)) ⊎ ((octants : ℕ) × (key : Option VoxelKey) × (e ≡ PartDamaged octants key))

-- the part, if it is there, was made from these inputs with this configuration
abbrev pub IsOwnPart : Files → Config → Files → ℕ → Type 0
IsOwnPart shelf config files octants =
    IsOpen files (part_gate octants) → (c : Checkpoint) × (points : List Point) × HasPart shelf files octants c points × IsKeptOf config c.kept.bounds c.kept × IsScanOf shelf config points (found_by c)

abbrev pub AreOwnParts : Files → Config → Files → List ℕ → Type 0
AreOwnParts shelf config files parts = All (IsOwnPart shelf config files) parts

-- Parts that can be merged. The folder has no checkpoint, the inputs are accepted and the root has octants. Each part
-- is there, made from these inputs with this configuration.
pub record AreReady (shelf files : Files) (config : Config) (parts : List ℕ) : Type 0 where
  pub fresh : HasCurrent None files
  pub accepted : OfScan shelf config (λ points done. (0 < (rules_by config done).cube.depth) × (length (sampled (rules_by config done) points) ≤ config.max_nodes) × IsInRange done)
  pub there : All (λ octants. IsOpen files (part_gate octants)) parts
  pub own : AreOwnParts shelf config files parts

-- no name in the folder of a part changes
abbrev pub KeepsParts : Files → Files → Type 0
KeepsParts old new = (octants : ℕ) (name : List ℕ) → IsPartName octants name → new name ≡ old name

-- each of the parts is sound
abbrev pub AreSoundParts : Files → Files → List ℕ → Type 0
AreSoundParts shelf files parts = All (IsPartSound shelf files) parts
