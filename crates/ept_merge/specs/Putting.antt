-- The steps of a merge: the bodies of the parts, and the nodes that are put.
use Rattle.std.specs.Prelude.{◌≡◌, ◌≢◌, ◌⊎◌, ℕ, ◌<◌, ◌≤◌, ◌^◌, List, [], ◌∷◌, ◌++◌, length, map, sum_by, Option, Some, None, Vec, All, ⊤}
use Rattle.std.specs.List.{AllZip, flat_map}
use Rattle.std.specs.declared.alloc.Global.{Global}
use Rattle.std.specs.List.Sorted.{IsPermutation}
use Rattle.ept_base.specs.Files.{Files, Tells, StepsBy}
use Rattle.ept_point.specs.declared.layout.Layout.TheVariants.{New}
use Rattle.ept_point.specs.declared.point.Point.{Point}
use Rattle.ept_point.specs.Packed.{tile}
use Rattle.ept_space.specs.declared.cube.Rules.{Rules}
use Rattle.ept_space.specs.VoxelKey.{VoxelKey, IsKey, root}
use Rattle.ept_sample.specs.Ids.{HasDistinctIds, in_id_order}
use Rattle.ept_sample.specs.Members.{IsMember}
use Rattle.ept_grid.specs.Mask.{opened}
use Rattle.ept_scan.specs.Opening.{IsKeptScan}
use Rattle.ept_ckpt.specs.declared.letter.Letter.{Letter}
use Rattle.ept_ckpt.specs.declared.letter.Letter.TheVariants.{A}
use Rattle.ept_ckpt.specs.declared.node_line.NodeLine.{NodeLine}
use Rattle.ept_ckpt.specs.declared.checkpoint.Checkpoint.{Checkpoint}
use Rattle.ept_ckpt.specs.Versions.{layout_of}
use Rattle.ept_meta.specs.Output.{rules_of}
use Rattle.ept_save.specs.Gates.{IsOpen}
use Rattle.ept_save.specs.Names.{work_tile_name}
use Rattle.ept_save.specs.Current.{HasCurrent, tile_of_line}
use Rattle.ept_save.specs.Loading.{AreOfLine}
use Rattle.ept_save.specs.Sound.{IsSavedUnder}
use Rattle.ept_save.specs.View.{View}
use Rattle.ept_parts.specs.MergeLaws.{part_nodes}
use Rattle.ept_plan.specs.declared.plan.Plan.{Plan}
use Rattle.ept_part.specs.Names.{part_gate, part_tile, part_tile_of}
use Rattle.ept_merge.specs.declared.error.MergeError.{MergeError}
use Rattle.ept_merge.specs.declared.error.MergeError.TheVariants.{StoreFault, BadCheckpoint, HasCheckpoint, SourceFault, BadLas, OutOfBounds, TooManyPoints, NoBounds, Shallow, NoPart, PartDiffers, PartDamaged, TooManyNodes, Memory}
use Rattle.ept_merge.specs.declared.bodies.PartBody.{PartBody}
use Rattle.ept_merge.specs.declared.joining.PartNode.{PartNode}
use Rattle.ept_merge.specs.Errors.{IsStores}
use Rattle.ept_merge.specs.Merging.{AreAllParts, HasBody, IsBroken, IsTileDamaged}
use Rattle.ept_merge.specs.Joining.{IsLike, octants_of, bodies_in, all_below, keys_of, AreDistinctKeys, AreInOrder, roots_of, IsUnion}

-- ---- the bodies

-- these are the bytes under the name, if there is such a file
abbrev pub HoldsBytes : List ℕ → Option (Vec ℕ Global) → Files → Type 0
HoldsBytes name None files = files name ≡ None
HoldsBytes name (Some bytes) files = files name ≡ Some bytes.items

-- the part has this body, which is like the plan
abbrev pub HasBodyLike : Files → Plan → ℕ → Checkpoint → Type 0
HasBodyLike files plan octants c = HasBody files octants c × IsLike plan.kept plan.counts c

-- each body is like the plan
abbrev pub AreLike : Plan → List PartBody → Type 0
AreLike plan parts = (part : PartBody) → IsMember part parts → IsLike plan.kept plan.counts part.body

abbrev pub HasBodies : Files → Plan → List ℕ → List Checkpoint → Type 0
HasBodies files plan parts bodies = AllZip (HasBodyLike files plan) parts bodies

-- why a part has no body like the plan; a fault of the store and out of memory say nothing
abbrev pub IsBodyFault : Files → Plan → ℕ → MergeError → Type 0
IsBodyFault files plan octants StoreFault = ⊤
IsBodyFault files plan octants (BadCheckpoint letter) = ⊥
IsBodyFault files plan octants (HasCheckpoint generation) = ⊥
IsBodyFault files plan octants SourceFault = ⊥
IsBodyFault files plan octants (BadLas source fault) = ⊥
IsBodyFault files plan octants (OutOfBounds source number) = ⊥
IsBodyFault files plan octants (TooManyPoints source) = ⊥
IsBodyFault files plan octants NoBounds = ⊥
IsBodyFault files plan octants Shallow = ⊥
IsBodyFault files plan octants (NoPart o) = (o ≡ octants) × ¬ IsOpen files (part_gate octants)
IsBodyFault files plan octants (PartDiffers o) = (o ≡ octants) × ((c : Checkpoint) × HasBody files octants c × ¬ IsLike plan.kept plan.counts c)
IsBodyFault files plan octants (PartDamaged o None) = (o ≡ octants) × IsBroken files octants
IsBodyFault files plan octants (PartDamaged o (Some key)) = ⊥
IsBodyFault files plan octants TooManyNodes = ⊥
IsBodyFault files plan octants Memory = ⊤

-- each part before this one has a body like the plan, and this one has none
pub record IsFirstFault (files : Files) (plan : Plan) (parts : List ℕ) (e : MergeError) : Type 0 where
  pub before : List ℕ
  pub octants : ℕ
  pub later : List ℕ
  pub among : parts ≡ before ++ octants ∷ later
  pub bodies : List Checkpoint
  pub have : HasBodies files plan before bodies
  pub fault : IsBodyFault files plan octants e

-- it is so, or the store failed, or memory ran out
abbrev pub IsBodiesFault : Files → Plan → List ℕ → MergeError → Type 0
IsBodiesFault files plan parts e = IsStores e ⊎ IsFirstFault files plan parts e

-- ---- the tiles of the parts

-- the tile of a part's node has these points
abbrev pub HasPartTile : Files → PartNode → List Point → Type 0
HasPartTile files node points = files (part_tile node.octants node.line.key) ≡ Some (tile points)

-- points are appended that are those of the node's line; of files that are visible they are the tile's
pub record Loads (rules : Rules) (node : PartNode) (files : Option Files) (old new : List Point) : Type 0 where
  pub points : List Point
  pub appended : new ≡ old ++ points
  pub are : AreOfLine rules node.line points
  pub tile : Tells (λ all. HasPartTile all node points) files

-- the points of several nodes are appended, one after another
pub record LoadsAll (rules : Rules) (nodes : List PartNode) (files : Option Files) (old new : List Point) : Type 0 where
  pub lists : List (List Point)
  pub appended : new ≡ old ++ flat_map (λ points. points) lists
  pub are : AllZip (λ (node : PartNode). AreOfLine rules node.line) nodes lists
  pub tiles : Tells (λ all. AllZip (HasPartTile all) nodes lists) files

-- no tile of these is damaged
abbrev pub AreIntact : Rules → Files → List PartNode → Type 0
AreIntact rules files nodes = (node : PartNode) → IsMember node nodes → ¬ IsTileDamaged rules files node.octants node.line

-- the tile of one of these is damaged
pub record IsNodeDamaged (rules : Rules) (files : Files) (nodes : List PartNode) (e : MergeError) : Type 0 where
  pub node : PartNode
  pub among : IsMember node nodes
  pub is_error : e ≡ PartDamaged node.octants (Some node.line.key)
  pub byte : node.line.mask < 2 ^ 8
  pub damaged : IsTileDamaged rules files node.octants node.line

-- why a tile is not taken; a fault of the store and out of memory say nothing
abbrev pub IsNodesFault : Rules → Files → List PartNode → MergeError → Type 0
IsNodesFault rules files nodes e = IsStores e ⊎ IsNodeDamaged rules files nodes e

-- each node has a key, no deeper than the greatest depth
abbrev pub IsLow : Rules → PartNode → Type 0
IsLow rules node = IsKey node.line.key × (node.line.key.depth ≤ rules.cube.depth)

abbrev pub AreLow : Rules → List PartNode → Type 0
AreLow rules nodes = (node : PartNode) → IsMember node nodes → IsLow rules node

-- the body keeps these rules, and its tiles are of the newest layout
pub record IsOfRules (rules : Rules) (c : Checkpoint) : Type 0 where
  pub newest : layout_of c.version ≡ New
  pub rules_are : rules ≡ rules_of c.kept

abbrev pub AreOfRules : Rules → List PartBody → Type 0
AreOfRules rules parts = (part : PartBody) → IsMember part parts → IsOfRules rules part.body

-- ---- the nodes that are put

-- the line of a node for the merged checkpoint
abbrev pub merged_line : PartNode → NodeLine
merged_line node = record { key = node.line.key; count = node.line.count; mask = node.line.mask; letter = A }

-- its tile is now there for the merged checkpoint, as it was for the part at the start
abbrev pub IsTaken : Files → Files → PartNode → Type 0
IsTaken start now node = (points : List Point) × HasPartTile start node points × (now (tile_of_line (merged_line node)) ≡ Some (tile points))

abbrev pub AreTaken : Files → Files → List PartNode → Type 0
AreTaken start now nodes = (node : PartNode) → IsMember node nodes → IsTaken start now node

-- no name but the tiles of these nodes for the merged checkpoint changes
abbrev pub ChangesTiles : List VoxelKey → Files → Files → Type 0
ChangesTiles keys old new = (name : List ℕ) → ((key : VoxelKey) → IsMember key keys → name ≢ work_tile_name A key) → new name ≡ old name

-- the root is put: the points of the parts' roots together, in id order if their ids differ
pub record PutsRoot (rules : Rules) (parts : List PartBody) (before : Option Files) (old new : View) (files : Option Files) : Type 0 where
  pub loads : List Point
  pub roots : LoadsAll rules (roots_of parts) before [] loads
  pub points : List Point
  pub same : IsPermutation loads points
  pub order : HasDistinctIds loads → points ≡ in_id_order loads
  pub mask : ℕ
  pub union : IsUnion parts mask
  pub line : new ≡ record old { lines = record { key = root; count = length points; mask = mask; letter = A } ∷ [] }
  pub has_tile : Tells (λ all. all (work_tile_name A root) ≡ Some (tile points)) files

-- all nodes are put: the root, and the others as they were for the parts
pub record PutsAll (rules : Rules) (parts : List PartBody) (nodes : List PartNode) (start now : Option Files) (lines : List NodeLine) : Type 0 where
  pub loads : List Point
  pub roots : LoadsAll rules (roots_of parts) start [] loads
  pub points : List Point
  pub same : IsPermutation loads points
  pub order : HasDistinctIds loads → points ≡ in_id_order loads
  pub mask : ℕ
  pub union : IsUnion parts mask
  pub lines_are : lines ≡ record { key = root; count = length points; mask = mask; letter = A } ∷ map merged_line nodes
  pub tiles : StepsBy (λ (old : Files) (new : Files). (new (work_tile_name A root) ≡ Some (tile points)) × AreTaken old new nodes) start now

-- ---- the bodies together

-- the nodes of the parts fit together: they are in key order, and have this number of points
pub record FitTogether (parts : List PartBody) (nodes : List PartNode) (points : ℕ) : Type 0 where
  pub order : AreInOrder parts nodes
  pub number : sum_by (λ (c : Checkpoint). c.inserted) (bodies_in parts) ≡ points

-- they do not
abbrev pub DoNotFit : List PartBody → ℕ → Type 0
DoNotFit parts points = ¬ AreDistinctKeys (keys_of (all_below parts)) ⊎ (sum_by (λ (c : Checkpoint). c.inserted) (bodies_in parts) ≢ points)

-- the part is the last of these
abbrev pub IsLastPart : List PartBody → ℕ → Type 0
IsLastPart parts octants = (before : List PartBody) × (last : PartBody) × (parts ≡ before ++ last ∷ []) × (last.octants ≡ octants)

-- the last part is blamed, since they do not fit together
abbrev pub IsMisfit : List PartBody → ℕ → MergeError → Type 0
IsMisfit parts points e = (octants : ℕ) × (e ≡ PartDamaged octants None) × IsLastPart parts octants × DoNotFit parts points

-- they fit together, but a tile is damaged, or there are too many nodes
pub record IsFault (rules : Rules) (files : Files) (most : ℕ) (parts : List PartBody) (points : ℕ) (e : MergeError) : Type 0 where
  pub nodes : List PartNode
  pub fit : FitTogether parts nodes points
  pub fault : IsNodeDamaged rules files (roots_of parts ++ nodes) e ⊎ ((e ≡ TooManyNodes) × AreIntact rules files (roots_of parts ++ nodes) × (most ≤ length nodes))

-- why the bodies are not merged; a fault of the store and out of memory say nothing
abbrev pub IsMergeFault : Rules → Files → ℕ → List PartBody → ℕ → MergeError → Type 0
IsMergeFault rules files most parts points e = IsStores e ⊎ IsMisfit parts points e ⊎ IsFault rules files most parts points e

-- they fit together, no tile is damaged, and there are fewer nodes below the root than there may be nodes
pub record AreMergeable (rules : Rules) (files : Files) (most : ℕ) (parts : List PartBody) (points : ℕ) : Type 0 where
  pub nodes : List PartNode
  pub fit : FitTogether parts nodes points
  pub intact : AreIntact rules files (roots_of parts ++ nodes)
  pub few : length nodes < most

-- the parts with these octants have these bodies, each like the plan
pub record HaveParts (files : Files) (plan : Plan) (octants : List ℕ) (parts : List PartBody) : Type 0 where
  pub octants_are : octants_of parts ≡ octants
  pub like : AreLike plan parts
  pub bodies : HasBodies files plan octants (bodies_in parts)

-- they have, and can be merged
abbrev pub WereMergeable : Plan → ℕ → List ℕ → Files → Type 0
WereMergeable plan most octants files = (parts : List PartBody) × HaveParts files plan octants parts × AreMergeable (rules_of plan.kept) files most parts plan.points

-- why parts are not merged: a part has no such body, or the bodies are not merged
abbrev pub IsPartsFault : Plan → ℕ → List ℕ → MergeError → Files → Type 0
IsPartsFault plan most octants e files =
    IsBodiesFault files plan octants e ⊎ ((parts : List PartBody) × HaveParts files plan octants parts × IsMergeFault (rules_of plan.kept) files most parts plan.points e)

-- the current checkpoint keeps what the plan keeps, with the plan's counts and all its points
pub record IsCommitted (plan : Plan) (files : Files) : Type 0 where
  pub letter : Letter
  pub c : Checkpoint
  pub is_current : HasCurrent (Some (letter, c)) files
  pub kept_is : c.kept ≡ plan.kept
  pub counts_are : c.counts ≡ plan.counts
  pub inserted_is : c.inserted ≡ plan.points

-- ---- parts of these points

-- the inputs of the plan have these points, and each part has the nodes of its own points with their tiles
pub record AreOfParts (shelf files : Files) (plan : Plan) (rules : Rules) (parts : List PartBody) (points : List Point) : Type 0 where
  pub scan : IsKeptScan shelf plan.kept plan.counts points
  pub divided : AreAllParts (octants_of parts)
  pub nodes : All (λ (part : PartBody). AllZip (IsSavedUnder New (part_tile_of part.octants) files) (part_nodes rules (opened part.octants) points) part.body.nodes) parts
