-- Saving the nodes of an octree for the next checkpoint.
use Rattle.std.specs.Prelude.{◌≡◌, ◌≢◌, ◌⊎◌, ℕ, ◌<◌, ◌≤◌, ◌^◌, true, List, length, map, Option, Some, All}
use Rattle.ept_base.specs.Files.{Files, Tells}
use Rattle.ept_point.specs.declared.point.Point.{Point}
use Rattle.ept_point.specs.Packed.{tile}
use Rattle.ept_space.specs.VoxelKey.{VoxelKey, IsKey, is_within}
use Rattle.ept_sample.specs.Members.{IsMember}
use Rattle.ept_ckpt.specs.declared.node_line.NodeLine.{NodeLine}
use Rattle.ept_ckpt.specs.Octree.{is_among}
use Rattle.ept_save.specs.Current.{Current, tile_of_line}
use Rattle.ept_save.specs.declared.error.SaveError.TheVariants.{TileDamaged}
use Rattle.ept_save.specs.Lines.{free_letter, with_line}
use Rattle.ept_save.specs.Loading.{current_line, OfLine, HasTile}
use Rattle.ept_save.specs.Names.{gate_name, body_name, work_tile_name}
use Rattle.ept_save.specs.Opening.{lines_of}
use Rattle.ept_save.specs.View.{View, next_letter}
use Rattle.ept_table.specs.Octree.{Branch}
use Rattle.ept_octree_ckpt.specs.declared.error.PhaseError.{PhaseError}
use Rattle.ept_octree_ckpt.specs.declared.error.PhaseError.TheVariants.{Save}
use Rattle.ept_octree_ckpt.specs.Errors.{IsDevices}

-- the current checkpoint has a node of the key with these open octants and this number of points
abbrev pub IsTold : Current → VoxelKey → ℕ → List Point → Type 0
IsTold current key mask points = OfLine current key (λ c line. (line.mask ≡ mask) × (line.count ≡ length points))

-- the current checkpoint has the node as it is: a line describes it, and the tile that it names has these points
abbrev pub HasNode : Current → VoxelKey → ℕ → List Point → Files → Type 0
HasNode current key mask points files = IsTold current key mask points × HasTile current key points files

-- at and below the key each node has the open octants and the number of points that the current checkpoint has for it
abbrev pub IsStill : Current → List Branch → VoxelKey → Type 0
IsStill current nodes key = (b : Branch) → IsMember b nodes → is_within key b.0 ≡ true → IsTold current b.0 b.1.mask b.1.points

-- each such node has the points of the tile that the current checkpoint names for it
abbrev pub StillAreSame : Current → List Branch → Files → Type 0
StillAreSame current nodes files = (b : Branch) → IsMember b nodes → IsStill current nodes b.0 → HasTile current b.0 b.1.points files

-- the name is of a node that the current checkpoint does not have as it is, with a version that it does not name
abbrev pub IsOfChanged : Current → List Branch → Files → List ℕ → Type 0
IsOfChanged current nodes files name =
    (b : Branch) × IsMember b nodes × (name ≡ work_tile_name (free_letter current b.0) b.0) × (¬ HasNode current b.0 b.1.mask b.1.points files)

-- No other name changes. Which nodes the current checkpoint has is seen in the files of the start.
abbrev pub PutsChanged : Current → List Branch → Files → Files → Files → Type 0
PutsChanged current nodes start old new = (name : List ℕ) → ¬ IsOfChanged current nodes start name → new name ≡ old name

-- except for the body and the gate of the next checkpoint
abbrev pub SavesChanged : Current → List Branch → Files → Files → Files → Type 0
SavesChanged current nodes start old new =
    (name : List ℕ) → ¬ IsOfChanged current nodes start name → name ≢ body_name (next_letter current) → name ≢ gate_name (next_letter current) → new name ≡ old name

-- the line of the node stays: it is the current checkpoint's one
abbrev pub StaysLine : View → View → NodeLine → Type 0
StaysLine old new line = (new ≡ old) × (current_line old.current line.key ≡ Some line)

-- the line of the node is a new one
abbrev pub ComesLine : View → View → NodeLine → Type 0
ComesLine old new line = new ≡ record old { lines = with_line line old.lines }

-- The node is saved: a line describes it, which stood in the current checkpoint or is new, and the tile that it names is there.
pub record SavesNode (old new : View) (key : VoxelKey) (mask : ℕ) (points : List Point) (files : Option Files) : Type 0 where
  pub line : NodeLine
  pub is_key : line.key ≡ key
  pub is_mask : line.mask ≡ mask
  pub is_count : line.count ≡ length points
  pub comes : StaysLine old new line ⊎ ComesLine old new line
  pub has_tile : Tells (λ (all : Files). all (tile_of_line line) ≡ Some (tile points)) files

-- the keys of nodes
abbrev pub keys_in : List Branch → List VoxelKey
keys_in nodes = map (λ (b : Branch). b.0) nodes

-- what each node of a tree keeps: its key has an allowed depth, and its open octants are the bits of a byte
abbrev pub AreKnown : List Branch → Type 0
AreKnown nodes = (b : Branch) → IsMember b nodes → IsKey b.0 × (b.1.key.depth ≤ b.1.rules.cube.depth) × (b.1.mask < 2 ^ 8)

-- each node of the current checkpoint is one of these
abbrev pub HasEachNodeOf : Current → List Branch → Type 0
HasEachNodeOf current nodes = All (λ (line : NodeLine). is_among (keys_in nodes) line.key ≡ true) (lines_of current)

-- why nodes may not be saved
abbrev pub IsSaveFault : PhaseError → Type 0
IsSaveFault e = ((key : VoxelKey) × (e ≡ Save (TileDamaged key))) ⊎ IsDevices e
