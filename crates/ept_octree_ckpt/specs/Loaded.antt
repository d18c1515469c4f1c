-- The octree of a checkpoint, as it is loaded.
use Rattle.std.specs.Prelude.{◌≡◌, ◌⊎◌, ℕ, ◌<◌, List, ◌∷◌, ◌++◌, length, Some, None, ⊤}
use Rattle.ept_base.specs.Files.{Files}
use Rattle.ept_space.specs.VoxelKey.{VoxelKey}
use Rattle.ept_sample.specs.Members.{IsMember}
use Rattle.ept_ckpt.specs.declared.node_line.NodeLine.{NodeLine}
use Rattle.ept_ckpt.specs.declared.checkpoint.Checkpoint.{Checkpoint}
use Rattle.ept_save.specs.declared.error.SaveError.TheVariants.{StoreFault, TileDamaged, Memory}
use Rattle.ept_save.specs.Current.{Current}
use Rattle.ept_save.specs.Loading.{IsDamaged}
use Rattle.ept_save.specs.Opening.{lines_of}
use Rattle.ept_octree_ckpt.specs.declared.error.PhaseError.{PhaseError}
use Rattle.ept_octree_ckpt.specs.declared.error.PhaseError.TheVariants.{Save, TooManyNodes, SpillFault}

-- of the current checkpoint, where there is one, this holds
abbrev pub OfCurrent : Current → (Checkpoint → Type 0) → Type 0
OfCurrent None fact = ⊤
OfCurrent (Some (letter, c)) fact = fact c

-- no tile of these lines is damaged
abbrev pub AreIntact : Current → List NodeLine → Files → Type 0
AreIntact current lines files = (line : NodeLine) → IsMember line lines → ¬ IsDamaged current line.key files

-- a line of the key is one of this number of first lines of the current checkpoint, whose nodes have slots
pub record HasSlot (current : Current) (slots : ℕ) (key : VoxelKey) : Type 0 where
  pub front : List NodeLine
  pub line : NodeLine
  pub rest : List NodeLine
  pub lines : lines_of current ≡ front ++ line ∷ rest
  pub few : length front < slots
  pub key_is : line.key ≡ key

-- of the lines whose nodes have slots, in key order, that of this key is the first that names a damaged tile
pub record IsFirstDamaged (current : Current) (slots : ℕ) (key : VoxelKey) (files : Files) : Type 0 where
  pub slot : HasSlot current slots key
  pub damaged : IsDamaged current key files
  pub before : AreIntact current slot.front files

-- why an octree may not be loaded
abbrev pub IsLoadFault : PhaseError → Type 0
IsLoadFault e = (e ≡ TooManyNodes) ⊎ (e ≡ SpillFault) ⊎ (e ≡ Save StoreFault) ⊎ (e ≡ Save Memory) ⊎ ((key : VoxelKey) × (e ≡ Save (TileDamaged key)))
