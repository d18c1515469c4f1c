-- A phase of a build: an octree becomes the next checkpoint.
use Rattle.std.specs.Prelude.{◌≡◌, ◌⊎◌, ℕ, ◌+◌, ◌<◌, ◌≤◌, false, List, length, Some, None, ⊤, All}
use Rattle.ept_base.specs.Files.{Files}
use Rattle.ept_point.specs.declared.layout.Layout.TheVariants.{New}
use Rattle.ept_config.specs.declared.kept.Kept.{Kept}
use Rattle.ept_config.specs.declared.source_count.SourceCount.{SourceCount}
use Rattle.ept_config.specs.Counts.{total, IsCount}
use Rattle.ept_ckpt.specs.declared.checkpoint.Checkpoint.{Checkpoint}
use Rattle.ept_ckpt.specs.Valid.{ExtentInRange}
use Rattle.ept_ckpt.specs.Versions.{layout_of}
use Rattle.ept_save.specs.Names.{IsSavedName}
use Rattle.ept_save.specs.Current.{Current, IsCurrent, Keeps}
use Rattle.ept_save.specs.View.{View, next_letter, next_generation}
use Rattle.ept_table.specs.Octree.{Branch}
use Rattle.ept_octree_ckpt.specs.Lines.{TellNodes, NameTiles}
use Rattle.ept_octree_ckpt.specs.Saving.{StillAreSame}

-- what is given of the inputs: a count of each, within the bounds, and of all no fewer points than are inserted
pub record AreGiven (kept : Kept) (counts : List SourceCount) (inserted : ℕ) : Type 0 where
  pub each : length counts ≡ length kept.inputs
  pub counted : All (IsCount kept.bounds) counts
  pub extents : All ExtentInRange counts
  pub inserted_most : inserted ≤ total counts

-- there are more points inserted, or more inputs, than by the current checkpoint
abbrev pub GoesFurther : Current → ℕ → ℕ → Type 0
GoesFurther None inserted inputs = ⊤
GoesFurther (Some (letter, c)) inserted inputs = c.inserted + length c.kept.inputs < inserted + inputs

-- the next checkpoint: what is given of the inputs, the number of points inserted, lines that describe these nodes, and the newest layout of tiles
pub record IsNext (view : View) (kept : Kept) (counts : List SourceCount) (inserted : ℕ) (nodes : List Branch) (next : Checkpoint) : Type 0 where
  pub generation : next.generation ≡ next_generation view.current
  pub kept_is : next.kept ≡ kept
  pub counts_are : next.counts ≡ counts
  pub inserted_is : next.inserted ≡ inserted
  pub told : TellNodes nodes next.nodes
  pub newest : layout_of next.version ≡ New

-- The new files have it as their current one. If still nodes are the same in the old files, it names the nodes' tiles.
pub record HasNext (view : View) (kept : Kept) (counts : List SourceCount) (inserted : ℕ) (nodes : List Branch) (old new : Files) : Type 0 where
  pub next : Checkpoint
  pub is_next : IsNext view kept counts inserted nodes next
  pub is_current : IsCurrent new (next_letter view.current) next
  pub tiles : StillAreSame view.current nodes old → NameTiles New new nodes next.nodes

-- The current checkpoint is kept, with its tiles, or the next one is the current one. What is no checkpoint's stays.
pub record GoesOn (view : View) (kept : Kept) (counts : List SourceCount) (inserted : ℕ) (nodes : List Branch) (old new : Files) : Type 0 where
  pub either : Keeps view.current old new ⊎ HasNext view kept counts inserted nodes old new
  pub apart : (name : List ℕ) → ¬ IsSavedName name → new name ≡ old name

-- the next checkpoint is noted as the current one, with its lines for the one after it
pub record IsSaved (old new : View) (kept : Kept) (counts : List SourceCount) (inserted : ℕ) (nodes : List Branch) : Type 0 where
  pub next : Checkpoint
  pub is_next : IsNext old kept counts inserted nodes next
  pub view_is : new ≡ record { current = Some (next_letter old.current, next); lines = next.nodes; begun = false }
