-- Which tiles are put while an octree is saved.
use Rattle.std.proofs.Common.{◌≡◌, ◌∙◌, ◌⊎◌, inl, inr, ℕ, List, refl, subst, Option, Some, None}
use Rattle.std.specs.Prelude.{IsSomeAnd}
use Rattle.ept_base.specs.Files.{Files, SameFiles, SameBut}
use Rattle.ept_base.specs.Moves.{Moves}
use Rattle.ept_base.proofs.Moving.{moves_weaker, moves_both}
use Rattle.ept_point.specs.declared.point.Point.{Point}
use Rattle.ept_space.specs.VoxelKey.{VoxelKey}
use Rattle.ept_sample.specs.Members.{IsMember}
use Rattle.ept_ckpt.specs.declared.node_line.NodeLine.{NodeLine}
use Rattle.ept_ckpt.specs.Versions.{layout_of}
use Rattle.ept_ckpt.specs.Lookup.{line_of_key}
use Rattle.ept_save.specs.Current.{Current, IsNamed, Keeps, tile_of_line}
use Rattle.ept_save.specs.Lines.{free_letter}
use Rattle.ept_save.specs.Loading.{HasTile}
use Rattle.ept_save.specs.Names.{gate_name, body_name, work_tile_name}
use Rattle.ept_save.specs.Tiles.{HasTileUnder}
use Rattle.ept_save.specs.View.{next_letter}
use Rattle.ept_save.proofs.TileFiles.{tile-same}
use Rattle.ept_save.proofs.Standing.{stepped}
use Rattle.ept_table.specs.Octree.{Branch}
use Rattle.ept_octree_ckpt.specs.Saving.{HasNode, PutsChanged, SavesChanged}
use Rattle.ept_save.proofs.DamagedTiles.{line-named}

-- where the tiles that the current checkpoint names are as they were, it has the tile that it had
pub tile-kept : (current : Current) (key : VoxelKey) (points : List Point) (old new : Files) → ((line : NodeLine) → IsNamed current (tile_of_line line) → new (tile_of_line line) ≡ old (tile_of_line line)) → HasTile current key points old → HasTile current key points new
tile-kept None key points old new same has = absurd has
tile-kept (Some (letter, c)) key points old new same has = at (line_of_key c.nodes key) refl has
  where
    at : (found : Option NodeLine) → line_of_key c.nodes key ≡ found → IsSomeAnd found (λ line. HasTileUnder (layout_of c.version) (tile_of_line line) points old) → IsSomeAnd found (λ line. HasTileUnder (layout_of c.version) (tile_of_line line) points new)
    at None is has = absurd has
    at (Some line) is has = tile-same (layout_of c.version) (tile_of_line line) (tile_of_line line) points old new (same line (line-named (Some (letter, c)) key line is)) has

-- where the current checkpoint is kept, it has the node that it had
pub node-kept : (current : Current) (key : VoxelKey) (mask : ℕ) (points : List Point) (old new : Files) → Keeps current old new → HasNode current key mask points old → HasNode current key mask points new
node-kept current key mask points old new keeps has = (has.0, tile-kept current key points old new (λ line named. keeps.tiles (tile_of_line line) named) has.1)

-- what is put of one node
module _ {D : Type 0} (files : D → Option Files) (may_leave : D → Files → Type 0) (moment : D → ℕ) (image_since : D → ℕ → Files → Type 0) where
  abbrev pub PutsNode : D → D → Files → Current → VoxelKey → ℕ → List Point → Type 0
  PutsNode old new all current key mask points =
      Moves files may_leave moment image_since SameFiles old new
      ⊎ (¬ HasNode current key mask points all × Moves files may_leave moment image_since (SameBut (work_tile_name (free_letter current key) key)) old new)

  -- the same of a node that is described in other words
  pub puts-again : (old new : D) (all : Files) (current now : Current) (key other : VoxelKey) (mask bits : ℕ) (points shown : List Point) → current ≡ now → key ≡ other → mask ≡ bits → points ≡ shown → PutsNode old new all current key mask points → PutsNode old new all now other bits shown
  puts-again old new all current now key other mask bits points shown a b c d puts =
      subst (λ (w : List Point). PutsNode old new all now other bits w) d
      (subst (λ (m : ℕ). PutsNode old new all now other m points) c
      (subst (λ (k : VoxelKey). PutsNode old new all now k mask points) b
      (subst (λ (w : Current). PutsNode old new all w key mask points) a puts)))

  module _ (current : Current) (nodes : List Branch) (start : Files) where
    abbrev step : Files → Files → Type 0
    step = PutsChanged current nodes start

    pub puts-same : (old new : D) → Moves files may_leave moment image_since SameFiles old new → Moves files may_leave moment image_since (PutsChanged current nodes start) old new
    puts-same old new = moves_weaker files may_leave moment image_since SameFiles step (λ a b same name other. same name) old new

    puts_then : (old mid new : D) → Moves files may_leave moment image_since step old mid → Moves files may_leave moment image_since step mid new → Moves files may_leave moment image_since step old new
    puts_then old mid new =
        moves_both files may_leave moment image_since step step step (λ a b c first second name other. second name other ∙ first name other) (λ a b moved. moved) old mid new

    -- a node more
    pub puts-more : (b : Branch) → IsMember b nodes → (old mid new : D) → files old ≡ Some start → Moves files may_leave moment image_since (Keeps current) old mid → Moves files may_leave moment image_since (PutsChanged current nodes start) old mid
        → ((all : Files) → files mid ≡ Some all → PutsNode mid new all current b.0 b.1.mask b.1.points) → Moves files may_leave moment image_since (PutsChanged current nodes start) old new
    puts-more b member old mid new told keeps before puts =
        let at = stepped (Keeps current) (files old) (files mid) start told keeps.reads in
        puts_then old mid new before (elim (puts at.0 at.1) [
          | inl same ↦ puts-same mid new same
          | inr (lacks, but) ↦ moves_weaker files may_leave moment image_since (SameBut (work_tile_name (free_letter current b.0) b.0)) step (λ x y moved name other. moved name (λ is. other (b, member, is, λ has. lacks (node-kept current b.0 b.1.mask b.1.points start at.0 at.2 has)))) mid new but
        ])

    -- and with the gate and the body
    abbrev whole : Files → Files → Type 0
    whole = SavesChanged current nodes start

    pub saves-begin : (old new : D) → Moves files may_leave moment image_since (SameBut (gate_name (next_letter current))) old new → Moves files may_leave moment image_since (SavesChanged current nodes start) old new
    saves-begin old new = moves_weaker files may_leave moment image_since (SameBut (gate_name (next_letter current))) whole (λ a b moved name other body gate. moved name gate) old new

    saves_then : (old mid new : D) → Moves files may_leave moment image_since whole old mid → Moves files may_leave moment image_since whole mid new → Moves files may_leave moment image_since whole old new
    saves_then old mid new =
        moves_both files may_leave moment image_since whole whole whole (λ a b c first second name other body gate. second name other body gate ∙ first name other body gate) (λ a b moved. moved) old mid new

    pub saves-nodes : (old mid new : D) → files old ≡ Some start → Moves files may_leave moment image_since (Keeps current) old mid → Moves files may_leave moment image_since (SameBut (gate_name (next_letter current))) old mid
        → ((all : Files) → files mid ≡ Some all → Moves files may_leave moment image_since (PutsChanged current nodes all) mid new) → Moves files may_leave moment image_since (SavesChanged current nodes start) old new
    saves-nodes old mid new told keeps begun puts =
        let at = stepped (Keeps current) (files old) (files mid) start told keeps.reads in
        saves_then old mid new (saves-begin old mid begun) (moves_weaker files may_leave moment image_since (PutsChanged current nodes at.0) whole (λ x y moved name other body gate. moved name (λ (b, member, is, lacks). other (b, member, is, λ has. lacks (node-kept current b.0 b.1.mask b.1.points start at.0 at.2 has)))) mid new (puts at.0 at.1))

    pub saves-commit : (old mid new : D) → Moves files may_leave moment image_since (SavesChanged current nodes start) old mid → Moves files may_leave moment image_since (λ (a b : Files). (name : List ℕ) → (name ≡ body_name (next_letter current) → ⊥) → (name ≡ gate_name (next_letter current) → ⊥) → b name ≡ a name) mid new → Moves files may_leave moment image_since (SavesChanged current nodes start) old new
    saves-commit old mid new before commits =
        saves_then old mid new before (moves_weaker files may_leave moment image_since (λ (a b : Files). (name : List ℕ) → (name ≡ body_name (next_letter current) → ⊥) → (name ≡ gate_name (next_letter current) → ⊥) → b name ≡ a name) whole (λ x y moved name other body gate. moved name body gate) mid new commits)
