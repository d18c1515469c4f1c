-- Whether the current checkpoint has a node as it is.
use Rattle.std.proofs.Common.{◌≡◌, ◌≢◌, ◌∙◌, ◌⊎◌, inl, inr, ℕ, List, [], ◌++◌, length, refl, sym, ap, subst, arith, Option, Some, None}
use Rattle.std.specs.Prelude.{IsSome, IsSomeAnd}
use Rattle.ept_base.specs.Files.{Files, SameFiles, SameBut, StepsBy, Tells}
use Rattle.ept_base.specs.Moves.{Moves, SameImages}
use Rattle.ept_base.proofs.Moving.{moves_weaker, moves_both}
use Rattle.ept_point.specs.declared.point.Point.{Point}
use Rattle.ept_point.specs.declared.layout.Layout.TheVariants.{Old, New}
use Rattle.ept_space.specs.VoxelKey.{VoxelKey}
use Rattle.ept_ckpt.specs.declared.node_line.NodeLine.{NodeLine}
use Rattle.ept_ckpt.specs.Versions.{layout_of}
use Rattle.ept_save.specs.Current.{Current, Keeps, tile_of_line}
use Rattle.ept_save.specs.Loading.{current_line, HasLine, HasTile, AppendsFound}
use Rattle.ept_save.specs.Tiles.{HasTileUnder, IsOfLayout}
use Rattle.ept_save.proofs.Keeping.{keeps-same, keeps-both}
use Rattle.ept_save.proofs.TileFiles.{one-file}
use Rattle.ept_octree_ckpt.specs.Saving.{IsTold}
use Rattle.ept_octree_ckpt.proofs.SavedTo.{found-line, one_line, line-tile}

-- ---- the points of its tile

module _ (current : Current) (key : VoxelKey) (files : Option Files) (old found shown points : List Point) (empty : old ≡ []) (shows : shown ≡ found) (are : AppendsFound current key files old found) where
  here : shown ≡ are.points
  here = shows ∙ (are.appended ∙ ap (λ (w : List Point). w ++ are.points) empty)

  -- the points that are compared are the tile's, where they are those that were found
  pub found-has : shown ≡ points → Tells (HasTile current key points) files
  found-has same = subst (λ (w : List Point). Tells (HasTile current key w) files) (sym here ∙ same) are.has_tile

  -- and only there
  pub found-has_not : ¬ IsOfLayout Old current → shown ≢ points → (all : Files) → files ≡ Some all → ¬ HasTile current key points all
  found-has_not newest differ all told has =
      let there : HasTile current key are.points all = subst (λ (o : Option Files). Tells (HasTile current key are.points) o) told are.has_tile in
      let at = found-line current key (λ c l. HasTileUnder (layout_of c.version) (tile_of_line l) are.points all) there in
      let line : NodeLine = at.1 in
      differ (here ∙ one-file New (tile_of_line line) all are.points points (line-tile current key line are.points all newest at.2 there) (line-tile current key line points all newest at.2 has))

-- ---- its line

none-some : (line : NodeLine) → None ≡ Some line → ⊥
none-some line is = cc

pub has-line : (current : Current) (key : VoxelKey) (line : NodeLine) → current_line current key ≡ Some line → HasLine current key
has-line current key line is = subst (λ (o : Option NodeLine). IsSome o) (sym is) refl

pub line-told : (current : Current) (key : VoxelKey) (mask : ℕ) (points : List Point) (line : NodeLine) → current_line current key ≡ Some line → line.mask ≡ mask → line.count ≡ length points → IsTold current key mask points
line-told None key mask points line is same_mask same_count = absurd (none-some line is)
line-told (Some (letter, c)) key mask points line is same_mask same_count =
    subst (λ (o : Option NodeLine). IsSomeAnd o (λ l. (l.mask ≡ mask) × (l.count ≡ length points))) (sym is) (same_mask, same_count)

-- no node is counted if there is no line
pub none-told : (current : Current) (key : VoxelKey) (mask : ℕ) (points : List Point) → current_line current key ≡ None → ¬ IsTold current key mask points
none-told current key mask points none told =
    let at = found-line current key (λ c line. (line.mask ≡ mask) × (line.count ≡ length points)) told in
    none-some at.1 (sym none ∙ at.2)

-- and none if the line differs
pub other-told : (current : Current) (key : VoxelKey) (mask : ℕ) (points : List Point) (line : NodeLine) → current_line current key ≡ Some line → (line.mask ≢ mask) ⊎ (line.count ≢ length points) → ¬ IsTold current key mask points
other-told current key mask points line is differs told =
    let at = found-line current key (λ c l. (l.mask ≡ mask) × (l.count ≡ length points)) told in
    let same : at.1 ≡ line = one_line (current_line current key) at.1 line at.2 is in
    elim differs [
      | inl mask_differs ↦ mask_differs (sym (ap (λ (l : NodeLine). l.mask) same) ∙ at.3.0)
      | inr count_differs ↦ count_differs (sym (ap (λ (l : NodeLine). l.count) same) ∙ at.3.1)
    ]

-- ---- moves

pub tells-pair : (one other : Files → Type 0) (files : Option Files) → Tells one files → Tells other files → Tells (λ all. one all × other all) files
tells-pair one other None a b = tt
tells-pair one other (Some all) a b = (a, b)

pub tells-known : (fact : Type 0) (files : Option Files) → fact → Tells (λ all. fact) files
tells-known fact None known = tt
tells-known fact (Some all) known = known

module _ {D : Type 0} (files : D → Option Files) (may_leave : D → Files → Type 0) (moment : D → ℕ) (image_since : D → ℕ → Files → Type 0) where
  pub same-none : (store : D) → Moves files may_leave moment image_since SameFiles store store
  same-none store = record {
    reads = same_reads (files store);
    leaves = λ image now. (image, now, λ name. refl);
    later = omega arith;
    moments = λ t image le since. inl since;
  }
    where
      same_reads : (read : Option Files) → StepsBy SameFiles read read
      same_reads None = tt
      same_reads (Some all) = λ name. refl

  pub images-then : (old mid new : D) → SameImages (may_leave old) (may_leave mid) → SameImages (may_leave mid) (may_leave new) → SameImages (may_leave old) (may_leave new)
  images-then old mid new one two = (λ image now. one.0 image (two.0 image now), λ image was. two.1 image (one.1 image was))

  pub same-but : (name : List ℕ) (old new : D) → Moves files may_leave moment image_since SameFiles old new → Moves files may_leave moment image_since (SameBut name) old new
  same-but name old new = moves_weaker files may_leave moment image_since SameFiles (SameBut name) (λ a b same other differs. same other) old new

  pub same-keeps : (current : Current) (old new : D) → Moves files may_leave moment image_since SameFiles old new → Moves files may_leave moment image_since (Keeps current) old new
  same-keeps current old new = moves_weaker files may_leave moment image_since SameFiles (Keeps current) (keeps-same current) old new

  pub keeps-none : (current : Current) (store : D) → Moves files may_leave moment image_since (Keeps current) store store
  keeps-none current store = same-keeps current store store (same-none store)

  pub but-then : (name : List ℕ) (old mid new : D) → Moves files may_leave moment image_since SameFiles old mid → Moves files may_leave moment image_since (SameBut name) mid new → Moves files may_leave moment image_since (SameBut name) old new
  but-then name old mid new =
      moves_both files may_leave moment image_since SameFiles (SameBut name) (SameBut name) (λ a b c first second other differs. second other differs ∙ first other) (λ a b same other differs. same other) old mid new

  pub keeps-then : (current : Current) (old mid new : D) → Moves files may_leave moment image_since (Keeps current) old mid → Moves files may_leave moment image_since (Keeps current) mid new → Moves files may_leave moment image_since (Keeps current) old new
  keeps-then current old mid new =
      moves_both files may_leave moment image_since (Keeps current) (Keeps current) (Keeps current) (keeps-both current) (λ a b keeps. keeps) old mid new
