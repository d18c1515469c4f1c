-- Tiles of the current checkpoint, damaged or not, from files to files.
use Rattle.std.proofs.Common.{◌≡◌, ◌∙◌, ◌⊎◌, inl, inr, List, sym, ap, subst, refl, Option, Some, None}
use Rattle.std.specs.Prelude.{Result, Ok, Err, IfErr, IsSome, IsSomeAnd}
use Rattle.ept_base.specs.Files.{Files, Tells}
use Rattle.ept_point.specs.declared.layout.Layout.{Layout}
use Rattle.ept_point.specs.declared.layout.Layout.TheVariants.{Old}
use Rattle.ept_point.specs.declared.point.Point.{Point}
use Rattle.ept_point.specs.Packed.{tile}
use Rattle.ept_space.specs.VoxelKey.{VoxelKey, same_key}
use Rattle.ept_sample.specs.Members.{IsMember}
use Rattle.ept_ckpt.specs.declared.node_line.NodeLine.{NodeLine}
use Rattle.ept_ckpt.specs.Versions.{layout_of}
use Rattle.ept_ckpt.specs.Lookup.{line_of_key}
use Rattle.ept_meta.specs.Output.{rules_of}
use Rattle.ept_save.specs.declared.error.SaveError.{SaveError}
use Rattle.ept_save.specs.declared.error.SaveError.TheVariants.{StoreFault, TileDamaged, Memory}
use Rattle.ept_save.specs.Current.{Current, IsNamed, tile_of_line}
use Rattle.ept_save.specs.Errors.{IsStores}
use Rattle.ept_save.specs.Loading.{current_line, HasLine, HasTile, IsDamaged, IsDamagedLine}
use Rattle.ept_save.specs.Opening.{lines_of}
use Rattle.ept_save.specs.Tiles.{HasTileUnder, IsOfLayout}
use Rattle.ept_save.proofs.KeyLines.{do-ascend, line-here, member-at}
use Rattle.ept_save.proofs.LoadedLines.{found_stands, of-line}
use Rattle.ept_save.proofs.TileFiles.{new-layout}

-- ---- the tile of a line

-- the line of a key stands among the lines of its checkpoint
pub line-stands : (lines : List NodeLine) (key : VoxelKey) (line : NodeLine) → line_of_key lines key ≡ Some line → IsMember line lines
line-stands lines key line found =
    let at = found_stands (λ (l : NodeLine). same_key l.key key) lines line found in
    member-at lines at.0 line at.1 at.2

-- and names a tile of the current checkpoint
pub line-named : (current : Current) (key : VoxelKey) (line : NodeLine) → current_line current key ≡ Some line → IsNamed current (tile_of_line line)
line-named None key line found = absurd (cc)
line-named (Some (letter, c)) key line found =
    let at = found_stands (λ (l : NodeLine). same_key l.key key) c.nodes line found in
    (at.0, line, at.1, at.2, refl)

-- where its tile reads as before, it is damaged as before
pub damaged-before : (current : Current) (key : VoxelKey) (old new : Files) → ((line : NodeLine) → current_line current key ≡ Some line → new (tile_of_line line) ≡ old (tile_of_line line)) → IsDamaged current key new → IsDamaged current key old
damaged-before None key old new same is = absurd is
damaged-before (Some (letter, c)) key old new same is = at (line_of_key c.nodes key) refl is
  where
    at : (found : Option NodeLine) → line_of_key c.nodes key ≡ found → IsSomeAnd found (λ line. IsDamagedLine (layout_of c.version) (rules_of c.kept) line new) → IsSomeAnd found (λ line. IsDamagedLine (layout_of c.version) (rules_of c.kept) line old)
    at None is_found is = absurd is
    at (Some line) is_found is = elim is [
      | inl absent ↦ inl (sym (same line is_found) ∙ absent)
      | inr wrong ↦ inr (wrong.0, sym (same line is_found) ∙ wrong.1, wrong.2)
    ]

-- ---- from call to call

-- a tile that was loaded is not damaged
pub loaded-whole : {T : Type 0} (result : Result T SaveError) (t : T) → result ≡ Ok t → (current : Current) (key : VoxelKey) (files : Option Files)
    → ((all : Files) → files ≡ Some all → IsDamaged current key all → (result ≡ Err (TileDamaged key)) ⊎ (result ≡ Err StoreFault) ⊎ (result ≡ Err Memory))
    → Tells (λ all. ¬ IsDamaged current key all) files
loaded-whole {T} result t is current key None comes = tt
loaded-whole {T} result t is current key (Some all) comes = λ damaged. elim (comes all refl damaged) [
  | inl bad ↦ no_error (TileDamaged key) bad
  | inr (inl fault) ↦ no_error StoreFault fault
  | inr (inr memory) ↦ no_error Memory memory
]
  where
    no_error : (e : SaveError) → result ≡ Err e → ⊥
    no_error e bad = let both : Ok t ≡ Err e = sym is ∙ bad in absurd (cc)

-- ---- a tile that is reported as damaged

-- refusals that are passed on are one
pub one-refusal : {T U : Type 0} (a : Result T SaveError) (b : Result U SaveError) (e f : SaveError) → a ≡ Err e → b ≡ Err e → b ≡ Err f → a ≡ Err f
one-refusal {T} {U} a b e f is also told = is ∙ ap (λ (w : SaveError). Err w) (same (sym also ∙ told))
  where
    same : (◌≡◌ {A = Result U SaveError} (Err e) (Err f)) → e ≡ f
    same both = cc

-- a refusal of the store names no tile
pub stores-no-tile : {T : Type 0} (r : Result T SaveError) (key : VoxelKey) → IfErr r IsStores → r ≡ Err (TileDamaged key) → ⊥
stores-no-tile (Ok t) key only is = cc
stores-no-tile (Err e) key (inl fault) is = let same : Err e ≡ Err (TileDamaged key) = is in let also : e ≡ StoreFault = fault in cc
stores-no-tile (Err e) key (inr memory) is = let same : Err e ≡ Err (TileDamaged key) = is in let also : e ≡ Memory = memory in cc

-- and of the tiles it names one
pub one-tile : {T : Type 0} (r : Result T SaveError) (key other : VoxelKey) → IfErr r (λ e. (e ≡ TileDamaged key) ⊎ IsStores e) → r ≡ Err (TileDamaged other) → (r ≡ Err (TileDamaged key)) × (key ≡ other)
one-tile (Ok t) key other only is = absurd (cc)
one-tile {T} (Err e) key other (inl tile) is = (ap (λ (w : SaveError). Err w) tile, (let same : TileDamaged key ≡ TileDamaged other = sym tile ∙ given is in cc))
  where
    given : (◌≡◌ {A = Result T SaveError} (Err e) (Err (TileDamaged other))) → e ≡ TileDamaged other
    given both = cc
one-tile {T} (Err e) key other (inr stores) is = absurd (stores-no-tile {T = T} (Err e) other stores is)

-- ---- the lines of the current checkpoint

-- each is that of its key
pub line-found : (current : Current) (line : NodeLine) → IsMember line (lines_of current) → current_line current line.key ≡ Some line
line-found None line m = absurd m
line-found (Some (letter, c)) line m = line-here c.nodes line (do-ascend c.nodes c.is_checkpoint.nodes_are.octree.ascend) m

-- so the current checkpoint has a line of that key
pub line-there : (current : Current) (line : NodeLine) → IsMember line (lines_of current) → HasLine current line.key
line-there current line m = subst (λ (o : Option NodeLine). IsSome o) (sym (line-found current line m)) refl

-- and what its file has, is had of that key
pub line-tile : (current : Current) (line : NodeLine) → IsMember line (lines_of current) → ¬ IsOfLayout Old current → (points : List Point) (files : Files) → files (tile_of_line line) ≡ Some (tile points) → HasTile current line.key points files
line-tile None line m newest points files has = absurd m
line-tile (Some (letter, c)) line m newest points files has =
    of-line (Some (letter, c)) line.key (letter, c) line (λ d l. HasTileUnder (layout_of d.version) (tile_of_line l) points files) refl (line-found (Some (letter, c)) line m)
    (subst (λ (w : Layout). HasTileUnder w (tile_of_line line) points files) (sym (new-layout letter c newest)) has)
