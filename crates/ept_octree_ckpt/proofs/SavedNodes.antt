-- Nodes and their tiles: those of a sampling if the lines that describe them are.
use Rattle.std.proofs.Common.{◌≡◌, ◌∙◌, ℕ, ◌<◌, ◌==◌, List, [], ◌∷◌, map, refl, sym, ap, subst}
use Rattle.std.specs.List.{AllZip}
use Rattle.std.specs.Int.{bit_at}
use Rattle.ept_base.specs.Files.{Files}
use Rattle.ept_point.specs.declared.point.Point.{Point}
use Rattle.ept_point.specs.declared.layout.Layout.{Layout}
use Rattle.ept_space.specs.declared.cube.Rules.{Rules}
use Rattle.ept_space.specs.VoxelKey.{VoxelKey, child}
use Rattle.ept_sample.specs.declared.tiles.Tile.{Tile}
use Rattle.ept_sample.specs.Members.{IsMember}
use Rattle.ept_sample.specs.Nodes.{node_keys, sampled}
use Rattle.ept_sample.specs.Sampling.{is_node}
use Rattle.ept_sample.specs.SamplingLaws.{CanBeSampled}
use Rattle.ept_sample.proofs.Members.{all-member}
use Rattle.ept_grid.specs.Mask.{opened}
use Rattle.ept_ckpt.specs.declared.node_line.NodeLine.{NodeLine}
use Rattle.ept_ckpt.specs.Octree.{AreWholeOctree, TellsChildren, keys_of, is_among}
use Rattle.ept_save.specs.Current.{tile_of_line}
use Rattle.ept_save.specs.Sound.{IsSavedAs}
use Rattle.ept_save.proofs.SoundTiles.{keys-same, keys-sampled, among-node, opened_bit}
use Rattle.ept_table.specs.Octree.{Branch, tile_of, AreSampled}
use Rattle.ept_octree_ckpt.specs.Lines.{TellsNode, TellNodes, NamesTile, NameTiles}
use Rattle.ept_octree_ckpt.proofs.Telling.{node-line}
use Rattle.ept_save.proofs.TileFiles.{one-file}

-- ---- from the lines to the nodes

same_node : (layout : Layout) (files : Files) (b : Branch) (t : Tile) (l : NodeLine) → TellsNode b l → NamesTile layout files b l → IsSavedAs layout files t l → tile_of b ≡ t
same_node layout files b t l told names saved =
    let key : b.0 ≡ t.key = sym told.key ∙ saved.key in
    let points : b.1.points ≡ t.points = one-file layout (tile_of_line l) files b.1.points t.points names saved.has_tile in
    λ i. record { key = key i; points = points i }

pub same-nodes : (layout : Layout) (files : Files) (nodes : List Branch) (tiles : List Tile) (lines : List NodeLine) → TellNodes nodes lines → NameTiles layout files nodes lines → AllZip (IsSavedAs layout files) tiles lines → map tile_of nodes ≡ tiles
same-nodes layout files [] [] [] told names saved = refl
same-nodes layout files [] (t ∷ ts) [] told names saved = absurd saved
same-nodes layout files [] tiles (l ∷ ls) told names saved = absurd told
same-nodes layout files (b ∷ bs) tiles [] told names saved = absurd told
same-nodes layout files (b ∷ bs) [] (l ∷ ls) told names saved = absurd saved
same-nodes layout files (b ∷ bs) (t ∷ ts) (l ∷ ls) told names saved =
    ap (λ (w : Tile). w ∷ map tile_of bs) (same_node layout files b t l told.0 names.0 saved.0) ∙ ap (λ (w : List Tile). t ∷ w) (same-nodes layout files bs ts ls told.1 names.1 saved.1)

-- ---- and back

pub saved-as : (layout : Layout) (files : Files) (nodes : List Branch) (lines : List NodeLine) → TellNodes nodes lines → NameTiles layout files nodes lines → AllZip (IsSavedAs layout files) (map tile_of nodes) lines
saved-as layout files [] [] told names = tt
saved-as layout files [] (l ∷ ls) told names = absurd told
saved-as layout files (b ∷ bs) [] told names = absurd told
saved-as layout files (b ∷ bs) (l ∷ ls) told names = (record { key = told.0.key; count = told.0.count; has_tile = names.0 }, saved-as layout files bs ls told.1 names.1)

-- ---- the octants that are open

module _ (layout : Layout) (rules : Rules) (files : Files) (first : List Point) (can : CanBeSampled rules first) (nodes : List Branch) (lines : List NodeLine) (told : TellNodes nodes lines) (names : NameTiles layout files nodes lines) (octree : AreWholeOctree lines) (saved : AllZip (IsSavedAs layout files) (sampled rules first) lines) where
  keys : keys_of lines ≡ node_keys rules first
  keys = keys-same layout files (sampled rules first) lines saved ∙ keys-sampled rules first

  opens : (b : Branch) (o : ℕ) → IsMember b nodes → o < 8 → opened b.1.mask o ≡ is_node rules first (child b.0 o)
  opens b o m low =
      let l = node-line nodes lines b told m in
      let told_there : (bit_at l.0.mask o == 1) ≡ is_among (keys_of lines) (child l.0.key o) = all-member (TellsChildren (keys_of lines)) l.0 lines octree.children l.1 o low in
      ap (λ (w : ℕ). opened w o) (sym l.2.mask)
      ∙ (opened_bit l.0.mask o
      ∙ (told_there
      ∙ (ap (λ (w : List VoxelKey). is_among w (child l.0.key o)) keys
      ∙ (among-node rules first can (child l.0.key o) ∙ ap (λ (k : VoxelKey). is_node rules first (child k o)) l.2.key))))

  pub loaded-sampled : AreSampled rules first nodes
  loaded-sampled = record { tiles = same-nodes layout files nodes (sampled rules first) lines told names saved; opens = opens }

pub sampled-saved : (layout : Layout) (rules : Rules) (files : Files) (points : List Point) (nodes : List Branch) (lines : List NodeLine) → AreSampled rules points nodes → TellNodes nodes lines → NameTiles layout files nodes lines → AllZip (IsSavedAs layout files) (sampled rules points) lines
sampled-saved layout rules files points nodes lines are told names = subst (λ (w : List Tile). AllZip (IsSavedAs layout files) w lines) are.tiles (saved-as layout files nodes lines told names)
