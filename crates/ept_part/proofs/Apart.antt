-- The files of a part have different names. So each is there once all were put.
use Rattle.std.proofs.Common.{◌≡◌, ◌≢◌, ◌∙◌, inl, inr, ℕ, true, List, [], ◌∷◌, refl, sym, ap, subst, map, Option, Some, None}
use Rattle.std.specs.Prelude.{All}
use Rattle.std.specs.List.{AllZip}
use Rattle.ept_base.specs.Files.{Files, Tells, StepsBy}
use Rattle.ept_point.specs.declared.point.Point.{Point}
use Rattle.ept_point.specs.declared.layout.Layout.TheVariants.{New}
use Rattle.ept_point.specs.Packed.{tile}
use Rattle.ept_space.specs.VoxelKey.{VoxelKey, IsKey}
use Rattle.ept_sample.specs.declared.tiles.Tile.{Tile}
use Rattle.ept_sample.specs.Members.{IsMember}
use Rattle.ept_sample.proofs.Members.{IsMember-left, IsMember-right, IsMember-map, member-map, all-member, All-members}
use Rattle.ept_sample.proofs.Ascending.{IsRising}
use Rattle.ept_sample.proofs.KeyOrder.{key_before, key_order, IsRising-AllPairs}
use Rattle.ept_sample.proofs.Choices.{not_both}
use Rattle.ept_grid.specs.Mask.{opened}
use Rattle.ept_config.specs.declared.config.Config.{Config}
use Rattle.ept_ckpt.specs.declared.letter.Letter.TheVariants.{A}
use Rattle.ept_ckpt.specs.declared.node_line.NodeLine.{NodeLine}
use Rattle.ept_ckpt.specs.declared.checkpoint.Checkpoint.{Checkpoint}
use Rattle.ept_meta.specs.Output.{File, rules_of}
use Rattle.ept_save.specs.Sound.{IsSavedUnder}
use Rattle.ept_table.specs.Octree.{Branch, key_of, tile_of}
use Rattle.ept_publish.specs.Publishing.{PutsAll, Gains}
use Rattle.ept_publish.proofs.Putting.{AreApart, apart-append, puts-gain}
use Rattle.ept_tree.specs.Grown.{nodes_of}
use Rattle.ept_parts.specs.MergeLaws.{part_nodes}
use Rattle.ept_part.specs.declared.making.Ready.{Ready}
use Rattle.ept_part.specs.Names.{part_tile, part_tile_of}
use Rattle.ept_part.specs.Files.{HasPart}
use Rattle.ept_part.specs.Filling.{line_for, HaveKeys, tile_file, body_file, filling}
use Rattle.ept_part.specs.Making.{IsReady, IsPartOf}
use Rattle.ept_part.proofs.PartNames.{tile-key, tile-body}

module _ (octants : ℕ) where
  -- ---- different names

  tiles-apart : (nodes : List Branch) → IsRising key_before (map key_of nodes) → ((b : Branch) → IsMember b nodes → IsKey b.0) → AreApart (map (tile_file octants) nodes)
  tiles-apart [] up keys = tt
  tiles-apart (b ∷ bs) up keys = (other, tiles-apart bs up.1 (λ c m. keys c (inr m)))
    where
      other : (g : File) → IsMember g (map (tile_file octants) bs) → part_tile octants b.0 ≢ g.0
      other g m same =
          let c = member-map (tile_file octants) g bs m in
          let one : b.0 ≡ c.0.0 = tile-key octants b.0 c.0.0 (keys b (inl refl)) (keys c.0 (inr c.1)) (same ∙ sym (ap (λ (f : File). f.0) c.2)) in
          not_both (key_before b.0 b.0) (subst (λ (k : VoxelKey). key_before b.0 k ≡ true) (sym one) (up.0 c.0.0 (IsMember-map key_of c.0 bs c.1))) (key_order.none_itself b.0)

  filling-apart : (nodes : List Branch) (c : Checkpoint) → HaveKeys nodes → AreApart (filling octants nodes c)
  filling-apart nodes c keys =
      apart-append (map (tile_file octants) nodes) (body_file octants c ∷ [])
      (tiles-apart nodes (IsRising-AllPairs (map key_of nodes) keys.ascend) (λ b m. all-member (λ (d : Branch). IsKey d.0) b nodes keys.are_keys m))
      ((λ g m. absurd m), tt) across
    where
      across : (x y : File) → IsMember x (map (tile_file octants) nodes) → IsMember y (body_file octants c ∷ []) → x.0 ≢ y.0
      across x y m (inl is) same =
          let b = member-map (tile_file octants) x nodes m in
          tile-body octants b.0.0 (ap (λ (f : File). f.0) b.2 ∙ (same ∙ sym (ap (λ (f : File). f.0) is)))
      across x y m (inr n) same = absurd n

  -- ---- the lines name the tiles

  saved-lines : (files : Files) (nodes : List Branch) → ((b : Branch) → IsMember b nodes → files (part_tile octants b.0) ≡ Some (tile b.1.points)) → AllZip (IsSavedUnder New (part_tile_of octants) files) (map tile_of nodes) (map line_for nodes)
  saved-lines files [] there = tt
  saved-lines files (b ∷ bs) there = (
    record { key = refl; count = refl; has_tile = there b (inl refl) },
    saved-lines files bs (λ c m. there c (inr m)),
  )

  letters-are : (nodes : List Branch) → All (λ (line : NodeLine). line.letter ≡ A) (map line_for nodes)
  letters-are nodes =
      All-members (λ (line : NodeLine). line.letter ≡ A) (map line_for nodes) (λ line m. (
      let b = member-map line_for line nodes m in
      subst (λ (l : NodeLine). l.letter ≡ A) b.2 refl))

  -- ---- so the part is there

  module _ (shelf : Files) (config : Config) (ready : Ready) (points : List Point) (is : IsReady config ready) (part : IsPartOf shelf config octants ready points) where
    abbrev nodes : List Branch
    nodes = nodes_of ready.tree

    abbrev c : Checkpoint
    c = ready.checkpoint

    gained-part : (old new : Files) → Gains (filling octants nodes c) old new → HasPart shelf new octants c points
    gained-part old new gains =
        let there : (f : File) → IsMember f (filling octants nodes c) → new f.0 ≡ Some f.1 = λ f m. all-member (λ (g : File). new g.0 ≡ Some g.1) f (filling octants nodes c) gains.are_there m in
        let tiles : AllZip (IsSavedUnder New (part_tile_of octants) new) (map tile_of nodes) (map line_for nodes) = saved-lines new nodes (λ b m. there (tile_file octants b) (IsMember-left (tile_file octants b) (map (tile_file octants) nodes) (body_file octants c ∷ []) (IsMember-map (tile_file octants) b nodes m))) in
        record {
          body = there (body_file octants c) (IsMember-right (body_file octants c) (map (tile_file octants) nodes) (body_file octants c ∷ []) (inl refl));
          newest = is.newest;
          first = is.first;
          scan = part.scan;
          inserted = part.inserted;
          nodes =
              subst (λ (ls : List NodeLine). AllZip (IsSavedUnder New (part_tile_of octants) new) (part_nodes (rules_of c.kept) (opened octants) points) ls) (sym is.lines)
              (subst (λ (ts : List Tile). AllZip (IsSavedUnder New (part_tile_of octants) new) ts (map line_for nodes)) part.sampled.tiles tiles);
          letters = subst (λ (ls : List NodeLine). All (λ (line : NodeLine). line.letter ≡ A) ls) (sym is.lines) (letters-are nodes);
        }

    gained_told : (old new : Option Files) → StepsBy (Gains (filling octants nodes c)) old new → Tells (λ f. HasPart shelf f octants c points) new
    gained_told old None gains = tt
    gained_told None (Some new) gains = absurd gains
    gained_told (Some old) (Some new) gains = gained-part old new gains

    pub filled-part : (old new : Option Files) → StepsBy (PutsAll (filling octants nodes c)) old new → Tells (λ f. HasPart shelf f octants c points) new
    filled-part old new puts = gained_told old new (puts-gain (filling octants nodes c) (filling-apart nodes c is.keys) old new puts)
