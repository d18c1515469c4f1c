-- No tile of sound files is damaged.
use Rattle.std.proofs.Common.{◌≡◌, ◌∙◌, inl, inr, ℕ, zero, suc, ◌<◌, ◌^◌, true, ◌==◌, List, [], ◌∷◌, Some, refl, sym, ap, subst, arith, length, get_or, map, take, drop}
use Rattle.std.specs.List.{AllZip}
use Rattle.std.specs.Int.{bit_at}
use Rattle.std.proofs.lemmas.List.{take-append-drop}
use Rattle.std.proofs.lemmas.List.Elements.{All-take}
use Rattle.ept_base.specs.Files.{Files}
use Rattle.ept_point.specs.Laws.{ReadInOneWay}
use Rattle.ept_point.specs.declared.point.Point.{Point}
use Rattle.ept_point.specs.Order.{IsAscending}
use Rattle.ept_point.specs.declared.layout.Layout.{Layout}
use Rattle.ept_space.specs.declared.cube.Rules.{Rules}
use Rattle.ept_space.specs.VoxelKey.{VoxelKey, child, same_key}
use Rattle.ept_space.proofs.Within.{same_key-true, same_key-same}
use Rattle.ept_config.specs.Extents.{IsWithin}
use Rattle.ept_sample.specs.Ids.{HasDistinctIds}
use Rattle.ept_sample.specs.declared.tiles.Tile.{Tile}
use Rattle.ept_sample.specs.Members.{IsMember}
use Rattle.ept_sample.specs.Nodes.{node_keys, tile_at, sampled}
use Rattle.ept_sample.specs.Sampling.{sampling, is_node}
use Rattle.ept_sample.specs.SamplingLaws.{CanBeSampled}
use Rattle.ept_sample.proofs.Choices.{either, not_both}
use Rattle.ept_sample.proofs.IdLaws.{IsAscending-IsRising, HasDistinctIds-IsAscending}
use Rattle.ept_sample.proofs.Members.{member-any, any-member, member-map}
use Rattle.ept_sample.proofs.NodeLaws.{IsMember-node_keys, node_keys-IsMember}
use Rattle.ept_sample.proofs.SamplingLaws.{IsRising-sampling}
use Rattle.ept_core.proofs.Held.{HasDistinctIds-left}
use Rattle.ept_scan.proofs.Ascending.{scan_ascends}
use Rattle.ept_scan.proofs.Scanned.{scan_placed}
use Rattle.ept_grid.specs.Mask.{opened}
use Rattle.ept_ckpt.specs.declared.letter.Letter.{Letter}
use Rattle.ept_ckpt.specs.declared.node_line.NodeLine.{NodeLine}
use Rattle.ept_ckpt.specs.declared.checkpoint.Checkpoint.{Checkpoint}
use Rattle.ept_ckpt.specs.Versions.{layout_of}
use Rattle.ept_ckpt.specs.Lookup.{line_of_key}
use Rattle.ept_ckpt.specs.Octree.{keys_of, is_among}
use Rattle.ept_meta.specs.Output.{rules_of}
use Rattle.ept_meta.specs.OutputLaws.{PointsCanBeSampled}
use Rattle.ept_save.specs.Current.{Current, HasCurrent, tile_of_line}
use Rattle.ept_save.specs.Tiles.{HasTileUnder}
use Rattle.ept_save.specs.Loading.{AreOfLine, IsDamagedLine, IsDamaged}
use Rattle.ept_save.specs.Sound.{HasPointsOf, IsSavedAs, IsSaved, IsSoundFor, IsSound}
use Rattle.ept_save.proofs.LoadedLines.{found_stands, not-damaged-line, at-line}
use Rattle.ept_save.proofs.SampledTiles.{sampled-IsTile}
use Rattle.ept_save.proofs.SoundFiles.{sound-at}

-- the node of a line
node-of : (layout : Layout) (files : Files) (tiles : List Tile) (lines : List NodeLine) (k : ℕ) (line : NodeLine) → AllZip (IsSavedAs layout files) tiles lines → k < length lines → get_or lines k line ≡ line → (t : Tile) × IsMember t tiles × IsSavedAs layout files t line
node-of layout files [] [] k line all lt is = absurd (omega (arith, lt))
node-of layout files [] (l ∷ ls) k line all lt is = absurd all
node-of layout files (t ∷ ts) [] k line all lt is = absurd all
node-of layout files (t ∷ ts) (l ∷ ls) zero line all lt is = (t, inl refl, subst (IsSavedAs layout files t) is all.0)
node-of layout files (t ∷ ts) (l ∷ ls) (suc k) line all lt is =
    let more = node-of layout files ts ls k line all.1 (omega (arith, lt)) is in (more.0, inr more.1, more.2)

-- the lines have the nodes' keys
pub keys-same : (layout : Layout) (files : Files) (tiles : List Tile) (lines : List NodeLine) → AllZip (IsSavedAs layout files) tiles lines → keys_of lines ≡ map (λ (t : Tile). t.key) tiles
keys-same layout files [] [] all = refl
keys-same layout files [] (l ∷ ls) all = absurd all
keys-same layout files (t ∷ ts) [] all = absurd all
keys-same layout files (t ∷ ts) (l ∷ ls) all =
    ap (λ (w : VoxelKey). w ∷ keys_of ls) all.0.key ∙ ap (λ (w : List VoxelKey). t.key ∷ w) (keys-same layout files ts ls all.1)

keys-at : (rules : Rules) (points : List Point) (keys : List VoxelKey) → map (λ (t : Tile). t.key) (map (tile_at rules points) keys) ≡ keys
keys-at rules points [] = refl
keys-at rules points (k ∷ keys) = ap (λ (w : List VoxelKey). k ∷ w) (keys-at rules points keys)

pub keys-sampled : (rules : Rules) (points : List Point) → map (λ (t : Tile). t.key) (sampled rules points) ≡ node_keys rules points
unfolding sampled
keys-sampled rules points = keys-at rules points (node_keys rules points)

pub member-sampled : (rules : Rules) (points : List Point) (t : Tile) → IsMember t (sampled rules points) → t.points ≡ sampling rules points t.key
unfolding sampled
member-sampled rules points t m =
    let at = member-map (tile_at rules points) t (node_keys rules points) m in
    subst (λ (w : Tile). w.points ≡ sampling rules points w.key) at.2 refl

-- a key is among those of the nodes where it is a node
pub among-node : (rules : Rules) (points : List Point) (can : CanBeSampled rules points) (key : VoxelKey) → is_among (node_keys rules points) key ≡ is_node rules points key
among-node rules points can key =
    elim (either (is_node rules points key)) [
      | inl node ↦ any-member (same_key key) key (node_keys rules points) (node_keys-IsMember rules points key can.cube can.inside node) (same_key-same key key refl) ∙ sym node
      | inr none ↦
          elim (either (is_among (node_keys rules points) key)) [
            | inl among ↦
                let one = member-any (same_key key) (node_keys rules points) among in
                absurd (not_both (is_node rules points key) (subst (λ (k : VoxelKey). is_node rules points k ≡ true) (sym (same_key-true key one.0 one.2)) (IsMember-node_keys rules points one.0 one.1)) none)
            | inr apart ↦ apart ∙ sym none
          ]
    ]

pub opened_bit : (mask o : ℕ) → opened mask o ≡ (bit_at mask o == 1)
unfolding opened
opened_bit mask o = refl

module _ (once : ReadInOneWay) (can_be : PointsCanBeSampled) where
  can-first : (shelf : Files) (c : Checkpoint) (points : List Point) → HasPointsOf shelf c points → CanBeSampled (rules_of c.kept) (take c.inserted points)
  can-first shelf c points scan =
      let up : IsAscending points = scan_ascends shelf c.kept.scale (Some c.kept.bounds) c.kept.inputs 0 points _ scan in
      let distinct : HasDistinctIds (take c.inserted points) = HasDistinctIds-left (take c.inserted points) (drop c.inserted points) (subst HasDistinctIds (sym (take-append-drop c.inserted points)) (HasDistinctIds-IsAscending points up)) in
      can_be c.kept (take c.inserted points) (All-take (IsWithin c.kept.bounds) c.inserted points (scan_placed shelf c.kept.scale c.kept.inputs (Some c.kept.bounds) 0 points _ scan)) distinct

  line-intact : (shelf files : Files) (letter : Letter) (c : Checkpoint) (key : VoxelKey) (line : NodeLine) → IsSoundFor shelf files (Some (letter, c)) → line_of_key c.nodes key ≡ Some line → line.mask < 2 ^ 8 → ¬ IsDamagedLine (layout_of c.version) (rules_of c.kept) line files
  line-intact shelf files letter c key line sound found byte =
      let rules : Rules = rules_of c.kept in
      let layout : Layout = layout_of c.version in
      let first : List Point = take c.inserted sound.0 in
      let saved : IsSaved shelf files c sound.0 = sound.1 in
      let can : CanBeSampled rules first = can-first shelf c sound.0 saved.scan in
      let stands = found_stands (λ (l : NodeLine). same_key l.key key) c.nodes line found in
      let node = node-of layout files (sampled rules first) c.nodes stands.0 line saved.nodes stands.1 stands.2 in
      let is : IsSavedAs layout files node.0 line = node.2 in
      let points_are : node.0.points ≡ sampling rules first line.key = member-sampled rules first node.0 node.1 ∙ ap (λ (k : VoxelKey). sampling rules first k) (sym is.key) in
      let keys : keys_of c.nodes ≡ node_keys rules first = keys-same layout files (sampled rules first) c.nodes saved.nodes ∙ keys-sampled rules first in
      let told = c.is_checkpoint.nodes_are.octree.children stands.0 line stands.1 in
      let children : (o : ℕ) → o < 8 → opened line.mask o ≡ is_node rules first (child line.key o) = λ o low.
      opened_bit line.mask o
      ∙ (subst (λ (l : NodeLine). (bit_at l.mask o == 1) ≡ is_among (keys_of c.nodes) (child l.key o)) stands.2 (told o low)
      ∙ (ap (λ (w : List VoxelKey). is_among w (child line.key o)) keys ∙ among-node rules first can (child line.key o)))
      in
      let are : AreOfLine rules line (sampling rules first line.key) = record {
        counted = ap (λ (w : List Point). length w) (sym points_are) ∙ sym is.count;
        ascend = IsAscending-IsRising (sampling rules first line.key) (IsRising-sampling rules first line.key can.distinct);
        fits = sampled-IsTile rules first can line.key line.mask byte children;
      } in
      not-damaged-line once layout rules line (sampling rules first line.key) files are (subst (λ (w : List Point). HasTileUnder layout (tile_of_line line) w files) points_are is.has_tile)

  pub sound-intact : (shelf files : Files) (current : Current) (key : VoxelKey) (at : Letter × Checkpoint) (line : NodeLine) → current ≡ Some at → line_of_key at.1.nodes key ≡ Some line → line.mask < 2 ^ 8 → IsSound shelf files → HasCurrent current files → ¬ IsDamaged current key files
  sound-intact shelf files current key at line is found byte sound has damaged =
      line-intact shelf files at.0 at.1 key line (subst (IsSoundFor shelf files) is (sound-at shelf files current has sound)) found byte
      (at-line current key at line (λ c l. IsDamagedLine (layout_of c.version) (rules_of c.kept) l files) is found damaged)
