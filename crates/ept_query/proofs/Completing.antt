-- A folder with the whole output of some points has all that a query reads.
use Rattle.std.proofs.Common.{◌≡◌, ◌∙◌, ◌^◌, ◌<◌, ℕ, List, [], ◌∷◌, ◌++◌, length, map, filter, refl, sym, ap, subst, inl, inr, arith, append_assoc, Some, true}
use Rattle.std.specs.List.{All}
use Rattle.ept_base.specs.Files.{Files}
use Rattle.ept_point.specs.declared.point.Point.{Point}
use Rattle.ept_point.specs.Packed.{tile}
use Rattle.ept_point.specs.Order.{IsAscending}
use Rattle.ept_space.specs.VoxelKey.{VoxelKey, IsKey}
use Rattle.ept_sample.specs.declared.tiles.Tile.{Tile}
use Rattle.ept_sample.specs.Sampling.{sampling, is_node}
use Rattle.ept_sample.specs.Nodes.{node_keys, tile_at, sampled}
use Rattle.ept_sample.specs.Members.{IsMember}
use Rattle.ept_sample.specs.SamplingLaws.{CanBeSampled}
use Rattle.ept_sample.proofs.IdLaws.{HasDistinctIds-IsAscending}
use Rattle.ept_sample.proofs.Ascending.{IsRising}
use Rattle.ept_sample.proofs.KeyOrder.{key_before, AllPairs-IsRising}
use Rattle.ept_sample.proofs.Members.{IsMember-left, IsMember-right, IsMember-map, IsMember-kept, all-member, All-members}
use Rattle.ept_sample.proofs.NodeLaws.{IsMember-node_keys, node_keys-IsMember, IsRising-node_keys}
use Rattle.ept_sample.proofs.SamplingLaws.{node-IsKey}
use Rattle.ept_config.specs.declared.kept.Kept.{Kept}
use Rattle.ept_config.specs.Extents.{IsWithin}
use Rattle.ept_hier.specs.declared.file.HierFile.{HierFile}
use Rattle.ept_hier.specs.Hierarchy.{Node, keys_of, has_file, file_of, hierarchy, hierarchy_text, entries_of, KeysAscend}
use Rattle.ept_hier.specs.Reading.{IsReading}
use Rattle.ept_hier.specs.ReadingLaws.{FilesAreReadBack}
use Rattle.ept_meta.specs.BuildText.{build_text}
use Rattle.ept_meta.specs.EptText.{ept_text}
use Rattle.ept_meta.specs.ManifestText.{manifest_text}
use Rattle.ept_meta.specs.Output.{File, IsOutput, rules_of, counted, tile_file, hierarchy_file, tile_name, hierarchy_name, metadata_name, manifest_name, build_file_name}
use Rattle.ept_meta.specs.OutputLaws.{PointsCanBeSampled}
use Rattle.ept_query.proofs.FewPoints.{sampling-le}
use Rattle.ept_query.proofs.Laid.{IsLaid, nodes_of, size-at, node-at, at-node}

-- ---- what is there

module _ (read-back : FilesAreReadBack) (can-sample : PointsCanBeSampled) (kept : Kept) (points : List Point) (files : Files) (output : List File) (is : IsOutput kept points output) (there : All (λ (f : File). files f.0 ≡ Some f.1) output) (ascend : IsAscending points) (inside : All (IsWithin kept.bounds) points) (few : length points < 2 ^ 63) where
  abbrev IsNode : VoxelKey → Type 0
  IsNode key = is_node (rules_of kept) points key ≡ true

  can : CanBeSampled (rules_of kept) points
  can = can-sample kept points inside (HasDistinctIds-IsAscending points ascend)

  texts-of : List File
  texts-of = (metadata_name, ept_text kept is.extent (length points)) ∷ (manifest_name, manifest_text kept is.counts) ∷ (build_file_name, build_text kept) ∷ []

  there-is : (f : File) → IsMember f (map tile_file (sampled (rules_of kept) points) ++ (map hierarchy_file (hierarchy kept.step (nodes_of kept points)) ++ texts-of)) → files f.0 ≡ Some f.1
  unfolding nodes_of texts-of
  there-is f m = all-member (λ (f : File). files f.0 ≡ Some f.1) f output there (subst (λ (fs : List File). IsMember f fs) (sym (append_assoc (map tile_file (sampled (rules_of kept) points)) (map hierarchy_file (hierarchy kept.step (nodes_of kept points))) texts-of) ∙ sym is.files_are) m)

  build-there : files build_file_name ≡ Some (build_text kept)
  unfolding texts-of
  build-there = there-is (build_file_name, build_text kept) (IsMember-right (build_file_name, build_text kept) (map tile_file (sampled (rules_of kept) points)) (map hierarchy_file (hierarchy kept.step (nodes_of kept points)) ++ texts-of) (IsMember-right (build_file_name, build_text kept) (map hierarchy_file (hierarchy kept.step (nodes_of kept points))) texts-of (inr (inr (inl refl)))))

  tile-there : (key : VoxelKey) → IsNode key → files (tile_name key) ≡ Some (tile (sampling (rules_of kept) points key))
  unfolding sampled
  tile-there key node =
      let t : Tile = tile_at (rules_of kept) points key in
      there-is (tile_file t) (IsMember-left (tile_file t) (map tile_file (sampled (rules_of kept) points)) (map hierarchy_file (hierarchy kept.step (nodes_of kept points)) ++ texts-of)
      (IsMember-map tile_file t (sampled (rules_of kept) points) (IsMember-map (tile_at (rules_of kept) points) key (node_keys (rules_of kept) points) (node_keys-IsMember (rules_of kept) points key can.cube can.inside node))))

  -- the file of a node that has one
  file-at : VoxelKey → HierFile
  file-at top = file_of kept.step (nodes_of kept points) (top, size-at kept points top)

  filed : (top : VoxelKey) → IsNode top → has_file kept.step top ≡ true → IsMember (file-at top) (hierarchy kept.step (nodes_of kept points))
  unfolding hierarchy file-at
  filed top node file =
      let n : Node = (top, size-at kept points top) in
      IsMember-map (file_of kept.step (nodes_of kept points)) n (filter (λ (x : Node). has_file kept.step x.0) (nodes_of kept points)) (IsMember-kept (λ (x : Node). has_file kept.step x.0) n (nodes_of kept points) file (at-node kept points top can node))

  text-there : (top : VoxelKey) → IsNode top → has_file kept.step top ≡ true → files (hierarchy_name top) ≡ Some (hierarchy_text (entries_of kept.step (nodes_of kept points) top))
  unfolding file-at
  text-there top node file =
      there-is (hierarchy_file (file-at top)) (IsMember-right (hierarchy_file (file-at top)) (map tile_file (sampled (rules_of kept) points)) (map hierarchy_file (hierarchy kept.step (nodes_of kept points)) ++ texts-of)
      (IsMember-left (hierarchy_file (file-at top)) (map hierarchy_file (hierarchy kept.step (nodes_of kept points))) texts-of (IsMember-map hierarchy_file (file-at top) (hierarchy kept.step (nodes_of kept points)) (filed top node file))))

  -- ---- each file reads as its entries

  keys-are : keys_of (nodes_of kept points) ≡ node_keys (rules_of kept) points
  unfolding nodes_of sampled
  keys-are = same (node_keys (rules_of kept) points)
    where
      same : (keys : List VoxelKey) → map (λ (n : Node). n.0) (map counted (map (tile_at (rules_of kept) points) keys)) ≡ keys
      same [] = refl
      same (k ∷ keys) = ap (λ (w : List VoxelKey). k ∷ w) (same keys)

  keys-ascend : KeysAscend (nodes_of kept points)
  unfolding KeysAscend
  keys-ascend = AllPairs-IsRising (keys_of (nodes_of kept points)) (subst (λ (ks : List VoxelKey). IsRising key_before ks) (sym keys-are) (IsRising-node_keys (rules_of kept) points))

  are-keys : All IsKey (keys_of (nodes_of kept points))
  are-keys = All-members IsKey (keys_of (nodes_of kept points)) (λ k m. node-IsKey (rules_of kept) points k can.cube can.inside (IsMember-node_keys (rules_of kept) points k (subst (λ (ks : List VoxelKey). IsMember k ks) keys-are m)))

  size-small : (key : VoxelKey) → size-at kept points key < 2 ^ 63
  unfolding size-at
  size-small key = (let size = sampling-le (rules_of kept) points key in omega (arith, size, few))

  sizes-small : All (λ (n : Node). n.1 < 2 ^ 63) (nodes_of kept points)
  sizes-small = All-members (λ (n : Node). n.1 < 2 ^ 63) (nodes_of kept points) (λ n m. (
      let at = node-at kept points n.0 n.1 m in
      subst (λ (k : ℕ). k < 2 ^ 63) (sym at.1) (size-small n.0)))

  reading-there : (top : VoxelKey) → IsNode top → has_file kept.step top ≡ true → IsReading (hierarchy_text (entries_of kept.step (nodes_of kept points) top)) (entries_of kept.step (nodes_of kept points) top)
  unfolding file-at
  reading-there top node file = all-member (λ (f : HierFile). IsReading f.text (entries_of kept.step (nodes_of kept points) f.key)) (file-at top) (hierarchy kept.step (nodes_of kept points)) (read-back kept.step (nodes_of kept points) keys-ascend are-keys sizes-small) (filed top node file)

  pub output-laid : IsLaid kept points files
  output-laid = record {
    can = can;
    built = build-there;
    tiles = tile-there;
    texts = text-there;
    reading = reading-there;
  }
