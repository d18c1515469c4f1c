-- The files of a sampling have different names.
use Rattle.std.proofs.Common.{◌≡◌, ◌≢◌, ◌∙◌, inl, inr, ℕ, Bool, true, false, List, [], ◌∷◌, ◌++◌, map, refl, sym, ap, subst, Option}
use Rattle.std.specs.Prelude.{filter}
use Rattle.ept_point.specs.declared.point.Point.{Point}
use Rattle.ept_space.specs.declared.bounds.Bounds.{Bounds}
use Rattle.ept_space.specs.declared.cube.Rules.{Rules}
use Rattle.ept_space.specs.VoxelKey.{VoxelKey, IsKey}
use Rattle.ept_sample.specs.declared.tiles.Tile.{Tile}
use Rattle.ept_sample.specs.SamplingLaws.{CanBeSampled}
use Rattle.ept_sample.specs.Nodes.{node_keys, tile_at, sampled}
use Rattle.ept_sample.specs.Members.{IsMember}
use Rattle.ept_sample.proofs.Members.{IsMember-filter, member-map, IsMember-append}
use Rattle.ept_sample.proofs.Ascending.{IsRising, IsRising-filter}
use Rattle.ept_sample.proofs.Choices.{not_both}
use Rattle.ept_sample.proofs.KeyOrder.{key_before, key_order}
use Rattle.ept_sample.proofs.NodeLaws.{IsMember-node_keys, IsRising-node_keys}
use Rattle.ept_sample.proofs.SamplingLaws.{node-IsKey}
use Rattle.ept_config.specs.declared.kept.Kept.{Kept}
use Rattle.ept_config.specs.declared.source_count.SourceCount.{SourceCount}
use Rattle.ept_hier.specs.Hierarchy.{Node, file_of, has_file, hierarchy}
use Rattle.ept_meta.specs.declared.names.TheConstants.{METADATA, MANIFEST, BUILD_FILE}
use Rattle.ept_meta.specs.EptText.{ept_text}
use Rattle.ept_meta.specs.ManifestText.{manifest_text}
use Rattle.ept_meta.specs.BuildText.{build_text}
use Rattle.ept_meta.specs.Output.{tile_name, hierarchy_name, File, tile_file, hierarchy_file, counted, files_of}
use Rattle.ept_meta.proofs.NamesDiffer.{one-tile, one-hierarchy, tile-hierarchy, tile-metadata, tile-manifest, tile-build, hierarchy-metadata, hierarchy-manifest, hierarchy-build, metadata-manifest, metadata-build, manifest-build}
use Rattle.ept_publish.proofs.Putting.{AreApart, apart-append}

-- ---- items with rising keys

-- one key comes before another
abbrev pub keyed_before : {X : Type 0} → (X → VoxelKey) → X → X → Bool
keyed_before key a b = key_before (key a) (key b)

module _ {X : Type 0} (key : X → VoxelKey) (name : VoxelKey → List ℕ) (one : (a b : VoxelKey) → IsKey a → IsKey b → name a ≡ name b → a ≡ b) (file : X → File) (named : (x : X) → (file x).0 ≡ name (key x)) where
  apart_at : (a b : X) → IsKey (key a) → IsKey (key b) → key_before (key a) (key b) ≡ true → (file a).0 ≢ (file b).0
  apart_at a b is_a is_b before same =
      let keys : key a ≡ key b = one (key a) (key b) is_a is_b (sym (named a) ∙ (same ∙ named b)) in
      not_both (key_before (key a) (key b)) before (subst (λ (w : VoxelKey). key_before (key a) w ≡ false) keys (key_order.none_itself (key a)))

  pub apart-rising : (xs : List X) → IsRising (keyed_before key) xs → ((x : X) → IsMember x xs → IsKey (key x)) → AreApart (map file xs)
  apart-rising [] up each = tt
  apart-rising (x ∷ xs) up each = (
    λ g m. (
        let from = member-map file g xs m in
        subst (λ (h : File). (file x).0 ≢ h.0) from.2 (apart_at x from.0 (each x (inl refl)) (each from.0 (inr from.1)) (up.0 from.0 from.1))),
    apart-rising xs up.1 (λ y m. each y (inr m)),
  )

-- items whose keys rise, rise
rising_by_keys : {X : Type 0} (key : X → VoxelKey) (xs : List X) → IsRising key_before (map key xs) → IsRising (keyed_before key) xs
rising_by_keys key [] up = tt
rising_by_keys {X} key (x ∷ xs) up = (λ y m. up.0 (key y) (there y xs m), rising_by_keys key xs up.1)
  where
    there : (y : X) (ys : List X) → IsMember y ys → IsMember (key y) (map key ys)
    there y [] m = absurd m
    there y (z ∷ ys) (inl is) = inl (ap key is)
    there y (z ∷ ys) (inr m) = inr (there y ys m)

-- ---- the nodes of a sampling

tile_keys : (rules : Rules) (points : List Point) (ks : List VoxelKey) → map (λ (t : Tile). t.key) (map (tile_at rules points) ks) ≡ ks
tile_keys rules points [] = refl
tile_keys rules points (k ∷ ks) = ap (λ (w : List VoxelKey). k ∷ w) (tile_keys rules points ks)

counted_keys : (tiles : List Tile) → map (λ (n : Node). n.0) (map counted tiles) ≡ map (λ (t : Tile). t.key) tiles
counted_keys [] = refl
counted_keys (t ∷ tiles) = ap (λ (w : List VoxelKey). t.key ∷ w) (counted_keys tiles)

module _ (rules : Rules) (points : List Point) (can : CanBeSampled rules points) where
  keys_are : map (λ (t : Tile). t.key) (sampled rules points) ≡ node_keys rules points
  unfolding sampled
  keys_are = tile_keys rules points (node_keys rules points)

  tiles_rise : IsRising (keyed_before (λ (t : Tile). t.key)) (sampled rules points)
  tiles_rise = rising_by_keys (λ (t : Tile). t.key) (sampled rules points) (subst (λ (w : List VoxelKey). IsRising key_before w) (sym keys_are) (IsRising-node_keys rules points))

  tile_is_key : (t : Tile) → IsMember t (sampled rules points) → IsKey t.key
  tile_is_key t m =
      let at : IsMember t.key (map (λ (t : Tile). t.key) (sampled rules points)) = in_keys t (sampled rules points) m in
      node-IsKey rules points t.key can.cube can.inside (IsMember-node_keys rules points t.key (subst (λ (w : List VoxelKey). IsMember t.key w) keys_are at))
    where
      in_keys : (t : Tile) (ts : List Tile) → IsMember t ts → IsMember t.key (map (λ (t : Tile). t.key) ts)
      in_keys t [] m = absurd m
      in_keys t (u ∷ ts) (inl is) = inl (ap (λ (v : Tile). v.key) is)
      in_keys t (u ∷ ts) (inr m) = inr (in_keys t ts m)

  abbrev nodes : List Node
  nodes = map counted (sampled rules points)

  nodes_rise : IsRising (keyed_before (λ (n : Node). n.0)) nodes
  nodes_rise =
      rising_by_keys (λ (n : Node). n.0) nodes
      (subst (λ (w : List VoxelKey). IsRising key_before w) (sym (counted_keys (sampled rules points)))
      (subst (λ (w : List VoxelKey). IsRising key_before w) (sym keys_are) (IsRising-node_keys rules points)))

  node_is_key : (n : Node) → IsMember n nodes → IsKey n.0
  node_is_key n m =
      let from = member-map counted n (sampled rules points) m in
      subst (λ (k : Node). IsKey k.0) from.2 (tile_is_key from.0 from.1)

  tiles_apart : AreApart (map tile_file (sampled rules points))
  tiles_apart = apart-rising (λ (t : Tile). t.key) tile_name one-tile tile_file (λ t. refl) (sampled rules points) tiles_rise tile_is_key

  hierarchy_apart : (step : ℕ) → AreApart (map hierarchy_file (hierarchy step nodes))
  unfolding hierarchy
  hierarchy_apart step =
      let kept : List Node = filter (λ (n : Node). has_file step n.0) nodes in
      subst AreApart (sym (two_maps kept))
      (apart-rising (λ (n : Node). n.0) hierarchy_name one-hierarchy (λ n. hierarchy_file (file_of step nodes n)) (λ n. refl) kept (IsRising-filter (keyed_before (λ (n : Node). n.0)) (λ (n : Node). has_file step n.0) nodes nodes_rise) (λ n m. node_is_key n (IsMember-filter (λ (n : Node). has_file step n.0) n nodes m).0))
    where
      two_maps : (ns : List Node) → map hierarchy_file (map (file_of step nodes) ns) ≡ map (λ n. hierarchy_file (file_of step nodes n)) ns
      two_maps [] = refl
      two_maps (n ∷ ns) = ap (λ (w : List File). hierarchy_file (file_of step nodes n) ∷ w) (two_maps ns)

  module _ (kept : Kept) (counts : List SourceCount) (extent : Option Bounds) (count : ℕ) where
    abbrev texts : List File
    texts = (METADATA.now, ept_text kept extent count) ∷ (MANIFEST.now, manifest_text kept counts) ∷ (BUILD_FILE.now, build_text kept) ∷ []

    texts_apart : AreApart texts
    texts_apart = (
      λ g m. elim m [ inl is ↦ subst (λ (h : File). METADATA.now ≢ h.0) is metadata-manifest | inr more ↦ elim more [ inl is ↦ subst (λ (h : File). METADATA.now ≢ h.0) is metadata-build | inr none ↦ absurd none ] ],
      (λ g m. elim m [ inl is ↦ subst (λ (h : File). MANIFEST.now ≢ h.0) is manifest-build | inr none ↦ absurd none ], (λ g m. absurd m, tt)),
    )

    -- a name that is none of the three is the name of none of their files
    among_texts : (name : List ℕ) → name ≢ METADATA.now → name ≢ MANIFEST.now → name ≢ BUILD_FILE.now → (g : File) → IsMember g texts → name ≢ g.0
    among_texts name a b c g (inl is) = subst (λ (h : File). name ≢ h.0) is a
    among_texts name a b c g (inr (inl is)) = subst (λ (h : File). name ≢ h.0) is b
    among_texts name a b c g (inr (inr (inl is))) = subst (λ (h : File). name ≢ h.0) is c
    among_texts name a b c g (inr (inr (inr m))) = absurd m

    files_apart : AreApart (map tile_file (sampled rules points) ++ map hierarchy_file (hierarchy kept.step nodes))
    files_apart =
        apart-append (map tile_file (sampled rules points)) (map hierarchy_file (hierarchy kept.step nodes)) tiles_apart (hierarchy_apart kept.step) (λ x y m n. (
        let from = member-map tile_file x (sampled rules points) m in
        let at = member-map hierarchy_file y (hierarchy kept.step nodes) n in
        subst (λ (h : File). h.0 ≢ y.0) from.2 (subst (λ (h : File). tile_name from.0.key ≢ h.0) at.2 (tile-hierarchy from.0.key at.0.key))))

    pub output-apart : AreApart (files_of kept counts extent count (sampled rules points))
    output-apart =
        apart-append (map tile_file (sampled rules points) ++ map hierarchy_file (hierarchy kept.step nodes)) texts files_apart texts_apart (λ x y m n. elim (IsMember-append x (map tile_file (sampled rules points)) (map hierarchy_file (hierarchy kept.step nodes)) m) [
          | inl l ↦ (
              let from = member-map tile_file x (sampled rules points) l in
              subst (λ (h : File). h.0 ≢ y.0) from.2 (among_texts (tile_name from.0.key) (tile-metadata from.0.key) (tile-manifest from.0.key) (tile-build from.0.key) y n))
          | inr r ↦ (
              let at = member-map hierarchy_file x (hierarchy kept.step nodes) r in
              subst (λ (h : File). h.0 ≢ y.0) at.2 (among_texts (hierarchy_name at.0.key) (hierarchy-metadata at.0.key) (hierarchy-manifest at.0.key) (hierarchy-build at.0.key) y n))
        ])
