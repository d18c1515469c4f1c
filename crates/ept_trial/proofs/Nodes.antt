-- The nodes of a trial: the plan of everything has each, and each has its tile.
use Rattle.std.proofs.Common.{◌≡◌, ◌∙◌, ℕ, ◌^◌, ◌≤◌, List, [], ◌∷◌, ◌++◌, Some, Option, Result, Ok, Err, length, map, refl, sym, ap, subst, arith, inl, inr, append_assoc}
use Rattle.std.specs.Prelude.{Contains, IsTrue, unwrap_or}
use Rattle.std.specs.List.{All, flat_map}
use Rattle.std.specs.Prelude.{◌%◌, sum_by, IfOk}
use Rattle.ept_base.specs.Files.{Files, SameFiles}
use Rattle.ept_point.specs.declared.point.Point.{Point}
use Rattle.ept_point.specs.Packed.{tile}
use Rattle.ept_space.specs.declared.cube.Rules.{Rules}
use Rattle.ept_space.specs.VoxelKey.{VoxelKey}
use Rattle.ept_space.specs.OctreeCube.{OctreeCube}
use Rattle.ept_space.specs.CubeOfBounds.{cube_of}
use Rattle.ept_sample.specs.declared.tiles.Tile.{Tile}
use Rattle.ept_sample.specs.Sampling.{sampling, is_node}
use Rattle.ept_sample.specs.Nodes.{node_keys, tile_at, sampled}
use Rattle.ept_sample.specs.Members.{IsMember}
use Rattle.ept_sample.specs.SamplingLaws.{CanBeSampled, KeysAreTheNodes, KeysAscend, NodesHaveKeys, NodesAreShallow}
use Rattle.ept_sample.proofs.Ascending.{same_rising}
use Rattle.ept_sample.proofs.KeyOrder.{key_before, key_order, IsRising-AllPairs}
use Rattle.ept_sample.proofs.Members.{IsMember-left, IsMember-map, member-map, all-member}
use Rattle.ept_config.specs.declared.kept.Kept.{Kept}
use Rattle.ept_hier.specs.Hierarchy.{Node, keys_of, hierarchy}
use Rattle.ept_meta.specs.BuildText.{build_text}
use Rattle.ept_meta.specs.EptText.{ept_text}
use Rattle.ept_meta.specs.ManifestText.{manifest_text}
use Rattle.ept_meta.specs.Output.{File, IsOutput, rules_of, tile_name, tile_file, hierarchy_file, counted, metadata_name, manifest_name, build_file_name}
use Rattle.ept_query.specs.Search.{search_of, MeetsArea, HasDepth}
use Rattle.ept_query.specs.Complete.{IsWholePlan}
use Rattle.ept_save.specs.Complete.{IsComplete}
use Rattle.ept_trial.specs.declared.trial.Trial.{Trial}
use Rattle.ept_trial.specs.Trials.{trial_rules, greatest, IsTrialOf}
use Rattle.ept_trial.proofs.Containing.{contains-member, member-contains}
use Rattle.ept_trial.proofs.Corners.{whole, meets-box, trial-depth}
use Rattle.ept_trial.specs.Results.{bytes_at, HasTrial, IsTallyOf}

module _ (kept : Kept) (points : List Point) (rules_are : rules_of kept ≡ trial_rules) where
  cube-is : cube_of kept.bounds kept.s kept.max_depth ≡ trial_rules.cube
  cube-is = ap (λ (r : Rules). r.cube) rules_are

  module _ (the_keys : KeysAreTheNodes) (ascend : KeysAscend) (have_keys : NodesHaveKeys) (shallow : NodesAreShallow) (can : CanBeSampled (rules_of kept) points) where
    node-planned : (key : VoxelKey) → IsTrue (is_node (rules_of kept) points key) → HasDepth (search_of kept whole 0 32) key × MeetsArea (search_of kept whole 0 32) key
    node-planned key node =
        let spelled = have_keys (rules_of kept) points key can node in
        let most = shallow (rules_of kept) points key node in
        let ten = ap (λ (c : OctreeCube). c.depth) cube-is ∙ trial-depth in
        let deep : key.depth ≤ 10 = omega (arith, most, ten) in
        ((omega arith, omega (arith, deep)), meets-box (cube_of kept.bounds kept.s kept.max_depth) key cube-is spelled deep)

    pub plan-keys : (tiles : List Node) → IsWholePlan kept points whole 0 32 tiles → keys_of tiles ≡ node_keys trial_rules points
    plan-keys tiles plan =
        same_rising key_before key_order (keys_of tiles) (node_keys (rules_of kept) points)
        (IsRising-AllPairs (keys_of tiles) plan.ascend)
        (IsRising-AllPairs (node_keys (rules_of kept) points) (ascend (rules_of kept) points))
        (λ key m. (
        let found = member-map (λ (n : Node). n.0) key tiles m in
        let node = ((plan.each found.0.0 found.0.1).0 (member-contains tiles found.0 found.1)).0 in
        contains-member (node_keys (rules_of kept) points) key (subst (λ (k : VoxelKey). Contains (node_keys (rules_of kept) points) k) found.2 ((the_keys (rules_of kept) points found.0.0 can).1 node))))
        (λ key m. (
        let node = (the_keys (rules_of kept) points key can).0 (member-contains (node_keys (rules_of kept) points) key m) in
        let planned = node-planned key node in
        let size = length (sampling (rules_of kept) points key) in
        let has = (plan.each key size).1 (node, refl, planned.0, planned.1) in
        IsMember-map (λ (n : Node). n.0) (key, size) tiles (contains-member tiles (key, size) has)))
        ∙ ap (λ (r : Rules). node_keys r points) rules_are

    -- ---- the tiles

    tile-there : (files : Files) (output : List File) (is : IsOutput kept points output) → All (λ (f : File). files f.0 ≡ Some f.1) output → (key : VoxelKey) → IsMember key (node_keys (rules_of kept) points) → files (tile_name key) ≡ Some (tile (sampling (rules_of kept) points key))
    unfolding sampled
    tile-there files output is there key m =
        let t : Tile = tile_at (rules_of kept) points key in
        let tiles : List File = map tile_file (map (tile_at (rules_of kept) points) (node_keys (rules_of kept) points)) in
        let others : List File = map hierarchy_file (hierarchy kept.step (map counted (map (tile_at (rules_of kept) points) (node_keys (rules_of kept) points)))) in
        let texts : List File = (metadata_name, ept_text kept is.extent (length points)) ∷ (manifest_name, manifest_text kept is.counts) ∷ (build_file_name, build_text kept) ∷ [] in
        all-member (λ (f : File). files f.0 ≡ Some f.1) (tile_file t) output there
        (subst (λ (fs : List File). IsMember (tile_file t) fs) (sym (append_assoc tiles others texts) ∙ sym is.files_are)
        (IsMember-left (tile_file t) tiles (others ++ texts)
        (IsMember-map tile_file t (map (tile_at (rules_of kept) points) (node_keys (rules_of kept) points)) (IsMember-map (tile_at (rules_of kept) points) key (node_keys (rules_of kept) points) m))))

    bytes-same : (rules : Rules) (files : Files) (keys : List VoxelKey) → ((key : VoxelKey) → IsMember key keys → files (tile_name key) ≡ Some (tile (sampling rules points key))) → flat_map (bytes_at files) keys ≡ flat_map (λ (t : Tile). tile t.points) (map (tile_at rules points) keys)
    bytes-same rules files [] each = refl
    bytes-same rules files (key ∷ keys) each =
        ap (λ (w : List ℕ). w ++ flat_map (bytes_at files) keys) (ap (λ (o : Option (List ℕ)). unwrap_or o []) (each key (inl refl)))
        ∙ ap (λ (w : List ℕ). tile (sampling rules points key) ++ w) (bytes-same rules files keys (λ k m. each k (inr m)))

    pub tiles-are : (files now : Files) (whole_output : IsComplete kept points files) → SameFiles files now → flat_map (bytes_at now) (node_keys trial_rules points) ≡ flat_map (λ (t : Tile). tile t.points) (sampled trial_rules points)
    unfolding sampled
    tiles-are files now complete same =
        subst (λ (r : Rules). flat_map (bytes_at now) (node_keys r points) ≡ flat_map (λ (t : Tile). tile t.points) (map (tile_at r points) (node_keys r points))) rules_are
        (bytes-same (rules_of kept) now (node_keys (rules_of kept) points) (λ key m. same (tile_name key) ∙ tile-there files complete.output complete.is_output complete.there key m))

-- ---- what the tally of all nodes is

module _ (count : ℕ) (files now : Files) (h : HasTrial count files) (same : SameFiles files now) (the_keys : KeysAreTheNodes) (ascend : KeysAscend) (have_keys : NodesHaveKeys) (shallow : NodesAreShallow) (can : CanBeSampled (rules_of h.kept) h.points) (keys : List VoxelKey) (keys_are : keys ≡ node_keys trial_rules h.points) where
  trial-of : (t : Trial) → t.points ≡ count → IsTallyOf now keys t → IsTrialOf count t
  trial-of t number tally = record {
    points = h.points;
    are = h.are;
    points_are = number;
    nodes_are = tally.nodes_are ∙ ap (λ (ks : List VoxelKey). length ks) keys_are;
    depth_is = tally.depth_is ∙ ap (λ (ks : List VoxelKey). greatest (map (λ (k : VoxelKey). k.depth) ks)) keys_are;
    sum_is =
        tally.sum_is ∙ ap (λ (ks : List VoxelKey). sum_by (λ (byte : ℕ). byte) (flat_map (bytes_at now) ks) % 2 ^ 64) keys_are
        ∙ ap (λ (w : List ℕ). sum_by (λ (byte : ℕ). byte) w % 2 ^ 64) (tiles-are h.kept h.points h.rules_are the_keys ascend have_keys shallow can files now h.complete same);
  }

  pub trial-found : {E : Type 0} (r : Result Trial E) → IfOk r (λ t. t.points ≡ count) → IfOk r (IsTallyOf now keys) → IfOk r (IsTrialOf count)
  trial-found (Ok t) number tally = trial-of t number tally
  trial-found (Err e) number tally = tt
