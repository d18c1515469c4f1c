-- Nodes that are still have the points of the tiles that the current checkpoint names for them.
use Rattle.std.proofs.Common.{◌≡◌, ◌∙◌, ℕ, ◌≤◌, true, false, inl, inr, List, [], ◌∷◌, length, take, refl, sym, ap, subst, Option, Some, None}
use Rattle.std.specs.Prelude.{Contains, IsSomeAnd}
use Rattle.std.specs.List.{AllZip}
use Rattle.ept_base.specs.Files.{Files}
use Rattle.ept_point.specs.declared.layout.Layout.{Layout}
use Rattle.ept_point.specs.declared.point.Point.{Point}
use Rattle.ept_space.specs.declared.cube.Rules.{Rules}
use Rattle.ept_space.specs.VoxelKey.{VoxelKey, same_key, is_within}
use Rattle.ept_space.proofs.Within.{is_within-self}
use Rattle.ept_sample.specs.declared.tiles.Tile.{Tile}
use Rattle.ept_sample.specs.Ids.{HasDistinctIds}
use Rattle.ept_sample.specs.Members.{IsMember}
use Rattle.ept_sample.specs.Nodes.{node_keys, tile_at, sampled}
use Rattle.ept_sample.specs.Sampling.{sampling, is_node}
use Rattle.ept_sample.specs.SamplingLaws.{CanBeSampled}
use Rattle.ept_sample.proofs.Choices.{either, not_both}
use Rattle.ept_sample.proofs.Members.{IsMember-map, member-map, IsMember-contains, contains-IsMember}
use Rattle.ept_sample.proofs.MorePoints.{is_node-among}
use Rattle.ept_sample.proofs.NodeLaws.{node_keys-IsMember}
use Rattle.ept_sample.proofs.SamplingLaws.{IsMember-sampling, is_node-given}
use Rattle.ept_ckpt.specs.declared.letter.Letter.{Letter}
use Rattle.ept_ckpt.specs.declared.checkpoint.Checkpoint.{Checkpoint}
use Rattle.ept_ckpt.specs.declared.node_line.NodeLine.{NodeLine}
use Rattle.ept_ckpt.specs.Lookup.{line_of_key}
use Rattle.ept_ckpt.specs.Versions.{layout_of}
use Rattle.ept_meta.specs.Output.{rules_of}
use Rattle.ept_save.specs.Current.{Current, HasCurrent, tile_of_line}
use Rattle.ept_save.specs.Sound.{IsSavedAs, IsSoundFor, IsSound}
use Rattle.ept_save.specs.Tiles.{HasTileUnder}
use Rattle.ept_save.proofs.KeyLines.{member-at}
use Rattle.ept_save.proofs.LoadedLines.{found_stands, line-key}
use Rattle.ept_save.proofs.SoundFiles.{sound-at}
use Rattle.ept_save.proofs.SoundTiles.{member-sampled}
use Rattle.ept_table.specs.Octree.{Branch, tile_of, AreSampled}
use Rattle.ept_octree.proofs.Sampled.{node-points}
use Rattle.ept_grow.specs.Grow.{StayAsMany, SameOnesStay}
use Rattle.ept_octree_ckpt.specs.Saving.{IsTold, IsStill, StillAreSame}
use Rattle.ept_plan.specs.declared.plan.Plan.{Plan}
use Rattle.ept_plan.specs.Plans.{RulesStay, inserted_by}
use Rattle.ept_build.specs.Phases.{HasInsertedFirst}
use Rattle.ept_build.proofs.Fronts.{can-front, front-among}

-- ---- a key of no node

no_members : (xs : List Point) → ((p : Point) → IsMember p xs → ⊥) → xs ≡ []
no_members [] none = refl
no_members (p ∷ xs) none = absurd (none p (inl refl))

-- has no points
none-stay : (rules : Rules) (points : List Point) (key : VoxelKey) → is_node rules points key ≡ false → sampling rules points key ≡ []
none-stay rules points key none =
    no_members (sampling rules points key) (λ p m. not_both (is_node rules points key) (is_node-given rules points key p (IsMember-sampling rules points key p m).0) none)

-- ---- the lines of a checkpoint

-- the node that a line describes
line-tile : (layout : Layout) (files : Files) (tiles : List Tile) (lines : List NodeLine) (line : NodeLine) → AllZip (IsSavedAs layout files) tiles lines → IsMember line lines → (t : Tile) × IsMember t tiles × IsSavedAs layout files t line
line-tile layout files [] [] line all m = absurd m
line-tile layout files [] (l ∷ lines) line all m = absurd all
line-tile layout files (t ∷ tiles) [] line all m = absurd m
line-tile layout files (t ∷ tiles) (l ∷ lines) line all (inl is) =
    (t, inl refl, subst (IsSavedAs layout files t) is all.0)
line-tile layout files (t ∷ tiles) (l ∷ lines) line all (inr m) =
    let more = line-tile layout files tiles lines line all.1 m in (more.0, inr more.1, more.2)

module _ (rules : Rules) (layout : Layout) (files : Files) (first : List Point) (lines : List NodeLine) (saved : AllZip (IsSavedAs layout files) (sampled rules first) lines) where
  -- the line of a key has the number of the points that stay there, and names their tile
  line-at : (key : VoxelKey) (line : NodeLine) → line_of_key lines key ≡ Some line → (line.count ≡ length (sampling rules first key)) × HasTileUnder layout (tile_of_line line) (sampling rules first key) files
  line-at key line found =
      let stands = found_stands (λ (l : NodeLine). same_key l.key key) lines line found in
      let node = line-tile layout files (sampled rules first) lines line saved (member-at lines stands.0 line stands.1 stands.2) in
      let points : node.0.points ≡ sampling rules first key =
      member-sampled rules first node.0 node.1 ∙ ap (λ (k : VoxelKey). sampling rules first k) (sym node.2.key ∙ line-key lines key line found) in
      (node.2.count ∙ ap (λ (w : List Point). length w) points, subst (λ (w : List Point). HasTileUnder layout (tile_of_line line) w files) points node.2.has_tile)

  -- if it has a number of points, that number stays
  told-count : (key : VoxelKey) (mask count : ℕ) (found : Option NodeLine) → line_of_key lines key ≡ found → IsSomeAnd found (λ line. (line.mask ≡ mask) × (line.count ≡ count)) → length (sampling rules first key) ≡ count
  told-count key mask count None is told = absurd told
  told-count key mask count (Some line) is told = sym (line-at key line is).0 ∙ told.1

  told-tile : (key : VoxelKey) (mask count : ℕ) (found : Option NodeLine) → line_of_key lines key ≡ found → IsSomeAnd found (λ line. (line.mask ≡ mask) × (line.count ≡ count)) → IsSomeAnd found (λ line. HasTileUnder layout (tile_of_line line) (sampling rules first key) files)
  told-tile key mask count None is told = absurd told
  told-tile key mask count (Some line) is told = (line-at key line is).1

-- ---- a node of a sampling

node-at : (rules : Rules) (points : List Point) (nodes : List Branch) (key : VoxelKey) → CanBeSampled rules points → AreSampled rules points nodes → is_node rules points key ≡ true → (b : Branch) × IsMember b nodes × (b.0 ≡ key)
unfolding sampled
node-at rules points nodes key can are is =
    let there : IsMember (tile_at rules points key) (sampled rules points) = IsMember-map (tile_at rules points) key (node_keys rules points) (node_keys-IsMember rules points key can.cube can.inside is) in
    let b = member-map tile_of (tile_at rules points key) nodes (subst (λ (w : List Tile). IsMember (tile_at rules points key) w) (sym are.tiles) there) in
    (b.0, b.1, ap (λ (t : Tile). t.key) b.2)

-- ---- still nodes

module _ (grow : SameOnesStay) (rules : Rules) (first points : List Point) (once : HasDistinctIds first) (can : CanBeSampled rules points) (among : (p : Point) → Contains first p → Contains points p) (letter : Letter) (c : Checkpoint) (files : Files) (saved : AllZip (IsSavedAs (layout_of c.version) files) (sampled rules first) c.nodes) (nodes : List Branch) (are : AreSampled rules points nodes) where
  abbrev current : Current
  current = Some (letter, c)

  -- at each key within a still one the number of points that stay is that of before
  as-many : (top : VoxelKey) → IsStill current nodes top → StayAsMany rules first points top
  as-many top still key within =
      elim (either (is_node rules points key)) [
        | inl is ↦
            let b = node-at rules points nodes key can are is in
            let told : IsTold current b.0.0 b.0.1.mask b.0.1.points = still b.0 b.1 (subst (λ (k : VoxelKey). is_within top k ≡ true) (sym b.2) within) in
            let count : length (sampling rules first b.0.0) ≡ length b.0.1.points = told-count rules (layout_of c.version) files first c.nodes saved b.0.0 b.0.1.mask (length b.0.1.points) (line_of_key c.nodes b.0.0) refl told in
            ap (λ (k : VoxelKey). length (sampling rules first k)) (sym b.2)
            ∙ (count ∙ (ap (λ (w : List Point). length w) (node-points rules points nodes b.0 are b.1) ∙ ap (λ (k : VoxelKey). length (sampling rules points k)) b.2))
        | inr none ↦
            let never : is_node rules first key ≡ false = no-node key none in
            ap (λ (w : List Point). length w) (none-stay rules first key never ∙ sym (none-stay rules points key none))
      ]
    where
      no-node : (key : VoxelKey) → is_node rules points key ≡ false → is_node rules first key ≡ false
      no-node key none =
          elim (either (is_node rules first key)) [
            | inl was ↦ absurd (not_both (is_node rules points key) (is_node-among rules first points key once (λ p m. IsMember-contains p points (among p (contains-IsMember p first m))) was) none)
            | inr never ↦ never
          ]

  -- so the same points stay, and their tile is there
  pub still-same : StillAreSame current nodes files
  still-same b m still =
      let told : IsTold current b.0 b.1.mask b.1.points = still b m (is_within-self b.0) in
      let same : sampling rules first b.0 ≡ b.1.points = grow rules first points b.0 once can.distinct among (as-many b.0 still) ∙ sym (node-points rules points nodes b are m) in
      subst (λ (w : List Point). IsSomeAnd (line_of_key c.nodes b.0) (λ line. HasTileUnder (layout_of c.version) (tile_of_line line) w files)) same (told-tile rules (layout_of c.version) files first c.nodes saved b.0 b.1.mask (length b.1.points) (line_of_key c.nodes b.0) refl told)

-- ---- where the files are sound

module _ (grow : SameOnesStay) (shelf : Files) (plan : Plan) (points : List Point) (can : CanBeSampled (rules_of plan.kept) points) (current : Current) (stay : RulesStay current plan.kept) (first : HasInsertedFirst shelf current points) (inserted : ℕ) (most : inserted_by current ≤ inserted) (nodes : List Branch) (are : AreSampled (rules_of plan.kept) (take inserted points) nodes) where
  pub sound-still : (files : Files) → HasCurrent current files → IsSound shelf files → StillAreSame current nodes files
  sound-still files has sound = at current stay first most (sound-at shelf files current has sound)
    where
      at : (now : Current) → RulesStay now plan.kept → HasInsertedFirst shelf now points → inserted_by now ≤ inserted → IsSoundFor shelf files now → StillAreSame now nodes files
      at None stay first most so = λ b m still. absurd (still b m (is_within-self b.0))
      at (Some (letter, c)) stay first most so =
          let saved : AllZip (IsSavedAs (layout_of c.version) files) (sampled (rules_of plan.kept) (take c.inserted points)) c.nodes =
          subst (λ (r : Rules). AllZip (IsSavedAs (layout_of c.version) files) (sampled r (take c.inserted points)) c.nodes) (sym stay.0)
          (subst (λ (w : List Point). AllZip (IsSavedAs (layout_of c.version) files) (sampled (rules_of c.kept) w) c.nodes) (first so.0 so.1.scan) so.1.nodes) in
          still-same grow (rules_of plan.kept) (take c.inserted points) (take inserted points) (can-front (rules_of plan.kept) c.inserted points can).distinct (can-front (rules_of plan.kept) inserted points can) (front-among c.inserted inserted points most) letter c files saved nodes are
