-- The tiles of parts, with the roots joined, are those of the sampling of all points.
use Rattle.std.proofs.Common.{◌≡◌, ◌∙◌, ◌⊎◌, inl, inr, ℕ, List, [], ◌∷◌, ◌++◌, refl, sym, ap, subst, map, drop, length, Some}
use Rattle.std.specs.Prelude.{slice_index_or}
use Rattle.std.specs.List.{AllZip, flat_map}
use Rattle.std.specs.List.Sorted.{IsPermutation}
use Rattle.std.proofs.lemmas.List.Sorted.{IsPermutation-sym, Contains-permutation}
use Rattle.ept_base.specs.Files.{Files}
use Rattle.ept_point.specs.declared.layout.Layout.TheVariants.{New}
use Rattle.ept_point.specs.declared.point.Point.{Point}
use Rattle.ept_point.specs.Order.{IsAscending}
use Rattle.ept_point.specs.Packed.{tile}
use Rattle.ept_space.specs.declared.cube.Rules.{Rules}
use Rattle.ept_space.specs.VoxelKey.{VoxelKey, root, AreAscending}
use Rattle.ept_sample.specs.declared.tiles.Tile.{Tile}
use Rattle.ept_sample.specs.Ids.{HasDistinctIds, in_id_order}
use Rattle.ept_sample.specs.Members.{IsMember}
use Rattle.ept_sample.specs.Sampling.{sampling}
use Rattle.ept_sample.specs.Nodes.{node_keys, tile_at, sampled}
use Rattle.ept_sample.specs.SamplingLaws.{CanBeSampled}
use Rattle.ept_sample.proofs.Members.{IsMember-map, member-map, IsMember-flat_map, member-flat_map, IsMember-contains, contains-IsMember}
use Rattle.ept_sample.proofs.IdLaws.{IsAscending-IsRising, HasDistinctIds-IsAscending, HasDistinctIds-IsPermutation, IsPermutation-in_id_order}
use Rattle.ept_sample.proofs.SamplingLaws.{IsRising-sampling}
use Rattle.ept_grid.specs.Mask.{opened}
use Rattle.ept_ckpt.specs.declared.letter.Letter.TheVariants.{A}
use Rattle.ept_ckpt.specs.declared.node_line.NodeLine.{NodeLine}
use Rattle.ept_save.specs.Current.{tile_of_line}
use Rattle.ept_save.specs.Names.{work_tile_name}
use Rattle.ept_save.specs.Sound.{IsSavedUnder, IsSavedAs}
use Rattle.ept_save.proofs.TileFiles.{one-file}
use Rattle.ept_parts.specs.Parts.{Octants, part_of, AreAllOctants}
use Rattle.ept_parts.specs.PartLaws.{root_points, RootsJoin}
use Rattle.ept_parts.specs.MergeLaws.{keys_in, part_nodes, AreMerged, MergedIsSampled}
use Rattle.ept_part.specs.Names.{part_tile, part_tile_of}
use Rattle.ept_merge.specs.declared.bodies.PartBody.{PartBody}
use Rattle.ept_merge.specs.declared.joining.PartNode.{PartNode}
use Rattle.ept_merge.specs.Joining.{octants_of, below_root, all_below, keys_of, root_node, roots_of}
use Rattle.ept_merge.specs.Putting.{HasPartTile, merged_line, IsTaken}
use Rattle.ept_merge.proofs.Whole.{IsRooted, not-root}

abbrev no_line : NodeLine
no_line = record { key = root; count = 0; mask = 0; letter = A }

abbrev root_line : PartBody → NodeLine
root_line part = slice_index_or part.body.nodes 0 no_line

-- ---- pairs of lists

pub zip-left : {X Y : Type 0} (P : X → Y → Type 0) (xs : List X) (ys : List Y) (x : X) → AllZip P xs ys → IsMember x xs → (y : Y) × IsMember y ys × P x y
zip-left P [] ys x all m = absurd m
zip-left P (a ∷ xs) [] x all m = absurd all
zip-left {X} {Y} P (a ∷ xs) (b ∷ ys) x all (inl is) = (b, inl refl, subst (λ (w : X). P w b) is all.0)
zip-left P (a ∷ xs) (b ∷ ys) x all (inr m) = let r = zip-left P xs ys x all.1 m in (r.0, inr r.1, r.2)

pub zip-right : {X Y : Type 0} (P : X → Y → Type 0) (xs : List X) (ys : List Y) (y : Y) → AllZip P xs ys → IsMember y ys → (x : X) × IsMember x xs × P x y
zip-right P [] [] y all m = absurd m
zip-right P [] (b ∷ ys) y all m = absurd all
zip-right P (a ∷ xs) [] y all m = absurd all
zip-right {X} {Y} P (a ∷ xs) (b ∷ ys) y all (inl is) = (a, inl refl, subst (λ (w : Y). P a w) is all.0)
zip-right P (a ∷ xs) (b ∷ ys) y all (inr m) = let r = zip-right P xs ys y all.1 m in (r.0, inr r.1, r.2)

-- ---- tiles

-- a tile of a sampling has the points of its key
pub tile-points : (rules : Rules) (points : List Point) (t : Tile) → IsMember t (sampled rules points) → t.points ≡ sampling rules points t.key
unfolding sampled
tile-points rules points t m =
    let k = member-map (tile_at rules points) t (node_keys rules points) m in
    subst (λ (n : Tile). n.points ≡ sampling rules points n.key) k.2 refl

-- two tiles of one key are one
one-tile : (rules : Rules) (points : List Point) (a b : Tile) → IsMember a (sampled rules points) → IsMember b (sampled rules points) → a.key ≡ b.key → a ≡ b
one-tile rules points a b m n same =
    let one = tile-points rules points a m in
    let other = tile-points rules points b n in
    λ i. record { key = same i; points = (one ∙ (ap (λ (k : VoxelKey). sampling rules points k) same ∙ sym other)) i }

module _ (rules : Rules) (start now : Files) (points : List Point) (can : CanBeSampled rules points) (parts : List PartBody) (rooted : (part : PartBody) → IsMember part parts → IsRooted part.body.nodes)
    (saved : (part : PartBody) → IsMember part parts → AllZip (IsSavedUnder New (part_tile_of part.octants) start) (part_nodes rules (opened part.octants) points) part.body.nodes) where
  abbrev masks : List Octants
  masks = map opened (octants_of parts)

  -- ---- the nodes below the root

  -- a tile of the part's sampling is that of the node, and is there for the merged checkpoint
  record IsTileOf (node : PartNode) (t : Tile) : Type 0 where
    part : PartBody
    among : IsMember part parts
    octants : node.octants ≡ part.octants
    line : IsMember node.line (drop 1 part.body.nodes)
    sampled_is : IsMember t (part_nodes rules (opened part.octants) points)
    key : node.line.key ≡ t.key
    count : node.line.count ≡ length t.points
    there : now (tile_of_line (merged_line node)) ≡ Some (tile t.points)

  whole-line : (part : PartBody) → IsMember part parts → (line : NodeLine) → IsMember line (drop 1 part.body.nodes) → IsMember line part.body.nodes
  whole-line part among line m = subst (λ (w : List NodeLine). IsMember line w) (sym (rooted part among).is) (inr m)

  tile-of-node : (node : PartNode) → IsMember node (all_below parts) → IsTaken start now node → (t : Tile) × IsTileOf node t
  tile-of-node node m taken =
      let p = member-flat_map below_root node parts m in
      let part = p.0 in
      let l = member-map (λ (line : NodeLine). (let n : PartNode = record { octants = part.octants; line = line } in n)) node (drop 1 part.body.nodes) p.2 in
      let line : NodeLine = l.0 in
      let octants : node.octants ≡ part.octants = sym (ap (λ (n : PartNode). n.octants) l.2) in
      let lines : line ≡ node.line = ap (λ (n : PartNode). n.line) l.2 in
      let z = zip-right (IsSavedUnder New (part_tile_of part.octants) start) (part_nodes rules (opened part.octants) points) part.body.nodes line (saved part p.1) (whole-line part p.1 line l.1) in
      let t : Tile = z.0 in
      let has : start (part_tile part.octants node.line.key) ≡ Some (tile t.points) = subst (λ (n : NodeLine). start (part_tile part.octants n.key) ≡ Some (tile t.points)) lines z.2.has_tile in
      let its : start (part_tile part.octants node.line.key) ≡ Some (tile taken.0) = subst (λ (o : ℕ). start (part_tile o node.line.key) ≡ Some (tile taken.0)) octants taken.1 in (
        t,
        record {
          part = part;
          among = p.1;
          octants = octants;
          line = subst (λ (n : NodeLine). IsMember n (drop 1 part.body.nodes)) lines l.1;
          sampled_is = z.1;
          key = subst (λ (n : NodeLine). n.key ≡ t.key) lines z.2.key;
          count = subst (λ (n : NodeLine). n.count ≡ length t.points) lines z.2.count;
          there = taken.2 ∙ (sym its ∙ has);
        },
      )

  -- the tiles of the nodes, one of each
  tiles-of : (nodes : List PartNode) → ((node : PartNode) → IsMember node nodes → IsMember node (all_below parts)) → ((node : PartNode) → IsMember node nodes → IsTaken start now node) → (ts : List Tile) × AllZip IsTileOf nodes ts
  tiles-of [] below taken = ([], tt)
  tiles-of (node ∷ nodes) below taken =
      let t = tile-of-node node (below node (inl refl)) (taken node (inl refl)) in
      let ts = tiles-of nodes (λ n m. below n (inr m)) (λ n m. taken n (inr m)) in
      (t.0 ∷ ts.0, (t.1, ts.1))

  keys-same : (nodes : List PartNode) (ts : List Tile) → AllZip IsTileOf nodes ts → keys_in ts ≡ keys_of nodes
  keys-same [] [] all = refl
  keys-same [] (t ∷ ts) all = absurd all
  keys-same (n ∷ nodes) [] all = absurd all
  keys-same (n ∷ nodes) (t ∷ ts) all =
      ap (λ (k : VoxelKey). k ∷ keys_in ts) (sym all.0.key) ∙ ap (λ (w : List VoxelKey). n.line.key ∷ w) (keys-same nodes ts all.1)

  saved-below : (nodes : List PartNode) (ts : List Tile) → AllZip IsTileOf nodes ts → AllZip (IsSavedAs New now) ts (map merged_line nodes)
  saved-below [] [] all = tt
  saved-below [] (t ∷ ts) all = absurd all
  saved-below (n ∷ nodes) [] all = absurd all
  saved-below (n ∷ nodes) (t ∷ ts) all = (
    record { key = all.0.key; count = all.0.count; has_tile = all.0.there },
    saved-below nodes ts all.1,
  )

  -- ---- the root

  root-line : (part : PartBody) → IsMember part parts → IsMember (root_line part) part.body.nodes × ((root_line part).key ≡ root)
  root-line part among =
      let r = rooted part among in
      subst (λ (w : List NodeLine). IsMember (slice_index_or w 0 no_line) w × ((slice_index_or w 0 no_line).key ≡ root)) (sym r.is) (inl refl, r.at_root)

  -- the points that were loaded of a part's root are those of its sampling there
  root-loaded : (part : PartBody) → IsMember part parts → (loaded : List Point) → HasPartTile start (root_node part) loaded → loaded ≡ sampling rules (part_of rules (opened part.octants) points) root
  root-loaded part among loaded has =
      let l = root-line part among in
      let z = zip-right (IsSavedUnder New (part_tile_of part.octants) start) (part_nodes rules (opened part.octants) points) part.body.nodes (root_line part) (saved part among) l.0 in
      let t : Tile = z.0 in
      let mine = part_of rules (opened part.octants) points in
      one-file New (part_tile part.octants (root_line part).key) start loaded t.points has z.2.has_tile ∙ (tile-points rules mine t z.1 ∙ ap (λ (k : VoxelKey). sampling rules mine k) (sym z.2.key ∙ l.1))

-- the same of all parts, one after another
roots-loaded : (rules : Rules) (points : List Point) (parts : List PartBody) (lists : List (List Point)) → AllZip (λ (part : PartBody) (loaded : List Point). loaded ≡ sampling rules (part_of rules (opened part.octants) points) root) parts lists → flat_map (λ (ps : List Point). ps) lists ≡ root_points rules (map opened (octants_of parts)) points
roots-loaded rules points [] [] all = refl
roots-loaded rules points [] (l ∷ lists) all = absurd all
roots-loaded rules points (p ∷ parts) [] all = absurd all
roots-loaded rules points (p ∷ parts) (l ∷ lists) all =
    ap (λ (w : List Point). w ++ flat_map (λ (ps : List Point). ps) lists) all.0
    ∙ ap (λ (w : List Point). sampling rules (part_of rules (opened p.octants) points) root ++ w) (roots-loaded rules points parts lists all.1)

module _ (rules : Rules) (start now : Files) (points : List Point) (can : CanBeSampled rules points) (parts : List PartBody) (rooted : (part : PartBody) → IsMember part parts → IsRooted part.body.nodes)
    (saved : (part : PartBody) → IsMember part parts → AllZip (IsSavedUnder New (part_tile_of part.octants) start) (part_nodes rules (opened part.octants) points) part.body.nodes)
    (whole : AreAllOctants (map opened (octants_of parts))) (join : RootsJoin) (merged : MergedIsSampled) where
  -- each root was loaded as it was saved
  each-root : (some : List PartBody) (lists : List (List Point)) → ((part : PartBody) → IsMember part some → IsMember part parts) → AllZip (HasPartTile start) (roots_of some) lists
      → AllZip (λ (part : PartBody) (loaded : List Point). loaded ≡ sampling rules (part_of rules (opened part.octants) points) root) some lists
  each-root [] [] among has = tt
  each-root [] (l ∷ lists) among has = absurd has
  each-root (p ∷ some) [] among has = absurd has
  each-root (p ∷ some) (l ∷ lists) among has = (
    root-loaded rules start now points can parts rooted saved p (among p (inl refl)) l has.0,
    each-root some lists (λ part m. among part (inr m)) has.1,
  )

  module _ (lists : List (List Point)) (has : AllZip (HasPartTile start) (roots_of parts) lists) where
    abbrev loads : List Point
    loads = flat_map (λ (ps : List Point). ps) lists

    loads-are : loads ≡ root_points rules (map opened (octants_of parts)) points
    loads-are = roots-loaded rules points parts lists (each-root parts lists (λ part m. m) has)

    -- their ids differ, since they are those of the root
    loads-once : HasDistinctIds loads
    loads-once =
        let here = sampling rules points root in
        let up : IsAscending here = IsAscending-IsRising here (IsRising-sampling rules points root can.distinct) in
        let ordered : in_id_order loads ≡ here = ap in_id_order loads-are ∙ join rules (map opened (octants_of parts)) points can whole in
        HasDistinctIds-IsPermutation (in_id_order loads) loads (IsPermutation-sym loads (in_id_order loads) (IsPermutation-in_id_order loads)) (subst (λ (w : List Point). HasDistinctIds w) (sym ordered) (HasDistinctIds-IsAscending here up))

    -- ---- all nodes

    module _ (nodes : List PartNode) (same : IsPermutation (all_below parts) nodes) (ascend : AreAscending (root ∷ keys_of nodes)) (taken : (node : PartNode) → IsMember node nodes → IsTaken start now node) (ps : List Point) (order : HasDistinctIds loads → ps ≡ in_id_order loads) where
      abbrev root_tile : Tile
      root_tile = record { key = root; points = ps }

      in-nodes : (node : PartNode) → IsMember node (all_below parts) → IsMember node nodes
      in-nodes node m = IsMember-contains node nodes (Contains-permutation (all_below parts) nodes node same (contains-IsMember node (all_below parts) m))

      in-parts : (node : PartNode) → IsMember node nodes → IsMember node (all_below parts)
      in-parts node m = IsMember-contains node (all_below parts) (Contains-permutation nodes (all_below parts) node (IsPermutation-sym (all_below parts) nodes same) (contains-IsMember node nodes m))

      abbrev IsTileHere : PartNode → Tile → Type 0
      IsTileHere node t = IsTileOf rules start now points can parts rooted saved node t

      found : (ts : List Tile) × AllZip IsTileHere nodes ts
      found = tiles-of rules start now points can parts rooted saved nodes in-parts taken

      abbrev tiles : List Tile
      tiles = root_tile ∷ found.0

      keys-are : keys_in tiles ≡ root ∷ keys_of nodes
      keys-are = ap (λ (w : List VoxelKey). root ∷ w) (keys-same rules start now points can parts rooted saved nodes found.0 found.1)

      -- the node of a tile is below the root
      lower : (node : PartNode) (t : Tile) → IsTileHere node t → t.key ≡ root → ⊥
      lower node t is at_root = not-root node.line.key ((rooted is.part is.among).others node.line is.line) (is.key ∙ at_root)

      top : (t : Tile) → IsMember t tiles → t.key ≡ root → t.points ≡ in_id_order (root_points rules (map opened (octants_of parts)) points)
      top t (inl is) at_root = sym (ap (λ (n : Tile). n.points) is) ∙ (order loads-once ∙ ap in_id_order loads-are)
      top t (inr m) at_root = let n = zip-right IsTileHere nodes found.0 t found.1 m in absurd (lower n.0 t n.2 at_root)

      its_octants : (part : PartBody) → IsMember part parts → IsMember (opened part.octants) (map opened (octants_of parts))
      its_octants part m = IsMember-map opened part.octants (octants_of parts) (IsMember-map (λ (p : PartBody). p.octants) part parts m)

      of_part : (t : Tile) → IsMember t tiles → (t.key ≡ root) ⊎ ((octants : Octants) × IsMember octants (map opened (octants_of parts)) × IsMember t (part_nodes rules octants points))
      of_part t (inl is) = inl (sym (ap (λ (n : Tile). n.key) is))
      of_part t (inr m) = let n = zip-right IsTileHere nodes found.0 t found.1 m in inr (opened n.2.part.octants, its_octants n.2.part n.2.among, n.2.sampled_is)

      -- a node of a part is there
      of_line : (part : PartBody) → IsMember part parts → (t : Tile) → IsMember t (part_nodes rules (opened part.octants) points) → (line : NodeLine) → line.key ≡ t.key → IsMember line (drop 1 part.body.nodes) → IsMember t found.0
      of_line part among t sampled_is line key m =
          let node : PartNode = record { octants = part.octants; line = line } in
          let below : IsMember node (all_below parts) = IsMember-flat_map below_root part node parts among (IsMember-map (λ (l : NodeLine). (let n : PartNode = record { octants = part.octants; line = l } in n)) line (drop 1 part.body.nodes) m) in
          let n = zip-left IsTileHere nodes found.0 node found.1 (in-nodes node below) in
          let its : IsMember n.0 (part_nodes rules (opened part.octants) points) = subst (λ (o : ℕ). IsMember n.0 (part_nodes rules (opened o) points)) (sym n.2.octants) n.2.sampled_is in
          let is : n.0 ≡ t = one-tile rules (part_of rules (opened part.octants) points) n.0 t its sampled_is (sym n.2.key ∙ key) in
          subst (λ (w : Tile). IsMember w found.0) is n.1

      every-part : (part : PartBody) → IsMember part parts → (t : Tile) → IsMember t (part_nodes rules (opened part.octants) points) → (t.key ≡ root) ⊎ IsMember t tiles
      every-part part among t sampled_is =
          let z = zip-left (IsSavedUnder New (part_tile_of part.octants) start) (part_nodes rules (opened part.octants) points) part.body.nodes t (saved part among) sampled_is in
          by_place z.0 z.2.key (subst (λ (w : List NodeLine). IsMember z.0 w) (rooted part among).is z.1)
        where
          by_place : (line : NodeLine) → line.key ≡ t.key → IsMember line ((rooted part among).head ∷ drop 1 part.body.nodes) → (t.key ≡ root) ⊎ IsMember t tiles
          by_place line key (inl is) = inl (sym key ∙ (sym (ap (λ (l : NodeLine). l.key) is) ∙ (rooted part among).at_root))
          by_place line key (inr m) = inr (inr (of_line part among t sampled_is line key m))

      every : (octants : Octants) (t : Tile) → IsMember octants (map opened (octants_of parts)) → IsMember t (part_nodes rules octants points) → (t.key ≡ root) ⊎ IsMember t tiles
      every octants t m n =
          let o = member-map opened octants (octants_of parts) m in
          let p = member-map (λ (part : PartBody). part.octants) o.0 parts o.1 in
          let is : opened p.0.octants ≡ octants = ap opened p.2 ∙ o.2 in
          every-part p.0 p.1 t (subst (λ (w : Octants). IsMember t (part_nodes rules w points)) (sym is) n)

      are-merged : AreMerged rules (map opened (octants_of parts)) points tiles
      are-merged = record {
        ascend = subst (λ (w : List VoxelKey). AreAscending w) (sym keys-are) ascend;
        rooted = inl refl;
        top = top;
        taken = of_part;
        every = every;
      }

      -- the tiles are the sampling, and the merged lines are those of them
      tiles-are : tiles ≡ sampled rules points
      tiles-are = merged rules (map opened (octants_of parts)) points tiles can whole are-merged

      pub lines-saved : (mask : ℕ) → now (work_tile_name A root) ≡ Some (tile ps) → AllZip (IsSavedAs New now) (sampled rules points) (record { key = root; count = length ps; mask = mask; letter = A } ∷ map merged_line nodes)
      lines-saved mask there =
          subst (λ (w : List Tile). AllZip (IsSavedAs New now) w (record { key = root; count = length ps; mask = mask; letter = A } ∷ map merged_line nodes)) tiles-are
          (record { key = refl; count = refl; has_tile = there }, saved-below rules start now points can parts rooted saved nodes found.0 found.1)
