-- Parts that were made from these inputs with this configuration are never at fault. If all are there, they are merged.
use Rattle.std.proofs.Common.{◌≡◌, ◌≢◌, ◌∙◌, ◌⊎◌, inl, inr, ℕ, ◌+◌, ◌<◌, ◌≤◌, ◌^◌, true, List, [], ◌∷◌, ◌++◌, refl, sym, ap, subst, arith, map, length, count_by, Option, Some, None, Ok}
use Rattle.std.specs.Prelude.{All}
use Rattle.std.specs.List.{AllZip}
use Rattle.std.proofs.lemmas.List.{length-map}
use Rattle.ept_base.specs.Files.{Files}
use Rattle.ept_point.specs.declared.layout.Layout.TheVariants.{New}
use Rattle.ept_point.specs.declared.point.Point.{Point}
use Rattle.ept_point.specs.Packed.{tile}
use Rattle.ept_point.specs.Laws.{ReadInOneWay}
use Rattle.ept_space.specs.declared.bounds.Bounds.{Bounds}
use Rattle.ept_space.specs.declared.cube.Rules.{Rules}
use Rattle.ept_space.specs.VoxelKey.{VoxelKey, IsKey, root, child}
use Rattle.ept_sample.specs.Arrivals.{octant}
use Rattle.ept_sample.specs.declared.tiles.Tile.{Tile}
use Rattle.ept_sample.specs.Members.{IsMember}
use Rattle.ept_sample.specs.Nodes.{node_keys, sampled}
use Rattle.ept_sample.specs.Sampling.{sampling, is_node}
use Rattle.ept_sample.specs.SamplingLaws.{CanBeSampled}
use Rattle.ept_sample.proofs.Choices.{either, not_both}
use Rattle.ept_sample.proofs.IdLaws.{IsAscending-IsRising}
use Rattle.ept_sample.proofs.Members.{IsMember-map, member-map, all-member, All-members}
use Rattle.ept_sample.proofs.KeyOrder.{key_before, key_order, IsRising-AllPairs}
use Rattle.ept_sample.proofs.MorePoints.{length-rising}
use Rattle.ept_sample.proofs.NodeLaws.{node_keys-IsMember}
use Rattle.ept_sample.proofs.SamplingLaws.{IsRising-sampling, is_node-root}
use Rattle.ept_config.specs.declared.config.Config.{Config}
use Rattle.ept_config.specs.declared.kept.Kept.{Kept}
use Rattle.ept_config.specs.KeptOf.{IsKeptOf}
use Rattle.ept_scan.specs.declared.scan_done.ScanDone.{ScanDone}
use Rattle.ept_scan.proofs.OneScan.{scan_once}
use Rattle.ept_scan.proofs.OneExtent.{bounds_once}
use Rattle.ept_grid.specs.Mask.{opened}
use Rattle.ept_grid.specs.Node.{Node, no_room}
use Rattle.ept_ckpt.specs.declared.node_line.NodeLine.{NodeLine}
use Rattle.ept_ckpt.specs.declared.checkpoint.Checkpoint.{Checkpoint}
use Rattle.ept_ckpt.specs.Body.{body}
use Rattle.ept_ckpt.specs.Facts.{facts}
use Rattle.ept_ckpt.specs.Laws.{BodyOnce}
use Rattle.ept_ckpt.specs.Octree as octree
use Rattle.ept_ckpt.specs.Octree.{is_among, TellsChildren}
use Rattle.ept_ckpt.specs.Valid.{IsNode, deepest}
use Rattle.ept_ckpt.specs.Versions.{layout_of}
use Rattle.ept_meta.specs.Output.{rules_of}
use Rattle.ept_save.specs.Gates.{IsOpen}
use Rattle.ept_save.specs.Loading.{AreOfLine}
use Rattle.ept_save.specs.Sound.{IsSavedUnder}
use Rattle.ept_save.proofs.LoadedLines.{line-intact}
use Rattle.ept_save.proofs.SampledTiles.{sampled-IsTile}
use Rattle.ept_save.proofs.SoundTiles.{keys-sampled, among-node, opened_bit}
use Rattle.ept_save.proofs.TileFiles.{one-file}
use Rattle.ept_plan.specs.declared.plan.Plan.{Plan}
use Rattle.ept_plan.specs.Plans.{IsPlan, HasPoints}
use Rattle.ept_plan.proofs.Fields.{kept-once}
use Rattle.ept_parts.specs.Parts.{part_of, AreAllOctants}
use Rattle.ept_parts.specs.MergeLaws.{part_nodes}
use Rattle.ept_parts.proofs.Below.{part-can, part-points, part-nodes, part-no_other}
use Rattle.ept_part.specs.Names.{part_gate, part_tile, part_tile_of}
use Rattle.ept_part.specs.Files.{HasPart}
use Rattle.ept_part.specs.Scanned.{IsScanOf, found_by}
use Rattle.ept_merge.specs.declared.error.MergeError.{MergeError}
use Rattle.ept_merge.specs.declared.error.MergeError.TheVariants.{StoreFault, BadCheckpoint, HasCheckpoint, SourceFault, BadLas, OutOfBounds, TooManyPoints, NoBounds, Shallow, NoPart, PartDiffers, PartDamaged, TooManyNodes, Memory}
use Rattle.ept_merge.specs.declared.bodies.PartBody.{PartBody}
use Rattle.ept_merge.specs.declared.joining.PartNode.{PartNode}
use Rattle.ept_merge.specs.Errors.{IsStores}
use Rattle.ept_merge.specs.Merging.{AreAllParts, HasBody, AreTogether, IsTileDamaged, IsPartFault, IsOwnPart, AreOwnParts}
use Rattle.ept_merge.specs.Joining.{IsLike, octants_of, bodies_in, keys_of, AreInOrder, roots_of}
use Rattle.ept_merge.specs.Putting.{HasBodies, IsFirstFault, IsBodiesFault, HaveParts, AreIntact, IsNodeDamaged, IsMergeFault, IsPartsFault}
use Rattle.ept_merge.proofs.Once.{counts-once}
use Rattle.ept_merge.proofs.Divided.{lengths-all, inserted-lengths, in-octant, none-or-one, no-more, keys-saved}
use Rattle.ept_merge.proofs.Whole.{not-root, among-member, member-among}
use Rattle.ept_merge.proofs.Loads.{part-rooted}
use Rattle.ept_merge.proofs.Fits.{line-below, node-part, fit-ascends, misfit-together, damaged-part}
use Rattle.ept_merge.proofs.MergedTiles.{zip-right, tile-points}
use Rattle.ept_merge.proofs.Public.{zip-part}

-- ---- a part of its own

module _ (once : BodyOnce) (all start : Files) (config : Config) (plan : Plan) (is : IsPlan config None plan) (points : List Point) (has : HasPoints all config None plan points) where
  -- the body is like the plan, and the part has the points of the inputs
  pub record IsOwn (octants : ℕ) (c : Checkpoint) : Type 0 where
    pub like : IsLike plan.kept plan.counts c
    pub part : HasPart all start octants c points

  own-is : (octants : ℕ) (c : Checkpoint) (others : List Point) → HasPart all start octants c others → IsKeptOf config c.kept.bounds c.kept → IsScanOf all config others (found_by c) → IsOwn octants c
  own-is octants c others part kept scanned =
      let done : ScanDone = record { counts = plan.counts; bounds = plan.kept.bounds } in
      let same : others ≡ points = scan_once all config.scale config.bounds config.inputs 0 others points (found_by c) done scanned has in
      let scan : IsScanOf all config points (found_by c) = subst (λ (w : List Point). IsScanOf all config w (found_by c)) same scanned in
      let bounds : c.kept.bounds ≡ plan.kept.bounds = bounds_once config.bounds points c.kept.bounds plan.kept.bounds c.kept.has_bounds plan.kept.has_bounds scan.bounds_are has.bounds_are in
      record {
        like = record {
          kept_is = kept-once config plan.kept.bounds c.kept plan.kept (subst (λ (b : Bounds). IsKeptOf config b c.kept) bounds kept) is.kept_is;
          counts_are = counts-once all config.scale config.bounds config.inputs points (found_by c) done c.is_checkpoint.extents is.extents scan has;
          newest = ap layout_of part.newest;
        };
        part = subst (λ (w : List Point). HasPart all start octants c w) same part;
      }

  own-body : (octants : ℕ) → IsOwnPart all config start octants → IsOpen start (part_gate octants) → (c : Checkpoint) × IsOwn octants c
  own-body octants own opens = let o = own opens in (o.0, own-is octants o.0 o.1 o.2 o.3 o.4)

  some-same : (a b : List ℕ) → Some a ≡ Some b → a ≡ b
  some-same a b same = cc

  -- so is each body of the part
  body-own : (octants : ℕ) → IsOwnPart all config start octants → (c : Checkpoint) → HasBody start octants c → IsOwn octants c
  body-own octants own c has_body =
      let o = own-body octants own has_body.opened in
      let same : o.0 ≡ c = once o.0 c (some-same (body (facts o.0)) (body (facts c)) (sym o.1.part.body ∙ has_body.body)) in
      subst (λ (w : Checkpoint). IsOwn octants w) same o.1

  -- ---- its body is no fault

  middle-member : {X : Type 0} (before : List X) (x : X) (later : List X) → IsMember x (before ++ x ∷ later)
  middle-member [] x later = inl refl
  middle-member (b ∷ before) x later = inr (middle-member before x later)

  first-member : (parts : List ℕ) (e : MergeError) (f : IsFirstFault start plan parts e) → IsMember f.octants parts
  first-member parts e f = subst (λ (w : List ℕ). IsMember f.octants w) (sym f.among) (middle-member f.before f.octants f.later)

  first-own : (parts : List ℕ) → AreOwnParts all config start parts → (e : MergeError) (f : IsFirstFault start plan parts e) → IsOwnPart all config start f.octants
  first-own parts own e f = all-member (IsOwnPart all config start) f.octants parts own (first-member parts e f)

  differs-not : (parts : List ℕ) → AreOwnParts all config start parts → (o : ℕ) → IsFirstFault start plan parts (PartDiffers o) → ⊥
  differs-not parts own o f =
      let d = f.fault.1 in d.2 (body-own f.octants (first-own parts own (PartDiffers o) f) d.0 d.1).like

  damaged-not : (parts : List ℕ) → AreOwnParts all config start parts → (o : ℕ) (key : Option VoxelKey) → IsFirstFault start plan parts (PartDamaged o key) → ⊥
  damaged-not parts own o None f =
      let b = own-body f.octants (first-own parts own (PartDamaged o None) f) f.fault.1.opened in f.fault.1.no_body b.0 b.1.like.newest b.1.part.body
  damaged-not parts own o (Some key) f = absurd f.fault

  stores-not : (e : MergeError) → IsStores e → ¬ IsPartFault e
  stores-not e (inl is_e) (inl d) = absurd (let w : StoreFault ≡ PartDiffers d.0 = sym is_e ∙ d.1 in cc)
  stores-not e (inl is_e) (inr d) = absurd (let w : StoreFault ≡ PartDamaged d.0 d.1 = sym is_e ∙ d.2 in cc)
  stores-not e (inr is_e) (inl d) = absurd (let w : Memory ≡ PartDiffers d.0 = sym is_e ∙ d.1 in cc)
  stores-not e (inr is_e) (inr d) = absurd (let w : Memory ≡ PartDamaged d.0 d.1 = sym is_e ∙ d.2 in cc)

  bodies-not : (parts : List ℕ) → AreOwnParts all config start parts → (e : MergeError) → IsBodiesFault start plan parts e → ¬ IsPartFault e
  bodies-not parts own e (inl stores) fault = stores-not e stores fault
  bodies-not parts own e (inr f) (inl d) = differs-not parts own d.0 (subst (λ (w : MergeError). IsFirstFault start plan parts w) d.1 f)
  bodies-not parts own e (inr f) (inr d) = damaged-not parts own d.0 d.1 (subst (λ (w : MergeError). IsFirstFault start plan parts w) d.2 f)

  -- ---- nor are the bodies together

  module _ (read : ReadInOneWay) (can : CanBeSampled (rules_of plan.kept) points) (octants : List ℕ) (divided : AreAllParts octants) (own : AreOwnParts all config start octants) (parts : List PartBody) (there : HaveParts start plan octants parts) where
    abbrev rules : Rules
    rules = rules_of plan.kept

    its-own : (part : PartBody) → IsMember part parts → IsOwn part.octants part.body
    its-own part m =
        let its = subst (λ (w : List ℕ). IsMember part.octants w) there.octants_are (IsMember-map (λ (p : PartBody). p.octants) part parts m) in
        let b = zip-part (λ (o : ℕ) (c : Checkpoint). HasBody start o c × IsLike plan.kept plan.counts c) parts (subst (λ (w : List ℕ). HasBodies start plan w (bodies_in parts)) (sym there.octants_are) there.bodies) part m in
        body-own part.octants (all-member (IsOwnPart all config start) part.octants octants own its) part.body b.0

    abbrev mine : PartBody → List Point
    mine part = part_of rules (opened part.octants) points

    nodes-are : (part : PartBody) → IsMember part parts → AllZip (IsSavedUnder New (part_tile_of part.octants) start) (part_nodes rules (opened part.octants) points) part.body.nodes
    nodes-are part m =
        let o = its-own part m in
        subst (λ (k : Kept). AllZip (IsSavedUnder New (part_tile_of part.octants) start) (part_nodes (rules_of k) (opened part.octants) points) part.body.nodes) o.like.kept_is o.part.nodes

    inserted-is : (part : PartBody) → IsMember part parts → part.body.inserted ≡ length (part_of rules (opened part.octants) points)
    inserted-is part m =
        let o = its-own part m in
        subst (λ (k : Kept). part.body.inserted ≡ length (part_of (rules_of k) (opened part.octants) points)) o.like.kept_is o.part.inserted

    keys-are : (part : PartBody) → IsMember part parts → octree.keys_of part.body.nodes ≡ node_keys rules (mine part)
    keys-are part m =
        keys-saved New (part_tile_of part.octants) start (part_nodes rules (opened part.octants) points) part.body.nodes (nodes-are part m) ∙ keys-sampled rules (mine part)

    can-part : (part : PartBody) → CanBeSampled rules (mine part)
    can-part part = part-can rules (opened part.octants) points can

    among-is : (part : PartBody) → IsMember part parts → (key : VoxelKey) → is_among (octree.keys_of part.body.nodes) key ≡ is_node rules (mine part) key
    among-is part m key =
        ap (λ (w : List VoxelKey). is_among w key) (keys-are part m) ∙ among-node rules (mine part) (can-part part) key

    divided-octants : AreAllOctants (map opened (octants_of parts))
    divided-octants = subst (λ (w : List ℕ). AreAllOctants (map opened w)) (sym there.octants_are) divided

    body-key : (part : PartBody) (key : VoxelKey) → is_among (octree.keys_of part.body.nodes) key ≡ true → IsKey key
    body-key part key among =
        let l = member-map (λ (n : NodeLine). n.key) key part.body.nodes (among-member (octree.keys_of part.body.nodes) key among) in
        let kept = part.body.kept in
        let its : IsNode (deepest kept.bounds kept.s kept.max_depth) l.0 = all-member (IsNode (deepest kept.bounds kept.s kept.max_depth)) l.0 part.body.nodes part.body.is_checkpoint.lines l.1 in
        subst (λ (k : VoxelKey). IsKey k) l.2 its.is_key

    -- no key below the root is in two bodies
    apart : (key : VoxelKey) → key ≢ root → count_by (λ (c : Checkpoint). is_among (octree.keys_of c.nodes) key) (bodies_in parts) ≤ 1
    apart key lower = elim (none-or-one (λ (c : Checkpoint). is_among (octree.keys_of c.nodes) key) (bodies_in parts)) [
      | inl none ↦ omega (arith, none)
      | inr one ↦ once-there (body-of one.0 one.1 one.2)
    ]
      where
        body-of : (c : Checkpoint) → IsMember c (bodies_in parts) → is_among (octree.keys_of c.nodes) key ≡ true → IsKey key
        body-of c m among =
            let p = member-map (λ (part : PartBody). part.body) c parts m in
            body-key p.0 key (subst (λ (w : Checkpoint). is_among (octree.keys_of w.nodes) key ≡ true) (sym p.2) among)

        once-there : IsKey key → count_by (λ (c : Checkpoint). is_among (octree.keys_of c.nodes) key) (bodies_in parts) ≤ 1
        once-there is_key =
            let at = in-octant key is_key lower in
            omega (
              arith,
              no-more (λ (c : Checkpoint). is_among (octree.keys_of c.nodes) key) at.0 parts (λ part m among. (
                  elim (either (opened part.octants at.0)) [
                    | inl its ↦ its
                    | inr closed ↦ absurd (not_both (is_node rules (mine part) key) (sym (among-is part m key) ∙ among) (part-no_other rules (opened part.octants) points at.0 key can at.1 closed at.2))
                  ])),
              divided-octants at.0 at.1,
            )

    fit : (number : length points ≡ plan.points) → AreTogether (bodies_in parts) plan.points
    fit number = record {
      apart = apart;
      inserted = inserted-lengths rules points parts inserted-is ∙ (lengths-all rules (map opened (octants_of parts)) divided-octants points ∙ number);
    }

    -- ---- nor is a tile

    tile-not : (part : PartBody) → IsMember part parts → (line : NodeLine) → IsMember line part.body.nodes → line.mask < 2 ^ 8 → ¬ IsTileDamaged rules start part.octants line
    tile-not part m line among byte damaged =
        let z = zip-right (IsSavedUnder New (part_tile_of part.octants) start) (part_nodes rules (opened part.octants) points) part.body.nodes line (nodes-are part m) among in
        let t : Tile = z.0 in
        let here : List Point = sampling rules (mine part) line.key in
        let its : t.points ≡ here = tile-points rules (mine part) t z.1 ∙ ap (λ (k : VoxelKey). sampling rules (mine part) k) (sym z.2.key) in
        let told : TellsChildren (octree.keys_of part.body.nodes) line = all-member (TellsChildren (octree.keys_of part.body.nodes)) line part.body.nodes part.body.is_checkpoint.nodes_are.octree.children among in
        let children : (o : ℕ) → o < 8 → opened line.mask o ≡ is_node rules (mine part) (child line.key o) = λ o low. opened_bit line.mask o ∙ (told o low ∙ among-is part m (child line.key o)) in
        let are : AreOfLine rules line t.points = subst (λ (w : List Point). AreOfLine rules line w) (sym its) (record {
          counted = ap (λ (w : List Point). length w) (sym its) ∙ sym z.2.count;
          ascend = IsAscending-IsRising here (IsRising-sampling rules (mine part) line.key (can-part part).distinct);
          fits = sampled-IsTile rules (mine part) (can-part part) line.key line.mask byte children;
        }) in
        by_damage t its z.2.has_tile are damaged
      where
        by_damage : (t : Tile) → t.points ≡ sampling rules (mine part) line.key → start (part_tile part.octants line.key) ≡ Some (tile t.points) → AreOfLine rules line t.points → IsTileDamaged rules start part.octants line → ⊥
        by_damage t its has_tile are (inl bad) =
            let node : Node = record { key = line.key; rules = rules; points = t.points; mask = line.mask; room = no_room } in
            line-intact read New rules (part_tile part.octants line.key) line (Ok node) (Some start) are has_tile bad
        by_damage t its has_tile are (inr (others, is_tile, outside)) =
            let same : t.points ≡ others = one-file New (part_tile part.octants line.key) start t.points others has_tile is_tile in
            outside (All-members (λ (p : Point). opened part.octants (octant rules 0 p) ≡ true) others (λ p n.
            (part-points rules (opened part.octants) points line.key p (subst (λ (w : List Point). IsMember p w) (sym same ∙ its) n)).1))

    -- ---- nor are there too many nodes

    -- a node of a part is one of all points
    node-there : (part : PartBody) → IsMember part parts → (key : VoxelKey) → key ≢ root → is_among (octree.keys_of part.body.nodes) key ≡ true → is_node rules points key ≡ true
    node-there part m key lower among =
        let at = in-octant key (body-key part key among) lower in
        let its : is_node rules (mine part) key ≡ true = sym (among-is part m key) ∙ among in
        elim (either (opened part.octants at.0)) [
          | inl here ↦ sym (part-nodes rules (opened part.octants) points at.0 key can at.1 here at.2).node ∙ its
          | inr closed ↦ absurd (not_both (is_node rules (mine part) key) its (part-no_other rules (opened part.octants) points at.0 key can at.1 closed at.2))
        ]

    -- so they have no more nodes together than the sampling of all points
    nodes-few : (nodes : List PartNode) → AreInOrder parts nodes → 1 + length nodes ≤ length (sampled rules points)
    nodes-few nodes order =
        omega (
          arith,
          length-rising key_before key_order (root ∷ keys_of nodes) (node_keys rules points) (IsRising-AllPairs (root ∷ keys_of nodes) (fit-ascends parts nodes order)) there-too,
          length-map nodes (λ (n : PartNode). n.line.key),
          ap length (keys-sampled rules points),
          length-map (sampled rules points) (λ (t : Tile). t.key),
        )
      where
        there-too : (key : VoxelKey) → IsMember key (root ∷ keys_of nodes) → IsMember key (node_keys rules points)
        there-too key (inl is) = node_keys-IsMember rules points key can.cube can.inside (subst (λ (k : VoxelKey). is_node rules points k ≡ true) is (is_node-root rules points))
        there-too key (inr m) =
            let n = member-map (λ (node : PartNode). node.line.key) key nodes m in
            let b = node-part parts nodes order n.0 n.1 in
            let among = member-among (octree.keys_of b.part.body.nodes) n.0.line.key (IsMember-map (λ (l : NodeLine). l.key) n.0.line b.part.body.nodes (line-below b.part n.0.line b.line)) in
            subst (λ (k : VoxelKey). IsMember k (node_keys rules points)) n.2
            (node_keys-IsMember rules points n.0.line.key can.cube can.inside (node-there b.part b.among n.0.line.key (not-root n.0.line.key ((part-rooted b.part).others n.0.line b.line)) among))

    -- so the store itself failed, or memory ran out
    merge-stores : (number : length points ≡ plan.points) (most : ℕ) → length (sampled rules points) ≤ most → (e : MergeError) → IsMergeFault rules start most parts plan.points e → IsStores e
    merge-stores number most few e (inl stores) = stores
    merge-stores number most few e (inr (inl (o, is_e, last, misfit))) = absurd (misfit-together parts plan.points misfit (fit number))
    merge-stores number most few e (inr (inr f)) = by_fault f.fault
      where
        by_fault : IsNodeDamaged rules start (roots_of parts ++ f.nodes) e ⊎ ((e ≡ TooManyNodes) × AreIntact rules start (roots_of parts ++ f.nodes) × (most ≤ length f.nodes)) → IsStores e
        by_fault (inl damaged) =
            let d = damaged-part rules start parts f.nodes f.fit.order e damaged in absurd (tile-not d.part d.among d.line d.in_body d.byte d.damaged)
        by_fault (inr many) = absurd (omega (arith, many.2, few, nodes-few f.nodes f.fit.order))

    merge-not : (number : length points ≡ plan.points) (most : ℕ) (e : MergeError) → IsMergeFault rules start most parts plan.points e → ¬ IsPartFault e
    merge-not number most e (inl stores) fault = stores-not e stores fault
    merge-not number most e (inr (inl (o, is_e, last, misfit))) fault = misfit-together parts plan.points misfit (fit number)
    merge-not number most e (inr (inr f)) fault = by_fault f.fault fault
      where
        by_fault : IsNodeDamaged rules start (roots_of parts ++ f.nodes) e ⊎ ((e ≡ TooManyNodes) × AreIntact rules start (roots_of parts ++ f.nodes) × (most ≤ length f.nodes)) → ¬ IsPartFault e
        by_fault (inl damaged) fault =
            let d = damaged-part rules start parts f.nodes f.fit.order e damaged in tile-not d.part d.among d.line d.in_body d.byte d.damaged
        by_fault (inr many) (inl d) = absurd (let w : TooManyNodes ≡ PartDiffers d.0 = sym many.0 ∙ d.1 in cc)
        by_fault (inr many) (inr d) = absurd (let w : TooManyNodes ≡ PartDamaged d.0 d.1 = sym many.0 ∙ d.2 in cc)

  pub parts-not : ReadInOneWay → CanBeSampled (rules_of plan.kept) points → length points ≡ plan.points → (octants : List ℕ) → AreAllParts octants → AreOwnParts all config start octants → (most : ℕ) (e : MergeError) → IsPartsFault plan most octants e start → ¬ IsPartFault e
  parts-not read can number octants divided own most e (inl f) = bodies-not octants own e f
  parts-not read can number octants divided own most e (inr (parts, there, f)) = merge-not read can octants divided own parts there number most e f

  -- ---- parts that are all there

  abbrev AreThere : List ℕ → Type 0
  AreThere octants = All (λ (o : ℕ). IsOpen start (part_gate o)) octants

  first-stores : (octants : List ℕ) → AreOwnParts all config start octants → AreThere octants → (e : MergeError) → IsFirstFault start plan octants e → IsStores e
  first-stores octants own there StoreFault f = inl refl
  first-stores octants own there (BadCheckpoint letter) f = absurd f.fault
  first-stores octants own there (HasCheckpoint generation) f = absurd f.fault
  first-stores octants own there SourceFault f = absurd f.fault
  first-stores octants own there (BadLas source fault) f = absurd f.fault
  first-stores octants own there (OutOfBounds source number) f = absurd f.fault
  first-stores octants own there (TooManyPoints source) f = absurd f.fault
  first-stores octants own there NoBounds f = absurd f.fault
  first-stores octants own there Shallow f = absurd f.fault
  first-stores octants own there (NoPart o) f =
      absurd (f.fault.1 (all-member (λ (p : ℕ). IsOpen start (part_gate p)) f.octants octants there (first-member octants (NoPart o) f)))
  first-stores octants own there (PartDiffers o) f = absurd (differs-not octants own o f)
  first-stores octants own there (PartDamaged o key) f = absurd (damaged-not octants own o key f)
  first-stores octants own there TooManyNodes f = absurd f.fault
  first-stores octants own there Memory f = inr refl

  pub parts-stores : ReadInOneWay → CanBeSampled (rules_of plan.kept) points → length points ≡ plan.points → (octants : List ℕ) → AreAllParts octants → AreOwnParts all config start octants → AreThere octants → (most : ℕ) → length (sampled (rules_of plan.kept) points) ≤ most → (e : MergeError) → IsPartsFault plan most octants e start → IsStores e
  parts-stores read can number octants divided own there most few e (inl (inl stores)) = stores
  parts-stores read can number octants divided own there most few e (inl (inr f)) = first-stores octants own there e f
  parts-stores read can number octants divided own there most few e (inr (parts, have, f)) = merge-stores read can octants divided own parts have number most few e f
