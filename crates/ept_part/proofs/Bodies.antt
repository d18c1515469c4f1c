-- The body of a part is a checkpoint, and is that of the part.
use Rattle.std.proofs.Common.{◌≡◌, ◌∙◌, ℕ, ◌<◌, ◌≤◌, ◌^◌, List, [], ◌∷◌, refl, sym, ap, subst, arith, length, length-append, map, Some, None}
use Rattle.std.specs.List.{AllZip, flat_map}
use Rattle.std.proofs.lemmas.List.Folds.{flat_map-map}
use Rattle.std.proofs.lemmas.List.Sums.{sum_by-cons}
use Rattle.std.proofs.lemmas.List.Sorted.{length_permutation}
use Rattle.ept_base.specs.Files.{Files}
use Rattle.ept_point.specs.declared.point.Point.{Point}
use Rattle.ept_space.specs.declared.cube.Rules.{Rules}
use Rattle.ept_space.specs.VoxelKey.{VoxelKey, IsKey, AreAscending}
use Rattle.ept_sample.specs.declared.tiles.Tile.{Tile}
use Rattle.ept_sample.specs.Nodes.{sampled}
use Rattle.ept_sample.specs.SamplingLaws.{CanBeSampled}
use Rattle.ept_sample.proofs.Members.{All-members}
use Rattle.ept_sample.proofs.IdLaws.{HasDistinctIds-IsAscending}
use Rattle.ept_sample.proofs.NodeLaws.{IsPermutation-sampled}
use Rattle.ept_grid.specs.Mask.{opened}
use Rattle.ept_config.specs.declared.config.Config.{Config}
use Rattle.ept_config.specs.declared.input.Input.{Input}
use Rattle.ept_config.specs.declared.kept.Kept.{Kept}
use Rattle.ept_config.specs.declared.source_count.SourceCount.{SourceCount}
use Rattle.ept_config.specs.Counts.{IsCountOf, total}
use Rattle.ept_scan.specs.declared.scan_done.ScanDone.{ScanDone}
use Rattle.ept_scan.specs.Scans.{in_order, IsScan}
use Rattle.ept_scan.specs.Opening.{IsKeptScan}
use Rattle.ept_scan.proofs.Scanned.{scan_kept, scan_placed}
use Rattle.ept_scan.proofs.Ascending.{scan_ascends}
use Rattle.ept_core.specs.State.{keys_of}
use Rattle.ept_ckpt.specs.declared.node_line.NodeLine.{NodeLine}
use Rattle.ept_ckpt.specs.declared.checkpoint.Checkpoint.{Checkpoint}
use Rattle.ept_ckpt.specs.declared.version.BodyVersion.TheVariants.{V3}
use Rattle.ept_ckpt.specs.Octree.{AreNodesOf}
use Rattle.ept_ckpt.specs.Valid.{IsCheckpoint}
use Rattle.ept_meta.specs.Output.{rules_of}
use Rattle.ept_meta.specs.OutputLaws.{PointsCanBeSampled}
use Rattle.ept_plan.specs.declared.plan.Plan.{Plan}
use Rattle.ept_plan.specs.Plans.{IsPlan, HasPoints}
use Rattle.ept_table.specs.Octree.{Branch, key_of, tile_of, entry_of, points_in, AreNodes, AreSampled}
use Rattle.ept_octree_ckpt.specs.Lines.{TellNodes}
use Rattle.ept_octree_ckpt.specs.LinesLaws.{WholeIsTold}
use Rattle.ept_octree_ckpt.specs.Saving.{AreKnown}
use Rattle.ept_octree_ckpt.proofs.Phasing.{next-valid}
use Rattle.ept_tree.specs.declared.octree.Tree.{Tree}
use Rattle.ept_tree.specs.Grown.{nodes_of}
use Rattle.ept_parts.specs.Parts.{part_of}
use Rattle.ept_parts.proofs.Below.{part-can}
use Rattle.ept_part.specs.declared.making.Ready.{Ready}
use Rattle.ept_part.specs.Sampling.{IsGrown}
use Rattle.ept_part.specs.Filling.{line_for, HaveKeys}
use Rattle.ept_part.specs.Scanned.{IsScanOf, found_by}
use Rattle.ept_part.specs.Making.{IsPartOf}

-- ---- lines

told-lines : (nodes : List Branch) → TellNodes nodes (map line_for nodes)
told-lines [] = tt
told-lines (b ∷ bs) = (record { key = refl; mask = refl; count = refl }, told-lines bs)

entry-keys : (nodes : List Branch) → keys_of (map entry_of nodes) ≡ map key_of nodes
entry-keys [] = refl
entry-keys (b ∷ bs) = ap (λ (w : List VoxelKey). b.0 ∷ w) (entry-keys bs)

module _ (config : Config) (plan : Plan) (is : IsPlan config None plan) (inserted : ℕ) (t : Tree) (grown : IsGrown (rules_of plan.kept) config.max_nodes inserted t) (known : AreKnown (nodes_of t)) where
  pub have-keys : HaveKeys (nodes_of t)
  have-keys = record {
    ascend = subst (λ (w : List VoxelKey). AreAscending w) (entry-keys (nodes_of t)) grown.whole.ascend;
    are_keys = All-members (λ (b : Branch). IsKey b.0) (nodes_of t) (λ b m. (known b m).0);
  }

  pub body-valid : WholeIsTold → inserted ≤ plan.points → (lines : List NodeLine) → lines ≡ map line_for (nodes_of t) → IsCheckpoint V3 1 plan.kept plan.counts inserted lines
  body-valid law most lines are =
      let told : TellNodes (nodes_of t) lines = subst (λ (w : List NodeLine). TellNodes (nodes_of t) w) (sym are) (told-lines (nodes_of t)) in
      let few : length (nodes_of t) < 2 ^ 32 = omega (arith, grown.few, config.work.nodes_most) in
      next-valid None plan.kept plan.counts inserted (nodes_of t) lines
      (record { each = is.each; counted = is.counted; extents = is.extents; inserted_most = omega (arith, most, is.points_are) }) tt few told known
      (subst (λ (r : Rules). AreNodes r (nodes_of t)) grown.rules_are grown.rest.own)
      (subst (λ (n : ℕ). AreNodesOf n lines) grown.number (law (nodes_of t) lines told grown.whole))

-- ---- points

-- the nodes of a sampling have its points
points-number : (rules : Rules) (points : List Point) (nodes : List Branch) → CanBeSampled rules points → AreSampled rules points nodes → length (points_in nodes) ≡ length points
points-number rules points nodes can are =
    ap (λ (w : List Point). length w) (sym (flat_map-map (λ (t : Tile). t.points) tile_of nodes) ∙ ap (λ (ts : List Tile). flat_map (λ (t : Tile). t.points) ts) are.tiles)
    ∙ length_permutation points (flat_map (λ (t : Tile). t.points) (sampled rules points)) (IsPermutation-sampled rules points can.cube can.inside can.distinct)

total-lists : (lists : List (List Point)) (counts : List SourceCount) → AllZip IsCountOf lists counts → length (in_order lists) ≡ total counts
total-lists [] [] zip = refl
total-lists [] (c ∷ counts) zip = absurd zip
total-lists (l ∷ lists) [] zip = absurd zip
total-lists (l ∷ lists) (c ∷ counts) zip =
    omega (arith, length-append l (in_order lists), sum_by-cons (λ (count : SourceCount). count.points) c counts, total-lists lists counts zip.1, zip.0.number)

-- the points of a scan are counted
pub scan-number : (all : Files) (kept : Kept) (counts : List SourceCount) (points : List Point) → IsKeptScan all kept counts points → length points ≡ total counts
scan-number all kept counts points scan = ap length scan.points_are ∙ total-lists scan.lists counts scan.counts_are

-- and they can be sampled
pub scan-can : PointsCanBeSampled → (all : Files) (kept : Kept) (counts : List SourceCount) (points : List Point) → IsKeptScan all kept counts points → CanBeSampled (rules_of kept) points
scan-can can_be all kept counts points scan =
    can_be kept points (scan_placed all kept.scale kept.inputs (Some kept.bounds) 0 points _ scan) (HasDistinctIds-IsAscending points (scan_ascends all kept.scale (Some kept.bounds) kept.inputs 0 points _ scan))

-- what was scanned for a plan is scanned the same by what it keeps
pub scan-kept : (all : Files) (config : Config) (plan : Plan) → IsPlan config None plan → (points : List Point) → HasPoints all config None plan points → IsKeptScan all plan.kept plan.counts points
scan-kept all config plan is points has =
    let done : ScanDone = record { counts = plan.counts; bounds = plan.kept.bounds } in
    let scan : IsScan all config.scale (Some plan.kept.bounds) config.inputs 0 points done = scan_kept all config.scale config.inputs config.bounds 0 points done has in
    let to_scale = subst (λ (k : ℕ). IsScan all k (Some plan.kept.bounds) config.inputs 0 points done) (sym is.kept_is.scale_is) scan in
    subst (λ (w : List Input). IsScan all plan.kept.scale (Some plan.kept.bounds) w 0 points done) (sym is.kept_is.inputs_is) to_scale

-- ---- the part

module _ (can_be : PointsCanBeSampled) (all : Files) (config : Config) (octants : ℕ) (plan : Plan) (is : IsPlan config None plan) (ready : Ready) (kept : ready.checkpoint.kept ≡ plan.kept) (counts : ready.checkpoint.counts ≡ plan.counts) where
  abbrev c : Checkpoint
  c = ready.checkpoint

  pub part-ready : (points : List Point) → HasPoints all config None plan points
      → AreSampled (rules_of plan.kept) (part_of (rules_of plan.kept) (opened octants) points) (nodes_of ready.tree) → c.inserted ≡ length (points_in (nodes_of ready.tree)) → IsPartOf all config octants ready points
  part-ready points has are number =
      let scan = scan-kept all config plan is points has in
      let can = part-can (rules_of plan.kept) (opened octants) points (scan-can can_be all plan.kept plan.counts points scan) in
      let found : found_by c ≡ (let d : ScanDone = record { counts = plan.counts; bounds = plan.kept.bounds } in d) = λ i. record { counts = counts i; bounds = (kept i).bounds } in
      record {
        scanned = subst (λ (d : ScanDone). IsScanOf all config points d) (sym found) has;
        scan =
            subst (λ (k : Kept). IsScan all k.scale (Some k.bounds) k.inputs 0 points (record { counts = c.counts; bounds = k.bounds })) (sym kept)
            (subst (λ (w : List SourceCount). IsKeptScan all plan.kept w points) (sym counts) scan);
        sampled = subst (λ (k : Kept). AreSampled (rules_of k) (part_of (rules_of k) (opened octants) points) (nodes_of ready.tree)) (sym kept) are;
        inserted =
            subst (λ (k : Kept). c.inserted ≡ length (part_of (rules_of k) (opened octants) points)) (sym kept)
            (number ∙ points-number (rules_of plan.kept) (part_of (rules_of plan.kept) (opened octants) points) (nodes_of ready.tree) can are);
      }
