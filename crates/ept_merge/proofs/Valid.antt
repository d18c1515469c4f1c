-- The merged lines are those of a checkpoint.
use Rattle.std.proofs.Common.{◌≡◌, ◌∙◌, inl, inr, ℕ, ◌+◌, ◌<◌, ◌≤◌, ◌==◌, ◌||◌, true, Bool, List, [], ◌∷◌, ◌++◌, refl, sym, ap, subst, arith, map, drop, length, None}
use Rattle.std.specs.Prelude.{All, sum_by, slice_index_or}
use Rattle.std.specs.List.{list_any}
use Rattle.std.specs.List.Sorted.{IsPermutation}
use Rattle.std.specs.Int.{bit_at}
use Rattle.std.proofs.lemmas.List.{length-map}
use Rattle.std.proofs.lemmas.List.Sorted.{IsPermutation-sym, IsPermutation-map, Contains-permutation}
use Rattle.std.proofs.lemmas.List.Sums.{sum_by-cons}
use Rattle.ept_space.specs.VoxelKey.{VoxelKey, root, child, AreAscending}
use Rattle.ept_sample.specs.Members.{IsMember}
use Rattle.ept_sample.proofs.Members.{IsMember-map, member-map, member-flat_map, all-member, All-members, IsMember-contains, contains-IsMember}
use Rattle.ept_grid.specs.Mask.{opened}
use Rattle.ept_config.specs.declared.config.Config.{Config}
use Rattle.ept_config.specs.declared.kept.Kept.{Kept}
use Rattle.ept_config.specs.declared.source_count.SourceCount.{SourceCount}
use Rattle.ept_config.specs.Counts.{IsCount}
use Rattle.ept_ckpt.specs.declared.letter.Letter.TheVariants.{A}
use Rattle.ept_ckpt.specs.declared.node_line.NodeLine.{NodeLine}
use Rattle.ept_ckpt.specs.declared.checkpoint.Checkpoint.{Checkpoint}
use Rattle.ept_ckpt.specs.declared.version.BodyVersion.TheVariants.{V3}
use Rattle.ept_ckpt.specs.Versions.{most_points_of}
use Rattle.ept_ckpt.specs.Octree as octree
use Rattle.ept_ckpt.specs.Octree.{AreWholeOctree, points_in}
use Rattle.ept_ckpt.specs.Valid.{IsNode, IsCheckpoint, deepest}
use Rattle.ept_plan.specs.declared.plan.Plan.{Plan}
use Rattle.ept_plan.specs.Plans.{IsPlan}
use Rattle.ept_merge.specs.declared.bodies.PartBody.{PartBody}
use Rattle.ept_merge.specs.declared.joining.PartNode.{PartNode}
use Rattle.ept_merge.specs.Joining.{bodies_in, below_root, all_below, keys_of, root_node, IsUnion}
use Rattle.ept_merge.specs.Putting.{AreLike, merged_line}
use Rattle.ept_merge.proofs.Whole.{Lines, IsRooted, rooted, below, all_keys, AreRooted, merged-whole, merged-points, children-root}

-- the lines of each part
abbrev pub lines_in : List PartBody → List Lines
lines_in parts = map (λ (part : PartBody). part.body.nodes) parts

abbrev pub line_of : PartNode → NodeLine
line_of node = node.line

-- each part has its root first
pub all-rooted : (parts : List PartBody) → AreRooted (lines_in parts)
all-rooted parts lines m =
    let p = member-map (λ (part : PartBody). part.body.nodes) lines parts m in
    rooted lines (subst (λ (w : Lines). AreWholeOctree w) p.2 p.0.body.is_checkpoint.nodes_are.octree)

-- ---- nodes and their lines

lines-below : (part : PartBody) → map line_of (below_root part) ≡ drop 1 part.body.nodes
lines-below part = as_they_are (drop 1 part.body.nodes)
  where
    as_they_are : (lines : Lines) → map line_of (map (λ (line : NodeLine). (let node : PartNode = record { octants = part.octants; line = line } in node)) lines) ≡ lines
    as_they_are [] = refl
    as_they_are (l ∷ lines) = ap (λ (w : Lines). l ∷ w) (as_they_are lines)

map_append : {X Y : Type 0} (f : X → Y) (xs ys : List X) → map f (xs ++ ys) ≡ map f xs ++ map f ys
map_append f [] ys = refl
map_append {X} {Y} f (x ∷ xs) ys = ap (λ (w : List Y). f x ∷ w) (map_append f xs ys)

pub all-lines : (parts : List PartBody) → map line_of (all_below parts) ≡ below (lines_in parts)
all-lines [] = refl
all-lines (p ∷ parts) =
    map_append line_of (below_root p) (all_below parts)
    ∙ (ap (λ (w : Lines). w ++ map line_of (all_below parts)) (lines-below p) ∙ ap (λ (w : Lines). drop 1 p.body.nodes ++ w) (all-lines parts))

keys-lines : (nodes : List PartNode) → octree.keys_of (map line_of nodes) ≡ keys_of nodes
keys-lines [] = refl
keys-lines (n ∷ nodes) = ap (λ (w : List VoxelKey). n.line.key ∷ w) (keys-lines nodes)

-- ---- the version of a line does not matter

keys-merged : (nodes : List PartNode) → octree.keys_of (map merged_line nodes) ≡ octree.keys_of (map line_of nodes)
keys-merged [] = refl
keys-merged (n ∷ nodes) = ap (λ (w : List VoxelKey). n.line.key ∷ w) (keys-merged nodes)

points-merged : (nodes : List PartNode) → points_in (map merged_line nodes) ≡ points_in (map line_of nodes)
points-merged [] = refl
points-merged (n ∷ nodes) =
    omega (arith, sum_by-cons (λ (l : NodeLine). l.count) (merged_line n) (map merged_line nodes), sum_by-cons (λ (l : NodeLine). l.count) n.line (map line_of nodes), points-merged nodes)

whole-merged : (top : NodeLine) (nodes : List PartNode) → AreWholeOctree (top ∷ map line_of nodes) → AreWholeOctree (top ∷ map merged_line nodes)
whole-merged top nodes whole =
    let same : octree.keys_of (top ∷ map line_of nodes) ≡ octree.keys_of (top ∷ map merged_line nodes) = ap (λ (w : List VoxelKey). top.key ∷ w) (sym (keys-merged nodes)) in
    record {
      ascend = subst (λ (w : List VoxelKey). AreAscending w) same whole.ascend;
      rooted = subst (λ (w : List VoxelKey). octree.is_among w root ≡ true) same whole.rooted;
      parents = subst (λ (w : List VoxelKey). All (octree.HasParent w) w) same whole.parents;
      children = All-members (octree.TellsChildren (octree.keys_of (top ∷ map merged_line nodes))) (top ∷ map merged_line nodes) (λ line m. subst (λ (w : List VoxelKey). octree.TellsChildren w line) same (tells line m));
    }
  where
    tells : (line : NodeLine) → IsMember line (top ∷ map merged_line nodes) → octree.TellsChildren (octree.keys_of (top ∷ map line_of nodes)) line
    tells line (inl is) =
        subst (λ (l : NodeLine). octree.TellsChildren (octree.keys_of (top ∷ map line_of nodes)) l) is (all-member (octree.TellsChildren (octree.keys_of (top ∷ map line_of nodes))) top (top ∷ map line_of nodes) whole.children (inl refl))
    tells line (inr m) =
        let n = member-map merged_line line nodes m in
        let its : octree.TellsChildren (octree.keys_of (top ∷ map line_of nodes)) n.0.line = all-member (octree.TellsChildren (octree.keys_of (top ∷ map line_of nodes))) n.0.line (top ∷ map line_of nodes) whole.children (inr (IsMember-map line_of n.0 nodes n.1)) in
        subst (λ (l : NodeLine). octree.TellsChildren (octree.keys_of (top ∷ map line_of nodes)) l) n.2 its

-- ---- the root

opened_bit : (mask o : ℕ) → opened mask o ≡ (bit_at mask o == 1)
unfolding opened
opened_bit mask o = refl

abbrev pub no_line : NodeLine
no_line = record { key = root; count = 0; mask = 0; letter = A }

abbrev pub first_line : Lines → NodeLine
first_line lines = slice_index_or lines 0 no_line

first-is : (lines : Lines) (r : IsRooted lines) → first_line lines ≡ r.head
first-is lines r = ap (λ (w : Lines). first_line w) r.is

any-same : (parts : List PartBody) (o : ℕ) → list_any (λ (part : PartBody). (let node : PartNode = root_node part in opened node.line.mask o)) parts ≡ list_any (λ (lines : Lines). bit_at (first_line lines).mask o == 1) (lines_in parts)
unfolding opened
any-same [] o = refl
any-same (p ∷ parts) o = ap (λ (b : Bool). (bit_at (first_line p.body.nodes).mask o == 1) || b) (any-same parts o)

-- ---- the checkpoint

module _ (config : Config) (plan : Plan) (is : IsPlan config None plan) (parts : List PartBody) (like : AreLike plan parts) (nodes : List PartNode) (same : IsPermutation (all_below parts) nodes) (ascend : AreAscending (keys_of nodes)) (few : length nodes < config.max_nodes)
    (number : sum_by (λ (c : Checkpoint). c.inserted) (bodies_in parts) ≡ plan.points) (mask count : ℕ) (union : IsUnion parts mask) (counted : count ≡ sum_by (λ (lines : Lines). (first_line lines).count) (lines_in parts)) where
  abbrev pub top : NodeLine
  top = record { key = root; count = count; mask = mask; letter = A }

  abbrev lines : Lines
  lines = map line_of nodes

  same_lines : IsPermutation (below (lines_in parts)) lines
  same_lines = subst (λ (w : Lines). IsPermutation w lines) (all-lines parts) (IsPermutation-map line_of (all_below parts) nodes same)

  rising : AreAscending (octree.keys_of lines)
  rising = subst (λ (w : List VoxelKey). AreAscending w) (sym (keys-lines nodes)) ascend

  tells_root : (o : ℕ) → o < 8 → (bit_at mask o == 1) ≡ octree.is_among (all_keys (lines_in parts)) (child root o)
  tells_root =
      children-root (lines_in parts) (all-rooted parts) mask (λ (ls : Lines). (first_line ls).mask) (λ ls m. ap (λ (l : NodeLine). l.mask) (first-is ls (all-rooted parts ls m)))
      (λ o low. sym (opened_bit mask o) ∙ (union o low ∙ any-same parts o))

  whole : AreWholeOctree (top ∷ map merged_line nodes)
  whole = whole-merged top nodes (merged-whole (lines_in parts) (all-rooted parts) lines same_lines rising top refl tells_root)

  -- the points of all bodies
  inserted-is : (some : List PartBody) → sum_by points_in (lines_in some) ≡ sum_by (λ (c : Checkpoint). c.inserted) (bodies_in some)
  inserted-is [] = refl
  inserted-is (p ∷ some) =
      omega (arith, sum_by-cons points_in p.body.nodes (lines_in some), sum_by-cons (λ (c : Checkpoint). c.inserted) p.body (bodies_in some), p.body.is_checkpoint.nodes_are.counted, inserted-is some)

  first-points : (ls : Lines) → IsMember ls (lines_in parts) → points_in ls ≡ (first_line ls).count + points_in (drop 1 ls)
  first-points ls m =
      let r = all-rooted parts ls m in
      ap points_in r.is ∙ (sum_by-cons (λ (l : NodeLine). l.count) r.head (drop 1 ls) ∙ ap (λ (l : NodeLine). l.count + points_in (drop 1 ls)) (sym (first-is ls r)))

  total : points_in (top ∷ map merged_line nodes) ≡ plan.points
  total =
      omega (
        arith,
        sum_by-cons (λ (l : NodeLine). l.count) top (map merged_line nodes),
        sum_by-cons (λ (l : NodeLine). l.count) top lines,
        points-merged nodes,
        merged-points (lines_in parts) (λ (ls : Lines). (first_line ls).count) lines top first-points same_lines counted,
        inserted-is parts,
        number,
      )

  each-node : (line : NodeLine) → IsMember line (top ∷ map merged_line nodes) → IsNode (deepest plan.kept.bounds plan.kept.s plan.kept.max_depth) line
  each-node line (inl at_top) = subst (λ (l : NodeLine). IsNode (deepest plan.kept.bounds plan.kept.s plan.kept.max_depth) l) at_top (record { is_key = record { shallow = omega arith; x_in = omega arith; y_in = omega arith; z_in = omega arith }; depth_most = omega arith })
  each-node line (inr m) =
      let n = member-map merged_line line nodes m in
      let p = of-part n.0 n.1 in
      let its : IsNode (deepest p.0.body.kept.bounds p.0.body.kept.s p.0.body.kept.max_depth) n.0.line = all-member (IsNode (deepest p.0.body.kept.bounds p.0.body.kept.s p.0.body.kept.max_depth)) n.0.line p.0.body.nodes p.0.body.is_checkpoint.lines p.2 in
      let as_kept : IsNode (deepest plan.kept.bounds plan.kept.s plan.kept.max_depth) n.0.line = subst (λ (k : Kept). IsNode (deepest k.bounds k.s k.max_depth) n.0.line) p.3 its in
      subst (λ (l : NodeLine). IsNode (deepest plan.kept.bounds plan.kept.s plan.kept.max_depth) l) n.2 (record { is_key = as_kept.is_key; depth_most = as_kept.depth_most })
    where
      of-part : (node : PartNode) → IsMember node nodes → (part : PartBody) × IsMember part parts × IsMember node.line part.body.nodes × (part.body.kept ≡ plan.kept)
      of-part node m =
          let b : IsMember node (all_below parts) = IsMember-contains node (all_below parts) (Contains-permutation nodes (all_below parts) node (IsPermutation-sym (all_below parts) nodes same) (contains-IsMember node nodes m)) in
          let p = member-flat_map below_root node parts b in
          let l = member-map (λ (line : NodeLine). (let n : PartNode = record { octants = p.0.octants; line = line } in n)) node (drop 1 p.0.body.nodes) p.2 in
          let lines_is : l.0 ≡ node.line = ap (λ (n : PartNode). n.line) l.2 in
          let r = all-rooted parts p.0.body.nodes (IsMember-map (λ (part : PartBody). part.body.nodes) p.0 parts p.1) in (
            p.0,
            p.1,
            subst (λ (w : Lines). IsMember node.line w) (sym r.is) (inr (subst (λ (x : NodeLine). IsMember x (drop 1 p.0.body.nodes)) lines_is l.1)),
            (like p.0 p.1).kept_is,
          )

  pub merged-valid : IsCheckpoint V3 1 plan.kept plan.counts plan.points (top ∷ map merged_line nodes)
  merged-valid = record {
    each = is.each;
    few = All-members (λ (count : SourceCount). count.points ≤ most_points_of V3) plan.counts (λ count m. (all-member (IsCount plan.kept.bounds) count plan.counts is.counted m).few);
    plain = λ other. absurd (other refl);
    counted = is.counted;
    extents = is.extents;
    inserted_most = omega (arith, is.points_are);
    generation_least = omega arith;
    generation_most = omega (arith, plan.kept.layout.inputs_some);
    nodes_few = omega (arith, few, config.work.nodes_most, length-map nodes merged_line);
    lines = All-members (IsNode (deepest plan.kept.bounds plan.kept.s plan.kept.max_depth)) (top ∷ map merged_line nodes) each-node;
    nodes_are = record { octree = whole; counted = total };
  }
