-- Bodies whose nodes fit together, and what that says of the bodies.
use Rattle.std.proofs.Common.{◌≡◌, ◌≢◌, ◌∙◌, ◌⊎◌, inl, inr, ℕ, ◌+◌, ◌-◌, ◌<◌, ◌≤◌, ◌^◌, ◌||◌, Bool, true, false, cond, List, [], ◌∷◌, ◌++◌, refl, sym, ap, subst, arith, map, drop, length, count_by, length-append, length-drop, Some}
use Rattle.std.specs.Prelude.{sum_by}
use Rattle.std.specs.List.{AllZip}
use Rattle.std.specs.Ordering.{is_lt}
use Rattle.std.specs.declared.cmp.Ordering.TheVariants.{Less}
use Rattle.std.proofs.lemmas.Bool.{false≢true}
use Rattle.std.proofs.lemmas.List.{length-map, map-append}
use Rattle.std.proofs.lemmas.List.Sums.{sum_by-cons, sum_by-append}
use Rattle.std.proofs.lemmas.List.Sorted.{IsPermutation-sym, IsPermutation-map, Contains-permutation, sum_by-IsPermutation, length_permutation}
use Rattle.ept_base.specs.Files.{Files}
use Rattle.ept_space.specs.declared.cube.Rules.{Rules}
use Rattle.ept_space.specs.VoxelKey.{VoxelKey, same_key, root, key_cmp, AreAscending}
use Rattle.ept_space.proofs.Within.{same_key-true, same_key-same}
use Rattle.ept_sample.specs.Members.{IsMember}
use Rattle.ept_sample.proofs.Members.{IsMember-left, IsMember-right, IsMember-append, IsMember-map, member-map, IsMember-flat_map, member-flat_map, all-member, IsMember-contains, contains-IsMember}
use Rattle.ept_sample.proofs.Ascending.{IsRising}
use Rattle.ept_sample.proofs.KeyOrder.{key_before, AllPairs-IsRising, IsRising-AllPairs}
use Rattle.ept_ckpt.specs.declared.node_line.NodeLine.{NodeLine}
use Rattle.ept_ckpt.specs.declared.checkpoint.Checkpoint.{Checkpoint}
use Rattle.ept_ckpt.specs.Octree as octree
use Rattle.ept_ckpt.specs.Octree.{is_among}
use Rattle.ept_ckpt.specs.Valid.{IsNode, deepest}
use Rattle.ept_merge.specs.declared.error.MergeError.{MergeError}
use Rattle.ept_merge.specs.declared.error.MergeError.TheVariants.{PartDamaged}
use Rattle.ept_merge.specs.declared.bodies.PartBody.{PartBody}
use Rattle.ept_merge.specs.declared.joining.PartNode.{PartNode}
use Rattle.ept_merge.specs.Merging.{IsTileDamaged, AreTogether, IsIntact, nodes_together}
use Rattle.ept_merge.specs.Joining.{octants_of, bodies_in, below_root, all_below, keys_of, AreInOrder, root_node, roots_of}
use Rattle.ept_merge.specs.Putting.{AreOfRules, AreLow, AreIntact, IsNodeDamaged, FitTogether, DoNotFit}
use Rattle.ept_merge.proofs.Whole.{IsRooted, not-root, member-among, rising-once, count_member, count_none}
use Rattle.ept_merge.proofs.Loads.{node_of, part-rooted, root-first, root-line}

-- ---- a node and its part

-- the node is one of the part, below its root
pub record IsBelow (parts : List PartBody) (node : PartNode) : Type 0 where
  pub part : PartBody
  pub among : IsMember part parts
  pub octants_are : node.octants ≡ part.octants
  pub line : IsMember node.line (drop 1 part.body.nodes)

pub below-part : (parts : List PartBody) (node : PartNode) → IsMember node (all_below parts) → IsBelow parts node
below-part parts node m =
    let p = member-flat_map below_root node parts m in
    let l = member-map (node_of p.0.octants) node (drop 1 p.0.body.nodes) p.2 in
    record {
      part = p.0;
      among = p.1;
      octants_are = sym (ap (λ (n : PartNode). n.octants) l.2);
      line = subst (λ (w : NodeLine). IsMember w (drop 1 p.0.body.nodes)) (ap (λ (n : PartNode). n.line) l.2) l.1;
    }

pub below-all : (parts : List PartBody) (part : PartBody) → IsMember part parts → (line : NodeLine) → IsMember line (drop 1 part.body.nodes) → IsMember (node_of part.octants line) (all_below parts)
below-all parts part among line m =
    IsMember-flat_map below_root part (node_of part.octants line) parts among (IsMember-map (node_of part.octants) line (drop 1 part.body.nodes) m)

pub line-below : (part : PartBody) (line : NodeLine) → IsMember line (drop 1 part.body.nodes) → IsMember line part.body.nodes
line-below part line m = subst (λ (w : List NodeLine). IsMember line w) (sym (part-rooted part).is) (inr m)

module _ (parts : List PartBody) (nodes : List PartNode) (order : AreInOrder parts nodes) where
  pub in-parts : (node : PartNode) → IsMember node nodes → IsMember node (all_below parts)
  in-parts node m = IsMember-contains node (all_below parts) (Contains-permutation nodes (all_below parts) node (IsPermutation-sym (all_below parts) nodes order.same) (contains-IsMember node nodes m))

  pub in-nodes : (node : PartNode) → IsMember node (all_below parts) → IsMember node nodes
  in-nodes node m = IsMember-contains node nodes (Contains-permutation (all_below parts) nodes node order.same (contains-IsMember node (all_below parts) m))

  pub node-part : (node : PartNode) → IsMember node nodes → IsBelow parts node
  node-part node m = below-part parts node (in-parts node m)

  -- the root's key is before all others
  pub fit-ascends : AreAscending (root ∷ keys_of nodes)
  fit-ascends =
      AllPairs-IsRising (root ∷ keys_of nodes) (
        (λ key m.
            let n = member-map (λ (node : PartNode). node.line.key) key nodes m in
            let b = node-part n.0 n.1 in
            ap is_lt (subst (λ (k : VoxelKey). key_cmp root k ≡ Less) n.2 ((part-rooted b.part).others n.0.line b.line))),
        IsRising-AllPairs (keys_of nodes) order.ascend,
      )

  -- each node has a key, no deeper than the greatest depth
  pub fit-low : (rules : Rules) → AreOfRules rules parts → AreLow rules nodes
  fit-low rules of_rules node m =
      let b = node-part node m in
      let kept = b.part.body.kept in
      let its : IsNode (deepest kept.bounds kept.s kept.max_depth) node.line = all-member (IsNode (deepest kept.bounds kept.s kept.max_depth)) node.line b.part.body.nodes b.part.body.is_checkpoint.lines (line-below b.part node.line b.line) in
      (its.is_key, subst (λ (r : Rules). node.line.key.depth ≤ r.cube.depth) (sym (of_rules b.part b.among).rules_are) its.depth_most)

-- ---- how often a key is there

keys-below : (part : PartBody) → keys_of (below_root part) ≡ octree.keys_of (drop 1 part.body.nodes)
keys-below part = as_they_are (drop 1 part.body.nodes)
  where
    as_they_are : (lines : List NodeLine) → keys_of (map (node_of part.octants) lines) ≡ octree.keys_of lines
    as_they_are [] = refl
    as_they_are (l ∷ lines) = ap (λ (w : List VoxelKey). l.key ∷ w) (as_they_are lines)

among-or-not : (key : VoxelKey) (keys : List VoxelKey) → (IsMember key keys) ⊎ (IsMember key keys → ⊥)
among-or-not key [] = inr (λ m. m)
among-or-not key (k ∷ keys) = by_test (same_key key k) refl (among-or-not key keys)
  where
    by_test : (t : Bool) → same_key key k ≡ t → (IsMember key keys) ⊎ (IsMember key keys → ⊥) → (IsMember key (k ∷ keys)) ⊎ (IsMember key (k ∷ keys) → ⊥)
    by_test true e rest = inl (inl (sym (same_key-true key k e)))
    by_test false e (inl m) = inl (inr m)
    by_test false e (inr none) = inr (λ m. elim m [ inl same ↦ absurd (false≢true (sym e ∙ same_key-same key k (sym same))) | inr n ↦ none n ])

none-among : (key : VoxelKey) (keys : List VoxelKey) → (IsMember key keys → ⊥) → is_among keys key ≡ false
none-among key [] none = refl
none-among key (k ∷ keys) none = by_test (same_key key k) refl (none-among key keys (λ m. none (inr m)))
  where
    by_test : (t : Bool) → same_key key k ≡ t → is_among keys key ≡ false → is_among (k ∷ keys) key ≡ false
    by_test true e rest = absurd (none (inl (sym (same_key-true key k e))))
    by_test false e rest = ap (λ (b : Bool). b || is_among keys key) e ∙ rest

-- a key other than the root's is in a body once, or not at all
part-count : (part : PartBody) (key : VoxelKey) → key ≢ root → count_by (same_key key) (keys_of (below_root part)) ≡ cond {A = ℕ} (is_among (octree.keys_of part.body.nodes) key) 1 0
part-count part key apart = elim (among-or-not key below) [
  | inl m ↦ omega (arith, once, count_member key below m, yes m)
  | inr none ↦ count_none key below none ∙ sym (no none)
]
  where
    r : IsRooted part.body.nodes
    r = part-rooted part

    below : List VoxelKey
    below = keys_of (below_root part)

    lower : List VoxelKey
    lower = octree.keys_of (drop 1 part.body.nodes)

    all-keys : octree.keys_of part.body.nodes ≡ r.head.key ∷ lower
    all-keys = ap (λ (w : List NodeLine). octree.keys_of w) r.is

    once : count_by (same_key key) below ≤ 1
    once =
        let up = IsRising-AllPairs (octree.keys_of part.body.nodes) part.body.is_checkpoint.nodes_are.octree.ascend in
        let rest = (subst (λ (w : List VoxelKey). IsRising key_before w) all-keys up).1 in
        subst (λ (w : List VoxelKey). count_by (same_key key) w ≤ 1) (sym (keys-below part)) (rising-once lower rest key)

    yes : IsMember key below → cond {A = ℕ} (is_among (octree.keys_of part.body.nodes) key) 1 0 ≡ 1
    yes m =
        let there : IsMember key lower = subst (λ (w : List VoxelKey). IsMember key w) (keys-below part) m in
        ap (λ (b : Bool). cond {A = ℕ} b 1 0) (ap (λ (w : List VoxelKey). is_among w key) all-keys ∙ member-among (r.head.key ∷ lower) key (inr there))

    no : (IsMember key below → ⊥) → cond {A = ℕ} (is_among (octree.keys_of part.body.nodes) key) 1 0 ≡ 0
    no none =
        ap (λ (b : Bool). cond {A = ℕ} b 1 0)
        (ap (λ (w : List VoxelKey). is_among w key) all-keys
        ∙ none-among key (r.head.key ∷ lower) (λ m. elim m [
          | inl same ↦ apart (sym same ∙ r.at_root)
          | inr n ↦ none (subst (λ (w : List VoxelKey). IsMember key w) (sym (keys-below part)) n)
        ]))

keys-append : (xs ys : List PartNode) → keys_of (xs ++ ys) ≡ keys_of xs ++ keys_of ys
keys-append xs ys = map-append (λ (n : PartNode). n.line.key) xs ys

-- so it is there as often as there are bodies with it
all-count : (parts : List PartBody) (key : VoxelKey) → key ≢ root → count_by (same_key key) (keys_of (all_below parts)) ≡ count_by (λ (c : Checkpoint). is_among (octree.keys_of c.nodes) key) (bodies_in parts)
all-count [] key apart = refl
all-count (p ∷ parts) key apart =
    omega (
      arith,
      ap (λ (w : List VoxelKey). count_by (same_key key) w) (keys-append (below_root p) (all_below parts)),
      sum_by-append (λ (k : VoxelKey). cond {A = ℕ} (same_key key k) 1 0) (keys_of (below_root p)) (keys_of (all_below parts)),
      part-count p key apart,
      sum_by-cons (λ (c : Checkpoint). cond {A = ℕ} (is_among (octree.keys_of c.nodes) key) 1 0) p.body (bodies_in parts),
      all-count parts key apart,
    )

root-count : (parts : List PartBody) → count_by (same_key root) (keys_of (all_below parts)) ≡ 0
root-count parts = count_none root (keys_of (all_below parts)) (λ m.
    let n = member-map (λ (node : PartNode). node.line.key) root (all_below parts) m in
    let b = below-part parts n.0 n.1 in
    not-root n.0.line.key ((part-rooted b.part).others n.0.line b.line) n.2)

-- ---- together

pub fits-together : (parts : List PartBody) (nodes : List PartNode) (points : ℕ) → FitTogether parts nodes points → AreTogether (bodies_in parts) points
fits-together parts nodes points fit = record {
  apart = λ key apart.
      omega (
        arith,
        all-count parts key apart,
        rising-once (keys_of nodes) (IsRising-AllPairs (keys_of nodes) fit.order.ascend) key,
        sum_by-IsPermutation (λ (k : VoxelKey). cond {A = ℕ} (same_key key k) 1 0) (keys_of (all_below parts)) (keys_of nodes) (IsPermutation-map (λ (n : PartNode). n.line.key) (all_below parts) nodes fit.order.same),
      );
  inserted = fit.number;
}

pub misfit-together : (parts : List PartBody) (points : ℕ) → DoNotFit parts points → ¬ AreTogether (bodies_in parts) points
misfit-together parts points (inr number) together = number together.inserted
misfit-together parts points (inl twice) together = twice once
  where
    by_test : (key : VoxelKey) (t : Bool) → same_key key root ≡ t → count_by (same_key key) (keys_of (all_below parts)) ≤ 1
    by_test key true e = subst (λ (k : VoxelKey). count_by (same_key k) (keys_of (all_below parts)) ≤ 1) (sym (same_key-true key root e)) (omega (arith, root-count parts))
    by_test key false e =
        let apart : key ≢ root = λ same. absurd (false≢true (sym e ∙ same_key-same key root same)) in
        omega (arith, all-count parts key apart, together.apart key apart)

    once : (key : VoxelKey) → count_by (same_key key) (keys_of (all_below parts)) ≤ 1
    once key = by_test key (same_key key root) refl

-- ---- how many nodes

pub below-length : (parts : List PartBody) → sum_by (λ (c : Checkpoint). length c.nodes - 1) (bodies_in parts) ≡ length (all_below parts)
below-length [] = refl
below-length (p ∷ parts) =
    omega (
      arith,
      sum_by-cons (λ (c : Checkpoint). length c.nodes - 1) p.body (bodies_in parts),
      length-append (below_root p) (all_below parts),
      length-map (drop 1 p.body.nodes) (node_of p.octants),
      length-drop 1 p.body.nodes,
      below-length parts,
    )

pub nodes-number : (parts : List PartBody) (nodes : List PartNode) → AreInOrder parts nodes → nodes_together (bodies_in parts) ≡ 1 + length nodes
nodes-number parts nodes order = omega (arith, below-length parts, length_permutation (all_below parts) nodes order.same)

-- ---- intact tiles, and damaged ones

module _ (rules : Rules) (files : Files) (parts : List PartBody) (nodes : List PartNode) (order : AreInOrder parts nodes) where
  part-intact : AreIntact rules files (roots_of parts ++ nodes) → (part : PartBody) → IsMember part parts → IsIntact rules files part.octants part.body
  part-intact intact part among line m = by_place (subst (λ (w : List NodeLine). IsMember line w) (part-rooted part).is m)
    where
      by_place : IsMember line ((part-rooted part).head ∷ drop 1 part.body.nodes) → ¬ IsTileDamaged rules files part.octants line
      by_place (inl is) =
          subst (λ (l : NodeLine). ¬ IsTileDamaged rules files part.octants l) (root-first part ∙ is)
          (intact (root_node part) (IsMember-left (root_node part) (roots_of parts) nodes (IsMember-map root_node part parts among)))
      by_place (inr n) =
          intact (node_of part.octants line) (IsMember-right (node_of part.octants line) (roots_of parts) nodes (in-nodes parts nodes order (node_of part.octants line) (below-all parts part among line n)))

  each-intact : AreIntact rules files (roots_of parts ++ nodes) → (some : List PartBody) → ((part : PartBody) → IsMember part some → IsMember part parts) → AllZip (IsIntact rules files) (octants_of some) (bodies_in some)
  each-intact intact [] among = tt
  each-intact intact (p ∷ some) among = (part-intact intact p (among p (inl refl)), each-intact intact some (λ part m. among part (inr m)))

  pub all-intact : AreIntact rules files (roots_of parts ++ nodes) → AllZip (IsIntact rules files) (octants_of parts) (bodies_in parts)
  all-intact intact = each-intact intact parts (λ part m. m)

  -- a damaged tile is that of a line of a part
  pub record IsPartDamaged (e : MergeError) : Type 0 where
    pub part : PartBody
    pub among : IsMember part parts
    pub line : NodeLine
    pub in_body : IsMember line part.body.nodes
    pub is_error : e ≡ PartDamaged part.octants (Some line.key)
    pub byte : line.mask < 2 ^ 8
    pub damaged : IsTileDamaged rules files part.octants line

  pub damaged-part : (e : MergeError) → IsNodeDamaged rules files (roots_of parts ++ nodes) e → IsPartDamaged e
  damaged-part e d = by_place (IsMember-append d.node (roots_of parts) nodes d.among)
    where
      by_place : IsMember d.node (roots_of parts) ⊎ IsMember d.node nodes → IsPartDamaged e
      by_place (inl m) =
          let p = member-map root_node d.node parts m in
          record {
            part = p.0;
            among = p.1;
            line = d.node.line;
            in_body = subst (λ (n : PartNode). IsMember n.line p.0.body.nodes) p.2 (root-line p.0).0;
            is_error = d.is_error ∙ ap (λ (n : PartNode). PartDamaged n.octants (Some d.node.line.key)) (sym p.2);
            byte = d.byte;
            damaged = subst (λ (o : ℕ). IsTileDamaged rules files o d.node.line) (sym (ap (λ (n : PartNode). n.octants) p.2)) d.damaged;
          }
      by_place (inr m) =
          let b = node-part parts nodes order d.node m in
          record {
            part = b.part;
            among = b.among;
            line = d.node.line;
            in_body = line-below b.part d.node.line b.line;
            is_error = d.is_error ∙ ap (λ (o : ℕ). PartDamaged o (Some d.node.line.key)) b.octants_are;
            byte = d.byte;
            damaged = subst (λ (o : ℕ). IsTileDamaged rules files o d.node.line) b.octants_are d.damaged;
          }
