-- The octree of no points.
use Rattle.std.proofs.Common.{◌≡◌, ◌∙◌, ℕ, zero, suc, ◌<◌, ◌≤◌, Bool, true, false, cond, List, [], ◌∷◌, map, length, get_or, slice_index, refl, sym, ap, subst, arith, Option, Some, None, sum_by}
use Rattle.std.specs.Prelude.{is_some}
use Rattle.std.specs.List.{All}
use Rattle.std.specs.BTreeMap.{is_at, insert_entry}
use Rattle.std.proofs.lemmas.Bool.{false≢true}
use Rattle.std.proofs.lemmas.List.Sums.{sum_by-cons}
use Rattle.std.proofs.lemmas.List.Elements.{All-nil, All-cons, All-head, All-tail, All-same, All-weaker}
use Rattle.ept_space.specs.declared.cube.Rules.{Rules}
use Rattle.ept_space.specs.VoxelKey.{VoxelKey, root, key_cmp, AreAscending}
use Rattle.ept_space.specs.OctreeCube.{InBox}
use Rattle.ept_sample.specs.Place.{place}
use Rattle.ept_sample.proofs.KeyOrder.{AllPairs-IsRising}
use Rattle.ept_core.specs.State.{blank, has_open}
use Rattle.ept_grid.specs.Node as grid
use Rattle.ept_grid.specs.Node.{is_open_in}
use Rattle.ept_node.specs.declared.node.Node as node
use Rattle.ept_node.specs.declared.state.NodeState.{NodeState}
use Rattle.ept_node.specs.declared.state.NodeState.TheVariants as states
use Rattle.ept_node.specs.Shown.{empty_node, no_children, state_of, node_of, is_here, fault_of, AgreesWithFile}
use Rattle.ept_node.proofs.Bridges.{absent-stands}
use Rattle.ept_forest.specs.declared.forest.Forest.{Forest}
use Rattle.ept_forest.specs.Slots as forest
use Rattle.ept_table.specs.declared.taken.Cell.{Cell}
use Rattle.ept_table.specs.declared.taken.Taken.{Taken}
use Rattle.ept_table.specs.declared.taken.Taken.TheVariants as taken
use Rattle.ept_table.specs.At.{At}
use Rattle.ept_table.specs.Item.{taken_as, cell_of, seen_node}
use Rattle.ept_table.specs.Octree.{AreLinked}
use Rattle.ept_table.proofs.Lists.{at-head, at-rest, nothing-at}
use Rattle.ept_octree.specs.Index.{Site, named, in_slot, in_slots, taken_in, slot_of, node_in, IsSoundBy, AreSites, IsIndex}
use Rattle.ept_octree.proofs.Sites.{next-site}
use Rattle.ept_node.proofs.Here.{resident-here, no-fault, apart-agrees}
use Rattle.ept_forest.proofs.Residents.{none-here, residents-cons}

-- ---- a node without points

pub never-open : (key : VoxelKey) (rules : Rules) (o : ℕ) → o < 8 → is_open_in (empty_node key rules) o ≡ true → ⊥
unfolding has_open
never-open key rules o low is =
    let shut : has_open blank o ≡ false = refl in
    false≢true (sym shut ∙ ((absent-stands key rules).opens o low ∙ is))

pub sound-empty : (key : VoxelKey) (rules : Rules) → key.depth ≤ rules.cube.depth → IsSoundBy rules (empty_node key rules)
sound-empty key rules low = record {
  rules = refl;
  low = low;
  inside = All-nil (λ q. InBox rules.cube key (place q));
  deepest = λ o small is. absurd (never-open key rules o small is);
}

none_at : (o : ℕ) → o < 8 → slice_index no_children o ≡ 0
none_at zero low = refl
none_at (suc zero) low = refl
none_at (suc (suc zero)) low = refl
none_at (suc (suc (suc zero))) low = refl
none_at (suc (suc (suc (suc zero)))) low = refl
none_at (suc (suc (suc (suc (suc zero))))) low = refl
none_at (suc (suc (suc (suc (suc (suc zero)))))) low = refl
none_at (suc (suc (suc (suc (suc (suc (suc zero))))))) low = refl
none_at (suc (suc (suc (suc (suc (suc (suc (suc o)))))))) low = absurd (omega (arith, low))

-- ---- no sites

pub no-sites : (rest : List (Option grid.Node)) → AreSites 0 (None ∷ rest) []
no-sites rest = record {
  many = refl;
  ascend = AllPairs-IsRising [] tt;
  stands = λ key k is. absurd (cc);
  listed = λ key k some low is. absurd (omega (arith, some, low));
  together = refl;
}

-- if each has none, there are none
pub none-together : {X : Type 0} (f : X → ℕ) (xs : List X) → All (λ x. f x ≡ 0) xs → sum_by f xs ≡ 0
none-together f [] all = refl
none-together f (x ∷ xs) all =
    let one : f x ≡ 0 = All-head (λ x. f x ≡ 0) x xs all in
    let more : sum_by f xs ≡ 0 = none-together f xs (All-tail (λ x. f x ≡ 0) x xs all) in
    omega (arith, sum_by-cons f x xs, one, more)

module _ {F : Type 0} (held : F → Option (List ℕ)) where
  blank_there : (nodes : List (node.Node F)) (k : ℕ) → All forest.IsBlank nodes → is_some (get_or (map (in_slot held) nodes) k None) ≡ false
  blank_there [] k all = refl
  blank_there (n ∷ ns) zero all =
      ap (λ (s : NodeState). is_some (named s (node_of held n))) (All-head forest.IsBlank n ns all)
  blank_there (n ∷ ns) (suc k) all = blank_there ns k (All-tail forest.IsBlank n ns all)

  none_taken : (nodes : List (node.Node F)) (k : ℕ) (c : Cell) → All forest.IsBlank nodes → At (map (seen_node held) nodes) k (taken.Standing c) → ⊥
  none_taken [] k c all a = nothing-at a
  none_taken (n ∷ ns) zero c all a =
      let e : seen_node held n ≡ taken.Standing c = at-head a in
      let b : seen_node held n ≡ taken.Blank = ap (λ (s : NodeState). taken_as s (cell_of held n)) (All-head forest.IsBlank n ns all) in
      let both : taken.Blank ≡ taken.Standing c = sym b ∙ e in
      absurd (cc)
  none_taken (n ∷ ns) (suc k) c all a =
      none_taken ns k c (All-tail forest.IsBlank n ns all) (at-rest (seen_node held n) (map (seen_node held) ns) k (taken.Standing c) a)

  module _ (faults keeps : F → ℕ) (count : ℕ) (rules : Rules) (f : Forest F) (p : forest.IsPlanted held faults keeps count rules f) where
    abbrev nodes : List (node.Node F)
    nodes = p.first ∷ p.others

    first_in : in_slot held p.first ≡ Some (empty_node root rules)
    first_in =
        ap (λ (s : NodeState). named s (node_of held p.first)) p.begun.state ∙ ap (λ (g : grid.Node). Some g) p.begun.empty

    module _ (some : 1 ≤ count) (sites : List Site) (put : sites ≡ insert_entry key_cmp [] root 1) (finds : (q : VoxelKey) → slot_of sites q ≡ cond (is_at (key_cmp root) q) (Some 1) (slot_of [] q)) (ascend : AreAscending (map (λ (s : Site). s.0) sites)) where
      long : length (in_slots held nodes) ≡ suc count
      long = ap suc (length_in nodes ∙ (sym (ap (λ (w : List (node.Node F)). length w) p.are) ∙ p.slots))
        where
          length_in : (ns : List (node.Node F)) → length (map (in_slot held) ns) ≡ length ns
          length_in [] = refl
          length_in (n ∷ ns) = ap suc (length_in ns)

      are : AreSites 1 (in_slots held nodes) sites
      are =
          next-site 0 (in_slots held nodes) [] sites (empty_node root rules) (no-sites (map (in_slot held) nodes)) first_in (omega (arith, long, some)) refl put finds ascend

      filled : (k : ℕ) → 0 < k → k ≤ 1 → is_some (node_in (in_slots held nodes) k) ≡ true
      filled zero low high = absurd (omega (arith, low))
      filled (suc zero) low high = ap (λ (x : Option grid.Node). is_some x) first_in
      filled (suc (suc k)) low high = absurd (omega (arith, high))

      blank_so : (k : ℕ) → 1 < k → is_some (node_in (in_slots held nodes) k) ≡ false
      blank_so zero low = absurd (omega (arith, low))
      blank_so (suc zero) low = absurd (omega (arith, low))
      blank_so (suc (suc k)) low = blank_there p.others k p.blank

      sound : (k : ℕ) (g : grid.Node) → node_in (in_slots held nodes) k ≡ Some g → IsSoundBy rules g
      sound zero g is = absurd (cc)
      sound (suc zero) g is =
          subst (λ (h : grid.Node). IsSoundBy rules h) (node_same (empty_node root rules) g (sym first_in ∙ is)) (sound-empty root rules (omega arith))
        where
          node_same : (a b : grid.Node) → Some a ≡ Some b → a ≡ b
          node_same a b e = ap from e
            where
              from : Option grid.Node → grid.Node
              from (Some h) = h
              from None = a
      sound (suc (suc k)) g is =
          absurd (false≢true (sym (blank_there p.others k p.blank) ∙ ap (λ (x : Option grid.Node). is_some x) is))

      index : IsIndex rules 1 (in_slots held nodes) sites
      index = record {
        are = are;
        low = omega (arith, long, some);
        rooted = are.listed root 1 (omega arith) (omega arith) (ap (λ (x : Option grid.Node). key_seen_of x) first_in);
        filled = filled;
        blank = blank_so;
        sound = sound;
      }
        where
          key_seen_of : Option grid.Node → Option VoxelKey
          key_seen_of None = None
          key_seen_of (Some g) = Some g.key

      pub planted-index : IsIndex rules (forest.used_of f) (in_slots held (forest.nodes_of f)) sites
      planted-index =
          subst (λ (n : ℕ). IsIndex rules n (in_slots held (forest.nodes_of f)) sites) (sym p.used) (subst (λ (ns : List (node.Node F)). IsIndex rules 1 (in_slots held ns) sites) (sym p.are) index)

    pub planted-root : in_slots held (forest.nodes_of f) ≡ None ∷ Some (empty_node root rules) ∷ map (in_slot held) p.others
    planted-root =
        ap (λ (ns : List (node.Node F)). in_slots held ns) p.are ∙ ap (λ (x : Option grid.Node). None ∷ x ∷ map (in_slot held) p.others) first_in

    top_is : (c : Cell) → seen_node held p.first ≡ taken.Standing c → (c.node ≡ empty_node root rules) × (c.children ≡ no_children)
    top_is c is =
        let e : taken.Standing (cell_of held p.first) ≡ taken.Standing c = sym (ap (λ (s : NodeState). taken_as s (cell_of held p.first)) p.begun.state) ∙ is in
        (ap (λ (t : Taken). node_from t) (sym e) ∙ p.begun.empty, ap (λ (t : Taken). children_from t) (sym e) ∙ p.begun.children)
      where
        node_from : Taken → grid.Node
        node_from (taken.Standing d) = d.node
        node_from taken.Blank = c.node
        node_from (taken.Reading r) = c.node

        children_from : Taken → List ℕ
        children_from (taken.Standing d) = d.children
        children_from taken.Blank = c.children
        children_from (taken.Reading r) = c.children

    standing_top : (k : ℕ) (c : Cell) → At (taken_in held nodes) k (taken.Standing c) → (c.node ≡ empty_node root rules) × (c.children ≡ no_children)
    standing_top zero c a = absurd (let e : taken.Blank ≡ taken.Standing c = at-head a in cc)
    standing_top (suc zero) c a =
        top_is c (at-head (at-rest taken.Blank (map (seen_node held) nodes) 0 (taken.Standing c) a))
    standing_top (suc (suc k)) c a =
        absurd (none_taken p.others k c p.blank (at-rest (seen_node held p.first) (map (seen_node held) p.others) k (taken.Standing c) (at-rest taken.Blank (map (seen_node held) nodes) (suc k) (taken.Standing c) a)))

    pub planted-linked : AreLinked (taken_in held (forest.nodes_of f))
    planted-linked = subst (λ (ns : List (node.Node F)). AreLinked (taken_in held ns)) (sym p.are) (record {
      child_slot = λ k c o a low is. absurd (never-open root rules o low (ap (λ (g : grid.Node). is_open_in g o) (sym (standing_top k c a).0) ∙ is));
      none = λ k c o a low is. ap (λ (cs : List ℕ). slice_index cs o) (standing_top k c a).1 ∙ none_at o low;
    })

    -- the root alone is in memory
    pub planted-here : forest.residents_of (forest.nodes_of f) ≡ 1
    planted-here =
        let one_of : ℕ = cond (is_here p.first) 1 0 in
        let first : one_of ≡ 1 = ap (λ (b : Bool). cond b 1 0) (resident-here p.first p.begun.state) in
        let others : forest.residents_of p.others ≡ 0 = none-here p.others p.blank in
        let all : forest.residents_of (forest.nodes_of f) ≡ forest.residents_of nodes = ap (λ (ns : List (node.Node F)). forest.residents_of ns) p.are in
        omega (arith, first, others, all, residents-cons p.first p.others)

    each_of : (P : node.Node F → Type 0) → P p.first → ((n : node.Node F) → state_of n ≡ states.Blank → P n) → All P (forest.nodes_of f)
    each_of P first others =
        All-same P (forest.nodes_of f) nodes p.are (All-cons P p.first p.others first (All-weaker forest.IsBlank P others p.others p.blank))

    pub planted-agrees : All (AgreesWithFile held faults keeps) (forest.nodes_of f)
    planted-agrees =
        each_of (AgreesWithFile held faults keeps) (apart-agrees held faults keeps p.first (λ e. absurd (let both = sym e ∙ p.begun.state in cc)) (λ e. absurd (let both = sym e ∙ p.begun.state in cc))) (λ n blank. apart-agrees held faults keeps n (λ e. absurd (let both = sym e ∙ blank in cc)) (λ e. absurd (let both = sym e ∙ blank in cc)))

    pub planted-unbroken : All (λ n. fault_of n ≡ None) (forest.nodes_of f)
    planted-unbroken =
        each_of (λ n. fault_of n ≡ None) (no-fault p.first (λ e. absurd (let both = sym e ∙ p.begun.state in cc))) (λ n blank. no-fault n (λ e. absurd (let both = sym e ∙ blank in cc)))
