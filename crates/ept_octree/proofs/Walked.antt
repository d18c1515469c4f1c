-- The node of a key.
use Rattle.std.proofs.Common.{◌≡◌, ◌∙◌, ℕ, zero, suc, ◌-◌, ◌<◌, ◌≤◌, inl, inr, List, [], ◌∷◌, map, length, get_or, set, refl, sym, ap, subst, arith, Option, Some}
use Rattle.std.specs.Prelude.{slice_get}
use Rattle.ept_space.specs.VoxelKey.{VoxelKey}
use Rattle.ept_space.specs.declared.cube.Rules.{Rules}
use Rattle.ept_sample.specs.Members.{IsMember}
use Rattle.ept_sample.proofs.KeyOrder.{IsRising-AllPairs}
use Rattle.ept_sample.proofs.Members.{IsMember-map, member-map}
use Rattle.ept_grid.specs.Node as grid
use Rattle.ept_node.specs.declared.node.Node as node
use Rattle.ept_node.specs.declared.state.NodeState.{NodeState}
use Rattle.ept_node.specs.declared.state.NodeState.TheVariants as states
use Rattle.ept_node.specs.Shown.{node_of, state_of, children_of}
use Rattle.ept_table.specs.declared.taken.Cell.{Cell}
use Rattle.ept_table.specs.declared.taken.Taken.{Taken}
use Rattle.ept_table.specs.declared.taken.Taken.TheVariants as taken
use Rattle.ept_table.specs.Item.{taken_as, cell_of, seen_node}
use Rattle.ept_forest.specs.Slots as forest
use Rattle.ept_table.specs.At.{At}
use Rattle.ept_table.specs.Octree.{Branch, key_of}
use Rattle.ept_octree.specs.Index.{Site, named, in_slots, taken_in, untold, node_or, branch_at, branches, slot_of, node_in, IsIndex}
use Rattle.ept_octree.specs.declared.octree.Octree.{Octree}
use Rattle.ept_octree.specs.Octree.{nodes_of}
use Rattle.ept_octree.specs.Walking.{HasKey, IfNodeAt}
use Rattle.ept_octree.proofs.Sites.{seen-some, some-number, slot-member, member-slot}
use Rattle.ept_octree.proofs.Placing.{slice-at, its-slot, same-in, same-file, named-some, length-in}
use Rattle.ept_octree.proofs.Alike.{index-any, told-index}

pub keys-all : (slots : List (Option grid.Node)) (sites : List Site) → map key_of (branches slots sites) ≡ map (λ (s : Site). s.0) sites
keys-all slots [] = refl
keys-all slots (s ∷ sites) = ap (λ (w : List VoxelKey). s.0 ∷ w) (keys-all slots sites)

node_here : (nodes : List Branch) (i : ℕ) (key : VoxelKey) → i < length (map key_of nodes) → get_or (map key_of nodes) i key ≡ key → (b : Branch) × (i < length nodes) × (get_or nodes i b ≡ b) × IsMember b nodes × (b.0 ≡ key)
node_here [] i key low is = absurd (omega (arith, low))
node_here (b ∷ bs) zero key low is = (b, omega arith, refl, inl refl, is)
node_here (b ∷ bs) (suc i) key low is =
    let r = node_here bs i key (omega (arith, low)) is in
    (r.0, omega (arith, r.1), r.2, inr r.3, r.4)

-- the node at the place of a key
pub node-at : (nodes : List Branch) (keys : List VoxelKey) (i : ℕ) (key : VoxelKey) → keys ≡ map key_of nodes → i < length keys → key ≡ get_or keys i key → (b : Branch) × (i < length nodes) × (get_or nodes i b ≡ b) × IsMember b nodes × (b.0 ≡ key)
node-at nodes keys i key same low is =
    node_here nodes i key (subst (λ (w : List VoxelKey). i < length w) same low) (sym (ap (λ (w : List VoxelKey). get_or w i key) same) ∙ sym is)

module _ {F : Type 0} (held : F → Option (List ℕ)) (rules : Rules) (used : ℕ) (ns : List (node.Node F)) (sites : List Site) (index : IsIndex rules used (in_slots held ns) sites) (key : VoxelKey) where
  abbrev nodes : List Branch
  nodes = branches (in_slots held ns) sites

  site_of : (b : Branch) → IsMember b nodes → b.0 ≡ key → (k : ℕ) × (slot_of sites key ≡ Some k) × (node_or (node_in (in_slots held ns) k) ≡ b.1)
  site_of b m same =
      let s = member-map (branch_at (in_slots held ns)) b sites m in
      let slot : slot_of sites s.0.0 ≡ Some s.0.1 = member-slot sites s.0 (IsRising-AllPairs (map (λ (s : Site). s.0) sites) index.are.ascend) s.1 in
      (s.0.1, ap (λ (q : VoxelKey). slot_of sites q) (sym (ap (λ (c : Branch). c.0) s.2 ∙ same)) ∙ slot, ap (λ (c : Branch). c.1) s.2)

  pub key-slot : HasKey nodes key → (k : ℕ) × (slot_of sites key ≡ Some k)
  key-slot has = let r = site_of has.0 has.1 has.2 in (r.0, r.1)

  module _ (slot : ℕ) (is : slot_of sites key ≡ Some slot) where
    pub slot-low : (1 ≤ slot) × (slot ≤ length ns)
    slot-low =
        let r = index.are.stands key slot is in
        (omega (arith, r.1), omega (arith, r.2, index.low, length-in held ns))

    module _ (place : ℕ) (next : suc place ≡ slot) (n : node.Node F) (at : At ns place n) where
      there : (g : grid.Node) × (node_in (in_slots held ns) slot ≡ Some g) × (g.key ≡ key)
      there = seen-some (node_in (in_slots held ns) slot) key (index.are.stands key slot is).0

      shown : (state_of n ≡ states.Blank → ⊥) × (node_of held n ≡ there.0)
      shown =
          named-some (state_of n) (node_of held n) there.0 (sym (its-slot held ns place n at) ∙ (ap (λ (k : ℕ). node_in (in_slots held ns) k) next ∙ there.1))

      pub walked-named : state_of n ≡ states.Blank → ⊥
      walked-named = shown.0

      -- what holds of the node of the forest holds of the node of the key
      pub walked : (fact : grid.Node → Type 0) → fact (node_of held n) → IfNodeAt nodes key fact
      walked fact mine b m same =
          let r = site_of b m same in
          let one : r.0 ≡ slot = some-number r.0 slot (sym r.1 ∙ is) in
          subst (λ (h : grid.Node). fact h) (shown.1 ∙ (sym (ap node_or there.1) ∙ (ap (λ (k : ℕ). node_or (node_in (in_slots held ns) k)) (sym one) ∙ r.2))) mine

      -- and the converse
      pub walked-back : (fact : grid.Node → Type 0) → IfNodeAt nodes key fact → fact (node_of held n)
      walked-back fact all =
          let m = IsMember-map (branch_at (in_slots held ns)) (key, slot) sites (slot-member sites key slot is) in
          let its : fact (node_or (node_in (in_slots held ns) slot)) = all (branch_at (in_slots held ns) (key, slot)) m refl in
          subst (λ (h : grid.Node). fact h) (ap node_or there.1 ∙ sym shown.1) its

-- ---- a node that shows what it showed before, wherever its points are

module _ {F : Type 0} (held : F → Option (List ℕ)) (ns : List (node.Node F)) (place : ℕ) (n m : node.Node F) (at : At ns place n) (was : state_of n ≡ states.Blank → ⊥) (is : state_of m ≡ states.Blank → ⊥) (same : node_of held m ≡ node_of held n) where
  named_is : (s : NodeState) (g : grid.Node) → (s ≡ states.Blank → ⊥) → named s g ≡ Some g
  named_is states.Blank g never = absurd (never refl)
  named_is states.Resident g never = refl
  named_is states.Spilled g never = refl
  named_is states.Broken g never = refl

  taken_is : (s : NodeState) (c : Cell) → (s ≡ states.Blank → ⊥) → taken_as s c ≡ taken.Standing c
  taken_is states.Blank c never = absurd (never refl)
  taken_is states.Resident c never = refl
  taken_is states.Spilled c never = refl
  taken_is states.Broken c never = refl

  pub still-in : in_slots held (set ns place m) ≡ in_slots held ns
  still-in =
      same-in held ns place n at m (named_is (state_of m) (node_of held m) is ∙ (ap Some same ∙ sym (named_is (state_of n) (node_of held n) was)))

  pub still-taken : children_of m ≡ children_of n → taken_in held (set ns place m) ≡ taken_in held ns
  still-taken children =
      let cells : cell_of held m ≡ cell_of held n = λ i. record { node = same i; children = children i } in
      let seen : seen_node held m ≡ seen_node held n = taken_is (state_of m) (cell_of held m) is ∙ (ap (λ (c : Cell). taken.Standing c) cells ∙ sym (taken_is (state_of n) (cell_of held n) was)) in
      ap (λ (xs : List Taken). taken.Blank ∷ xs) (same-file ns place n at (seen_node held) m seen)

-- ---- the node of a key of an octree

module _ {F : Type 0} (held : F → Option (List ℕ)) (octree : Octree F) (key : VoxelKey) where
  abbrev nodes_there : List (node.Node F)
  nodes_there = forest.nodes_of octree.forest

  pub has-slot : HasKey (nodes_of held octree) key → (k : ℕ) × (slot_of octree.slots.entries key ≡ Some k)
  has-slot has =
      key-slot held octree.rules (forest.used_of octree.forest) nodes_there octree.slots.entries (told-index held octree) key has

  module _ (slot : ℕ) (is : slot_of octree.slots.entries key ≡ Some slot) where
    pub there-low : (1 ≤ slot) × (slot ≤ length nodes_there)
    there-low =
        slot-low held octree.rules (forest.used_of octree.forest) nodes_there octree.slots.entries (told-index held octree) key slot is

    module _ (n : node.Node F) (value : slice_get nodes_there (slot - 1) ≡ Some n) where
      next : suc (slot - 1) ≡ slot
      next = omega (arith, there-low.0)

      pub there-at : At nodes_there (slot - 1) n
      there-at = slice-at nodes_there (slot - 1) n value

      pub there-named : state_of n ≡ states.Blank → ⊥
      there-named =
          walked-named held octree.rules (forest.used_of octree.forest) nodes_there octree.slots.entries (told-index held octree) key slot is (slot - 1) next n there-at

      pub there-has : (fact : grid.Node → Type 0) → fact (node_of held n) → IfNodeAt (nodes_of held octree) key fact
      there-has =
          walked held octree.rules (forest.used_of octree.forest) nodes_there octree.slots.entries (told-index held octree) key slot is (slot - 1) next n there-at

      pub there-back : (fact : grid.Node → Type 0) → IfNodeAt (nodes_of held octree) key fact → fact (node_of held n)
      there-back =
          walked-back held octree.rules (forest.used_of octree.forest) nodes_there octree.slots.entries (told-index held octree) key slot is (slot - 1) next n there-at

      -- it is put back, and shows what it showed
      module _ (m : node.Node F) (named_now : state_of m ≡ states.Blank → ⊥) (same : node_of held m ≡ node_of held n) where
        pub there-still : in_slots held (set nodes_there (slot - 1) m) ≡ in_slots held nodes_there
        there-still = still-in held nodes_there (slot - 1) n m there-at there-named named_now same

        pub there-taken : children_of m ≡ children_of n → taken_in held (set nodes_there (slot - 1) m) ≡ taken_in held nodes_there
        there-taken = still-taken held nodes_there (slot - 1) n m there-at there-named named_now same

        pub there-index : IsIndex octree.rules (forest.used_of octree.forest) (in_slots untold (set nodes_there (slot - 1) m)) octree.slots.entries
        there-index =
            index-any held untold octree.rules (forest.used_of octree.forest) (set nodes_there (slot - 1) m) octree.slots.entries
            (subst (λ (w : List (Option grid.Node)). IsIndex octree.rules (forest.used_of octree.forest) w octree.slots.entries) (sym there-still) (told-index held octree))
