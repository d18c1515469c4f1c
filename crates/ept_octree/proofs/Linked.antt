-- The slots of the children.
use Rattle.std.proofs.Common.{◌≡◌, ◌∙◌, ℕ, zero, suc, ◌+◌, ◌<◌, ◌≤◌, Bool, true, cond, inl, inr, List, map, length, set, slice_index, sym, ap, subst, arith, Option, Some, None}
use Rattle.std.specs.Prelude.{is_some, slice_set}
use Rattle.std.proofs.lemmas.Bool.{false≢true}
use Rattle.std.proofs.lemmas.List.{get_or-set_other}
use Rattle.ept_base.specs.Files.{Tells}
use Rattle.ept_space.specs.declared.cube.Rules.{Rules}
use Rattle.ept_space.specs.VoxelKey.{VoxelKey, child}
use Rattle.ept_space.specs.OctreeCube.{IsCube}
use Rattle.ept_core.specs.declared.node.Node as core
use Rattle.ept_core.specs.State.{node_at, has_open}
use Rattle.ept_grid.specs.Node as grid
use Rattle.ept_grid.specs.Node.{is_open_in}
use Rattle.ept_node.specs.declared.node.Node as node
use Rattle.ept_node.specs.declared.state.NodeState.{NodeState}
use Rattle.ept_node.specs.Shown.{node_of, state_of, file_of, fault_of, IsTileOf, AgreesWithFile}
use Rattle.ept_node.proofs.Bridges.{seen-stands}
use Rattle.ept_table.specs.declared.taken.Cell.{Cell}
use Rattle.ept_table.specs.declared.taken.Taken.TheVariants as taken
use Rattle.ept_table.specs.At.{At}
use Rattle.ept_table.specs.Item.{cell_of, seen_node}
use Rattle.ept_table.specs.Taken.{slot_at}
use Rattle.ept_table.specs.Octree.{entry_of, AreWhole, AreLinked, AreStanding}
use Rattle.ept_table.proofs.Lists.{at-head, at-rest, set-at}
use Rattle.ept_table.proofs.Glue.{map-at}
use Rattle.ept_table.proofs.ByKey.{found-there, stands-there}
use Rattle.ept_octree.specs.Index.{Site, named, in_slot, in_slots, taken_in, branches, slot_of, node_in, IsIndex}
use Rattle.ept_octree.specs.Linking.{or_zero, child_slot, HasChildren, MayLink, MayAllLink, HaveChildren}
use Rattle.ept_octree.proofs.Sites.{some-seen}
use Rattle.ept_octree.proofs.Placing.{its-node, length-in}
use Rattle.ept_octree.proofs.Rested.{never-blank, standing-there, index-standing, seen-as}

-- ---- a child's slot that is written

pub other-child : (cs : List ℕ) (o p v : ℕ) → (p ≡ o → ⊥) → slice_index (slice_set cs o v) p ≡ slice_index cs p
other-child cs o p v apart = get_or-set_other cs o p v 0 apart

-- ---- before and after

module _ {F : Type 0} (held : F → Option (List ℕ)) (rules : Rules) (used : ℕ) (ns : List (node.Node F)) (sites : List Site) (index : IsIndex rules used (in_slots held ns) sites) where
  pub used-low : used ≤ length ns
  used-low = omega (arith, index.low, length-in held ns)

  pub may-link : IsCube rules.cube → MayAllLink held ns used
  may-link cube k n at low =
      let g = its-node held rules used ns sites index k n at low in
      let sound = index.sound (suc k) g.0 g.1 in
      record {
        state = g.2;
        above = λ o small is. (
            let deep : g.0.key.depth < rules.cube.depth = sound.deepest o small (ap (λ (h : grid.Node). is_open_in h o) (sym g.3) ∙ is) in
            let same : (node_of held n).key.depth ≡ g.0.key.depth = ap (λ (h : grid.Node). h.key.depth) g.3 in
            omega (arith, deep, same, cube.cells_whole, cube.side_high, cube.span_low));
      }

  module _ (whole : AreWhole (map entry_of (branches (in_slots held ns) sites))) (children : HaveChildren held sites ns used) where
    standing : AreStanding (taken_in held ns) (branches (in_slots held ns) sites)
    standing = index-standing held ns taken.Blank never-blank rules used sites index

    listed : (k : ℕ) (c : Cell) → At (taken_in held ns) k (taken.Standing c) → (slot_of sites c.node.key ≡ Some k) × (k ≤ used)
    listed k c a =
        let t = standing-there held ns taken.Blank never-blank k c a in
        let low : k ≤ used = not_above k (λ far. false≢true (sym (index.blank k far) ∙ ap (λ (x : Option grid.Node). is_some x) t.0)) in
        (index.are.listed c.node.key k t.1 low (some-seen (node_in (in_slots held ns) k) c.node t.0), low)
      where
        not_above : (k : ℕ) → (used < k → ⊥) → k ≤ used
        not_above k never = omega (arith, never)

    its_slots : (k : ℕ) (c : Cell) (o : ℕ) → At (taken_in held ns) k (taken.Standing c) → o < 8 → slot_at (taken.Standing c) o ≡ child_slot sites c.node o
    its_slots zero c o a low = absurd (never-blank c (at-head a))
    its_slots (suc k) c o a low =
        let n = map-at (seen_node held) ns k (taken.Standing c) (at-rest taken.Blank (map (seen_node held) ns) k (taken.Standing c) a) in
        let is = (seen-as (state_of n.0) (cell_of held n.0) c n.2).1 in
        let within = (listed (suc k) c a).1 in
        subst (λ (d : Cell). slice_index d.children o ≡ child_slot sites d.node o) is (children k n.0 n.1 (omega (arith, within)) o low)

    pub all-linked : AreLinked (taken_in held ns)
    all-linked = record {
      child_slot = λ k c o a low is. (
          let entries = map entry_of (branches (in_slots held ns) sites) in
          let found = (found-there (taken_in held ns) (branches (in_slots held ns) sites) standing k c a).1 in
          let open_there : has_open (node_at entries c.node.key) o ≡ true = ap (λ (n : core.Node). has_open n o) found ∙ ((seen-stands c.node).opens o low ∙ is) in
          let d = stands-there (taken_in held ns) (branches (in_slots held ns) sites) standing (child c.node.key o) (whole.open_leads c.node.key o low open_there) in
          let slot : slot_of sites (child c.node.key o) ≡ Some d.0 = ap (λ (key : VoxelKey). slot_of sites key) (sym d.3) ∙ (listed d.0 d.1 d.2).0 in
          let its : slot_at (taken.Standing c) o ≡ d.0 = its_slots k c o a low ∙ (ap (λ (b : Bool). cond b (or_zero (slot_of sites (child c.node.key o))) 0) is ∙ ap or_zero slot) in
          (d.1, subst (λ (j : ℕ). At (taken_in held ns) j (taken.Standing d.1)) (sym its) d.2, d.3));
      none = λ k c o a low is. its_slots k c o a low ∙ ap (λ (b : Bool). cond b (or_zero (slot_of sites (child c.node.key o))) 0) is;
    }

-- ---- one node more

module _ {F : Type 0} (held : F → Option (List ℕ)) (ns : List (node.Node F)) (p : ℕ) (n : node.Node F) (at : At ns p n) (m : node.Node F) (state : state_of m ≡ state_of n) (same_node : node_of held m ≡ node_of held n) where
  pub same-slot : in_slot held m ≡ in_slot held n
  same-slot =
      ap (λ (s : NodeState). named s (node_of held m)) state ∙ ap (λ (g : grid.Node). named (state_of n) g) same_node

  -- what is known of the other nodes, and of this one
  each_of : (P : ℕ → node.Node F → Type 0) → P p m → ((k : ℕ) (x : node.Node F) → At ns k x → (k ≡ p → ⊥) → P k x) → (k : ℕ) (x : node.Node F) → At (set ns p m) k x → P k x
  each_of P mine others k x a =
      elim (set-at ns p m a) [
        | inl s ↦ subst (λ (j : ℕ). P j x) (sym s.0) (subst (λ (y : node.Node F). P p y) s.1 mine)
        | inr o ↦ others k x o.1 o.0
      ]

  pub step-may : (used : ℕ) → MayAllLink held ns used → MayAllLink held (set ns p m) used
  step-may used may =
      each_of (λ k x. k < used → MayLink held x) (λ low. let l = may p n at low in record { state = λ e. l.state (sym state ∙ e); above = subst (λ (g : grid.Node). (o : ℕ) → o < 8 → is_open_in g o ≡ true → g.key.depth < 31) (sym same_node) l.above }) (λ k x a apart. may k x a)

  pub step-children : (sites : List Site) (q : ℕ) → p ≡ q → HaveChildren held sites ns q → HasChildren held sites m → HaveChildren held sites (set ns p m) (q + 1)
  step-children sites q same before mine =
      each_of (λ k x. k < q + 1 → HasChildren held sites x) (λ low. mine) (λ k x a apart low. before k x a (omega (arith, low, same, apart)))

  -- a node that is not broken agrees with its file as before
  pub step-agrees : (faults keeps : F → ℕ) → file_of m ≡ file_of n → fault_of m ≡ None → AgreesWithFile held faults keeps n → AgreesWithFile held faults keeps m
  step-agrees faults keeps file sound agrees = record {
    filed = λ away. (
        let was : Tells (IsTileOf (node_of held n)) (held (file_of n)) = agrees.filed (sym state ∙ away) in
        subst (λ (g : grid.Node). Tells (IsTileOf g) (held (file_of m))) (sym same_node) (subst (λ (f : F). Tells (IsTileOf (node_of held n)) (held f)) (sym file) was));
    kept = λ away. subst (λ (f : F). 0 < keeps f) (sym file) (agrees.kept (sym state ∙ away));
    failed = λ e. absurd (let both = sym e ∙ sound in cc);
  }
