-- No node is lost.
use Rattle.std.proofs.Common.{◌≡◌, ◌∙◌, ℕ, suc, true, inl, List, [], ◌∷◌, map, refl, sym, ap, subst, Option}
use Rattle.ept_space.specs.VoxelKey.{VoxelKey}
use Rattle.ept_sample.specs.Members.{IsMember}
use Rattle.ept_sample.proofs.Members.{IsMember-map, member-map, IsMember-flat_map}
use Rattle.ept_scan.specs.declared.second_reading.Reader.{Reader}
use Rattle.ept_core.specs.State.{keys_of, has_node}
use Rattle.ept_core.proofs.NodeMap.{has_node-key, key-has_node}
use Rattle.ept_node.specs.declared.node.Node as node
use Rattle.ept_forest.specs.Slots as forest
use Rattle.ept_table.specs.declared.note.Told.{Told}
use Rattle.ept_table.specs.declared.taken.Cell.{Cell}
use Rattle.ept_table.specs.declared.taken.Taken.{Taken}
use Rattle.ept_table.specs.declared.taken.Taken.TheVariants as taken
use Rattle.ept_table.specs.At.{At}
use Rattle.ept_table.specs.Item.{seen_node, seen_reader}
use Rattle.ept_table.specs.Row.{row}
use Rattle.ept_table.specs.Tells.{IsLanded}
use Rattle.ept_table.specs.Octree.{Branch, entry_of, branch_of, key_in, KeepsNodes}
use Rattle.ept_table.specs.OctreeLaws.{LandedKeepsBegun}
use Rattle.ept_table.proofs.Lists.{at-member, member-at}
use Rattle.ept_octree.specs.declared.octree.Octree.{Octree}
use Rattle.ept_octree.specs.Octree.{forest_of, rules_of, nodes_of, begun_of}
use Rattle.ept_octree.specs.Index.{taken_in}
use Rattle.ept_octree.proofs.Alike.{told-index}
use Rattle.ept_octree.proofs.Rested.{row-is, never-blank, never-reading, index-standing}

entry_key : (nodes : List Branch) → keys_of (map entry_of nodes) ≡ map (λ (b : Branch). b.0) nodes
entry_key [] = refl
entry_key (b ∷ nodes) = ap (λ (keys : List VoxelKey). b.0 ∷ keys) (entry_key nodes)

module _ {F : Type 0} (held : F → Option (List ℕ)) where
  -- the key of a node is among the keys of the first nodes of the table
  begun_key : (octree : Octree F) (key : VoxelKey) → has_node (map entry_of (nodes_of held octree)) key ≡ true → IsMember key (begun_of held octree)
  begun_key octree key is =
      let ns = forest.nodes_of (forest_of octree) in
      let b = member-map (λ (b : Branch). b.0) key (nodes_of held octree) (subst (IsMember key) (entry_key (nodes_of held octree)) (has_node-key (map entry_of (nodes_of held octree)) key is)) in
      let at = (index-standing held ns taken.Blank never-blank (rules_of octree) (forest.used_of (forest_of octree)) octree.slots.entries (told-index held octree)).in_slot b.0 b.1 in
      let its : at.1.node.key ≡ key = ap (λ (w : Branch). w.0) at.3 ∙ b.2 in
      IsMember-flat_map key_in (taken.Standing at.1) key (taken_in held ns) (at-member (taken_in held ns) at.0 (taken.Standing at.1) at.2) (inl its)

  -- a node that is in a slot has its key
  standing_key : (octree : Octree F) {S : Type 0} (whole : S → Option (List ℕ)) (reader : Reader S) (k : ℕ) (c : Cell) → At (taken.Reading (seen_reader whole reader) ∷ map (seen_node held) (forest.nodes_of (forest_of octree))) k (taken.Standing c) → has_node (map entry_of (nodes_of held octree)) c.node.key ≡ true
  standing_key octree whole reader k c at =
      let ns = forest.nodes_of (forest_of octree) in
      let r = seen_reader whole reader in
      let m = (index-standing held ns (taken.Reading r) (never-reading r) (rules_of octree) (forest.used_of (forest_of octree)) octree.slots.entries (told-index held octree)).by_key k c at in
      key-has_node (map entry_of (nodes_of held octree)) c.node.key (subst (IsMember c.node.key) (sym (entry_key (nodes_of held octree))) (IsMember-map (λ (b : Branch). b.0) (branch_of c) (nodes_of held octree) m))

pub nodes-kept : {F S : Type 0} → LandedKeepsBegun → (held : F → Option (List ℕ)) (told : Told) (whole : S → Option (List ℕ)) (reader : Reader S) (used : ℕ) (ns : List (node.Node F)) (old new : Octree F) → IsLanded told used (row held whole reader ns) → forest.nodes_of (forest_of new) ≡ ns → told.begun ≡ begun_of held old → KeepsNodes (map entry_of (nodes_of held old)) (map entry_of (nodes_of held new))
nodes-kept {F} law held told whole reader used ns old new landed same begun key is =
    let now : IsLanded told used (row held whole reader (forest.nodes_of (forest_of new))) = subst (λ (w : List (node.Node F)). IsLanded told used (row held whole reader w)) (sym same) landed in
    let lying = subst (λ (items : List Taken). IsLanded told used items) (row-is held whole reader (forest.nodes_of (forest_of new))) now in
    let i = member-at told.begun key (subst (IsMember key) (sym begun) (begun_key held old key is)) in
    let at = law told used _ i.0 key lying i.1 in
    subst (λ (k : VoxelKey). has_node (map entry_of (nodes_of held new)) k ≡ true) at.2 (standing_key held new whole reader (suc i.0) at.0 at.1)
