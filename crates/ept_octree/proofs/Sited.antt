-- The slots of keys, one after another.
use Rattle.std.proofs.Common.{◌≡◌, ◌∙◌, ℕ, suc, ◌<◌, cond, List, map, length, get_or, sym, ap, subst, arith, Option, Some, None}
use Rattle.std.specs.BTreeMap.{is_at, insert_entry}
use Rattle.ept_space.specs.VoxelKey.{VoxelKey, key_cmp, AreAscending}
use Rattle.ept_grid.specs.Node as grid
use Rattle.ept_node.specs.declared.node.Node as node
use Rattle.ept_node.specs.declared.state.NodeState.TheVariants as states
use Rattle.ept_node.specs.Shown.{node_of, state_of}
use Rattle.ept_table.specs.At.{At}
use Rattle.ept_table.proofs.Lists.{below-at, at-get}
use Rattle.ept_octree.specs.Index.{Site, in_slots, slot_of, node_in, AreSites}
use Rattle.ept_octree.specs.Resting.{StandApart}
use Rattle.ept_octree.proofs.Sites.{seen-some, next-site}
use Rattle.ept_octree.proofs.Placing.{its-slot, named-some, some-is, none-or}

module _ {F : Type 0} (held : F → Option (List ℕ)) (used : ℕ) (ns : List (node.Node F)) (apart : StandApart used (in_slots held ns)) (place : ℕ) (low : place < used) (n : node.Node F) (at : At ns place n) where
  there : (g : grid.Node) × (node_in (in_slots held ns) (suc place) ≡ Some g)
  there = some-is (node_in (in_slots held ns) (suc place)) (apart.filled (suc place) (omega arith) (omega (arith, low)))

  shown : (state_of n ≡ states.Blank → ⊥) × (node_of held n ≡ there.0)
  shown = named-some (state_of n) (node_of held n) there.0 (sym (its-slot held ns place n at) ∙ there.1)

  pub not-blank : state_of n ≡ states.Blank → ⊥
  not-blank = shown.0

  module _ (sites after : List Site) (s : AreSites place (in_slots held ns) sites) where
    free : slot_of sites there.0.key ≡ None
    free = none-or (slot_of sites there.0.key) (λ k is. (
        let r = s.stands there.0.key k is in
        let h = seen-some (node_in (in_slots held ns) k) there.0.key r.0 in
        let same : k ≡ suc place = apart.apart k (suc place) h.0 there.0 h.1 there.1 h.2 in
        omega (arith, same, r.2)))

    module _ (key : VoxelKey) (its : key ≡ (node_of held n).key) (slot : ℕ) (next : slot ≡ suc place) (put : after ≡ insert_entry key_cmp sites key slot) (finds : (q : VoxelKey) → slot_of after q ≡ cond (is_at (key_cmp key) q) (Some slot) (slot_of sites q)) (ascend : AreAscending (map (λ (s : Site). s.0) after)) where
      key_is : key ≡ there.0.key
      key_is = its ∙ ap (λ (g : grid.Node). g.key) shown.1

      pub one-more-site : AreSites (suc place) (in_slots held ns) after
      one-more-site =
          next-site place (in_slots held ns) sites after there.0 s there.1 (omega (arith, low, apart.low)) free (put ∙ (ap (λ (k : VoxelKey). insert_entry key_cmp sites k slot) key_is ∙ ap (λ (k : ℕ). insert_entry key_cmp sites there.0.key k) next)) (λ q. finds q ∙ (ap (λ (k : VoxelKey). cond (is_at (key_cmp k) q) (Some slot) (slot_of sites q)) key_is ∙ ap (λ (k : ℕ). cond (is_at (key_cmp there.0.key) q) (Some k) (slot_of sites q)) next)) ascend

pub index-at : {X : Type 0} (xs : List X) (k : ℕ) (x : X) → k < length xs → x ≡ get_or xs k x → At xs k x
index-at {X} xs k x low is =
    let b = below-at xs k low in subst (λ (y : X). At xs k y) (sym (is ∙ at-get x b.1)) b.1
