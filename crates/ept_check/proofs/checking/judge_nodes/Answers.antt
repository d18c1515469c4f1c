use Rattle.std.proofs.Common.{◌≡◌, ◌≤◌, ◌-◌, ◌^◌, ℕ, List, length, ap, subst, arith, min}
use Rattle.std.specs.List.{All}
use Rattle.std.specs.BTreeSet.{contains}
use Rattle.std.proofs.lemmas.List.Sorted.{length_permutation}
use Rattle.ept_space.specs.VoxelKey.{VoxelKey, IsKey, key_cmp}
use Rattle.ept_hier.specs.Hierarchy.{Node, keys_of}
use Rattle.ept_fit.specs.Fit.{is_among}
use Rattle.ept_check.specs.Nodes.{counted_within}
use Rattle.ept_check.specs.Walking.{total_at}
use Rattle.ept_check.proofs.Sets.{octree-keys}
use Rattle.ept_check.proofs.checking.judge_nodes.Goals as goal

pub walk-requires-clause-sound : goal.walk-requires-clause-sound
walk-requires-clause-sound g c =
    let nodes = c.args.all.nodes.items in
    record {
      cube = c.known.ensures;
      threshold_fits = (let most = c.requires.threshold in omega (arith, most));
      in_octree = octree-keys c.args.all.rules nodes (subst (λ (w : List Node). All IsKey (keys_of w)) c.deref.ensures.value c.in_ok-keys.ensures.are_keys) c.requires.shallow;
      keys_are = subst (λ (w : List Node). (key : VoxelKey) → contains key_cmp c.in_ok-keys.keys key ≡ is_among (keys_of w) key) c.deref.ensures.value c.in_ok-keys.ensures.keys;
      totals_are = subst (λ (w : List Node). (top : VoxelKey) → total_at c.in_ok-totals.totals top ≡ min (counted_within w top) (2 ^ 64 - 1)) c.deref-3.ensures.value c.in_ok-totals.ensures;
    }

pub returns-clause-gets : goal.returns-clause-gets
returns-clause-gets g c =
    let most = c.walk.ensures.gets in
    let order : length c.deref-5.result.now ≡ length c.in_ok-order.order.items = ap (λ (w : List Node). length w) c.deref-5.ensures.value in
    let same = length_permutation c.deref-4.result.now c.in_ok-order.order.items c.in_ok-order.ensures.each in
    let nodes : length c.deref-4.result.now ≡ length c.args.all.nodes.items = ap (λ (w : List Node). length w) c.deref-4.ensures.value in
    omega (arith, most, order, same, nodes)
