use Rattle.std.proofs.Common.{◌≡◌, ◌∙◌, ◌<◌, ◌-◌, cond, ◌||◌, true, ap, sym, subst, arith}
use Rattle.std.specs.BTreeMap.{is_at}
use Rattle.std.specs.BTreeSet.{contains}
use Rattle.ept_space.specs.VoxelKey.{VoxelKey, key_cmp, parent, is_within}
use Rattle.ept_space.proofs.Family.{depth-parent}
use Rattle.ept_space.proofs.Within.{is_within-self, is_within-parent, is_within-trans}
use Rattle.ept_octree_ckpt.proofs.Above.{is_from, noted-key, noted-parent}
use Rattle.ept_octree_ckpt.proofs.still.note.Goals as goal

pub loop-at-init : goal.loop-at-init
loop-at-init c = record {
  within = is_within-self c.args.key.now;
  noted = λ top. noted-key c.args.key.now top (contains key_cmp c.args.grown.now top) (contains key_cmp c.insert.new.self top) (c.in_ok-insert.ensures.updates.0 top);
}

pub loop-at-smaller : goal.loop-at-smaller
loop-at-smaller c =
    let deep : 0 < c.loop-at.at.depth = subst (λ (k : VoxelKey). 0 < k.depth) c.at.view_is c.loop-at-test.true in
    let up : c.parent-at.result.depth ≡ c.loop-at.at.depth - 1 = ap (λ (k : VoxelKey). k.depth) c.parent-at.ensures ∙ depth-parent c.loop-at.at in
    let less : c.parent-at.result.depth < c.loop-at.at.depth = omega (arith, deep, up) in
    less

pub loop-at-preserved : goal.loop-at-preserved
loop-at-preserved c =
    let at = c.loop-at.at in
    let key = c.args.key.now in
    let deep : 0 < c.loop-at.at.depth = subst (λ (k : VoxelKey). 0 < k.depth) c.at.view_is c.loop-at-test.true in
    record {
      within = subst (λ (k : VoxelKey). is_within k key ≡ true) (sym c.parent-at.ensures) (is_within-trans (parent at) at key (is_within-parent at deep) c.loop-at.invariant.within);
      noted = λ top.
          subst (λ (k : VoxelKey). contains key_cmp c.insert-in-loop-at.new.self top ≡ (contains key_cmp c.args.grown.now top || is_from k key top)) (sym c.parent-at.ensures)
          (noted-parent at key top deep c.loop-at.invariant.within (contains key_cmp c.args.grown.now top) (contains key_cmp c.loop-at.grown top) (contains key_cmp c.insert-in-loop-at.new.self top) (c.loop-at.invariant.noted top)
          (c.in_ok-insert-2.ensures.updates.0 top ∙ ap (λ (k : VoxelKey). cond (is_at (key_cmp k) top) true (contains key_cmp c.loop-at.grown top)) c.parent-at.ensures));
    }
