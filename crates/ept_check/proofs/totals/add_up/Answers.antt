use Rattle.std.proofs.Common.{◌≡◌, ◌≤◌, ◌<◌, ◌∙◌, ◌+◌, ◌-◌, ℕ, min, true, sym, ap, subst, arith, Bool}
use Rattle.std.specs.Prelude.{if◌then◌else◌}
use Rattle.ept_space.specs.VoxelKey.{VoxelKey, is_within, same_key, parent}
use Rattle.ept_space.proofs.Family.{depth-parent}
use Rattle.ept_space.proofs.Within.{is_within-self, is_within-parent, is_within-trans}
use Rattle.ept_check.specs.Walking.{total_at}
use Rattle.ept_check.proofs.Sums.{most, is_from, from-key, from-parent, from-root}
use Rattle.ept_check.proofs.totals.add_up.Goals as goal

pub loop-at-init : goal.loop-at-init
loop-at-init c = record {
  within = is_within-self c.args.key.now;
  totals = λ top. c.in_ok-add.ensures top ∙ ap (λ (b : Bool). min (total_at c.args.totals.now top + (if b then c.args.count else 0)) most) (from-key c.args.key.now top);
}

pub loop-at-smaller : goal.loop-at-smaller
loop-at-smaller c =
    let deep : 0 < c.loop-at.at.depth = subst (λ (k : VoxelKey). 0 < k.depth) c.at-in-loop-at.view_is c.loop-at-test.true in
    let up : c.parent-at.result.depth ≡ c.loop-at.at.depth - 1 = ap (λ (k : VoxelKey). k.depth) c.parent-at.ensures ∙ depth-parent c.loop-at.at in
    let less : c.parent-at.result.depth < c.loop-at.at.depth = omega (arith, deep, up) in
    less

pub loop-at-preserved : goal.loop-at-preserved
loop-at-preserved c =
    let at = c.loop-at.at in
    let key = c.args.key.now in
    let deep : 0 < c.loop-at.at.depth = subst (λ (k : VoxelKey). 0 < k.depth) c.at-in-loop-at.view_is c.loop-at-test.true in
    let both = subst (λ (k : VoxelKey). (is_within k key ≡ true) × ((top : VoxelKey) → total_at c.add-in-loop-at.new.totals top ≡ min (total_at c.args.totals.now top + (if is_from k key top then c.args.count else 0)) most)) (sym c.parent-at.ensures) (
      is_within-trans (parent at) at key (is_within-parent at deep) c.loop-at.invariant.within,
      λ top. from-parent at key top deep c.loop-at.invariant.within c.args.count (total_at c.args.totals.now top) (total_at c.loop-at.totals top) (total_at c.add-in-loop-at.new.totals top) (c.loop-at.invariant.totals top)
          (c.in_ok-add-2.ensures top ∙ ap (λ (k : VoxelKey). min (total_at c.loop-at.totals top + (if same_key top k then c.args.count else 0)) most) c.parent-at.ensures),
    ) in
    record { within = both.0; totals = both.1 }
