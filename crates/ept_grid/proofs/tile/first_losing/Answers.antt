use Rattle.std.proofs.Common.{◌≡◌, ◌∙◌, true, not, ap, sym, subst, arith}
use Rattle.std.specs.List.{list_any}
use Rattle.ept_point.specs.declared.point.Point.{Point}
use Rattle.ept_sample.specs.Arrivals.{octant}
use Rattle.ept_sample.specs.Ids.{same_id}
use Rattle.ept_grid.specs.Mask.{opened}
use Rattle.ept_grid.specs.Settling.{winners, is_open_stranger}
use Rattle.ept_grid.proofs.Lookups.{position-at, position-none, each-fails, both-true}
use Rattle.ept_grid.proofs.tile.first_losing.Goals as goal

pub returns-then-is_no_winner : goal.returns-then-is_no_winner
returns-then-is_no_winner c =
    let rules = c.args.rules.now in
    let test = is_open_stranger rules c.args.depth c.args.mask (winners c.args.cells.now) in
    let q = c.index-points-at.result in
    let is_open : opened c.args.mask (octant rules c.args.depth q) ≡ true = ap (opened c.args.mask) (sym c.octant_of.ensures.value) ∙ sym c.is_open.ensures ∙ c.if-is_open.true in
    let strange : not (list_any (same_id q) (winners c.args.cells.now)) ≡ true = sym c.is_no_winner.ensures ∙ c.if-is_no_winner.true in
    position-at test c.args.points.now c.loop-at.at c.index-points-at.result (omega arith) (subst (λ (p : Point). test p ≡ true) c.index-points-at.is (both-true (opened c.args.mask (octant rules c.args.depth q)) (not (list_any (same_id q) (winners c.args.cells.now))) is_open strange)) (λ k low. c.loop-at.invariant k c.index-points-at.result low)

pub returns : goal.returns
returns c =
    let test = is_open_stranger c.args.rules.now c.args.depth c.args.mask (winners c.args.cells.now) in
    position-none test c.args.points.now (λ p m. each-fails test c.args.points.now p (λ k d low. c.loop-at.invariant k d (omega arith)) m)
