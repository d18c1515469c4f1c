use Rattle.std.proofs.Common.{◌≡◌, ◌<◌, ◌-◌, List, length, subst, arith}
use Rattle.ept_grid.specs.declared.pool.Cell.{Cell}
use Rattle.ept_grid.specs.declared.spot.Spot.{Spot}
use Rattle.ept_grid.specs.Settling.{winners}
use Rattle.ept_grid.specs.Columns.{spots_of, level_at, IsCut, IsAlone}
use Rattle.ept_grid.proofs.Chains.{alone-at-cut}
use Rattle.ept_grid.proofs.Contending.{alone-cell, chained-added}
use Rattle.ept_grid.proofs.settling.settle_at.Goals as goal

pub returns-clause-settled : goal.returns-clause-settled
returns-clause-settled c =
    let spots = spots_of c.args.rules.now c.args.depth c.args.cells.now.items in
    let s = c.spot_of-spot.result in
    let gap = c.gap_at-gap.result in
    let cut : IsCut spots s.column s.level gap.below gap.above = subst (λ (v : List Cell). IsCut (spots_of c.args.rules.now c.args.depth v) s.column s.level gap.below gap.above) c.as_slice-2.ensures.value c.gap_at-gap.ensures in
    let other : 0 < gap.above → ¬ (level_at spots (gap.above - 1) ≡ s.level) = subst (λ (v : List Cell). 0 < gap.above → ¬ (level_at (spots_of c.args.rules.now c.args.depth v) (gap.above - 1) ≡ s.level)) c.as_slice-3.ensures.value c.if-is_at.ensures.not_at in
    let alone : IsAlone spots s = alone-at-cut spots s gap.below gap.above cut other in
    record {
      alone = alone-cell c.args.rules.now c.args.depth c.args.point (winners c.args.cells.now.items) (subst (λ (t : Spot). IsAlone spots t) c.spot_of-spot.ensures.spot alone);
      grows = c.add_cell.ensures.winners;
    }

pub returns-clause-chained : goal.returns-clause-chained
returns-clause-chained c =
    let spots = spots_of c.args.rules.now c.args.depth c.args.cells.now.items in
    let s = c.spot_of-spot.result in
    let gap = c.gap_at-gap.result in
    let cut : IsCut spots s.column s.level gap.below gap.above = subst (λ (v : List Cell). IsCut (spots_of c.args.rules.now c.args.depth v) s.column s.level gap.below gap.above) c.as_slice-2.ensures.value c.gap_at-gap.ensures in
    let other : 0 < gap.above → ¬ (level_at spots (gap.above - 1) ≡ s.level) = subst (λ (v : List Cell). 0 < gap.above → ¬ (level_at (spots_of c.args.rules.now c.args.depth v) (gap.above - 1) ≡ s.level)) c.as_slice-3.ensures.value c.if-is_at.ensures.not_at in
    let alone : IsAlone spots s = alone-at-cut spots s gap.below gap.above cut other in
    let low : s.column < length c.args.heads.now.items = omega arith in
    chained-added c.args.rules.now c.args.depth c.args.heads.now.items c.add_cell.new.heads.items c.args.cells.now.items c.add_cell.new.cells.items s c.args.point gap.below gap.above c.requires.chained c.spot_of-spot.ensures.spot low cut alone c.add_cell.ensures.winners c.add_cell.ensures.heads c.add_cell.ensures.links
