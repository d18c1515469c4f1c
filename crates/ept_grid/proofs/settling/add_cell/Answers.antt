use Rattle.std.proofs.Common.{◌≡◌, ◌∙◌, ℕ, ◌+◌, ◌-◌, List, length, ap, arith}
use Rattle.std.proofs.Math.ListN.{set}
use Rattle.ept_grid.specs.declared.pool.Cell.{Cell}
use Rattle.ept_grid.specs.Columns.{nexts_of, nexts_with}
use Rattle.ept_grid.proofs.Winners.{winners-link, winners-push, nexts-link, nexts-push, nexts-behind}
use Rattle.ept_grid.proofs.settling.add_cell.Goals as goal

pub returns-else-gap-eq0-clause-winners : goal.returns-else-gap-eq0-clause-winners
returns-else-gap-eq0-clause-winners c =
    winners-link c.push_reserved.new.self.items (c.args.gap.below - 1) c.len-link.result c.index_mut-else-gap-eq0.result.now c.index_mut-else-gap-eq0.result.now.point (ap (λ (e : Cell). e.point) c.index_mut-else-gap-eq0.ensures.value) ∙ winners-push c.push_reserved.new.self.items c.args.cells.now.items (record { point = c.args.point; next = c.args.gap.above }) c.push_reserved.ensures.items

pub returns-else-gap-eq0-clause-links : goal.returns-else-gap-eq0-clause-links
returns-else-gap-eq0-clause-links c =
    let link : c.len-link.result ≡ length c.args.cells.now.items + 1 = omega arith in
    nexts-link c.push_reserved.new.self.items (c.args.gap.below - 1) c.len-link.result c.index_mut-else-gap-eq0.result.now.point ∙ ap (λ (v : List ℕ). set v (c.args.gap.below - 1) c.len-link.result) (nexts-push c.push_reserved.new.self.items c.args.cells.now.items (record { point = c.args.point; next = c.args.gap.above }) c.push_reserved.ensures.items) ∙ nexts-behind (nexts_of c.args.cells.now.items) c.args.gap.below c.args.gap.above c.len-link.result (omega arith) ∙ ap (λ n. nexts_with (nexts_of c.args.cells.now.items) c.args.gap.below c.args.gap.above n) link
