use Rattle.std.proofs.Common.{◌≡◌, ◌∙◌, ◌≤◌, length, ap, subst, sym, arith}
use Rattle.ept_grid.specs.declared.pool.Cell.{Cell}
use Rattle.ept_grid.specs.declared.spot.Spot.{Spot}
use Rattle.ept_grid.specs.Settling.{winners}
use Rattle.ept_grid.specs.Columns.{spot, spots_of, StandsAt, NamesAt}
use Rattle.ept_grid.proofs.Winners.{length-spots, shown-spot, shown-stands}
use Rattle.ept_grid.proofs.lookup.winner_at.Goals as goal

pub returns-then-is_at : goal.returns-then-is_at
returns-then-is_at c =
    let rules = c.args.rules.now in
    let depth = c.args.depth in
    let cells = c.args.cells.now in
    let s = spot rules depth c.args.point.now in
    let link = c.gap_at-gap.result.above in
    let leads = c.gap_at-gap.ensures.way.leads in
    let names : NamesAt (spots_of rules depth cells) c.spot_of-spot.result.level link = c.if-is_at.ensures.at in
    let reach = leads.there in
    let within : link ≤ length cells = omega (arith, reach, length-spots rules depth cells) in
    let is_spot = c.spot_of-spot.ensures.spot in
    let cell = c.index-cells-gap.result in
    let level : (spot rules depth cell.point).level ≡ s.level = sym (ap (λ (t : Spot). t.level) (shown-spot rules depth cells link cell names.some within c.index-cells-gap.is)) ∙ names.at ∙ ap (λ (t : Spot). t.level) is_spot in
    let stands = shown-stands rules depth cells link cell s names.some within c.index-cells-gap.is (leads.of_column names.some ∙ ap (λ (t : Spot). t.column) is_spot) level in
    subst (λ (e : Cell). StandsAt rules depth (winners cells) s e.point) c.index-cells-gap.is stands
