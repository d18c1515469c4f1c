use Rattle.std.proofs.Common.{◌+◌, ◌≤◌, List, subst, arith}
use Rattle.std.specs.Prelude.{slice_index, MatchOption}
use Rattle.ept_grid.specs.declared.pool.Cell.{Cell}
use Rattle.ept_grid.specs.Node.{Node}
use Rattle.ept_grid.specs.Settling.{winners}
use Rattle.ept_grid.specs.Winner.{NoneIn, IsBestIn, WinsIn, column_cells}
use Rattle.ept_grid.proofs.WinnerLaws.{found-best, column_cells-more}
use Rattle.ept_grid.proofs.grid.Grid.winner.Goals as goal

pub returns-clause-best : goal.returns-clause-best
returns-clause-best g c =
    let me = c.self.inside in
    let cell = c.args.cell in
    let found = c.winner_of.result in
    let won = subst (λ (cs : List Cell). MatchOption found (NoneIn me.rules me.key.depth cell (winners cs)) (WinsIn me.rules me.key.depth cell (winners cs))) c.as_slice-2.ensures.value c.winner_of.ensures.found in
    subst (λ (v : Node). MatchOption found (NoneIn v.rules v.key.depth cell v.points) (IsBestIn v.rules v.key.depth cell v.points)) c.self.view_is (found-best me.rules me.key.depth cell (winners me.cells.items) me.losers found c.self.invariant.settled won)

pub returns-clause-cost : goal.returns-clause-cost
returns-clause-cost g c =
    let me = c.self.inside in
    let x = slice_index c.args.cell 0 in
    let y = slice_index c.args.cell 1 in
    let cost = subst (λ (cs : List Cell). c.winner_of.new.steps ≤ c.args.steps.now + column_cells me.rules me.key (winners cs) x y) c.as_slice-2.ensures.value c.winner_of.ensures.cost in
    let more = column_cells-more me.rules me.key (winners me.cells.items) me.losers x y in
    subst (λ (v : Node). c.winner_of.new.steps ≤ c.args.steps.now + column_cells v.rules v.key v.points x y) c.self.view_is (omega (arith, cost, more))
