use Rattle.std.proofs.Common.{◌≡◌, ◌+◌, ◌≤◌, ap, subst, arith, get_or}
use Rattle.std.specs.Prelude.{slice_index}
use Rattle.ept_space.proofs.PlaceKeys.{InCube-box}
use Rattle.ept_sample.specs.Place.{place}
use Rattle.ept_grid.specs.declared.spot.Spot.{Spot}
use Rattle.ept_grid.specs.Settling.{winners}
use Rattle.ept_grid.specs.Columns.{spots_of, column_of, in_column}
use Rattle.ept_grid.proofs.ColumnCells.{spot_at, found-in, column-cells}
use Rattle.ept_grid.proofs.seeking.winner_of.Goals as goal

pub seek-requires-clause-inside : goal.seek-requires-clause-inside
seek-requires-clause-inside g c =
    λ k d within. InCube-box c.args.rules.now.cube c.args.key.now (place (get_or (winners c.args.cells.now) k d)) c.known.ensures (omega (arith, c.requires.low, c.known-2.ensures.cells_whole)) (c.requires.inside k d within)

pub returns-clause-found : goal.returns-clause-found
returns-clause-found g c =
    let is : c.key.inside.depth ≡ c.args.key.now.depth = ap (λ v. v.depth) c.key.view_is in
    let stands : ◌≡◌ {A = Spot} (record { column = c.column_of.result; level = slice_index c.args.cell 2 }) (spot_at c.args.rules.now c.args.cell) = ap (λ n. let s : Spot = record { column = n; level = slice_index c.args.cell 2 } in s) c.column_of.ensures.value in
    found-in c.args.rules.now c.args.key.now c.key.inside.depth (winners c.args.cells.now) c.args.cell _ c.seek.result is stands (omega (arith, c.requires.low, c.known-2.ensures.cells_whole)) c.requires.inside c.requires.of_box c.seek.ensures.found

pub returns-clause-cost : goal.returns-clause-cost
returns-clause-cost g c =
    let is : c.key.inside.depth ≡ c.args.key.now.depth = ap (λ v. v.depth) c.key.view_is in
    let all = column-cells c.args.rules.now c.args.key.now (winners c.args.cells.now) c.args.cell (omega (arith, c.requires.low, c.known-2.ensures.cells_whole)) c.requires.inside c.requires.of_box c.requires.chained.apart in
    let cost : c.seek.new.steps ≤ c.args.steps.now + in_column (spots_of c.args.rules.now c.args.key.now.depth c.args.cells.now) (column_of c.args.rules.now.cube (slice_index c.args.cell 0) (slice_index c.args.cell 1)) = subst (λ n. c.seek.new.steps ≤ c.args.steps.now + in_column (spots_of c.args.rules.now c.args.key.now.depth c.args.cells.now) n) c.column_of.ensures.value (subst (λ d. c.seek.new.steps ≤ c.args.steps.now + in_column (spots_of c.args.rules.now d c.args.cells.now) c.column_of.result) is c.seek.ensures.cost) in
    omega (arith, all, cost)
