use Rattle.std.proofs.Common.{◌∙◌, ap, sym, subst, arith, take, vec_capacity}
use Rattle.ept_point.specs.declared.point.Point.{Point}
use Rattle.ept_space.specs.VoxelKey.{VoxelKey}
use Rattle.ept_space.specs.OctreeCube.{InBox}
use Rattle.ept_space.proofs.PlaceKeys.{InCube-box}
use Rattle.ept_sample.specs.Place.{place}
use Rattle.ept_sample.specs.Arrivals.{octant}
use Rattle.ept_grid.specs.Settling.{winners}
use Rattle.ept_grid.specs.Contents.{IsFilled}
use Rattle.ept_grid.proofs.Keeping.{loser-in-box}
use Rattle.ept_grid.proofs.Filled.{filled-own, filled-lost, filled-inside, filled-table, filled-wider}
use Rattle.ept_grid.proofs.tile.fill.Goals as goal

pub make_cells-requires-clause-table : goal.make_cells-requires-clause-table
make_cells-requires-clause-table c = c.requires.filled.table

pub make_cells-requires-clause-some : goal.make_cells-requires-clause-some
make_cells-requires-clause-some c = c.requires.filled.some

pub settle-requires-clause-all_inside : goal.settle-requires-clause-all_inside
settle-requires-clause-all_inside c =
    let wider : IsFilled c.args.key.now c.args.rules.now c.make_cells.new.heads.items c.make_cells.new.cells.items (vec_capacity c.make_cells.new.cells) c.args.kept.now.losers (take c.args.at c.args.points.now) = filled-wider c.args.key.now c.args.rules.now c.args.kept.now.heads.items c.make_cells.new.heads.items c.args.kept.now.cells.items c.make_cells.new.cells.items (vec_capacity c.args.kept.now.cells) (vec_capacity c.make_cells.new.cells) c.args.kept.now.losers (take c.args.at c.args.points.now) c.make_cells.ensures.table c.make_cells.ensures.some (c.make_cells.ensures.chained c.args.key.now.depth) c.make_cells.ensures.cells c.requires.filled in
    filled-inside c.args.key.now c.args.rules.now c.make_cells.new.heads.items c.make_cells.new.cells.items (vec_capacity c.make_cells.new.cells) c.args.kept.now.losers c.args.points.now c.args.at wider c.requires.inside

pub settle-requires-clause-table : goal.settle-requires-clause-table
settle-requires-clause-table c =
    let wider : IsFilled c.args.key.now c.args.rules.now c.make_cells.new.heads.items c.make_cells.new.cells.items (vec_capacity c.make_cells.new.cells) c.args.kept.now.losers (take c.args.at c.args.points.now) = filled-wider c.args.key.now c.args.rules.now c.args.kept.now.heads.items c.make_cells.new.heads.items c.args.kept.now.cells.items c.make_cells.new.cells.items (vec_capacity c.args.kept.now.cells) (vec_capacity c.make_cells.new.cells) c.args.kept.now.losers (take c.args.at c.args.points.now) c.make_cells.ensures.table c.make_cells.ensures.some (c.make_cells.ensures.chained c.args.key.now.depth) c.make_cells.ensures.cells c.requires.filled in
    filled-table c.args.key.now c.args.rules.now c.make_cells.new.heads.items c.make_cells.new.cells.items (vec_capacity c.make_cells.new.cells) c.args.kept.now.losers _ wider (omega (arith, c.in_ok-make_cells.ensures.room))

pub settle-requires-clause-chained : goal.settle-requires-clause-chained
settle-requires-clause-chained c = c.make_cells.ensures.chained c.args.key.now.depth c.requires.filled.chained

pub settle-requires-clause-room : goal.settle-requires-clause-room
settle-requires-clause-room c = omega (arith, c.in_ok-make_cells.ensures.room, c.make_cells.new.cells.ok.0)

pub settle-requires-clause-few : goal.settle-requires-clause-few
settle-requires-clause-few c = omega (arith, c.in_ok-make_cells.ensures.room)

pub octant_of-octant-requires-clause-inside : goal.octant_of-octant-requires-clause-inside
octant_of-octant-requires-clause-inside c =
    let wider : IsFilled c.args.key.now c.args.rules.now c.make_cells.new.heads.items c.make_cells.new.cells.items (vec_capacity c.make_cells.new.cells) c.args.kept.now.losers (take c.args.at c.args.points.now) = filled-wider c.args.key.now c.args.rules.now c.args.kept.now.heads.items c.make_cells.new.heads.items c.args.kept.now.cells.items c.make_cells.new.cells.items (vec_capacity c.args.kept.now.cells) (vec_capacity c.make_cells.new.cells) c.args.kept.now.losers (take c.args.at c.args.points.now) c.make_cells.ensures.table c.make_cells.ensures.some (c.make_cells.ensures.chained c.args.key.now.depth) c.make_cells.ensures.cells c.requires.filled in
    let here : InBox c.args.rules.now.cube c.args.key.now (place c.index-points-at.result) = subst (λ (q : Point). InBox c.args.rules.now.cube c.args.key.now (place q)) (sym c.index-points-at.is) (c.requires.inside c.args.at c.index-points-at.result c.requires.there) in
    InCube-box c.args.rules.now.cube c.args.key.now (place c.in-Some.loser) c.known.ensures (omega (arith, c.requires.low, c.known-2.ensures.cells_whole)) (loser-in-box c.args.rules.now c.args.key.now.depth c.args.key.now c.index-points-at.result (winners c.make_cells.new.cells.items) (winners c.settle.new.cells.items) c.in-Some.loser (filled-inside c.args.key.now c.args.rules.now c.make_cells.new.heads.items c.make_cells.new.cells.items (vec_capacity c.make_cells.new.cells) c.args.kept.now.losers c.args.points.now c.args.at wider c.requires.inside) here c.in-Some.ensures.settled)

pub returns-in_default : goal.returns-in_default
returns-in_default c =
    let wider : IsFilled c.args.key.now c.args.rules.now c.make_cells.new.heads.items c.make_cells.new.cells.items (vec_capacity c.make_cells.new.cells) c.args.kept.now.losers (take c.args.at c.args.points.now) = filled-wider c.args.key.now c.args.rules.now c.args.kept.now.heads.items c.make_cells.new.heads.items c.args.kept.now.cells.items c.make_cells.new.cells.items (vec_capacity c.args.kept.now.cells) (vec_capacity c.make_cells.new.cells) c.args.kept.now.losers (take c.args.at c.args.points.now) c.make_cells.ensures.table c.make_cells.ensures.some (c.make_cells.ensures.chained c.args.key.now.depth) c.make_cells.ensures.cells c.requires.filled in
    record { filled = filled-own c.args.key.now c.args.rules.now c.make_cells.new.heads.items c.settle.new.heads.items c.make_cells.new.cells.items c.settle.new.cells.items (vec_capacity c.make_cells.new.cells) (vec_capacity c.settle.new.cells) c.args.kept.now.losers c.args.points.now c.args.at c.index-points-at.result wider c.requires.there c.index-points-at.is c.in_default.ensures.table c.in_default.ensures.room c.in_default.ensures.chained c.in_default.ensures.apart c.in_default.ensures.settled }

pub returns-in_ok-add : goal.returns-in_ok-add
returns-in_ok-add c =
    let wider : IsFilled c.args.key.now c.args.rules.now c.make_cells.new.heads.items c.make_cells.new.cells.items (vec_capacity c.make_cells.new.cells) c.args.kept.now.losers (take c.args.at c.args.points.now) = filled-wider c.args.key.now c.args.rules.now c.args.kept.now.heads.items c.make_cells.new.heads.items c.args.kept.now.cells.items c.make_cells.new.cells.items (vec_capacity c.args.kept.now.cells) (vec_capacity c.make_cells.new.cells) c.args.kept.now.losers (take c.args.at c.args.points.now) c.make_cells.ensures.table c.make_cells.ensures.some (c.make_cells.ensures.chained c.args.key.now.depth) c.make_cells.ensures.cells c.requires.filled in
    record { filled = filled-lost c.args.key.now c.args.rules.now c.make_cells.new.heads.items c.settle.new.heads.items c.make_cells.new.cells.items c.settle.new.cells.items (vec_capacity c.make_cells.new.cells) (vec_capacity c.settle.new.cells) c.args.kept.now.losers c.add.new.self c.args.points.now c.args.at c.index-points-at.result c.in-Some.loser c.octant_of-octant.result wider c.requires.there c.index-points-at.is c.in-Some.ensures.table c.in-Some.ensures.room c.in-Some.ensures.chained c.in-Some.ensures.apart c.in-Some.ensures.settled (ap (λ (k : VoxelKey). octant c.args.rules.now k.depth c.in-Some.loser) (sym c.key.view_is) ∙ sym c.octant_of-octant.ensures.value) c.octant_of-octant.ensures.one_of_eight c.add.ensures.eight c.in_ok-add.ensures.added c.add.ensures.others }
