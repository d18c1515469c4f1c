use Rattle.std.proofs.Common.{◌∙◌, ◌==◌, get_or, ap, arith, vec_capacity}
use Rattle.std.proofs.lemmas.List.Sums.{count_by-le-length}
use Rattle.ept_space.specs.VoxelKey.{VoxelKey}
use Rattle.ept_space.proofs.PlaceKeys.{InCube-box}
use Rattle.ept_point.specs.declared.point.Point.{Point}
use Rattle.ept_sample.specs.Place.{place}
use Rattle.ept_sample.specs.Arrivals.{octant}
use Rattle.ept_grid.specs.Node.{count_in}
use Rattle.ept_grid.proofs.Leavings.{all-same}
use Rattle.ept_grid.proofs.Keeping.{node-made}
use Rattle.ept_grid.proofs.Room.{same-counts}
use Rattle.ept_grid.proofs.reserving.make_room.Goals as goal

pub by_octant-counts-requires-clause-inside : goal.by_octant-counts-requires-clause-inside
by_octant-counts-requires-clause-inside c =
    λ k d within. InCube-box c.args.rules.now.cube c.args.key.now (place (get_or c.args.arrivals.now k d)) c.known.ensures (omega (arith, c.requires.low, c.known-2.ensures.cells_whole)) (c.requires.inside k d within)

pub make_lanes-requires-clause-small : goal.make_lanes-requires-clause-small
make_lanes-requires-clause-small c =
    λ o h. omega (arith, c.by_octant-counts.ensures.counts o h, count_by-le-length (λ (q : Point). octant c.args.rules.now c.key.inside.depth q == o) c.args.arrivals.now, c.in_ok-make_cells.ensures.room)

pub returns-clause-lanes : goal.returns-clause-lanes
returns-clause-lanes c =
    same-counts c.make_lanes.result c.args.mask (λ o. count_in c.args.rules.now c.args.key.now.depth o c.args.arrivals.now) c.make_lanes.new.losers c.make_lanes.new.out c.by_octant-counts.result (λ o h. c.by_octant-counts.ensures.counts o h ∙ ap (λ (k : VoxelKey). count_in c.args.rules.now k.depth o c.args.arrivals.now) c.key.view_is) c.make_lanes.ensures.lanes

pub returns-clause-losers_all : goal.returns-clause-losers_all
returns-clause-losers_all c = all-same c.args.losers.now c.make_lanes.new.losers c.make_lanes.ensures.eight c.make_lanes.ensures.losers

pub returns-clause-all : goal.returns-clause-all
returns-clause-all c = all-same c.args.out.now c.make_lanes.new.out c.make_lanes.ensures.out_eight c.make_lanes.ensures.points

pub returns-clause-node : goal.returns-clause-node
returns-clause-node c =
    λ mask node. node-made c.args.key.now c.args.rules.now mask c.args.heads.now.items c.make_cells.new.heads.items c.args.cells.now.items c.make_cells.new.cells.items (vec_capacity c.args.cells.now) (vec_capacity c.make_cells.new.cells) c.args.losers.now c.make_lanes.new.losers node c.make_cells.ensures.table c.make_cells.ensures.some c.make_cells.ensures.cells c.make_lanes.ensures.eight c.make_lanes.ensures.losers (c.make_cells.ensures.chained c.args.key.now.depth)
