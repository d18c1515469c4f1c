use Rattle.std.proofs.Common.{◌≡◌, ◌∙◌, ℕ, ◌+◌, ◌<◌, ◌≤◌, false, length, refl, sym, ap, subst, arith, vec_capacity}
use Rattle.ept_space.specs.VoxelKey.{VoxelKey}
use Rattle.ept_space.proofs.PlaceKeys.{InCube-box}
use Rattle.ept_sample.specs.Place.{place}
use Rattle.ept_sample.specs.Arrivals.{octant}
use Rattle.ept_grid.specs.Mask.{opened}
use Rattle.ept_grid.specs.Outgoing.{leaving_at, points_at}
use Rattle.ept_grid.specs.Settling.{winners}
use Rattle.ept_grid.specs.Contents.{HasSent, HasTaken, joined}
use Rattle.ept_grid.proofs.Keeping.{taken-own, taken-lost, loser-in-box, winners-inside, loser-octant, node-taken, contended-length, same-cells}
use Rattle.ept_grid.proofs.taking.take_in.Goals as goal

pub lose-requires-clause-inside : goal.lose-requires-clause-inside
lose-requires-clause-inside c =
    InCube-box c.args.rules.now.cube c.args.key.now (place c.in-Some.loser) c.known.ensures (omega (arith, c.requires.node.low, c.known-2.ensures.cells_whole)) (loser-in-box c.args.rules.now c.args.key.now.depth c.args.key.now c.args.point (winners c.args.cells.now.items) (winners c.settle.new.cells.items) c.in-Some.loser (winners-inside c.args.rules.now.cube c.args.key.now (winners c.args.cells.now.items) c.args.losers.now c.requires.node.inside) c.requires.inside c.in-Some.ensures.settled)

pub lose-requires-clause-place : goal.lose-requires-clause-place
lose-requires-clause-place c =
    let same : octant c.args.rules.now c.key.inside.depth c.in-Some.loser ≡ octant c.args.rules.now c.args.key.now.depth c.args.point =
    ap (λ (k : VoxelKey). octant c.args.rules.now k.depth c.in-Some.loser) c.key.view_is ∙ loser-octant c.args.rules.now c.args.key.now.depth c.args.point (winners c.args.cells.now.items) (winners c.settle.new.cells.items) c.in-Some.loser c.known-2.ensures.span_low c.in-Some.ensures.settled in
    subst (λ (o : ℕ). opened c.args.mask o ≡ false → 0 < (leaving_at c.args.losers.now o).room) (sym same) c.requires.place

pub lose-requires-clause-list : goal.lose-requires-clause-list
lose-requires-clause-list c =
    let same : octant c.args.rules.now c.key.inside.depth c.in-Some.loser ≡ octant c.args.rules.now c.args.key.now.depth c.args.point =
    ap (λ (k : VoxelKey). octant c.args.rules.now k.depth c.in-Some.loser) c.key.view_is ∙ loser-octant c.args.rules.now c.args.key.now.depth c.args.point (winners c.args.cells.now.items) (winners c.settle.new.cells.items) c.in-Some.loser c.known-2.ensures.span_low c.in-Some.ensures.settled in
    subst (λ (o : ℕ). length (points_at c.args.losers.now o) + 1 ≤ (leaving_at c.args.out.now o).room) (sym same) c.requires.list

own : (c : goal.In-None) → HasTaken c.args.rules.now c.args.key.now.depth c.args.mask c.args.mask c.args.point (winners c.args.cells.now.items) (winners c.settle.new.cells.items) c.args.losers.now c.args.losers.now c.args.out.now c.args.out.now
own c =
    taken-own c.args.rules.now c.args.key.now.depth c.args.mask c.args.point (winners c.args.cells.now.items) (winners c.settle.new.cells.items) c.args.losers.now c.args.out.now c.known-3.ensures c.known-4.ensures c.requires.node.settled c.requires.node.few c.in-None.ensures.apart c.in-None.ensures.settled

pub returns-in-None-clause-taken : goal.returns-in-None-clause-taken
returns-in-None-clause-taken c = own c

pub returns-in-None-clause-node : goal.returns-in-None-clause-node
returns-in-None-clause-node c =
    node-taken c.args.key.now c.args.rules.now c.args.mask c.args.mask c.args.point c.args.heads.now.items c.settle.new.heads.items c.args.cells.now.items c.settle.new.cells.items (vec_capacity c.args.cells.now) (vec_capacity c.settle.new.cells) c.args.losers.now c.args.losers.now c.args.out.now c.args.out.now c.requires.node c.requires.inside c.in-None.ensures.table c.in-None.ensures.room c.in-None.ensures.chained (own c) (λ _. refl)

lost : (c : goal.After-lose) → HasTaken c.args.rules.now c.args.key.now.depth c.args.mask c.lose.result c.args.point (winners c.args.cells.now.items) (winners c.settle.new.cells.items) c.args.losers.now c.lose.new.losers c.args.out.now c.lose.new.out
lost c =
    let sent : HasSent c.args.rules.now c.args.key.now.depth c.args.mask c.lose.result (joined c.args.losers.now (octant c.args.rules.now c.args.key.now.depth c.in-Some.loser) c.in-Some.loser) c.lose.new.losers c.args.out.now c.lose.new.out = subst (λ (d : ℕ). HasSent c.args.rules.now d c.args.mask c.lose.result (joined c.args.losers.now (octant c.args.rules.now d c.in-Some.loser) c.in-Some.loser) c.lose.new.losers c.args.out.now c.lose.new.out) (ap (λ (k : VoxelKey). k.depth) c.key.view_is) c.lose.ensures.sent in
    taken-lost c.args.rules.now c.args.key.now.depth c.args.mask c.lose.result c.args.point (winners c.args.cells.now.items) (winners c.settle.new.cells.items) c.args.losers.now c.lose.new.losers c.args.out.now c.lose.new.out c.in-Some.loser c.known-2.ensures.span_low c.known-3.ensures c.requires.node.settled c.in-Some.ensures.apart c.in-Some.ensures.settled sent

pub returns-in-Some-clause-taken : goal.returns-in-Some-clause-taken
returns-in-Some-clause-taken c = lost c

pub returns-in-Some-clause-node : goal.returns-in-Some-clause-node
returns-in-Some-clause-node c =
    node-taken c.args.key.now c.args.rules.now c.args.mask c.lose.result c.args.point c.args.heads.now.items c.settle.new.heads.items c.args.cells.now.items c.settle.new.cells.items (vec_capacity c.args.cells.now) (vec_capacity c.settle.new.cells) c.args.losers.now c.lose.new.losers c.args.out.now c.lose.new.out c.requires.node c.requires.inside c.in-Some.ensures.table c.in-Some.ensures.room c.in-Some.ensures.chained (lost c) (λ low. c.lose.ensures.deepest (omega (arith, low, ap (λ (k : VoxelKey). k.depth) c.key.view_is)))

pub returns-in-Some-clause-grows : goal.returns-in-Some-clause-grows
returns-in-Some-clause-grows c =
    omega (arith, same-cells c.args.cells.now.items c.settle.new.cells.items (contended-length c.args.rules.now c.args.key.now.depth c.args.point (winners c.args.cells.now.items) (winners c.settle.new.cells.items) c.in-Some.loser c.in-Some.ensures.settled), c.args.cells.now.ok.0, c.settle.new.cells.ok.0)
