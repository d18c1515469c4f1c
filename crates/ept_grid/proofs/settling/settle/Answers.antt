use Rattle.std.proofs.Common.{◌≡◌, ap, subst, sym, arith, get_or}
use Rattle.std.specs.Prelude.{IsTrue}
use Rattle.ept_space.proofs.PlaceKeys.{InCube-box}
use Rattle.ept_sample.specs.Place.{place}
use Rattle.ept_grid.specs.Settling.{winners, share_cell}
use Rattle.ept_grid.specs.Columns.{spot, spots_of, nexts_of, IsChained}
use Rattle.ept_grid.proofs.SpotLaws.{share_cell-spot}
use Rattle.ept_grid.proofs.Contending.{apart-chained}
use Rattle.ept_grid.proofs.settling.settle.Goals as goal

pub settle_at-requires-clause-all_inside : goal.settle_at-requires-clause-all_inside
settle_at-requires-clause-all_inside c =
    λ k d within. InCube-box c.args.rules.now.cube c.args.key.now (place (get_or (winners c.args.cells.now.items) k d)) c.known.ensures (omega (arith, c.requires.low, c.known-2.ensures.cells_whole)) (c.requires.all_inside k d within)

pub settle_at-requires-clause-inside : goal.settle_at-requires-clause-inside
settle_at-requires-clause-inside c =
    InCube-box c.args.rules.now.cube c.args.key.now (place c.args.point) c.known.ensures (omega (arith, c.requires.low, c.known-2.ensures.cells_whole)) c.requires.inside

pub settle_at-requires-clause-meets : goal.settle_at-requires-clause-meets
settle_at-requires-clause-meets c =
    let is : c.key.inside.depth ≡ c.args.key.now.depth = ap (λ v. v.depth) c.key.view_is in
    λ k d within. let w = get_or (winners c.args.cells.now.items) k d in
    subst (λ n. spot c.args.rules.now n w ≡ spot c.args.rules.now n c.args.point → IsTrue (share_cell c.args.rules.now n w c.args.point)) (sym is) (share_cell-spot c.args.rules.now c.args.key.now w c.args.point (omega (arith, c.requires.low, c.known-2.ensures.cells_whole)) (c.requires.all_inside k d within) c.requires.inside)

pub returns-clause-apart : goal.returns-clause-apart
returns-clause-apart c =
    let is : c.key.inside.depth ≡ c.args.key.now.depth = ap (λ v. v.depth) c.key.view_is in
    apart-chained c.args.rules.now c.args.key.now.depth c.settle_at.new.heads.items c.settle_at.new.cells.items (subst (λ n. IsChained c.settle_at.new.heads.items (nexts_of c.settle_at.new.cells.items) (spots_of c.args.rules.now n c.settle_at.new.cells.items)) is c.settle_at.ensures.chained)
