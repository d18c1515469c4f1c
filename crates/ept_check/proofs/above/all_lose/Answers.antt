use Rattle.std.proofs.Common.{◌≡◌, List, true, take, subst, sym, refl}
use Rattle.std.specs.List.{All}
use Rattle.ept_point.specs.declared.point.Point.{Point}
use Rattle.ept_sample.specs.Arrivals.{loses}
use Rattle.ept_check.proofs.Sets.{whole, push-all}
use Rattle.ept_check.proofs.above.all_lose.Goals as goal

pub loop-point-preserved : goal.loop-point-preserved
loop-point-preserved c =
    push-all (λ (p : Point). loses c.args.grid.now.rules c.args.grid.now.key.depth c.args.grid.now.points p ≡ true) c.args.points.now c.loop-point.point-index c.point-item.result c.loop-point-test.true c.point-item.is c.loop-point.invariant (sym c.if-not-loses.ensures)

pub returns : goal.returns
returns c =
    let all = whole c.args.points.now c.loop-point.point-index c.loop-point.auto.point-index-end c.loop-point-test.false in (
      λ e. subst (λ (w : List Point). All (λ (p : Point). loses c.args.grid.now.rules c.args.grid.now.key.depth c.args.grid.now.points p ≡ true) w) all c.loop-point.invariant,
      λ every. refl,
    )
