use Rattle.std.proofs.Common.{◌≡◌, ◌++◌, List, sym, ap, subst, arith, count_by}
use Rattle.ept_point.specs.declared.point.Point.{Point}
use Rattle.ept_sample.specs.Ids.{HasDistinctIds}
use Rattle.ept_grid.specs.Node.{Node, SendsOn}
use Rattle.ept_grid.specs.Outgoing.{points_at}
use Rattle.ept_node.specs.Shown.{bare}
use Rattle.ept_node.proofs.Batches.{taken-from}
use Rattle.ept_node.proofs.Bridges.{arrives-from}
use Rattle.ept_node.proofs.batch.take_in.Goals as goal

pub returns-clause-together : goal.returns-clause-together
returns-clause-together c = λ test. (
    let r = c.in_ok-reserve.ensures in
    let points : c.reserve.new.self.points ≡ c.args.grid.now.points = ap (λ (g : Node). g.points) r.node in
    omega (arith, c.arrive_all.ensures.together test, ap (λ (w : List Point). count_by test w) points, ap (λ (w : List Point). count_by test w) r.all))

pub returns-clause-sends_on : goal.returns-clause-sends_on
returns-clause-sends_on c = λ o low. (
    let r = c.in_ok-reserve.ensures in
    let old = c.args.grid.now in
    let new = c.arrive_all.new.grid in
    let after = c.arrive_all.new.out in
    let same : bare c.reserve.new.self ≡ bare old = ap bare r.node in
    subst (λ (w : List Point). SendsOn (bare old) (bare new) o w (points_at after o)) (r.points o)
    (subst (λ (b : Node). SendsOn b (bare new) o (points_at c.reserve.new.out o) (points_at after o)) same (c.arrive_all.ensures.sends_on o low)))

pub returns-clause-taken : goal.returns-clause-taken
returns-clause-taken c = λ once. (
    let r = c.in_ok-reserve.ensures in
    let old = c.args.grid.now in
    let same : bare c.reserve.new.self ≡ bare old = ap bare r.node in
    let points : c.reserve.new.self.points ≡ old.points = ap (λ (g : Node). g.points) r.node in
    taken-from (bare c.reserve.new.self) (bare old) (bare c.arrive_all.new.grid) c.args.points.now c.reserve.new.out c.args.out.now c.arrive_all.new.out same (λ o. r.points o)
    (c.arrive_all.ensures.taken (subst (λ (w : List Point). HasDistinctIds (c.args.points.now ++ w)) (sym points) once)))

pub returns-clause-arrives : goal.returns-clause-arrives
returns-clause-arrives c = λ once some empty. (
    let r = c.in_ok-reserve.ensures in
    let old = c.args.grid.now in
    let same : bare c.reserve.new.self ≡ bare old = ap bare r.node in
    let points : c.reserve.new.self.points ≡ old.points = ap (λ (g : Node). g.points) r.node in
    arrives-from (bare old) (bare c.arrive_all.new.grid) c.args.points.now c.args.out.now c.arrive_all.new.out
    (taken-from (bare c.reserve.new.self) (bare old) (bare c.arrive_all.new.grid) c.args.points.now c.reserve.new.out c.args.out.now c.arrive_all.new.out same (λ o. r.points o)
    (c.arrive_all.ensures.taken (subst (λ (w : List Point). HasDistinctIds (c.args.points.now ++ w)) (sym points) once))) some empty)
