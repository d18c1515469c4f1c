use Rattle.std.proofs.Common.{◌∷◌, arith, count_by, ◌≡◌, ◌∙◌, sym, subst, ap, List}
use Rattle.std.specs.Prelude.{All}
use Rattle.ept_space.specs.declared.cube.Rules.{Rules}
use Rattle.ept_space.specs.OctreeCube.{IsCube, InBox}
use Rattle.ept_sample.specs.Place.{place}
use Rattle.ept_grid.specs.Node as grid
use Rattle.ept_point.specs.declared.point.Point.{Point}
use Rattle.ept_grid.specs.Outgoing.{all_points}
use Rattle.ept_grid.proofs.Leavings.{all-none}
use Rattle.ept_tree.proofs.Inside.{found-down, all_go_down}
use Rattle.ept_tree.proofs.Wholeness.{sends-opened}
use Rattle.ept_tree.proofs.octree.take_in.Goals as goal

pub returns-clause-down : goal.returns-clause-down
returns-clause-down c =
    let node = c.args.node.now in
    let old = c.reserve.new.self in
    let key : old.key ≡ node.key = ap (λ (n : grid.Node). n.key) c.in_ok-reserve.ensures.node in
    let rules : old.rules ≡ node.rules = ap (λ (n : grid.Node). n.rules) c.in_ok-reserve.ensures.node in
    let inside : All (λ q. InBox old.rules.cube old.key (place q)) old.points = subst (λ (n : grid.Node). All (λ q. InBox n.rules.cube n.key (place q)) n.points) (sym c.in_ok-reserve.ensures.node) c.known.ensures.inside in
    let arrives : InBox old.rules.cube old.key (place c.args.point) = subst (λ (n : grid.Node). InBox n.rules.cube n.key (place c.args.point)) (sym c.in_ok-reserve.ensures.node) c.requires.inside in
    let cube : IsCube old.rules.cube = subst (λ (r : Rules). IsCube r.cube) (c.rules.ensures ∙ sym rules) c.known-2.ensures in
    found-down node.rules old.rules node.key old.key c.arrive.new.out rules key
    (all_go_down old c.arrive.new.self c.args.point c.reserve.new.out c.arrive.new.out inside arrives c.arrive.ensures.together (λ o. c.in_ok-reserve.ensures.points o ∙ c.requires.empty o) cube c.arrive.ensures.sends_on)

pub returns-clause-together : goal.returns-clause-together
returns-clause-together c = λ test. (
    let node = c.args.node.now in
    let old = c.reserve.new.self in
    let out = c.reserve.new.out in
    let same : count_by test (c.args.point ∷ old.points) ≡ count_by test (c.args.point ∷ node.points) = ap (λ (n : grid.Node). count_by test (c.args.point ∷ n.points)) c.in_ok-reserve.ensures.node in
    let none : count_by test (all_points out) ≡ 0 = ap (λ (w : List Point). count_by test w) (all-none out (λ o low. c.in_ok-reserve.ensures.points o ∙ c.requires.empty o)) in
    omega (arith, c.arrive.ensures.together test, same, none))

pub returns-clause-opened : goal.returns-clause-opened
returns-clause-opened c =
    sends-opened c.reserve.new.self c.arrive.new.self c.args.node.now.mask (ap (λ (n : grid.Node). n.mask) c.in_ok-reserve.ensures.node) c.reserve.new.out c.arrive.new.out (λ o. c.in_ok-reserve.ensures.points o ∙ c.requires.empty o) c.arrive.ensures.sends_on
