use Rattle.std.proofs.Common.{◌≡◌, ◌∙◌, ◌+◌, ◌≤◌, List, [], ◌++◌, drop, length, sym, subst, arith, count_by, ap, ◌∷◌}
use Rattle.std.proofs.lemmas.List.Elements.{All-get_or}
use Rattle.ept_point.specs.declared.point.Point.{Point}
use Rattle.ept_space.specs.declared.cube.Rules.{Rules}
use Rattle.ept_space.specs.OctreeCube.{InCube}
use Rattle.ept_sample.specs.Place.{place}
use Rattle.ept_sample.specs.Nodes.{sampled}
use Rattle.ept_table.specs.Octree.{points_in}
use Rattle.ept_tree.specs.Tree.{IsTree}
use Rattle.ept_tree.proofs.Descending.{front-of, none-left}
use Rattle.ept_tree.proofs.Growing.{few-nodes}
use Rattle.ept_sample.proofs.IdLaws.{count_by-append}
use Rattle.ept_tree.proofs.octree.Tree.insert_all.Goals as goal

pub insert-requires-clause-inside : goal.insert-requires-clause-inside
insert-requires-clause-inside c =
    let i = c.loop-point in
    let p = c.point-item.result in
    subst (λ (r : Rules). InCube r.cube (place p)) (sym i.invariant.rules) (subst (λ (q : Point). InCube c.args.self.now.rules.cube (place q)) (sym c.point-item.is) (All-get_or (λ (q : Point). InCube c.args.self.now.rules.cube (place q)) c.args.given.now i.point-index p c.loop-point-test.true c.requires.inside))

pub loop-point-preserved : goal.loop-point-preserved
loop-point-preserved c =
    let i = c.loop-point in
    let given = c.args.given.now in
    let front = front-of given i.point-index c.point-item.result c.loop-point-test.true c.point-item.is in
    record {
      rules = c.in_ok-insert.ensures.rules ∙ i.invariant.rules;
      rest = c.in_ok-insert.ensures.rest;
      few = omega (arith, c.len.ensures.len, c.if-len-most.false);
      together = λ test. (
          let next : count_by test (drop i.point-index given) ≡ count_by test (c.point-item.result ∷ drop (i.point-index + 1) given) = ap (λ (w : List Point). count_by test w) front in
          omega (arith, i.invariant.together test, c.in_ok-insert.ensures.together test, next, count_by-append test (c.point-item.result ∷ []) (points_in i.self.nodes.entries), count_by-append test (c.point-item.result ∷ []) (drop (i.point-index + 1) given)));
      whole = λ whole. (
          let before = i.invariant.whole whole in
          let after = c.in_ok-insert.ensures.whole before.0 in
          (after.0, λ key is. after.1 key (before.1 key is)));
      taken = λ points left h. c.in_ok-insert.ensures.taken points (drop (i.point-index + 1) given ++ left) (subst (λ (w : List Point). IsTree i.self.rules points (w ++ left) [] i.self.nodes.entries) front (i.invariant.taken points left h));
    }

pub returns-then-len-most-clause-too_many : goal.returns-then-len-most-clause-too_many
returns-then-len-most-clause-too_many c = λ is points left h. (
    let i = c.loop-point in
    let given = c.args.given.now in
    let new = c.insert.new.self in
    let front = front-of given i.point-index c.point-item.result c.loop-point-test.true c.point-item.is in
    let tree : IsTree new.rules points (drop (i.point-index + 1) given ++ left) [] new.nodes.entries = c.in_ok-insert.ensures.taken points (drop (i.point-index + 1) given ++ left) (subst (λ (w : List Point). IsTree i.self.rules points (w ++ left) [] i.self.nodes.entries) front (i.invariant.taken points left h)) in
    let rules : new.rules ≡ c.args.self.now.rules = c.in_ok-insert.ensures.rules ∙ i.invariant.rules in
    let many : length new.nodes.entries ≤ length (sampled c.args.self.now.rules points) = subst (λ (r : Rules). length new.nodes.entries ≤ length (sampled r points)) rules (few-nodes new.rules points (drop (i.point-index + 1) given ++ left) new.nodes.entries tree) in
    omega (arith, many, c.len.ensures.len, c.if-len-most.true))

pub returns-clause-together : goal.returns-clause-together
returns-clause-together c = λ test. (
    let i = c.loop-point in
    let all : i.point-index ≡ length c.args.given.now = omega arith in
    let none : count_by test (drop i.point-index c.args.given.now) ≡ 0 = ap (λ (w : List Point). count_by test w) (none-left c.args.given.now i.point-index all) in
    omega (arith, i.invariant.together test, none))

pub returns-clause-taken : goal.returns-clause-taken
returns-clause-taken c = λ points left h. (
    let i = c.loop-point in
    let all : i.point-index ≡ length c.args.given.now = omega arith in
    subst (λ (w : List Point). IsTree i.self.rules points (w ++ left) [] i.self.nodes.entries) (none-left c.args.given.now i.point-index all) (i.invariant.taken points left h))
