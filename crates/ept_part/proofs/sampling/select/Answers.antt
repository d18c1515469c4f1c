use Rattle.std.proofs.Common.{◌∙◌, ◌≤◌, ◌++◌, List, Vec, Global, length, sym, ap, subst, arith, rules}
use Rattle.std.proofs.lemmas.List.{take_all}
use Rattle.std.proofs.lemmas.List.Elements.{All-get_or}
use Rattle.ept_point.specs.declared.point.Point.{Point}
use Rattle.ept_space.specs.OctreeCube.{InCube}
use Rattle.ept_sample.specs.Place.{place}
use Rattle.ept_grid.specs.Mask.{opened}
use Rattle.ept_parts.specs.Parts.{part_of}
use Rattle.ept_part.proofs.Drawn.{part-none, mine-more, mine-same}
use Rattle.ept_part.proofs.sampling.select.Goals as goal
use Rattle.ept_part.proofs.sampling.select.Goals.{then-is_of_part+in_ok-push, else-is_of_part}

pub is_of_part-requires-clause-inside : goal.is_of_part-requires-clause-inside
is_of_part-requires-clause-inside c =
    let cube = c.args.rules.now.cube in
    let p = c.point-item.result in
    subst (λ (q : Point). InCube cube (place q)) (sym c.point-item.is) (All-get_or (λ (q : Point). InCube cube (place q)) c.args.points.now c.loop-point.point-index p c.loop-point-test.true c.requires.inside)

pub loop-point-init : goal.loop-point-init
loop-point-init c = search (rules, part-none)

pub loop-point-preserved : goal.loop-point-preserved
loop-point-preserved c =
    let i = c.loop-point in
    let octants = opened c.args.octants in
    elim c.if-is_of_part.branch [
      | then-is_of_part+in_ok-push w ↦
          mine-more c.args.rules.now octants c.args.points.now i.point-index c.point-item.result c.args.out.now.items i.out.items i.invariant c.loop-point-test.true c.point-item.is _ (sym c.is_of_part.ensures ∙ w.if-is_of_part.true) (ap (λ (v : Vec Point Global). v.items) w.out-is ∙ w.in_ok-push.ensures.items)
      | else-is_of_part w ↦
          ap (λ (v : Vec Point Global). v.items) w.out-is
          ∙ mine-same c.args.rules.now octants c.args.points.now i.point-index c.point-item.result c.args.out.now.items i.out.items i.invariant c.loop-point-test.true c.point-item.is (sym c.is_of_part.ensures ∙ w.if-is_of_part.false)
    ]

pub returns : goal.returns
returns c =
    let i = c.loop-point in
    let end : length c.args.points.now ≤ i.point-index = omega arith in
    i.invariant ∙ ap (λ (w : List Point). c.args.out.now.items ++ part_of c.args.rules.now (opened c.args.octants) w) (take_all i.point-index c.args.points.now end)
