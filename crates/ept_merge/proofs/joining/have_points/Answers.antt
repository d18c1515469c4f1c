use Rattle.std.proofs.Common.{◌≡◌, ◌+◌, arith}
use Rattle.std.proofs.lemmas.Bool.{false≢true}
use Rattle.ept_merge.proofs.Counted.{points_of, points-more, points-front}
use Rattle.ept_merge.proofs.joining.have_points.Goals as goal

pub returns-then-part-left : goal.returns-then-part-left
returns-then-part-left c =
    let i = c.loop-part in
    let parts = c.args.parts.now in (
      λ is. absurd (false≢true is),
      λ all.
          let most : points_of parts ≡ c.args.points = all in
          absurd (omega (arith, most, i.invariant, points-more parts i.part-index c.part-item.result c.loop-part-test.true c.part-item.is, points-front parts (i.part-index + 1), c.if-part-left.true)),
    )

pub loop-part-preserved : goal.loop-part-preserved
loop-part-preserved c =
    let i = c.loop-part in
    omega (arith, i.invariant, points-more c.args.parts.now i.part-index c.part-item.result c.loop-part-test.true c.part-item.is)
