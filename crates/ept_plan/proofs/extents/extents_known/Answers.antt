use Rattle.std.proofs.Common.{subst, arith}
use Rattle.std.specs.List.{All}
use Rattle.std.proofs.lemmas.List.{take_all}
use Rattle.std.proofs.lemmas.List.Elements.{All-more}
use Rattle.ept_ckpt.specs.Valid.{ExtentInRange}
use Rattle.ept_plan.proofs.extents.extents_known.Goals as goal

pub loop-count-preserved : goal.loop-count-preserved
loop-count-preserved c = All-more ExtentInRange c.args.counts.now c.loop-count.count-index _ (omega (arith, c.loop-count-test.true)) c.loop-count.invariant c.extent_known.ensures

pub returns : goal.returns
returns c = subst (All ExtentInRange) (take_all c.loop-count.count-index c.args.counts.now (omega (arith, c.loop-count-test.false))) c.loop-count.invariant
