use Rattle.std.proofs.Common.{arith}
use Rattle.ept_scan.proofs.Listing.{extent_more, extent_all}
use Rattle.ept_scan.proofs.first_reading.whole_extent.Goals as goal

pub loop-count-preserved : goal.loop-count-preserved
loop-count-preserved c lists zip =
    extent_more lists c.args.counts.now c.loop-count.count-index _ c.loop-count.extent c.united-extent.result c.loop-count-test.true zip c.united-extent.ensures (c.loop-count.invariant lists zip)

pub returns : goal.returns
returns c lists zip =
    extent_all lists c.args.counts.now c.loop-count.count-index c.loop-count.extent (omega arith) zip (c.loop-count.invariant lists zip)
