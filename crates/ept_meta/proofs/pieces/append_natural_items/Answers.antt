use Rattle.std.proofs.Common.{codes, decimal, get_or}
use Rattle.ept_meta.proofs.Joining.{item_written}
use Rattle.ept_meta.proofs.Sources.{other_default}
use Rattle.ept_meta.proofs.pieces.append_natural_items.Goals as goal

pub loop-at-preserved : goal.loop-at-preserved
loop-at-preserved c =
    item_written decimal (codes ",") c.args.numbers.now c.loop-at.at (get_or c.args.numbers.now c.loop-at.at 0) c.args.text.now.items c.loop-at.text.items c.append_comma.new.text.items c.append_small.new.text.items
    c.loop-at-test.true (other_default c.args.numbers.now c.loop-at.at 0 _ c.loop-at-test.true) c.loop-at.invariant c.in_ok-append_comma.ensures c.in_ok-append_small.ensures
