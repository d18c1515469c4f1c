use Rattle.std.proofs.Common.{pos, get_or, codes}
use Rattle.std.specs.Fmt.{signed_decimal}
use Rattle.ept_meta.proofs.Joining.{item_written}
use Rattle.ept_meta.proofs.Sources.{other_default}
use Rattle.ept_meta.proofs.pieces.append_whole_items.Goals as goal

pub loop-at-preserved : goal.loop-at-preserved
loop-at-preserved c =
    item_written signed_decimal (codes ",") c.args.numbers.now c.loop-at.at (get_or c.args.numbers.now c.loop-at.at (pos 0)) c.args.text.now.items c.loop-at.text.items c.append_comma.new.text.items c.append_whole.new.text.items
    c.loop-at-test.true (other_default c.args.numbers.now c.loop-at.at (pos 0) _ c.loop-at-test.true) c.loop-at.invariant c.in_ok-append_comma.ensures c.in_ok-append_whole.ensures
