use Rattle.std.proofs.Common.{codes}
use Rattle.ept_meta.specs.BuildText.{input_text}
use Rattle.ept_meta.proofs.Joining.{item_written}
use Rattle.ept_meta.proofs.build.append_input_items.Goals as goal

pub loop-at-preserved : goal.loop-at-preserved
loop-at-preserved c =
    item_written input_text (codes ",") c.args.inputs.now c.loop-at.at c.index-inputs-at.result c.args.text.now.items c.loop-at.text.items c.append_comma.new.text.items c.append_input.new.text.items
    c.loop-at-test.true c.index-inputs-at.is c.loop-at.invariant c.in_ok-append_comma.ensures c.in_ok-append_input.ensures
