use Rattle.std.proofs.Common.{codes}
use Rattle.ept_meta.specs.Dimensions.{row_text, rows_text}
use Rattle.ept_meta.proofs.Joining.{item_written}
use Rattle.ept_meta.proofs.Sources.{other_default}
use Rattle.ept_meta.proofs.schema.append_rows.Goals as goal

pub loop-at-preserved : goal.loop-at-preserved
unfolding rows_text
loop-at-preserved c =
    item_written (row_text c.args.kept.now) (codes ",") c.args.rows.now c.loop-at.at _ c.args.text.now.items c.loop-at.text.items c.append_comma.new.text.items c.append_row.new.text.items
    c.loop-at-test.true (other_default c.args.rows.now c.loop-at.at _ _ c.loop-at-test.true) c.loop-at.invariant c.in_ok-append_comma.ensures c.in_ok-append_row.ensures
