use Rattle.std.proofs.Common.{◌∙◌, ap, sym}
use Rattle.std.proofs.lemmas.List.{take_rest}
use Rattle.ept_conn.specs.HeadEnd.{is_mark}
use Rattle.ept_conn.proofs.HeadEnds.{end-later, end-start}
use Rattle.ept_conn.proofs.head.find_end.Goals as goal

pub loop-at-init : goal.loop-at-init
loop-at-init c = end-start c.args.searched c.saturating_sub-at.result c.args.bytes.now c.saturating_sub-at.ensures c.requires.within c.requires.clear

pub loop-at-preserved : goal.loop-at-preserved
loop-at-preserved c = c.loop-at.invariant ∙ end-later c.args.bytes.now c.loop-at.at c.loop-at-test.true (sym (ap is_mark (take_rest c.args.bytes.now c.loop-at.at)) ∙ sym c.starts_with.ensures.value ∙ c.if-starts_with.false)
