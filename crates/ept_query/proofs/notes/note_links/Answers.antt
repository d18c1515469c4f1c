use Rattle.std.proofs.Common.{arith}
use Rattle.ept_query.proofs.Noting.{links-more}
use Rattle.ept_query.proofs.notes.note_links.Goals as goal

pub loop-entry-preserved : goal.loop-entry-preserved
loop-entry-preserved c = record {
  links = links-more c.args.search.now c.args.entries.now c.loop-entry.entry-index c.entry-item.result c.args.pending.now.keys c.loop-entry.pending.keys c.note_link.new.pending.keys (omega arith) c.entry-item.is c.loop-entry.invariant.links c.in_ok-note_link.ensures.links;
  are_keys = λ each. c.in_ok-note_link.ensures.are_keys (c.loop-entry.invariant.are_keys each);
}
