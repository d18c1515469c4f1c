use Rattle.ept_trial.specs.Scans.{header_bytes, records_of}
use Rattle.ept_trial.proofs.Records.{records-more}
use Rattle.ept_trial.proofs.States.{state-fourth}
use Rattle.ept_trial.proofs.scans.scan_of.Goals as goal

pub loop-number-preserved : goal.loop-number-preserved
loop-number-preserved c = (
  state-fourth c.args.count c.args.input c.loop-number.number c.loop-number.at c.in_ok-at.at c.stepped-at-in-loop-number.result c.loop-number.invariant.0 c.in_ok-at.ensures.state c.stepped-at-in-loop-number.ensures,
  records-more c.args.count c.args.input c.loop-number.number c.loop-number.at (header_bytes (records_of c.args.count c.args.input)) c.loop-number.bytes.items c.append_record.new.out.items c.loop-number.invariant.1 c.loop-number.invariant.0 c.in_ok-at.ensures.bytes,
)
