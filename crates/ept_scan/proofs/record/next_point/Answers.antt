use Rattle.std.proofs.Common.{Bool, Ok, ap}
use Rattle.ept_scan.proofs.NextRecord.{read_is}
use Rattle.ept_scan.proofs.record.next_point.Goals as goal

pub returns-clause-next : goal.returns-clause-next
returns-clause-next g c =
    read_is c.args.reading.now c.args.header.now c.args.number c.point_of-found.result c.args.window.now c.fill.new.self c.bytes.result.now c.consume.new.self c.from-length.result (g.S.Source.left c.args.source.now) (g.S.Source.left c.fill.new.source)
    c.from-length.ensures (c.in_ok-fill.ensures.held (ap (λ (b : Bool). Ok b) c.if-not-branch.false)) c.bytes.ensures c.consume.ensures c.point_of-found.ensures.bytes c.in_ok-fill.ensures.ahead
