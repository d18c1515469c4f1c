use Rattle.std.proofs.Common.{Bool, Ok, ◌≤◌, ap, arith, rules, length, length-take}
use Rattle.ept_las.proofs.Formats.{least_length}
use Rattle.ept_scan.proofs.NextRecord.{place_is}
use Rattle.ept_scan.proofs.record.next_place.Goals as goal

pub place_of-found-requires : goal.place_of-found-requires
place_of-found-requires g c =
    let held : c.from-length.result ≤ length c.fill.new.self = c.in_ok-fill.ensures.held (ap (λ (b : Bool). Ok b) c.if-not-branch.false) in
    omega (arith, held, least_length c.args.header.now.format, c.from-length.ensures, c.requires.size, ap length c.bytes.ensures, length-take c.from-length.result c.bytes.result.now)

pub returns-clause-next : goal.returns-clause-next
returns-clause-next g c =
    let held : c.from-length.result ≤ length c.fill.new.self = c.in_ok-fill.ensures.held (ap (λ (b : Bool). Ok b) c.if-not-branch.false) in
    place_is c.args.reading.now c.args.header.now c.args.number c.place_of-found.result c.args.window.now c.fill.new.self c.bytes.result.now c.consume.new.self c.from-length.result (g.S.Source.left c.args.source.now) (g.S.Source.left c.fill.new.source)
    c.from-length.ensures held c.bytes.ensures c.consume.ensures
    (c.place_of-found.ensures c.args.header.now.format c.args.number c.requires.format (omega (arith, held, c.from-length.ensures, c.requires.size, ap length c.bytes.ensures, length-take c.from-length.result c.bytes.result.now)) (search rules)) c.in_ok-fill.ensures.ahead
