use Rattle.std.proofs.Common.{refl, arith}
use Rattle.ept_table.specs.Standing.{known}
use Rattle.ept_table.proofs.Lists.{at-member}
use Rattle.ept_work.proofs.Carrying.{is-at}
use Rattle.ept_work.proofs.worker.Worker.next_slot.Goals as goal

pub returns-clause-some : goal.returns-clause-some
returns-clause-some g c =
    let v = known g.F.SpillFile.held g.S.Source.whole c.args.self.now.seat.me.0 in
    let carried = c.index.result.now in
    let its = is-at v c.args.self.now.flights.items c.next.result carried c.args.self.now.carries (omega (arith, c.next.ensures, c.args.self.now.flights.ok.0)) c.index.ensures in
    (carried, at-member v.note.flights c.next.result carried its, refl)
