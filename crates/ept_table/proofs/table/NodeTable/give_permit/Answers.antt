use Rattle.ept_table.proofs.Allowed.{permits-allowed}
use Rattle.ept_table.proofs.table.NodeTable.give_permit.Goals as goal

pub give_permit-requires-clause-rule : goal.give_permit-requires-clause-rule
give_permit-requires-clause-rule g c =
    permits-allowed g.row.F.Denot g.row.S.Denot g.F.SpillFile.held g.F.SpillFile.faults g.F.SpillFile.keeps g.S.Source.whole g.S.Source.left g.S.Source.given g.S.Source.faults g.J.Scan.told c.args.seat.now.id c.args.seat.now.me.0 _
