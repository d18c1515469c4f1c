use Rattle.ept_table.proofs.Allowed.{takes-allowed}
use Rattle.ept_table.proofs.table.NodeTable.try_take.Goals as goal

pub try_take-requires-clause-rule : goal.try_take-requires-clause-rule
try_take-requires-clause-rule g c =
    takes-allowed g.row.F.Denot g.row.S.Denot g.F.SpillFile.held g.F.SpillFile.faults g.F.SpillFile.keeps g.S.Source.whole g.S.Source.left g.S.Source.given g.S.Source.faults g.J.Scan.told c.args.seat.now.id c.args.seat.now.me.0 c.args.slot c.requires.idle.0
