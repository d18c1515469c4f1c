use Rattle.ept_table.proofs.Allowed.{takes-allowed}
use Rattle.ept_table.proofs.Sparing.{spare-taken}
use Rattle.ept_table.proofs.table.NodeTable.take.Goals as goal

pub take-requires-clause-rule : goal.take-requires-clause-rule
take-requires-clause-rule g c =
    takes-allowed g.row.F.Denot g.row.S.Denot g.F.SpillFile.held g.F.SpillFile.faults g.F.SpillFile.keeps g.S.Source.whole g.S.Source.left g.S.Source.given g.S.Source.faults g.J.Scan.told c.args.seat.now.id c.args.seat.now.me.0 c.args.slot c.requires.idle.0

pub returns-clause-permits : goal.returns-clause-permits
returns-clause-permits g c = let did = c.take.ensures.step in spare-taken g.row.F.Denot g.row.S.Denot c.args.seat.now.me.0 c.take.new.seat.me.0 c.args.slot c.take.result did.0 did.1 c.requires.idle.0
