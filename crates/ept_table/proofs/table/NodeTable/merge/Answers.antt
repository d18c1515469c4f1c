use Rattle.ept_table.proofs.Allowed.{merges-allowed}
use Rattle.ept_table.proofs.Sparing.{spare-noted}
use Rattle.ept_table.proofs.table.NodeTable.merge.Goals as goal

pub look-requires-clause-rule : goal.look-requires-clause-rule
look-requires-clause-rule g c =
    merges-allowed g.row.F.Denot g.row.S.Denot g.F.SpillFile.held g.F.SpillFile.faults g.F.SpillFile.keeps g.S.Source.whole g.S.Source.left g.S.Source.given g.S.Source.faults g.J.Scan.told c.args.seat.now.id c.args.seat.now.me.0 c.requires.idle.0 c.requires.idle.1 c.requires.together

pub returns-clause-permits : goal.returns-clause-permits
returns-clause-permits g c = let did = c.look.ensures.step in spare-noted g.row.F.Denot g.row.S.Denot c.args.seat.now.me.0 c.look.new.seat.me.0 did.0 did.1
