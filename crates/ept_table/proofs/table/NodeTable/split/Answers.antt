use Rattle.ept_table.proofs.Allowed.{splits-allowed}
use Rattle.ept_table.proofs.table.NodeTable.split.Goals as goal

pub split-requires-clause-rule : goal.split-requires-clause-rule
split-requires-clause-rule g c =
    splits-allowed g.row.F.Denot g.row.S.Denot g.F.SpillFile.held g.F.SpillFile.faults g.F.SpillFile.keeps g.S.Source.whole g.S.Source.left g.S.Source.given g.S.Source.faults g.J.Scan.told c.args.seat.now.id c.args.seat.now.me.0 c.requires.share.0
