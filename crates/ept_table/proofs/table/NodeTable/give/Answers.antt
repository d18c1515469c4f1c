use Rattle.ept_table.proofs.Allowed.{gives-allowed}
use Rattle.ept_table.proofs.Sparing.{spare-given}
use Rattle.ept_table.proofs.table.NodeTable.give.Goals as goal

pub give-said-requires-clause-rule : goal.give-said-requires-clause-rule
give-said-requires-clause-rule g c =
    gives-allowed g.row.F.Denot g.row.S.Denot g.F.SpillFile.held g.F.SpillFile.faults g.F.SpillFile.keeps g.S.Source.whole g.S.Source.left g.S.Source.given g.S.Source.faults g.J.Scan.told c.args.seat.now.id c.args.seat.now.me.0 c.args.slot c.requires.visit.0 c.args.item _ c.args.done c.requires.visit.1 c.requires.visit.2 c.requires.visit.3 c.requires.filed

pub returns-clause-permits : goal.returns-clause-permits
returns-clause-permits g c = let did = c.give-said.ensures.step in spare-given g.row.F.Denot g.row.S.Denot c.args.seat.now.me.0 c.give-said.new.seat.me.0 c.args.item did.0 did.1 c.requires.permit
