use Rattle.ept_table.proofs.Allowed.{wishes-allowed, draws-after, refusal-after}
use Rattle.ept_table.proofs.table.NodeTable.draw_slot.Goals as goal

pub note-said-requires-clause-rule : goal.note-said-requires-clause-rule
note-said-requires-clause-rule g c =
    wishes-allowed g.row.F.Denot g.row.S.Denot g.F.SpillFile.held g.F.SpillFile.faults g.F.SpillFile.keeps g.S.Source.whole g.S.Source.left g.S.Source.given g.S.Source.faults g.J.Scan.told c.args.seat.now.id c.args.seat.now.me.0 c.args.octant

pub draw-requires-clause-rule : goal.draw-requires-clause-rule
draw-requires-clause-rule g c =
    draws-after g.row.F.Denot g.row.S.Denot g.F.SpillFile.held g.F.SpillFile.faults g.F.SpillFile.keeps g.S.Source.whole g.S.Source.left g.S.Source.given g.S.Source.faults g.J.Scan.told c.note-said.new.seat.id c.args.seat.now.me.0 c.note-said.new.seat.me.0 c.note-said.ensures.step.0 c.args.octant c.args.slot c.requires.may.0 c.note-said.ensures.step.1 c.note-said.ensures.step.2 c.requires.may.1 c.requires.may.2

pub draw-requires-clause-refused : goal.draw-requires-clause-refused
draw-requires-clause-refused g c =
    refusal-after g.row.F.Denot g.row.S.Denot g.F.SpillFile.held g.F.SpillFile.faults g.F.SpillFile.keeps g.S.Source.whole g.S.Source.left g.S.Source.given g.S.Source.faults g.J.Scan.told c.note-said.new.seat.id c.args.seat.now.me.0 c.note-said.new.seat.me.0 c.note-said.ensures.step.0 c.args.octant c.args.slot c.requires.may.0 c.note-said.ensures.step.1 c.note-said.ensures.step.2 c.requires.may.1 c.requires.may.2
