use Rattle.ept_grid.proofs.Lookups.{look-some, look-none}
use Rattle.ept_grid.proofs.lookup.is_no_winner.Goals as goal

pub returns-in-Some : goal.returns-in-Some
returns-in-Some c =
    look-some c.args.rules.now c.args.depth c.args.heads.now c.args.cells.now c.args.point.now c.in-Some.winner c.have_one_id.result c.requires.chained c.requires.in_place c.in-Some.ensures c.have_one_id.ensures

pub returns-in-None : goal.returns-in-None
returns-in-None c =
    look-none c.args.rules.now c.args.depth c.args.cells.now c.args.point.now c.requires.in_place c.in-None.ensures
