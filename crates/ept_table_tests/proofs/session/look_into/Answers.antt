use Rattle.ept_slots.specs.Seating.{view}
use Rattle.ept_table.specs.Item.{seen}
use Rattle.ept_table.specs.Standing.{known}
use Rattle.ept_table_tests.proofs.Looking.{given-as-taken}
use Rattle.ept_table_tests.proofs.session.look_into.Goals as goal

pub give-done-requires-clause-visit : goal.give-done-requires-clause-visit
give-done-requires-clause-visit g c = (
  c.take-item.result,
  c.take-item.ensures.holds,
  given-as-taken g.J.Scan.told (known g.F.SpillFile.held g.S.Source.whole (view c.args.seat.now)) (known g.F.SpillFile.held g.S.Source.whole (view c.take-item.new.seat)) c.args.slot (seen g.F.SpillFile.held g.S.Source.whole c.take-item.result) c.take-item.ensures.known c.requires.rest c.take-item.ensures.fits,
  λ why is. is,
)
