use Rattle.std.proofs.Common.{◌≡◌}
use Rattle.ept_table.specs.Table.{IsSeat}
use Rattle.ept_table.specs.Permits.{spare_of}
use Rattle.ept_work.specs.Rest.{IsAtRest}
use Rattle.ept_work.specs.Worker.{seat_of, number_of, knows}
use Rattle.ept_work.proofs.worker.Worker.take_up.Given as goal

abbrev pub invariant-loop : goal.invariant-loop
invariant-loop g l =
    (goal.iterator-loop g).can_next l.iterator'
    × (goal.iterator-loop g).is_finite l.iterator'
    × IsSeat g.J.Scan.told l.table (seat_of l.self)
    × (number_of l.self ≡ number_of l.initial.self)
    × IsAtRest g.J.Scan.told (knows g.F.SpillFile.held g.S.Source.whole l.self)
    × (knows g.F.SpillFile.held g.S.Source.whole l.self ≡ knows g.F.SpillFile.held g.S.Source.whole l.initial.self)
    × (spare_of (seat_of l.self).me.0 ≡ spare_of (seat_of l.initial.self).me.0)
