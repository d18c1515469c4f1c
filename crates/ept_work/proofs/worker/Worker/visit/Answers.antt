use Rattle.ept_table.specs.Standing.{known}
use Rattle.ept_work.proofs.Arrivals.{any-ok, visits-whole}
use Rattle.ept_work.proofs.Whole.{refused-idle, refused-parts}
use Rattle.ept_work.proofs.worker.Worker.visit.Goals as goal

pub returns-in-Ok-clause-visits : goal.returns-in-Ok-clause-visits
returns-in-Ok-clause-visits g c =
    any-ok c.leave.result (visits-whole g.F.SpillFile.held g.J.Scan.told (known g.F.SpillFile.held g.S.Source.whole c.args.self.now.seat.me.0) (known g.F.SpillFile.held g.S.Source.whole c.take_up.new.self.seat.me.0) (known g.F.SpillFile.held g.S.Source.whole c.land.new.self.seat.me.0) (known g.F.SpillFile.held g.S.Source.whole c.leave.new.self.seat.me.0) c.in_ok-visit.visit c.in-Ok.landing c.in_ok-visit.ensures.ok c.in-Ok.ensures.opens c.in-Ok.ensures.ok.0 c.leave.ensures.knows)

pub returns-in_err-visit-clause-idle : goal.returns-in_err-visit-clause-idle
returns-in_err-visit-clause-idle g c = refused-idle _ _ _ c.in_err-visit.ensures.noted c.requires.rest.idle

pub returns-in_err-visit-clause-share : goal.returns-in_err-visit-clause-share
returns-in_err-visit-clause-share g c = refused-parts _ _ _ c.in_err-visit.ensures.noted
