use Rattle.std.proofs.Common.{◌∙◌, List, sym, ap}
use Rattle.ept_table.specs.declared.note.Carried.{Carried}
use Rattle.ept_table.specs.Standing.{known}
use Rattle.ept_table.specs.Steps.{last_in_one}
use Rattle.ept_table.specs.View.{View}
use Rattle.ept_work.proofs.InOne.{merged-is, merged-rest}
use Rattle.ept_work.proofs.worker.Worker.merge_last.Goals as goal

pub invariant_of-self-in-Ok-clause-carries : goal.invariant_of-self-in-Ok-clause-carries
invariant_of-self-in-Ok-clause-carries g c =
    ap (λ (u : View). u.note.flights) c.merge.ensures.known
    ∙ (ap (λ (cs : List Carried). last_in_one cs) c.args.self.now.carries
    ∙ (merged-is c.args.self.now.flights.items c.pop.new.self.items c.pop-2.new.self.items c.in-Some-pop.first c.in-Some.second c.in-Ok.one c.in-Some.ensures.items c.in-Some-pop.ensures.items c.in-Ok.ensures.one
    ∙ sym c.push_reserved-in-Ok.ensures.items))

pub returns-in-Ok-clause-rest : goal.returns-in-Ok-clause-rest
returns-in-Ok-clause-rest g c =
    merged-rest c.args.self.now.flights.items c.pop.new.self.items c.pop-2.new.self.items c.in-Some-pop.first c.in-Some.second c.in-Ok.one c.in-Some.ensures.items c.in-Some-pop.ensures.items c.in-Ok.ensures.one g.J.Scan.told (known g.F.SpillFile.held g.S.Source.whole c.args.self.now.seat.me.0) (known g.F.SpillFile.held g.S.Source.whole c.merge.new.seat.me.0) c.args.self.now.carries c.merge.ensures.known c.requires.rest
