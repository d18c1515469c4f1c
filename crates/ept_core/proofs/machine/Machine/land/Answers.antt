use Rattle.std.proofs.Common.{◌∙◌, suc, sym, take, drop}
use Rattle.ept_core.specs.declared.flight.Flight.{Flight}
use Rattle.ept_core.specs.declared.machine.Machine.{Machine}
use Rattle.ept_core.specs.Steps.{IsFlight}
use Rattle.ept_core.proofs.Arriving.{is-flight}
use Rattle.ept_core.proofs.machine.Machine.land.Goals as goal

pub returns-then-not-is_resident-clause-refused : goal.returns-then-not-is_resident-clause-refused
returns-then-not-is_resident-clause-refused c =
    let m : Machine = c.args.self.now in
    let f : Flight = c.index.result.now in
    let found : IsFlight m.flights.items c.args.actor c.args.number (take c.in-Some.index m.flights.items) f (drop (suc c.in-Some.index) m.flights.items) =
    is-flight m.flights.items c.as_slice.result.now c.args.actor c.args.number c.in-Some.index f c.as_slice.ensures.value c.in-Some.ensures.0 c.in-Some.ensures.1 c.in-Some.ensures.2 c.index.ensures in
    (c.requires.actor, (take c.in-Some.index m.flights.items, f, drop (suc c.in-Some.index) m.flights.items, found, sym c.is_resident.ensures ∙ c.if-not-is_resident.true))

pub returns-clause-ok : goal.returns-clause-ok
returns-clause-ok c =
    let m : Machine = c.args.self.now in
    let f : Flight = c.index.result.now in
    let found : IsFlight m.flights.items c.args.actor c.args.number (take c.in-Some.index m.flights.items) f (drop (suc c.in-Some.index) m.flights.items) =
    is-flight m.flights.items c.as_slice.result.now c.args.actor c.args.number c.in-Some.index f c.as_slice.ensures.value c.in-Some.ensures.0 c.in-Some.ensures.1 c.in-Some.ensures.2 c.index.ensures in
    (take c.in-Some.index m.flights.items, f, drop (suc c.in-Some.index) m.flights.items, found, sym c.is_resident.ensures ∙ c.if-not-is_resident.false, c.in_ok-arrive.ensures.ok f (sym c.index.ensures))
