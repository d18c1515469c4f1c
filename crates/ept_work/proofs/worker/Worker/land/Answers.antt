use Rattle.std.proofs.Common.{◌≡◌, ◌∙◌, ◌+◌, ◌≤◌, length, vec_len, vec_capacity, refl, sym, ap, subst, arith}
use Rattle.ept_space.specs.declared.cube.Rules.{Rules}
use Rattle.ept_space.specs.OctreeCube.{IsCube}
use Rattle.ept_slots.specs.Seating.{SlotSeat}
use Rattle.ept_table.specs.declared.done.Said.{Said}
use Rattle.ept_table.specs.declared.item.Item.{Item}
use Rattle.ept_table.specs.declared.note.Note.{Note}
use Rattle.ept_table.specs.declared.note.Carried.{Carried}
use Rattle.ept_table.specs.Standing.{known}
use Rattle.ept_table.proofs.Lists.{at-below}
use Rattle.ept_work.specs.Visiting.{IsVisit, held_fault}
use Rattle.ept_work.proofs.Arrivals.{when-ok, carried-same, visit-again, visit-inside, visit-some, visit-may, visit-unopened, lands}
use Rattle.ept_work.proofs.worker.Worker.land.Goals as goal

pub index-requires : goal.index-requires
index-requires g c =
    let seat = c.reserve.new.self.seat in
    let is = subst (λ (s : SlotSeat (Item g.row.F.Denot g.row.S.Denot) Note Said). IsVisit g.F.SpillFile.held g.J.Scan.told (known g.F.SpillFile.held g.S.Source.whole s.me.0) c.args.visit) (sym c.reserve.ensures.seat) c.requires.visit in
    omega (arith, at-below is.its, ap length c.reserve.new.self.carries, c.reserve.new.self.flights.ok.0)

pub arrived-requires-clause-inside : goal.arrived-requires-clause-inside
arrived-requires-clause-inside g c =
    let seat = c.reserve.new.self.seat in
    let v = known g.F.SpillFile.held g.S.Source.whole seat.me.0 in
    let is = subst (λ (s : SlotSeat (Item g.row.F.Denot g.row.S.Denot) Note Said). IsVisit g.F.SpillFile.held g.J.Scan.told (known g.F.SpillFile.held g.S.Source.whole s.me.0) c.args.visit) (sym c.reserve.ensures.seat) c.requires.visit in
    let carried = carried-same v c.reserve.new.self.flights.items c.args.visit.number is.carried c.index.result.now is.its c.reserve.new.self.carries c.index.ensures in
    let points : c.as_slice.result.now ≡ is.carried.flight.points = c.as_slice.ensures ∙ ap (λ (d : Carried). d.flight.points) (sym carried) in
    visit-inside g.F.SpillFile.held g.J.Scan.told v c.args.visit is c.as_slice.result.now points

pub arrived-requires-clause-some : goal.arrived-requires-clause-some
arrived-requires-clause-some g c =
    let seat = c.reserve.new.self.seat in
    let v = known g.F.SpillFile.held g.S.Source.whole seat.me.0 in
    let is = subst (λ (s : SlotSeat (Item g.row.F.Denot g.row.S.Denot) Note Said). IsVisit g.F.SpillFile.held g.J.Scan.told (known g.F.SpillFile.held g.S.Source.whole s.me.0) c.args.visit) (sym c.reserve.ensures.seat) c.requires.visit in
    let carried = carried-same v c.reserve.new.self.flights.items c.args.visit.number is.carried c.index.result.now is.its c.reserve.new.self.carries c.index.ensures in
    let points : c.as_slice.result.now ≡ is.carried.flight.points = c.as_slice.ensures ∙ ap (λ (d : Carried). d.flight.points) (sym carried) in
    visit-some g.F.SpillFile.held g.J.Scan.told v c.args.visit is c.as_slice.result.now points

pub returns-in-Err-clause-refused : goal.returns-in-Err-clause-refused
returns-in-Err-clause-refused g c =
    let seat = c.reserve.new.self.seat in
    let v = known g.F.SpillFile.held g.S.Source.whole seat.me.0 in
    let is = subst (λ (s : SlotSeat (Item g.row.F.Denot g.row.S.Denot) Note Said). IsVisit g.F.SpillFile.held g.J.Scan.told (known g.F.SpillFile.held g.S.Source.whole s.me.0) c.args.visit) (sym c.reserve.ensures.seat) c.requires.visit in
    visit-again g.F.SpillFile.held g.J.Scan.told v c.args.visit is c.in-Err.node c.in-Err.ensures.refused

pub open_children-node-requires-clause-may : goal.open_children-node-requires-clause-may
open_children-node-requires-clause-may g c =
    let seat = c.reserve.new.self.seat in
    let v = known g.F.SpillFile.held g.S.Source.whole seat.me.0 in
    let is = subst (λ (s : SlotSeat (Item g.row.F.Denot g.row.S.Denot) Note Said). IsVisit g.F.SpillFile.held g.J.Scan.told (known g.F.SpillFile.held g.S.Source.whole s.me.0) c.args.visit) (sym c.reserve.ensures.seat) c.requires.visit in
    let carried = carried-same v c.reserve.new.self.flights.items c.args.visit.number is.carried c.index.result.now is.its c.reserve.new.self.carries c.index.ensures in
    let points : c.as_slice.result.now ≡ is.carried.flight.points = c.as_slice.ensures ∙ ap (λ (d : Carried). d.flight.points) (sym carried) in
    visit-may g.F.SpillFile.held g.J.Scan.told v c.args.visit is c.as_slice.result.now points c.in-Ok.node c.arrived.new.out c.in-Ok.ensures.ok c.in-Ok.ensures.state c.open_mask-before.result c.open_mask-before.ensures

pub open_children-node-requires-clause-unopened : goal.open_children-node-requires-clause-unopened
open_children-node-requires-clause-unopened g c =
    let seat = c.reserve.new.self.seat in
    let v = known g.F.SpillFile.held g.S.Source.whole seat.me.0 in
    let is = subst (λ (s : SlotSeat (Item g.row.F.Denot g.row.S.Denot) Note Said). IsVisit g.F.SpillFile.held g.J.Scan.told (known g.F.SpillFile.held g.S.Source.whole s.me.0) c.args.visit) (sym c.reserve.ensures.seat) c.requires.visit in
    let carried = carried-same v c.reserve.new.self.flights.items c.args.visit.number is.carried c.index.result.now is.its c.reserve.new.self.carries c.index.ensures in
    let points : c.as_slice.result.now ≡ is.carried.flight.points = c.as_slice.ensures ∙ ap (λ (d : Carried). d.flight.points) (sym carried) in
    visit-unopened g.F.SpillFile.held g.J.Scan.told v c.args.visit is c.as_slice.result.now points c.in-Ok.node c.arrived.new.out c.in-Ok.ensures.ok c.in-Ok.ensures.state

pub returns-clause-ok : goal.returns-clause-ok
returns-clause-ok g c =
    let seat = c.reserve.new.self.seat in
    let v = known g.F.SpillFile.held g.S.Source.whole seat.me.0 in
    let is = subst (λ (s : SlotSeat (Item g.row.F.Denot g.row.S.Denot) Note Said). IsVisit g.F.SpillFile.held g.J.Scan.told (known g.F.SpillFile.held g.S.Source.whole s.me.0) c.args.visit) (sym c.reserve.ensures.seat) c.requires.visit in
    let carried = carried-same v c.reserve.new.self.flights.items c.args.visit.number is.carried c.index.result.now is.its c.reserve.new.self.carries c.index.ensures in
    let points : c.as_slice.result.now ≡ is.carried.flight.points = c.as_slice.ensures ∙ ap (λ (d : Carried). d.flight.points) (sym carried) in
    let o = c.open_children-node.ensures in
    let node = c.open_children-node.result.node in
    let cube : IsCube g.J.Scan.told.rules.cube = subst (λ (r : Rules). IsCube r.cube) (c.rules.ensures ∙ c.requires.rules) c.known.ensures in
    let few : length c.send_on-fresh.result.items ≤ 8 = c.send_on-fresh.ensures.few in
    let room : vec_len c.reserve.new.self.flights + 8 ≤ vec_capacity c.reserve.new.self.flights = when-ok c.reserve.result c.if-is_err.ensures.negation c.reserve.ensures.room in
    (lands g.F.SpillFile.held g.J.Scan.told v c.args.visit is c.as_slice.result.now points c.in-Ok.node c.arrived.new.out c.in-Ok.ensures.ok c.in-Ok.ensures.state (known g.F.SpillFile.held g.S.Source.whole c.open_children-node.new.seat.me.0) c.open_mask-before.result node (record { node = node; slot = c.args.visit.slot; number = c.args.visit.number; fresh = c.send_on-fresh.result; is_full = c.open_children-node.result.is_full }) o.view o.may o.node o.file o.opened refl refl refl c.index.result.now.flight.actor (ap (λ (d : Carried). d.flight.actor) (sym carried)) c.send_on-fresh.ensures.sent c.known-2.ensures.inside c.known-3.ensures.inside cube c.known-4.ensures, omega (arith, few, room, c.reserve.new.self.flights.ok.0))

pub returns-clause-whole : goal.returns-clause-whole
returns-clause-whole g c =
    ap held_fault (c.open_children-node.ensures.held ∙ ap (λ (s : SlotSeat (Item g.row.F.Denot g.row.S.Denot) Note Said). s.me.0.hold) c.reserve.ensures.seat) ∙ c.requires.whole
