use Rattle.std.proofs.Common.{◌≡◌, ◌∙◌, ◌<◌, ◌+◌, ◌≤◌, ◌++◌, inl, refl, sym, ap, subst, arith}
use Rattle.ept_space.specs.declared.cube.Rules.{Rules}
use Rattle.ept_sample.specs.Ids.{HasDistinctIds}
use Rattle.ept_sample.specs.Members.{IsMember}
use Rattle.ept_node.specs.Shown.{fault_of}
use Rattle.ept_table.specs.declared.item.Item.{Item}
use Rattle.ept_table.specs.declared.taken.Taken.{Taken}
use Rattle.ept_table.specs.Item.{cell_of, seen, seen_node, broken_by}
use Rattle.ept_table.specs.Taken.{points_of}
use Rattle.ept_table.specs.Steps.{holding, StaysAlike}
use Rattle.ept_table.specs.Standing.{known}
use Rattle.ept_table.specs.Table.{slots_of}
use Rattle.ept_table.specs.Tells.{Fits}
use Rattle.ept_table.specs.View.{View}
use Rattle.ept_table.proofs.Lists.{at-member}
use Rattle.ept_work.specs.declared.visit.Visit.{Visit}
use Rattle.ept_work.specs.Visiting.{IsBegun, held_fault}
use Rattle.ept_work.proofs.Filing.{distinct-right, seen-standing}
use Rattle.ept_work.proofs.Carrying.{is-at, node-taken, takes-up}
use Rattle.ept_work.proofs.Whole.{gave-again, staying-noted, staying-again, staying-refused}
use Rattle.ept_work.proofs.worker.Worker.try_up.Goals as goal

pub permit_for-requires-clause-some : goal.permit_for-requires-clause-some
permit_for-requires-clause-some g c =
    let v = known g.F.SpillFile.held g.S.Source.whole c.args.self.now.seat.me.0 in
    let carried = c.index-carried.result.now in
    let its = is-at v c.args.self.now.flights.items c.in-Ok.number carried c.args.self.now.carries (omega (arith, c.in-Ok.ensures.1, c.next.ensures, c.args.self.now.flights.ok.0)) c.index-carried.ensures in
    let some : 0 < carried.slot = omega (arith, c.if-slot-eq0.false) in
    let low : carried.slot ≤ g.J.Scan.told.most = c.requires.rest.within carried (at-member v.note.flights c.in-Ok.number carried its) in
    let slots : slots_of c.args.table.now ≡ g.J.Scan.told.most + 1 = c.requires.slots in
    omega (arith, low, slots, some)

pub take-requires-clause-slot : goal.take-requires-clause-slot
take-requires-clause-slot g c =
    let v = known g.F.SpillFile.held g.S.Source.whole c.args.self.now.seat.me.0 in
    let carried = c.index-carried.result.now in
    let its = is-at v c.args.self.now.flights.items c.in-Ok.number carried c.args.self.now.carries (omega (arith, c.in-Ok.ensures.1, c.next.ensures, c.args.self.now.flights.ok.0)) c.index-carried.ensures in
    let some : 0 < carried.slot = omega (arith, c.if-slot-eq0.false) in
    let low : carried.slot ≤ g.J.Scan.told.most = c.requires.rest.within carried (at-member v.note.flights c.in-Ok.number carried its) in
    let slots : slots_of c.args.table.now ≡ g.J.Scan.told.most + 1 = c.requires.slots in
    omega (arith, low, slots)

pub node_in-node-requires : goal.node_in-node-requires
node_in-node-requires g c =
    let some : 0 < c.index-carried.result.now.slot = omega (arith, c.if-slot-eq0.false) in
    node-taken g.F.SpillFile.held g.S.Source.whole c.take.result (c.take.ensures.fits.node some)

pub readied-requires-clause-low : goal.readied-requires-clause-low
readied-requires-clause-low g c =
    let v = known g.F.SpillFile.held g.S.Source.whole c.args.self.now.seat.me.0 in
    let carried = c.index-carried.result.now in
    let its = is-at v c.args.self.now.flights.items c.in-Ok.number carried c.args.self.now.carries (omega (arith, c.in-Ok.ensures.1, c.next.ensures, c.args.self.now.flights.ok.0)) c.index-carried.ensures in
    let some : 0 < carried.slot = omega (arith, c.if-slot-eq0.false) in
    let v1 = known g.F.SpillFile.held g.S.Source.whole c.permit_for.new.self.seat.me.0 in
    let member : IsMember carried v1.note.flights = subst (λ (u : View). IsMember carried u.note.flights) (sym c.in_ok-has_permit.ensures.same) (at-member v.note.flights c.in-Ok.number carried its) in
    let flies = c.take.ensures.fits.flight carried member refl some in
    let sees : seen g.F.SpillFile.held g.S.Source.whole c.take.result ≡ seen_node g.F.SpillFile.held c.node_in-node.result = ap (λ (x : Item g.row.F.Denot g.row.S.Denot). seen g.F.SpillFile.held g.S.Source.whole x) c.node_in-node.ensures in
    subst (λ (r : Rules). carried.flight.key.depth ≤ r.cube.depth) (sym (c.rules.ensures ∙ c.requires.rules)) flies.sound.low

pub readied-requires-clause-standing : goal.readied-requires-clause-standing
readied-requires-clause-standing g c = λ not. (
    let v = known g.F.SpillFile.held g.S.Source.whole c.args.self.now.seat.me.0 in
    let carried = c.index-carried.result.now in
    let its = is-at v c.args.self.now.flights.items c.in-Ok.number carried c.args.self.now.carries (omega (arith, c.in-Ok.ensures.1, c.next.ensures, c.args.self.now.flights.ok.0)) c.index-carried.ensures in
    let some : 0 < carried.slot = omega (arith, c.if-slot-eq0.false) in
    let v1 = known g.F.SpillFile.held g.S.Source.whole c.permit_for.new.self.seat.me.0 in
    let member : IsMember carried v1.note.flights = subst (λ (u : View). IsMember carried u.note.flights) (sym c.in_ok-has_permit.ensures.same) (at-member v.note.flights c.in-Ok.number carried its) in
    let flies = c.take.ensures.fits.flight carried member refl some in
    let sees : seen g.F.SpillFile.held g.S.Source.whole c.take.result ≡ seen_node g.F.SpillFile.held c.node_in-node.result = ap (λ (x : Item g.row.F.Denot g.row.S.Denot). seen g.F.SpillFile.held g.S.Source.whole x) c.node_in-node.ensures in
    let node = c.node_in-node.result in
    let stands = sees ∙ seen-standing g.F.SpillFile.held node not in
    (flies.key (cell_of g.F.SpillFile.held node) stands, (c.take.ensures.fits.sound (cell_of g.F.SpillFile.held node) stands).rules ∙ sym (c.rules.ensures ∙ c.requires.rules)))

pub readied-requires-clause-different : goal.readied-requires-clause-different
readied-requires-clause-different g c = λ tells. (
    let v = known g.F.SpillFile.held g.S.Source.whole c.args.self.now.seat.me.0 in
    let carried = c.index-carried.result.now in
    let its = is-at v c.args.self.now.flights.items c.in-Ok.number carried c.args.self.now.carries (omega (arith, c.in-Ok.ensures.1, c.next.ensures, c.args.self.now.flights.ok.0)) c.index-carried.ensures in
    let some : 0 < carried.slot = omega (arith, c.if-slot-eq0.false) in
    let v1 = known g.F.SpillFile.held g.S.Source.whole c.permit_for.new.self.seat.me.0 in
    let member : IsMember carried v1.note.flights = subst (λ (u : View). IsMember carried u.note.flights) (sym c.in_ok-has_permit.ensures.same) (at-member v.note.flights c.in-Ok.number carried its) in
    let flies = c.take.ensures.fits.flight carried member refl some in
    let sees : seen g.F.SpillFile.held g.S.Source.whole c.take.result ≡ seen_node g.F.SpillFile.held c.node_in-node.result = ap (λ (x : Item g.row.F.Denot g.row.S.Denot). seen g.F.SpillFile.held g.S.Source.whole x) c.node_in-node.ensures in
    let both = subst (λ (x : Taken). HasDistinctIds (carried.flight.points ++ points_of x)) sees (flies.different tells) in
    distinct-right carried.flight.points (points_of (seen_node g.F.SpillFile.held c.node_in-node.result)) both)

pub give-done-requires-clause-visit : goal.give-done-requires-clause-visit
give-done-requires-clause-visit g c =
    let some : 0 < c.index-carried.result.now.slot = omega (arith, c.if-slot-eq0.false) in
    let sees : seen_node g.F.SpillFile.held c.node_in-node.result ≡ seen g.F.SpillFile.held g.S.Source.whole c.take.result = sym (ap (λ (x : Item g.row.F.Denot g.row.S.Denot). seen g.F.SpillFile.held g.S.Source.whole x) c.node_in-node.ensures) in (
      c.take.result,
      c.take.ensures.holds,
      inl (
        subst (λ (x : Taken). StaysAlike g.J.Scan.told x (seen_node g.F.SpillFile.held c.in-Err.stays.node)) sees c.in-Err.ensures.stays,
        some,
        ap (λ (u : View). u.note.draws) c.take.ensures.known ∙ (ap (λ (u : View). u.note.draws) c.in_ok-has_permit.ensures.same ∙ c.requires.rest.idle.undrawn),
      ),
      λ why is. c.in-Err.ensures.broken why (sym (ap (λ (x : Item g.row.F.Denot g.row.S.Denot). broken_by x) c.node_in-node.ensures) ∙ is),
    )

pub give-done-requires-clause-slot : goal.give-done-requires-clause-slot
give-done-requires-clause-slot g c =
    let v = known g.F.SpillFile.held g.S.Source.whole c.args.self.now.seat.me.0 in
    let carried = c.index-carried.result.now in
    let its = is-at v c.args.self.now.flights.items c.in-Ok.number carried c.args.self.now.carries (omega (arith, c.in-Ok.ensures.1, c.next.ensures, c.args.self.now.flights.ok.0)) c.index-carried.ensures in
    let some : 0 < carried.slot = omega (arith, c.if-slot-eq0.false) in
    let low : carried.slot ≤ g.J.Scan.told.most = c.requires.rest.within carried (at-member v.note.flights c.in-Ok.number carried its) in
    let slots : slots_of c.args.table.now ≡ g.J.Scan.told.most + 1 = c.requires.slots in
    omega (arith, low, slots)

pub returns-after-has_permit-clause-up : goal.returns-after-has_permit-clause-up
returns-after-has_permit-clause-up g c =
    let v = known g.F.SpillFile.held g.S.Source.whole c.args.self.now.seat.me.0 in
    let carried = c.index-carried.result.now in
    let its = is-at v c.args.self.now.flights.items c.in-Ok.number carried c.args.self.now.carries (omega (arith, c.in-Ok.ensures.1, c.next.ensures, c.args.self.now.flights.ok.0)) c.index-carried.ensures in
    let some : 0 < carried.slot = omega (arith, c.if-slot-eq0.false) in
    let x = seen g.F.SpillFile.held g.S.Source.whole c.take.result in
    let sees : seen_node g.F.SpillFile.held c.node_in-node.result ≡ x = sym (ap (λ (y : Item g.row.F.Denot g.row.S.Denot). seen g.F.SpillFile.held g.S.Source.whole y) c.node_in-node.ensures) in
    let ready = c.in-Ok-readied.ready in
    let node = subst (λ (y : Taken). IsBegun g.F.SpillFile.held g.J.Scan.told y carried.flight.key ready.node ready.was_blank) sees c.in-Ok-readied.ensures.ready in
    let same = c.in_ok-has_permit.ensures.same in
    let fits = subst (λ (u : View). Fits g.J.Scan.told u carried.slot x) same c.take.ensures.fits in
    let visit : Visit g.row.F.Denot = record { node = ready.node; slot = carried.slot; number = c.in-Ok.number; was_blank = ready.was_blank } in
    takes-up g.F.SpillFile.held g.J.Scan.told v (known g.F.SpillFile.held g.S.Source.whole c.permit_back.new.seat.me.0) x carried.slot c.in-Ok.number carried visit c.requires.rest (c.permit_back.ensures.known ∙ (c.take.ensures.known ∙ ap (λ (u : View). holding u carried.slot x) same)) fits its refl some refl refl node c.in-Ok-readied.ensures.telling

pub returns-after-has_permit-clause-whole : goal.returns-after-has_permit-clause-whole
returns-after-has_permit-clause-whole g c = λ some.
    ap held_fault (c.permit_back.ensures.held ∙ c.take.ensures.holds) ∙ (ap (λ (x : Item g.row.F.Denot g.row.S.Denot). broken_by x) c.node_in-node.ensures ∙ c.in-Ok-readied.ensures.sound)

pub returns-in-Err-clause-noted : goal.returns-in-Err-clause-noted
returns-in-Err-clause-noted g c =
    let v = known g.F.SpillFile.held g.S.Source.whole c.args.self.now.seat.me.0 in
    let mid = known g.F.SpillFile.held g.S.Source.whole c.permit_for.new.self.seat.me.0 in
    let u = known g.F.SpillFile.held g.S.Source.whole c.take.new.seat.me.0 in
    let back = known g.F.SpillFile.held g.S.Source.whole c.give-done.new.seat.me.0 in
    let w = known g.F.SpillFile.held g.S.Source.whole c.permit_back-in-Err.new.seat.me.0 in
    let node = c.in-Err.stays.node in
    let x = seen g.F.SpillFile.held g.S.Source.whole c.take.result in
    let gave = gave-again g.F.SpillFile.held v mid u back w c.index-carried.result.now.slot x node c.requires.rest.idle.free c.in_ok-has_permit.ensures.same c.take.ensures.known c.give-done.ensures.known c.permit_back-in-Err.ensures.known in
    staying-noted (Visit g.row.F.Denot) v w (fault_of node) gave c.in-Err.stays.why c.given_up.result c.given_up.ensures c.in-Err.ensures.reason

pub returns-in-Err-clause-again : goal.returns-in-Err-clause-again
returns-in-Err-clause-again g c =
    let v = known g.F.SpillFile.held g.S.Source.whole c.args.self.now.seat.me.0 in
    let mid = known g.F.SpillFile.held g.S.Source.whole c.permit_for.new.self.seat.me.0 in
    let u = known g.F.SpillFile.held g.S.Source.whole c.take.new.seat.me.0 in
    let back = known g.F.SpillFile.held g.S.Source.whole c.give-done.new.seat.me.0 in
    let w = known g.F.SpillFile.held g.S.Source.whole c.permit_back-in-Err.new.seat.me.0 in
    let node = c.in-Err.stays.node in
    let x = seen g.F.SpillFile.held g.S.Source.whole c.take.result in
    let gave = gave-again g.F.SpillFile.held v mid u back w c.index-carried.result.now.slot x node c.requires.rest.idle.free c.in_ok-has_permit.ensures.same c.take.ensures.known c.give-done.ensures.known c.permit_back-in-Err.ensures.known in
    staying-again (Visit g.row.F.Denot) v w (fault_of node) gave c.in-Err.stays.why c.given_up.result c.given_up.ensures c.in-Err.ensures.reason

pub returns-in-Err-clause-refused : goal.returns-in-Err-clause-refused
returns-in-Err-clause-refused g c =
    let v = known g.F.SpillFile.held g.S.Source.whole c.args.self.now.seat.me.0 in
    let mid = known g.F.SpillFile.held g.S.Source.whole c.permit_for.new.self.seat.me.0 in
    let u = known g.F.SpillFile.held g.S.Source.whole c.take.new.seat.me.0 in
    let back = known g.F.SpillFile.held g.S.Source.whole c.give-done.new.seat.me.0 in
    let w = known g.F.SpillFile.held g.S.Source.whole c.permit_back-in-Err.new.seat.me.0 in
    let node = c.in-Err.stays.node in
    let x = seen g.F.SpillFile.held g.S.Source.whole c.take.result in
    let gave = gave-again g.F.SpillFile.held v mid u back w c.index-carried.result.now.slot x node c.requires.rest.idle.free c.in_ok-has_permit.ensures.same c.take.ensures.known c.give-done.ensures.known c.permit_back-in-Err.ensures.known in
    staying-refused (Visit g.row.F.Denot) v w (fault_of node) gave c.in-Err.stays.why c.given_up.result c.given_up.ensures c.in-Err.ensures.reason g.J.Scan.told
