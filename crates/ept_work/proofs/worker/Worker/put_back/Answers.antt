use Rattle.std.proofs.Common.{◌≡◌, ◌∙◌, ◌+◌, ◌≤◌, inl, sym, ap, subst, arith}
use Rattle.ept_table.specs.declared.taken.Taken.{Taken}
use Rattle.ept_table.specs.Item.{seen_node}
use Rattle.ept_table.specs.Standing.{known}
use Rattle.ept_table.specs.Steps.{StaysAlike}
use Rattle.ept_table.specs.Table.{slots_of}
use Rattle.ept_work.proofs.Known.{known-item}
use Rattle.ept_work.proofs.Begun.{begun-back}
use Rattle.ept_work.proofs.Filing.{back-filed}
use Rattle.ept_table.specs.declared.item.Item.TheVariants as items
use Rattle.ept_table.specs.Permits.{weight_of, spare_of}
use Rattle.ept_table.specs.View.{View}
use Rattle.ept_table.proofs.Lists.{at-member}
use Rattle.ept_work.proofs.Permitted.{few-weight, blank-weight, back-weight, free-permits}
use Rattle.ept_work.proofs.Carrying.{back-rest}
use Rattle.ept_work.proofs.Whole.{stays-whole, gave-as-taken}
use Rattle.ept_work.proofs.worker.Worker.put_back.Goals as goal

pub give-done-requires-clause-visit : goal.give-done-requires-clause-visit
give-done-requires-clause-visit g c =
    let is = c.requires.visit in
    let item = known-item g.F.SpillFile.held g.S.Source.whole c.args.self.now.seat.me.0 c.args.visit.slot is.taken is.holds in
    let back = begun-back g.F.SpillFile.held g.J.Scan.told is.taken is.carried.flight.key c.args.visit.node c.args.visit.was_blank is.node c.as_taken-node.result c.as_taken-node.ensures.blank c.as_taken-node.ensures.standing in
    (item.0, item.1, inl (subst (λ (x : Taken). StaysAlike g.J.Scan.told x (seen_node g.F.SpillFile.held c.as_taken-node.result)) (sym item.2) back, is.is_node, is.undrawn), stays-whole c.args.self.now.seat.me.0 c.args.visit.slot item.0 (items.Node c.as_taken-node.result) c.requires.whole item.1)

pub give-done-requires-clause-slot : goal.give-done-requires-clause-slot
give-done-requires-clause-slot g c =
    let is = c.requires.visit in
    let low : is.carried.slot ≤ g.J.Scan.told.most = is.within is.carried (at-member (known g.F.SpillFile.held g.S.Source.whole c.args.self.now.seat.me.0).note.flights c.args.visit.number is.carried is.its) in
    let slots : slots_of c.args.table.now ≡ g.J.Scan.told.most + 1 = c.requires.slots in
    omega (arith, low, slots, is.goes_there)

pub returns-clause-rest : goal.returns-clause-rest
returns-clause-rest g c =
    let v = known g.F.SpillFile.held g.S.Source.whole c.args.self.now.seat.me.0 in
    back-rest g.F.SpillFile.held g.J.Scan.told v (known g.F.SpillFile.held g.S.Source.whole c.permit_back.new.seat.me.0) c.args.visit c.requires.visit (c.permit_back.ensures.known ∙ gave-as-taken g.F.SpillFile.held v (known g.F.SpillFile.held g.S.Source.whole c.give-done.new.seat.me.0) c.args.visit.node c.as_taken-node.result c.args.visit.was_blank c.requires.visit.node.resident c.as_taken-node.ensures.blank c.as_taken-node.ensures.standing c.give-done.ensures.known)

pub give-done-requires-clause-permit : goal.give-done-requires-clause-permit
give-done-requires-clause-permit g c = omega (arith, few-weight g.row.F.Denot g.row.S.Denot c.as_taken-node.result, c.requires.permit)

pub permit_back-requires-clause-permit : goal.permit_back-requires-clause-permit
permit_back-requires-clause-permit g c = λ was. (
    let all : spare_of c.give-done.new.seat.me.0 ≡ c.give-done.new.seat.me.0.permits = free-permits g.row.F.Denot g.row.S.Denot g.F.SpillFile.held g.S.Source.whole c.give-done.new.seat.me.0 (ap (λ (v : View). v.hold) c.give-done.ensures.known) in
    let none : weight_of {F = g.row.F.Denot} {S = g.row.S.Denot} (items.Node c.as_taken-node.result) ≡ 0 = blank-weight g.row.F.Denot g.row.S.Denot c.as_taken-node.result (c.as_taken-node.ensures.blank was) in
    omega (arith, all, none, c.give-done.ensures.permits, c.requires.permit))

pub returns-clause-permits : goal.returns-clause-permits
returns-clause-permits g c =
    let one = back-weight g.row.F.Denot g.row.S.Denot c.args.visit.node c.as_taken-node.result c.args.visit.was_blank c.requires.visit.node.resident c.as_taken-node.ensures.blank c.as_taken-node.ensures.standing in
    omega (arith, one, c.give-done.ensures.permits, c.permit_back.ensures.permits)

pub give-done-requires-clause-filed : goal.give-done-requires-clause-filed
give-done-requires-clause-filed g c =
    let is = c.requires.visit in
    back-filed g.F.SpillFile.held g.F.SpillFile.faults g.F.SpillFile.keeps g.J.Scan.told c.args.visit.node c.as_taken-node.result c.args.visit.was_blank is.node.resident c.as_taken-node.ensures.blank c.as_taken-node.ensures.standing c.as_taken-node.ensures.file is.telling

pub returns-clause-knows : goal.returns-clause-knows
returns-clause-knows g c =
    let v = known g.F.SpillFile.held g.S.Source.whole c.args.self.now.seat.me.0 in
    c.permit_back.ensures.known ∙ gave-as-taken g.F.SpillFile.held v (known g.F.SpillFile.held g.S.Source.whole c.give-done.new.seat.me.0) c.args.visit.node c.as_taken-node.result c.args.visit.was_blank c.requires.visit.node.resident c.as_taken-node.ensures.blank c.as_taken-node.ensures.standing c.give-done.ensures.known
