use Rattle.std.proofs.Common.{◌≡◌, ◌∙◌, ◌+◌, ◌++◌, ◌≤◌, List, length, sym, ap, subst, arith}
use Rattle.std.specs.List.{remove}
use Rattle.ept_table.specs.declared.note.Carried.{Carried}
use Rattle.ept_table.specs.declared.done.Done.{Done}
use Rattle.ept_table.specs.declared.taken.Taken.{Taken}
use Rattle.ept_table.specs.Standing.{known}
use Rattle.ept_table.specs.Steps.{HasArrived}
use Rattle.ept_table.specs.Table.{slots_of}
use Rattle.ept_table.specs.View.{View}
use Rattle.ept_table.specs.Visits.{fresh_of}
use Rattle.ept_table.specs.Item.{cell_of}
use Rattle.ept_table.specs.declared.item.Item.TheVariants as items
use Rattle.ept_table.proofs.Lists.{at-below, at-member}
use Rattle.ept_work.proofs.Known.{known-item}
use Rattle.ept_work.proofs.Begun.{seen-resident}
use Rattle.ept_work.proofs.Filing.{resident-filed}
use Rattle.ept_work.proofs.Permitted.{resident-weight}
use Rattle.ept_work.proofs.Carrying.{left-rest}
use Rattle.ept_work.proofs.Whole.{stays-whole, gave-landed, left-idle, left-full}
use Rattle.ept_work.proofs.worker.Worker.leave.Goals as goal

pub give-done-requires-clause-visit : goal.give-done-requires-clause-visit
give-done-requires-clause-visit g c =
    let is = c.requires.landing in
    let told = g.J.Scan.told in
    let v = known g.F.SpillFile.held g.S.Source.whole c.args.self.now.seat.me.0 in
    let item = known-item g.F.SpillFile.held g.S.Source.whole c.args.self.now.seat.me.0 c.args.landing.slot is.taken is.holds in
    let cell = cell_of g.F.SpillFile.held c.args.landing.node in (
      item.0,
      item.1,
      record {
        carried = is.carried;
        cell = cell;
        its = is.its;
        goes_there = is.goes_there;
        is_node = is.is_node;
        given = seen-resident g.F.SpillFile.held c.args.landing.node is.resident;
        has_arrived = subst (λ (x : Taken). HasArrived told v x is.carried.flight cell c.of.result) (sym item.2) (subst (λ (fs : List Carried). HasArrived told v is.taken is.carried.flight cell fs) (sym c.of.ensures) is.has_arrived);
      },
      stays-whole c.args.self.now.seat.me.0 c.args.landing.slot item.0 (items.Node c.args.landing.node) c.requires.whole item.1,
    )

pub give-done-requires-clause-slot : goal.give-done-requires-clause-slot
give-done-requires-clause-slot g c =
    let is = c.requires.landing in
    let low : is.carried.slot ≤ g.J.Scan.told.most = is.within is.carried (at-member (known g.F.SpillFile.held g.S.Source.whole c.args.self.now.seat.me.0).note.flights c.args.landing.number is.carried is.its) in
    let slots : slots_of c.args.table.now ≡ g.J.Scan.told.most + 1 = c.requires.slots in
    omega (arith, low, slots, is.goes_there)

pub remove-landed-requires : goal.remove-landed-requires
remove-landed-requires g c = omega (arith, at-below c.requires.landing.its, ap length c.args.self.now.carries, c.args.self.now.flights.ok.0)

pub invariant_of-self-clause-carries : goal.invariant_of-self-clause-carries
invariant_of-self-clause-carries g c =
    let is = c.requires.landing in
    let v = known g.F.SpillFile.held g.S.Source.whole c.args.self.now.seat.me.0 in
    let n = c.args.landing.number in
    let gave = gave-landed g.F.SpillFile.held v (known g.F.SpillFile.held g.S.Source.whole c.give-done.new.seat.me.0) c.args.landing.number c.args.landing.node c.of.result c.args.landing.fresh.items is.resident c.give-done.ensures.known c.of.ensures in
    let front : remove v.note.flights n ≡ c.remove-landed.new.self.items = ap (λ (fs : List Carried). remove fs n) c.args.self.now.carries ∙ sym c.remove-landed.ensures.items in
    let back : c.args.landing.fresh.items ≡ c.fresh_in.result.items = sym (c.fresh_in.ensures ∙ (ap (λ (d : Done). fresh_of d) c.give-done.ensures.done ∙ c.of.ensures)) in
    ap (λ (u : View). u.note.flights) gave ∙ (ap (λ (fs : List Carried). fs ++ c.args.landing.fresh.items) front ∙ (ap (λ (fs : List Carried). c.remove-landed.new.self.items ++ fs) back ∙ sym c.take_over.ensures.flights))

pub returns-clause-knows : goal.returns-clause-knows
returns-clause-knows g c =
    let is = c.requires.landing in
    let v = known g.F.SpillFile.held g.S.Source.whole c.args.self.now.seat.me.0 in
    gave-landed g.F.SpillFile.held v (known g.F.SpillFile.held g.S.Source.whole c.give-done.new.seat.me.0) c.args.landing.number c.args.landing.node c.of.result c.args.landing.fresh.items is.resident c.give-done.ensures.known c.of.ensures

pub returns-clause-idle : goal.returns-clause-idle
returns-clause-idle g c =
    let is = c.requires.landing in
    let v = known g.F.SpillFile.held g.S.Source.whole c.args.self.now.seat.me.0 in
    let gave = gave-landed g.F.SpillFile.held v (known g.F.SpillFile.held g.S.Source.whole c.give-done.new.seat.me.0) c.args.landing.number c.args.landing.node c.of.result c.args.landing.fresh.items is.resident c.give-done.ensures.known c.of.ensures in
    left-idle v (known g.F.SpillFile.held g.S.Source.whole c.give-done.new.seat.me.0) c.args.landing.number c.args.landing.fresh.items gave is.share

pub returns-clause-rest : goal.returns-clause-rest
returns-clause-rest g c =
    let is = c.requires.landing in
    let v = known g.F.SpillFile.held g.S.Source.whole c.args.self.now.seat.me.0 in
    let gave = gave-landed g.F.SpillFile.held v (known g.F.SpillFile.held g.S.Source.whole c.give-done.new.seat.me.0) c.args.landing.number c.args.landing.node c.of.result c.args.landing.fresh.items is.resident c.give-done.ensures.known c.of.ensures in
    left-rest g.J.Scan.told v (known g.F.SpillFile.held g.S.Source.whole c.give-done.new.seat.me.0) c.args.landing.number is.carried c.args.landing.fresh.items gave is.share (is.not_full c.if-is_full.false) is.its is.within is.fresh_within

pub returns-then-is_full-clause-knows : goal.returns-then-is_full-clause-knows
returns-then-is_full-clause-knows g c =
    let is = c.requires.landing in
    let v = known g.F.SpillFile.held g.S.Source.whole c.args.self.now.seat.me.0 in
    gave-landed g.F.SpillFile.held v (known g.F.SpillFile.held g.S.Source.whole c.give-done.new.seat.me.0) c.args.landing.number c.args.landing.node c.of.result c.args.landing.fresh.items is.resident c.give-done.ensures.known c.of.ensures

pub returns-then-is_full-clause-idle : goal.returns-then-is_full-clause-idle
returns-then-is_full-clause-idle g c =
    let is = c.requires.landing in
    let v = known g.F.SpillFile.held g.S.Source.whole c.args.self.now.seat.me.0 in
    let gave = gave-landed g.F.SpillFile.held v (known g.F.SpillFile.held g.S.Source.whole c.give-done.new.seat.me.0) c.args.landing.number c.args.landing.node c.of.result c.args.landing.fresh.items is.resident c.give-done.ensures.known c.of.ensures in
    left-idle v (known g.F.SpillFile.held g.S.Source.whole c.give-done.new.seat.me.0) c.args.landing.number c.args.landing.fresh.items gave is.share

pub returns-then-is_full-clause-refused : goal.returns-then-is_full-clause-refused
returns-then-is_full-clause-refused g c =
    let is = c.requires.landing in
    let v = known g.F.SpillFile.held g.S.Source.whole c.args.self.now.seat.me.0 in
    let gave = gave-landed g.F.SpillFile.held v (known g.F.SpillFile.held g.S.Source.whole c.give-done.new.seat.me.0) c.args.landing.number c.args.landing.node c.of.result c.args.landing.fresh.items is.resident c.give-done.ensures.known c.of.ensures in
    let full = is.full c.if-is_full.true in
    left-full g.J.Scan.told v (known g.F.SpillFile.held g.S.Source.whole c.give-done.new.seat.me.0) c.args.landing.number c.args.landing.fresh.items gave full.0 full.1

pub give-done-requires-clause-permit : goal.give-done-requires-clause-permit
give-done-requires-clause-permit g c = omega (arith, resident-weight g.row.F.Denot g.row.S.Denot c.args.landing.node c.requires.landing.resident, c.requires.permit)

pub returns-then-is_full-clause-permits : goal.returns-then-is_full-clause-permits
returns-then-is_full-clause-permits g c = omega (arith, resident-weight g.row.F.Denot g.row.S.Denot c.args.landing.node c.requires.landing.resident, c.give-done.ensures.permits)

pub returns-clause-permits : goal.returns-clause-permits
returns-clause-permits g c = omega (arith, resident-weight g.row.F.Denot g.row.S.Denot c.args.landing.node c.requires.landing.resident, c.give-done.ensures.permits)

pub give-done-requires-clause-filed : goal.give-done-requires-clause-filed
give-done-requires-clause-filed g c =
    resident-filed g.F.SpillFile.held g.F.SpillFile.faults g.F.SpillFile.keeps g.J.Scan.told c.args.landing.node c.requires.landing.resident c.requires.landing.telling
