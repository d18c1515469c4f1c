use Rattle.std.proofs.Common.{◌≡◌, ap}
use Rattle.ept_forest.specs.Slots.{nodes_of, used_of}
use Rattle.ept_slots.specs.declared.view.View as slots
use Rattle.ept_table.specs.declared.item.Item.{Item}
use Rattle.ept_table.specs.declared.note.Note.{Note}
use Rattle.ept_table.specs.Standing.{known}
use Rattle.ept_node.specs.declared.error.NodeError.TheVariants as node
use Rattle.ept_work.proofs.Results.{all-ok, ends-fits, ends-landed, ends-sampling, ends-drawn, ends-sound, ends-fault, ends-changed, ends-no-change}
use Rattle.ept_work.proofs.Settled.{settled-again, source-cause, change-cause, many-cause, none-broken, broken-there, own-fault, no-damage}
use Rattle.ept_work.proofs.inserting.insert_all.Goals as goal

pub returns-clause-landed : goal.returns-clause-landed
returns-clause-landed g c =
    let e = c.close-forest.ensures.ended in
    let told = g.J.Scan.told in
    let first = known g.F.SpillFile.held g.S.Source.whole c.args.seat.me.0 in
    let w = known g.F.SpillFile.held g.S.Source.whole c.work_all-seat.result.seat.me.0 in
    let have = c.work_all-seat.ensures in
    let reader = c.close-forest.result.1 in
    let nodes = nodes_of c.close-forest.result.0 in
    let first_is = ap (λ (u : slots.View (Item g.row.F.Denot g.row.S.Denot) Note). known g.F.SpillFile.held g.S.Source.whole u) c.requires.first in
    settled-again _ c.fault.result c.work_all-seat.result.result c.settled-result.result c.settled-result.ensures (all-ok c.work_all-seat.result.result have.ok (ends-landed g.F.SpillFile.held g.S.Source.whole g.S.Source.left g.S.Source.given g.S.Source.faults told e.0 (used_of c.close-forest.result.0) reader nodes first w e.2 e.1 c.close-forest.ensures.filed 4294967296 first_is have.ends))

pub returns-clause-sampling : goal.returns-clause-sampling
returns-clause-sampling g c =
    let e = c.close-forest.ensures.ended in
    let told = g.J.Scan.told in
    let first = known g.F.SpillFile.held g.S.Source.whole c.args.seat.me.0 in
    let w = known g.F.SpillFile.held g.S.Source.whole c.work_all-seat.result.seat.me.0 in
    let have = c.work_all-seat.ensures in
    let reader = c.close-forest.result.1 in
    let nodes = nodes_of c.close-forest.result.0 in
    let first_is = ap (λ (u : slots.View (Item g.row.F.Denot g.row.S.Denot) Note). known g.F.SpillFile.held g.S.Source.whole u) c.requires.first in
    settled-again _ c.fault.result c.work_all-seat.result.result c.settled-result.result c.settled-result.ensures (all-ok c.work_all-seat.result.result have.ok (ends-sampling g.F.SpillFile.held g.S.Source.whole g.S.Source.left g.S.Source.given g.S.Source.faults told e.0 (used_of c.close-forest.result.0) reader nodes first w e.2 e.1 c.close-forest.ensures.filed 4294967296 first_is have.ends))

pub returns-clause-drawn : goal.returns-clause-drawn
returns-clause-drawn g c =
    let e = c.close-forest.ensures.ended in
    let told = g.J.Scan.told in
    let first = known g.F.SpillFile.held g.S.Source.whole c.args.seat.me.0 in
    let w = known g.F.SpillFile.held g.S.Source.whole c.work_all-seat.result.seat.me.0 in
    let have = c.work_all-seat.ensures in
    let reader = c.close-forest.result.1 in
    let nodes = nodes_of c.close-forest.result.0 in
    let first_is = ap (λ (u : slots.View (Item g.row.F.Denot g.row.S.Denot) Note). known g.F.SpillFile.held g.S.Source.whole u) c.requires.first in
    settled-again _ c.fault.result c.work_all-seat.result.result c.settled-result.result c.settled-result.ensures (all-ok c.work_all-seat.result.result have.ok (ends-drawn g.F.SpillFile.held g.S.Source.whole g.S.Source.left g.S.Source.given g.S.Source.faults told e.0 (used_of c.close-forest.result.0) reader nodes first w e.2 e.1 c.close-forest.ensures.filed 4294967296 first_is have.ends))

pub returns-clause-sound : goal.returns-clause-sound
returns-clause-sound g c =
    let e = c.close-forest.ensures.ended in
    let told = g.J.Scan.told in
    let first = known g.F.SpillFile.held g.S.Source.whole c.args.seat.me.0 in
    let w = known g.F.SpillFile.held g.S.Source.whole c.work_all-seat.result.seat.me.0 in
    let have = c.work_all-seat.ensures in
    let reader = c.close-forest.result.1 in
    let nodes = nodes_of c.close-forest.result.0 in
    let first_is = ap (λ (u : slots.View (Item g.row.F.Denot g.row.S.Denot) Note). known g.F.SpillFile.held g.S.Source.whole u) c.requires.first in
    settled-again _ c.fault.result c.work_all-seat.result.result c.settled-result.result c.settled-result.ensures (all-ok c.work_all-seat.result.result have.ok (ends-sound g.F.SpillFile.held g.S.Source.whole g.S.Source.left g.S.Source.given g.S.Source.faults told e.0 (used_of c.close-forest.result.0) reader nodes first w e.2 e.1 c.close-forest.ensures.filed 4294967296 first_is have.ends))

pub returns-clause-fits : goal.returns-clause-fits
returns-clause-fits g c =
    let e = c.close-forest.ensures.ended in
    let told = g.J.Scan.told in
    let first = known g.F.SpillFile.held g.S.Source.whole c.args.seat.me.0 in
    let w = known g.F.SpillFile.held g.S.Source.whole c.work_all-seat.result.seat.me.0 in
    let have = c.work_all-seat.ensures in
    let reader = c.close-forest.result.1 in
    let nodes = nodes_of c.close-forest.result.0 in
    ends-fits g.F.SpillFile.held g.S.Source.whole g.S.Source.left g.S.Source.given g.S.Source.faults told e.0 (used_of c.close-forest.result.0) reader nodes first w e.2 e.1 c.close-forest.ensures.filed

pub returns-clause-fault : goal.returns-clause-fault
returns-clause-fault g c = λ is. (
    let e = c.close-forest.ensures.ended in
    let told = g.J.Scan.told in
    let first = known g.F.SpillFile.held g.S.Source.whole c.args.seat.me.0 in
    let w = known g.F.SpillFile.held g.S.Source.whole c.work_all-seat.result.seat.me.0 in
    let have = c.work_all-seat.ensures in
    let reader = c.close-forest.result.1 in
    let nodes = nodes_of c.close-forest.result.0 in
    ends-fault g.F.SpillFile.held g.S.Source.whole g.S.Source.left g.S.Source.given g.S.Source.faults told e.0 (used_of c.close-forest.result.0) reader nodes first w e.2 e.1 c.close-forest.ensures.filed (source-cause told w c.fault.result c.work_all-seat.result.result c.settled-result.result c.settled-result.ensures have.refused is))

pub returns-clause-changed : goal.returns-clause-changed
returns-clause-changed g c = λ source number is. (
    let e = c.close-forest.ensures.ended in
    let told = g.J.Scan.told in
    let first = known g.F.SpillFile.held g.S.Source.whole c.args.seat.me.0 in
    let w = known g.F.SpillFile.held g.S.Source.whole c.work_all-seat.result.seat.me.0 in
    let have = c.work_all-seat.ensures in
    let reader = c.close-forest.result.1 in
    let nodes = nodes_of c.close-forest.result.0 in
    ends-changed g.F.SpillFile.held g.S.Source.whole g.S.Source.left g.S.Source.given g.S.Source.faults told e.0 (used_of c.close-forest.result.0) reader nodes first w e.2 e.1 c.close-forest.ensures.filed source number (change-cause told w c.fault.result c.work_all-seat.result.result c.settled-result.result c.settled-result.ensures have.refused source number is))

pub returns-clause-no_change : goal.returns-clause-no_change
returns-clause-no_change g c = λ tells source number is. (
    let e = c.close-forest.ensures.ended in
    let told = g.J.Scan.told in
    let first = known g.F.SpillFile.held g.S.Source.whole c.args.seat.me.0 in
    let w = known g.F.SpillFile.held g.S.Source.whole c.work_all-seat.result.seat.me.0 in
    let have = c.work_all-seat.ensures in
    let reader = c.close-forest.result.1 in
    let nodes = nodes_of c.close-forest.result.0 in
    ends-no-change g.F.SpillFile.held g.S.Source.whole g.S.Source.left g.S.Source.given g.S.Source.faults told e.0 (used_of c.close-forest.result.0) reader nodes first w e.2 e.1 c.close-forest.ensures.filed tells source number (change-cause told w c.fault.result c.work_all-seat.result.result c.settled-result.result c.settled-result.ensures have.refused source number is))

pub returns-clause-too_many : goal.returns-clause-too_many
returns-clause-too_many g c = λ is. (
    let told = g.J.Scan.told in
    let w = known g.F.SpillFile.held g.S.Source.whole c.work_all-seat.result.seat.me.0 in
    let have = c.work_all-seat.ensures in
    (many-cause told w c.fault.result c.work_all-seat.result.result c.settled-result.result c.settled-result.ensures have.refused is).1)

pub returns-clause-unbroken : goal.returns-clause-unbroken
returns-clause-unbroken g c = λ no_fault no_damage.
    none-broken g.F.SpillFile.held g.F.SpillFile.faults g.F.SpillFile.keeps g.J.Scan.told (nodes_of c.close-forest.result.0) c.close-forest.ensures.nodes c.fault.result c.work_all-seat.result.result c.settled-result.result c.settled-result.ensures c.fault.ensures.none c.fault.ensures.some no_fault no_damage

pub returns-clause-spill_fault : goal.returns-clause-spill_fault
returns-clause-spill_fault g c = λ is. (
    let told = g.J.Scan.told in
    let w = known g.F.SpillFile.held g.S.Source.whole c.work_all-seat.result.seat.me.0 in
    let nodes = nodes_of c.close-forest.result.0 in
    own-fault g.F.SpillFile.held g.F.SpillFile.faults g.F.SpillFile.keeps told nodes c.close-forest.ensures.nodes (broken-there told w nodes c.fault.result c.work_all-seat.result.result c.settled-result.result c.settled-result.ensures c.work_all-seat.ensures.refused c.fault.ensures.some c.close-forest.ensures.broken node.SpillFault (λ e. let x : node.SpillFault ≡ node.Memory = e in cc) is))

pub returns-clause-damaged : goal.returns-clause-damaged
returns-clause-damaged g c = λ kept found at is. (
    let told = g.J.Scan.told in
    let w = known g.F.SpillFile.held g.S.Source.whole c.work_all-seat.result.seat.me.0 in
    broken-there told w (nodes_of c.close-forest.result.0) c.fault.result c.work_all-seat.result.result c.settled-result.result c.settled-result.ensures c.work_all-seat.ensures.refused c.fault.ensures.some c.close-forest.ensures.broken (node.SpillDamaged kept found at) (λ e. let x : node.SpillDamaged kept found at ≡ node.Memory = e in cc) is)

pub returns-clause-no_damage : goal.returns-clause-no_damage
returns-clause-no_damage g c = λ tells kept found at is. (
    let told = g.J.Scan.told in
    let w = known g.F.SpillFile.held g.S.Source.whole c.work_all-seat.result.seat.me.0 in
    let nodes = nodes_of c.close-forest.result.0 in
    no-damage g.F.SpillFile.held g.F.SpillFile.faults g.F.SpillFile.keeps told nodes c.close-forest.ensures.nodes tells kept found at (broken-there told w nodes c.fault.result c.work_all-seat.result.result c.settled-result.result c.settled-result.ensures c.work_all-seat.ensures.refused c.fault.ensures.some c.close-forest.ensures.broken (node.SpillDamaged kept found at) (λ e. let x : node.SpillDamaged kept found at ≡ node.Memory = e in cc) is))
