use Rattle.std.proofs.Common.{◌≡◌, ◌∙◌, ℕ, sym, ap, subst}
use Rattle.ept_grid.specs.Node.{is_open_in}
use Rattle.ept_grid.specs.Mask.{opened}
use Rattle.ept_node.specs.Shown.{node_of}
use Rattle.ept_table.specs.declared.taken.Taken.{Taken}
use Rattle.ept_table.specs.Steps.{MayDraw}
use Rattle.ept_table.specs.Standing.{known}
use Rattle.ept_table.specs.Item.{cell_of}
use Rattle.ept_work.specs.Opening.{taken_by}
use Rattle.ept_work.proofs.Known.{known-item}
use Rattle.ept_work.proofs.Opened.{may-draw, asked-parts, opened-unasked, opened-drawn, opened-refused}
use Rattle.ept_work.proofs.opening.open_child.Goals as goal

pub returns-then-not-asks-clause-opened : goal.returns-then-not-asks-clause-opened
returns-then-not-asks-clause-opened g c =
    let v = known g.F.SpillFile.held g.S.Source.whole c.args.seat.now.me.0 in
    let n = c.args.octant in
    let may = c.requires.may in
    let mask : opened c.open_mask-mask.result n ≡ is_open_in (node_of g.F.SpillFile.held c.args.opening.node) n = ap (λ (m : ℕ). opened m n) c.open_mask-mask.ensures in
    opened-unasked g.J.Scan.told v (cell_of g.F.SpillFile.held c.args.opening.node) n c.args.opening.is_full c.requires.opened c.requires.low (opened c.args.before n) (opened c.open_mask-mask.result n) (sym (may.was n c.requires.low)) (sym mask)
    (λ was. mask ∙ may.stays n c.requires.low (sym (may.was n c.requires.low) ∙ was)) (λ was. may.closed n c.requires.low (sym (may.was n c.requires.low) ∙ was)) (sym c.asks.ensures ∙ c.if-not-asks.true)

pub draw_slot-requires-clause-may : goal.draw_slot-requires-clause-may
draw_slot-requires-clause-may g c =
    let v = known g.F.SpillFile.held g.S.Source.whole c.args.seat.now.me.0 in
    let n = c.args.octant in
    let may = c.requires.may in
    let item = known-item g.F.SpillFile.held g.S.Source.whole c.args.seat.now.me.0 c.args.slot (taken_by v) may.holds in
    let mask : opened c.open_mask-mask.result n ≡ is_open_in (node_of g.F.SpillFile.held c.args.opening.node) n = ap (λ (m : ℕ). opened m n) c.open_mask-mask.ensures in
    let asked = asked-parts c.args.opening.is_full (opened c.args.before n) (opened c.open_mask-mask.result n) (sym c.asks.ensures ∙ c.if-not-asks.false) in
    let draws = may-draw g.F.SpillFile.held g.J.Scan.told v c.args.slot c.args.before c.args.opening.node (cell_of g.F.SpillFile.held c.args.opening.node) n c.args.opening.is_full may c.requires.opened c.requires.low (sym (may.was n c.requires.low) ∙ asked.1) (sym mask ∙ asked.2) in
    (item.0, item.1, subst (λ (x : Taken). MayDraw g.J.Scan.told v c.args.slot x n) (sym item.2) draws)

pub returns-in-Ok-clause-opened : goal.returns-in-Ok-clause-opened
returns-in-Ok-clause-opened g c =
    let v = known g.F.SpillFile.held g.S.Source.whole c.args.seat.now.me.0 in
    let w = known g.F.SpillFile.held g.S.Source.whole c.draw_slot.new.seat.me.0 in
    let n = c.args.octant in
    let may = c.requires.may in
    let mask : opened c.open_mask-mask.result n ≡ is_open_in (node_of g.F.SpillFile.held c.args.opening.node) n = ap (λ (m : ℕ). opened m n) c.open_mask-mask.ensures in
    let asked = asked-parts c.args.opening.is_full (opened c.args.before n) (opened c.open_mask-mask.result n) (sym c.asks.ensures ∙ c.if-not-asks.false) in
    opened-drawn g.J.Scan.told v w (cell_of g.F.SpillFile.held c.args.opening.node) (cell_of g.F.SpillFile.held c.set_child.new.self) n c.in-Ok.child c.args.opening.is_full c.requires.opened c.requires.low asked.0 (sym (may.was n c.requires.low) ∙ asked.1) (sym mask ∙ asked.2) c.in-Ok.ensures.ok.2 c.set_child.ensures.node c.set_child.ensures.children c.set_child.ensures.child c.in-Ok.ensures.ok.1

pub returns-in-Err-clause-opened : goal.returns-in-Err-clause-opened
returns-in-Err-clause-opened g c =
    let v = known g.F.SpillFile.held g.S.Source.whole c.args.seat.now.me.0 in
    let w = known g.F.SpillFile.held g.S.Source.whole c.draw_slot.new.seat.me.0 in
    let n = c.args.octant in
    let may = c.requires.may in
    let asked = asked-parts c.args.opening.is_full (opened c.args.before n) (opened c.open_mask-mask.result n) (sym c.asks.ensures ∙ c.if-not-asks.false) in
    let shut = sym (may.was n c.requires.low) ∙ asked.1 in
    opened-refused g.J.Scan.told v w (cell_of g.F.SpillFile.held c.args.opening.node) n c.args.opening.is_full c.requires.opened c.requires.low shut (may.closed n c.requires.low shut) c.in-Err.ensures.full c.in-Err.ensures.too_many
