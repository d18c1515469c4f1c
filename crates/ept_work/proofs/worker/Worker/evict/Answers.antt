use Rattle.std.proofs.Common.{◌≡◌, ◌∙◌, inl, refl, sym, ap, subst, rules, Some, Err}
use Rattle.std.proofs.lemmas.Result.{IfErr-at_err}
use Rattle.ept_node.specs.Shown.{fault_of}
use Rattle.ept_table.specs.Standing.{known}
use Rattle.ept_work.specs.Visiting.{breaking}
use Rattle.ept_work.specs.Errors.{of_node}
use Rattle.ept_work.proofs.Whole.{gave-again, gave-refused, handed-on}
use Rattle.ept_table.specs.declared.item.Item.{Item}
use Rattle.ept_table.specs.declared.taken.Taken.{Taken}
use Rattle.ept_table.specs.Item.{seen, seen_node, broken_by}
use Rattle.ept_table.specs.Steps.{StaysAlike}
use Rattle.ept_table.specs.View.{View}
use Rattle.ept_work.proofs.Carrying.{node-taken}
use Rattle.ept_work.proofs.worker.Worker.evict.Goals as goal

pub node_in-requires : goal.node_in-requires
node_in-requires g c = node-taken g.F.SpillFile.held g.S.Source.whole c.in-Some.item (c.in-Some.ensures.fits.node c.in_ok-slot.ensures.0)

pub give-done-requires-clause-visit : goal.give-done-requires-clause-visit
give-done-requires-clause-visit g c =
    let sees = sym (ap (λ (x : Item g.row.F.Denot g.row.S.Denot). seen g.F.SpillFile.held g.S.Source.whole x) c.node_in.ensures) in (
      c.in-Some.item,
      c.in-Some.ensures.holds,
      inl (
        subst (λ (x : Taken). StaysAlike g.J.Scan.told x (seen_node g.F.SpillFile.held c.put_in_file-node.result.node)) sees c.put_in_file-node.ensures.stays,
        c.in_ok-slot.ensures.0,
        ap (λ (v : View). v.note.draws) c.in-Some.ensures.known ∙ c.requires.idle.undrawn,
      ),
      λ why is. c.put_in_file-node.ensures.broken why (sym (ap (λ (x : Item g.row.F.Denot g.row.S.Denot). broken_by x) c.node_in.ensures) ∙ is),
    )

pub returns-in_err-answer-clause-noted : goal.returns-in_err-answer-clause-noted
returns-in_err-answer-clause-noted g c =
    let v = known g.F.SpillFile.held g.S.Source.whole c.args.self.now.seat.me.0 in
    let w = known g.F.SpillFile.held g.S.Source.whole c.give-done.new.seat.me.0 in
    let node = c.put_in_file-node.result.node in
    let why = c.in_err-answer.field-0.0 in
    let is : c.from_residual-in_err-answer.result ≡ Err (of_node why) = search rules in
    let gave = gave-again g.F.SpillFile.held v v (known g.F.SpillFile.held g.S.Source.whole c.try_take.new.seat.me.0) w w c.in_ok-slot.slot (seen g.F.SpillFile.held g.S.Source.whole c.in-Some.item) node c.requires.idle.free refl c.in-Some.ensures.known c.give-done.ensures.known refl in
    handed-on c.from_residual-in_err-answer.result (of_node why) v v w is (gave-refused v w (fault_of node) why (IfErr-at_err (λ e. fault_of node ≡ breaking (Some e)) c.in_err-answer.was c.put_in_file-node.ensures.reason) gave) refl
