use Rattle.std.proofs.Common.{◌∙◌, ap, subst, sym, true}
use Rattle.ept_save.specs.Names.{gate_name}
use Rattle.ept_save.specs.View.{View, StandsFor}
use Rattle.ept_save.proofs.Standing.{begin-keeps, begin-stands}
use Rattle.ept_save.proofs.saving.begin.Goals as goal

pub returns-in_err-close_gate-clause-keeps : goal.returns-in_err-close_gate-clause-keeps
returns-in_err-close_gate-clause-keeps g c = λ stands.
    begin-keeps g.T.Store.files g.T.Store.may_leave g.T.Store.moment g.T.Store.image_since c.args.saved.now c.gate_name-gate.result.now (c.gate_name-gate.ensures ∙ ap gate_name c.next_letter.ensures)
    c.args.store.now c.close_gate.new.store stands c.close_gate.ensures.any_moment c.close_gate.ensures.stood_shut

pub returns-clause-keeps : goal.returns-clause-keeps
returns-clause-keeps g c = λ stands.
    begin-keeps g.T.Store.files g.T.Store.may_leave g.T.Store.moment g.T.Store.image_since c.args.saved.now c.gate_name-gate.result.now (c.gate_name-gate.ensures ∙ ap gate_name c.next_letter.ensures)
    c.args.store.now c.close_gate.new.store stands c.close_gate.ensures.any_moment c.close_gate.ensures.stood_shut

pub returns-clause-stands : goal.returns-clause-stands
returns-clause-stands g c = λ stands.
    subst (λ (v : View). StandsFor (record v { begun = true }) (g.T.Store.files c.close_gate.new.store) (g.T.Store.may_leave c.close_gate.new.store)) (sym c.saved.view_is)
    (begin-stands g.T.Store.files g.T.Store.may_leave g.T.Store.moment g.T.Store.image_since c.args.saved.now c.gate_name-gate.result.now (c.gate_name-gate.ensures ∙ ap gate_name c.next_letter.ensures)
    c.args.store.now c.close_gate.new.store stands c.close_gate.ensures.any_moment c.close_gate.ensures.stood_shut c.in_ok-close_gate.ensures.shut c.in_ok-close_gate.ensures.settled)
