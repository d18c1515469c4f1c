use Rattle.std.proofs.Common.{◌∙◌, sym, ap, subst}
use Rattle.ept_grid.specs.Node.{Node}
use Rattle.ept_node.specs.declared.body.Body.{Body}
use Rattle.ept_node.specs.Shown.{node_in, node_of}
use Rattle.ept_node.specs.Filing.{IsLabelOf}
use Rattle.ept_node.proofs.Filings.{spilled-alike}
use Rattle.ept_node.proofs.node.Node.spill.Goals as goal

pub returns-in-Ok-clause-alike : goal.returns-in-Ok-clause-alike
returns-in-Ok-clause-alike g c =
    let held = g.F.SpillFile.held in
    let woken = c.wake.new.self in
    spilled-alike c.in-Ok.filed.value (held c.keep_grid.new.file) c.in-Resident.grid.value (node_of held c.args.self.now)
    (subst (λ (n : Node). IsLabelOf n c.in-Ok.filed.value) c.deref.ensures c.in-Ok.ensures.label)
    (sym (ap (λ (b : Body). node_in (held woken.file) b) c.in-Resident.is) ∙ c.wake.ensures.same.node)
