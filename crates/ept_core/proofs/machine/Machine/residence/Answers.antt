use Rattle.std.proofs.Common.{ap}
use Rattle.ept_core.specs.declared.node.Node.{Node}
use Rattle.ept_core.proofs.Lookups.{found-some, found-none}
use Rattle.ept_core.proofs.machine.Machine.residence.Goals as goal

pub returns-in-Some : goal.returns-in-Some
returns-in-Some c =
    let h = found-some c.args.self.now.nodes.entries c.args.key.now c.in-Some.node.now c.in-Some.ensures.value in
    (h.0, ap (λ (n : Node). n.is_resident) h.1)

pub returns-in-None : goal.returns-in-None
returns-in-None c = (found-none c.args.self.now.nodes.entries c.args.key.now c.in-None.ensures.value).0
