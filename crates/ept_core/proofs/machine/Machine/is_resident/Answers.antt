use Rattle.std.proofs.Common.{ap, sym}
use Rattle.ept_core.specs.declared.node.Node.{Node}
use Rattle.ept_core.proofs.Lookups.{found-some, found-none}
use Rattle.ept_core.proofs.machine.Machine.is_resident.Goals as goal

pub returns-in-Some : goal.returns-in-Some
returns-in-Some c =
    sym (ap (λ (n : Node). n.is_resident) (found-some c.args.self.now.nodes.entries c.args.key.now c.in-Some.node.now c.in-Some.ensures.value).1)

pub returns-in-None : goal.returns-in-None
returns-in-None c =
    sym (ap (λ (n : Node). n.is_resident) (found-none c.args.self.now.nodes.entries c.args.key.now c.in-None.ensures.value).1)
