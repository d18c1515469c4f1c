use Rattle.std.proofs.Common.{◌∙◌, ap, sym, false, get_or}
use Rattle.ept_core.specs.declared.node.Node.{Node}
use Rattle.ept_core.specs.State.{has_open}
use Rattle.ept_core.proofs.Lookups.{found-some, found-none, open-blank}
use Rattle.ept_core.proofs.machine.Machine.standing.Goals as goal

pub returns-in-Some-clause-points : goal.returns-in-Some-clause-points
returns-in-Some-clause-points c =
    c.as_slice.ensures ∙ ap (λ (n : Node). n.points) (sym (found-some c.args.self.now.nodes.entries c.args.key.now c.in-Some.node.now c.in-Some.ensures.value).1)

pub returns-in-Some-clause-opened : goal.returns-in-Some-clause-opened
unfolding has_open
returns-in-Some-clause-opened c =
    λ o low. ap (λ (n : Node). get_or n.opened o false) (found-some c.args.self.now.nodes.entries c.args.key.now c.in-Some.node.now c.in-Some.ensures.value).1

pub returns-in-None-clause-points : goal.returns-in-None-clause-points
returns-in-None-clause-points c =
    ap (λ (n : Node). n.points) (sym (found-none c.args.self.now.nodes.entries c.args.key.now c.in-None.ensures.value).1)

pub returns-in-None-clause-opened : goal.returns-in-None-clause-opened
returns-in-None-clause-opened c =
    λ o low. ap (λ (n : Node). has_open n o) (found-none c.args.self.now.nodes.entries c.args.key.now c.in-None.ensures.value).1 ∙ open-blank o low
