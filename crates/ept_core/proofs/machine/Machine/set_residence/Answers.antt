use Rattle.std.proofs.Common.{◌∙◌, drop, List, ap, sym}
use Rattle.std.proofs.lemmas.Bool.{false≢true}
use Rattle.ept_core.specs.declared.node.Node.{Node}
use Rattle.ept_core.specs.State.{State, Entry, keys_of}
use Rattle.ept_core.specs.Steps.{with_node}
use Rattle.ept_core.proofs.Lookups.{found-some, found-none, set_value-with, sorted-rising, resident_as}
use Rattle.ept_core.proofs.machine.Machine.set_residence.Goals as goal

pub returns-in-Some-clause-state : goal.returns-in-Some-clause-state
returns-in-Some-clause-state c =
    let h = found-some c.args.self.now.nodes.entries c.args.key.now c.in-Some.node.now c.in-Some.ensures.value in
    let w : Node = record { points = c.in-Some.node.now.points; opened = c.in-Some.node.now.opened; is_resident = c.args.resident } in
    ap (λ (es : List Entry). let s : State = record { left = drop c.args.self.now.taken c.args.self.now.points; flights = c.args.self.now.flights.items; nodes = es } in s) ((c.get_mut.follows.holds w).0 ∙ (set_value-with c.args.self.now.nodes.entries c.args.key.now w (sorted-rising (keys_of c.args.self.now.nodes.entries) c.in-Some.ensures.ordered) h.0 ∙ ap (λ (n : Node). with_node c.args.self.now.nodes.entries c.args.key.now (resident_as n c.args.resident)) (sym h.1)))

pub returns-in-None-clause-state : goal.returns-in-None-clause-state
returns-in-None-clause-state c =
    absurd (false≢true (sym (found-none c.args.self.now.nodes.entries c.args.key.now c.in-None.ensures.value).0 ∙ c.requires.node))
