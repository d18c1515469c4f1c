use Rattle.std.proofs.Common.{◌≡◌, ◌∙◌, ◌++◌, List, ap, drop}
use Rattle.std.specs.List.{remove}
use Rattle.std.proofs.lemmas.List.{get_or_read}
use Rattle.ept_core.specs.declared.flight.Flight.{Flight}
use Rattle.ept_core.specs.declared.node.Node.{Node}
use Rattle.ept_core.specs.declared.machine.Machine.{Machine}
use Rattle.ept_core.specs.State.{node_at}
use Rattle.ept_core.specs.Steps.{with_node, gathered, node_after, flights_after}
use Rattle.ept_core.proofs.Arriving.{flights-removed}
use Rattle.ept_core.proofs.machine.Machine.arrive.Goals as goal

pub returns-clause-ok : goal.returns-clause-ok
returns-clause-ok c = λ f at. (
    let m : Machine = c.args.self.now in
    let g : Flight = c.index.result.now in
    let same : g ≡ f = get_or_read m.flights.items c.args.index g c.requires.index c.index.ensures f ∙ at in
    let made = c.in_ok-node.ensures.effect f at in
    let F : c.remove.new.self.items ≡ remove m.flights.items c.args.index ++ flights_after f.actor m.rules f.key (node_at m.nodes.entries f.key) (gathered m.nodes.entries f) =
    c.remove.ensures.items
    ∙ (ap (λ (w : List Flight). remove w c.args.index) c.in_ok-append.ensures.items
    ∙ (flights-removed m.flights.items c.in_ok-node.field-0.flights.items c.args.index c.requires.index ∙ ap (λ (w : List Flight). remove m.flights.items c.args.index ++ w) made.1)) in
    let N : c.insert.new.self.entries ≡ with_node m.nodes.entries f.key (node_after m.rules f.key (node_at m.nodes.entries f.key) (gathered m.nodes.entries f)) =
    c.in-Ok.ensures.entries ∙ (ap (λ (w : Flight). with_node m.nodes.entries w.key c.in_ok-node.field-0.node) same ∙ ap (λ (n : Node). with_node m.nodes.entries f.key n) made.0) in
    λ i. record { left = drop m.taken m.points; flights = F i; nodes = N i })
