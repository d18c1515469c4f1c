use Rattle.std.proofs.Common.{◌∙◌, ℕ, sym, ap, subst}
use Rattle.ept_forest.specs.Slots as forest
use Rattle.ept_table.specs.Item.{seen_reader}
use Rattle.ept_octree.specs.Index.{in_slots, untold, AreSites}
use Rattle.ept_octree.proofs.Alike.{index-any}
use Rattle.ept_octree.proofs.Left.{landed-as, left-apart, left-linked, left-indexed, left-whole, left-sampled, left-number}
use Rattle.ept_octree.proofs.octree.Octree.from_forest.Goals as goal

pub slots_of-requires : goal.slots_of-requires
slots_of-requires g c =
    let told = g.J.Scan.told in
    let ns = c.deref.result.now in
    let r = seen_reader g.S.Source.whole c.args.reader.now in
    let landed = landed-as g.F.SpillFile.held told g.S.Source.whole c.args.reader.now (forest.used_of c.args.forest) c.into_nodes-nodes.result.1 (forest.nodes_of c.args.forest) ns c.requires.landed c.into_nodes-nodes.ensures.used (c.deref.ensures.value ∙ c.into_nodes-nodes.ensures.nodes) in
    left-apart c.landed_law.ensures.slots c.landed_law.ensures.sound g.F.SpillFile.held told c.args.rules.now c.into_nodes-nodes.result.1 ns r c.requires.rules landed

pub invariant_of-result-clause-indexed : goal.invariant_of-result-clause-indexed
invariant_of-result-clause-indexed g c =
    let told = g.J.Scan.told in
    let f = c.from_nodes-in-Ok-slots_of.result in
    let ns = forest.nodes_of f in
    let r = seen_reader g.S.Source.whole c.args.reader.now in
    let nodes = c.from_nodes-in-Ok-slots_of.ensures.nodes ∙ c.into_nodes-nodes.ensures.nodes in
    let used = c.from_nodes-in-Ok-slots_of.ensures.used ∙ c.into_nodes-nodes.ensures.used in
    let landed = landed-as g.F.SpillFile.held told g.S.Source.whole c.args.reader.now (forest.used_of c.args.forest) (forest.used_of f) (forest.nodes_of c.args.forest) ns c.requires.landed used nodes in
    let seen = c.deref.ensures.value ∙ sym c.from_nodes-in-Ok-slots_of.ensures.nodes in
    let are : AreSites (forest.used_of f) (in_slots g.F.SpillFile.held ns) c.in-Ok-slots_of.slots.entries = subst (λ (k : ℕ). AreSites k (in_slots g.F.SpillFile.held ns) c.in-Ok-slots_of.slots.entries) (sym c.from_nodes-in-Ok-slots_of.ensures.used) (subst (λ w. AreSites c.into_nodes-nodes.result.1 (in_slots g.F.SpillFile.held w) c.in-Ok-slots_of.slots.entries) seen c.in-Ok-slots_of.ensures) in
    index-any g.F.SpillFile.held untold c.args.rules.now (forest.used_of f) ns c.in-Ok-slots_of.slots.entries (left-indexed c.landed_law.ensures.slots c.landed_law.ensures.sound g.F.SpillFile.held told c.args.rules.now (forest.used_of f) ns r c.requires.rules landed c.in-Ok-slots_of.slots.entries are)

pub returns-in-Ok-slots_of-clause-whole : goal.returns-in-Ok-slots_of-clause-whole
returns-in-Ok-slots_of-clause-whole g c =
    let told = g.J.Scan.told in
    let f = c.from_nodes-in-Ok-slots_of.result in
    let ns = forest.nodes_of f in
    let r = seen_reader g.S.Source.whole c.args.reader.now in
    let nodes = c.from_nodes-in-Ok-slots_of.ensures.nodes ∙ c.into_nodes-nodes.ensures.nodes in
    let used = c.from_nodes-in-Ok-slots_of.ensures.used ∙ c.into_nodes-nodes.ensures.used in
    let landed = landed-as g.F.SpillFile.held told g.S.Source.whole c.args.reader.now (forest.used_of c.args.forest) (forest.used_of f) (forest.nodes_of c.args.forest) ns c.requires.landed used nodes in
    let seen = c.deref.ensures.value ∙ sym c.from_nodes-in-Ok-slots_of.ensures.nodes in
    let are : AreSites (forest.used_of f) (in_slots g.F.SpillFile.held ns) c.in-Ok-slots_of.slots.entries = subst (λ (k : ℕ). AreSites k (in_slots g.F.SpillFile.held ns) c.in-Ok-slots_of.slots.entries) (sym c.from_nodes-in-Ok-slots_of.ensures.used) (subst (λ w. AreSites c.into_nodes-nodes.result.1 (in_slots g.F.SpillFile.held w) c.in-Ok-slots_of.slots.entries) seen c.in-Ok-slots_of.ensures) in
    left-whole c.landed_law.ensures.slots c.landed_law.ensures.sound g.F.SpillFile.held told c.args.rules.now (forest.used_of f) ns r c.requires.rules landed c.in-Ok-slots_of.slots.entries are c.landed_law.ensures.whole

pub returns-in-Ok-slots_of-clause-linked : goal.returns-in-Ok-slots_of-clause-linked
returns-in-Ok-slots_of-clause-linked g c =
    let told = g.J.Scan.told in
    let f = c.from_nodes-in-Ok-slots_of.result in
    let ns = forest.nodes_of f in
    let r = seen_reader g.S.Source.whole c.args.reader.now in
    let nodes = c.from_nodes-in-Ok-slots_of.ensures.nodes ∙ c.into_nodes-nodes.ensures.nodes in
    let used = c.from_nodes-in-Ok-slots_of.ensures.used ∙ c.into_nodes-nodes.ensures.used in
    let landed = landed-as g.F.SpillFile.held told g.S.Source.whole c.args.reader.now (forest.used_of c.args.forest) (forest.used_of f) (forest.nodes_of c.args.forest) ns c.requires.landed used nodes in
    let seen = c.deref.ensures.value ∙ sym c.from_nodes-in-Ok-slots_of.ensures.nodes in
    let are : AreSites (forest.used_of f) (in_slots g.F.SpillFile.held ns) c.in-Ok-slots_of.slots.entries = subst (λ (k : ℕ). AreSites k (in_slots g.F.SpillFile.held ns) c.in-Ok-slots_of.slots.entries) (sym c.from_nodes-in-Ok-slots_of.ensures.used) (subst (λ w. AreSites c.into_nodes-nodes.result.1 (in_slots g.F.SpillFile.held w) c.in-Ok-slots_of.slots.entries) seen c.in-Ok-slots_of.ensures) in
    left-linked c.landed_law.ensures.slots c.landed_law.ensures.sound g.F.SpillFile.held told c.args.rules.now (forest.used_of f) ns r c.requires.rules landed

pub returns-in-Ok-slots_of-clause-number : goal.returns-in-Ok-slots_of-clause-number
returns-in-Ok-slots_of-clause-number g c =
    let told = g.J.Scan.told in
    let f = c.from_nodes-in-Ok-slots_of.result in
    let ns = forest.nodes_of f in
    let r = seen_reader g.S.Source.whole c.args.reader.now in
    let nodes = c.from_nodes-in-Ok-slots_of.ensures.nodes ∙ c.into_nodes-nodes.ensures.nodes in
    let used = c.from_nodes-in-Ok-slots_of.ensures.used ∙ c.into_nodes-nodes.ensures.used in
    let landed = landed-as g.F.SpillFile.held told g.S.Source.whole c.args.reader.now (forest.used_of c.args.forest) (forest.used_of f) (forest.nodes_of c.args.forest) ns c.requires.landed used nodes in
    let seen = c.deref.ensures.value ∙ sym c.from_nodes-in-Ok-slots_of.ensures.nodes in
    let are : AreSites (forest.used_of f) (in_slots g.F.SpillFile.held ns) c.in-Ok-slots_of.slots.entries = subst (λ (k : ℕ). AreSites k (in_slots g.F.SpillFile.held ns) c.in-Ok-slots_of.slots.entries) (sym c.from_nodes-in-Ok-slots_of.ensures.used) (subst (λ w. AreSites c.into_nodes-nodes.result.1 (in_slots g.F.SpillFile.held w) c.in-Ok-slots_of.slots.entries) seen c.in-Ok-slots_of.ensures) in
    left-number c.landed_law.ensures.slots c.landed_law.ensures.sound g.F.SpillFile.held told c.args.rules.now (forest.used_of f) ns r c.requires.rules landed c.in-Ok-slots_of.slots.entries are c.landed_law.ensures.read

pub returns-in-Ok-slots_of-clause-sampled : goal.returns-in-Ok-slots_of-clause-sampled
returns-in-Ok-slots_of-clause-sampled g c =
    let told = g.J.Scan.told in
    let f = c.from_nodes-in-Ok-slots_of.result in
    let ns = forest.nodes_of f in
    let r = seen_reader g.S.Source.whole c.args.reader.now in
    let nodes = c.from_nodes-in-Ok-slots_of.ensures.nodes ∙ c.into_nodes-nodes.ensures.nodes in
    let used = c.from_nodes-in-Ok-slots_of.ensures.used ∙ c.into_nodes-nodes.ensures.used in
    let landed = landed-as g.F.SpillFile.held told g.S.Source.whole c.args.reader.now (forest.used_of c.args.forest) (forest.used_of f) (forest.nodes_of c.args.forest) ns c.requires.landed used nodes in
    let seen = c.deref.ensures.value ∙ sym c.from_nodes-in-Ok-slots_of.ensures.nodes in
    let are : AreSites (forest.used_of f) (in_slots g.F.SpillFile.held ns) c.in-Ok-slots_of.slots.entries = subst (λ (k : ℕ). AreSites k (in_slots g.F.SpillFile.held ns) c.in-Ok-slots_of.slots.entries) (sym c.from_nodes-in-Ok-slots_of.ensures.used) (subst (λ w. AreSites c.into_nodes-nodes.result.1 (in_slots g.F.SpillFile.held w) c.in-Ok-slots_of.slots.entries) seen c.in-Ok-slots_of.ensures) in
    left-sampled c.landed_law.ensures.slots c.landed_law.ensures.sound g.F.SpillFile.held told c.args.rules.now (forest.used_of f) ns r c.requires.rules landed c.in-Ok-slots_of.slots.entries are c.landed_law.ensures.sampled

pub invariant_of-result-clause-counted : goal.invariant_of-result-clause-counted
invariant_of-result-clause-counted g c =
    c.residents-here.ensures ∙ ap forest.residents_of (sym (c.from_nodes-in-Ok-slots_of.ensures.nodes ∙ c.into_nodes-nodes.ensures.nodes))
