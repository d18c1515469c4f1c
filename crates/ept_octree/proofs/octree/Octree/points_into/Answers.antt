use Rattle.std.proofs.Common.{◌≡◌, ◌∙◌, ℕ, ◌-◌, ◌++◌, None, sym, ap, subst}
use Rattle.std.specs.List.{All}
use Rattle.std.proofs.lemmas.List.{length-set}
use Rattle.std.proofs.lemmas.List.Elements.{All-set}
use Rattle.ept_sample.specs.Ids.{HasDistinctIds}
use Rattle.ept_grid.specs.Node.{IsInIdOrder}
use Rattle.ept_node.specs.Filing.{AppendsAlike}
use Rattle.ept_node.specs.Shown.{node_of, fault_of, AgreesWithFile, IsTelling}
use Rattle.ept_forest.specs.Slots as forest
use Rattle.ept_table.specs.Octree.{keys_in, AreLinked}
use Rattle.ept_table.proofs.Lists.{at-below, at-set}
use Rattle.ept_octree.specs.Index.{branches}
use Rattle.ept_octree.specs.Octree.{nodes_of, IsUnbroken}
use Rattle.ept_octree.specs.Walking.{IfNodeAt}
use Rattle.ept_octree.proofs.Here.{all-at, residents-same, faults-at}
use Rattle.ept_octree.proofs.Placing.{on-ok}
use Rattle.ept_octree.proofs.Walked.{has-slot, there-low, there-at, there-named, there-has, there-back, there-index, there-still, there-taken}
use Rattle.ept_octree.proofs.octree.Octree.points_into.Goals as goal

pub slot_of-slot-requires : goal.slot_of-slot-requires
slot_of-slot-requires g c = has-slot g.F.SpillFile.held c.args.self.now c.args.key.now c.requires.key

pub node-requires : goal.node-requires
node-requires g c =
    there-low g.F.SpillFile.held c.args.self.now c.args.key.now c.slot_of-slot.result c.slot_of-slot.ensures

pub append-requires-clause-named : goal.append-requires-clause-named
append-requires-clause-named g c =
    there-named g.F.SpillFile.held c.args.self.now c.args.key.now c.slot_of-slot.result c.slot_of-slot.ensures c.node.result.now c.node.ensures.value

pub append-requires-clause-agrees : goal.append-requires-clause-agrees
append-requires-clause-agrees g c =
    all-at (AgreesWithFile g.F.SpillFile.held g.F.SpillFile.faults g.F.SpillFile.keeps) (forest.nodes_of c.args.self.now.forest) (c.slot_of-slot.result - 1) c.node.result.now c.requires.agrees (there-at g.F.SpillFile.held c.args.self.now c.args.key.now c.slot_of-slot.result c.slot_of-slot.ensures c.node.result.now c.node.ensures.value)

pub returns-clause-ok : goal.returns-clause-ok
returns-clause-ok g c =
    let held = g.F.SpillFile.held in
    let n = c.node.result.now in
    let key = c.args.key.now in
    on-ok c.append.result (AppendsAlike (node_of held n) c.args.out.now.items c.append.new.out.items) (IfNodeAt (nodes_of held c.args.self.now) key (λ h. AppendsAlike h c.args.out.now.items c.append.new.out.items)) c.append.ensures.ok
    (there-has held c.args.self.now key c.slot_of-slot.result c.slot_of-slot.ensures n c.node.ensures.value (λ h. AppendsAlike h c.args.out.now.items c.append.new.out.items))

pub returns-clause-told : goal.returns-clause-told
returns-clause-told g c =
    let held = g.F.SpillFile.held in
    let n = c.node.result.now in
    let key = c.args.key.now in
    on-ok c.append.result (IsTelling held → c.append.new.out.items ≡ c.args.out.now.items ++ (node_of held n).points) (IsTelling held → IfNodeAt (nodes_of held c.args.self.now) key (λ h. c.append.new.out.items ≡ c.args.out.now.items ++ h.points)) c.append.ensures.told
    (λ all tells. there-has held c.args.self.now key c.slot_of-slot.result c.slot_of-slot.ensures n c.node.ensures.value (λ h. c.append.new.out.items ≡ c.args.out.now.items ++ h.points) (all tells))

pub returns-clause-in_order : goal.returns-clause-in_order
returns-clause-in_order g c =
    let held = g.F.SpillFile.held in
    let n = c.node.result.now in
    let key = c.args.key.now in
    on-ok c.append.result (IsInIdOrder (node_of held n).points) (IfNodeAt (nodes_of held c.args.self.now) key (λ h. IsInIdOrder h.points)) c.append.ensures.in_order
    (there-has held c.args.self.now key c.slot_of-slot.result c.slot_of-slot.ensures n c.node.ensures.value (λ h. IsInIdOrder h.points))

pub invariant_of-self-clause-indexed : goal.invariant_of-self-clause-indexed
invariant_of-self-clause-indexed g c =
    there-index g.F.SpillFile.held c.args.self.now c.args.key.now c.slot_of-slot.result c.slot_of-slot.ensures c.node.result.now c.node.ensures.value c.append.new.node c.append.ensures.named c.append.ensures.node

pub invariant_of-self-clause-limit : goal.invariant_of-self-clause-limit
invariant_of-self-clause-limit g c =
    c.args.self.now.limit ∙ sym (length-set (forest.nodes_of c.args.self.now.forest) (c.slot_of-slot.result - 1) c.append.new.node)

pub returns-clause-residents : goal.returns-clause-residents
returns-clause-residents g c =
    let n = c.node.result.now in
    residents-same (forest.nodes_of c.args.self.now.forest) (c.slot_of-slot.result - 1) n (there-at g.F.SpillFile.held c.args.self.now c.args.key.now c.slot_of-slot.result c.slot_of-slot.ensures n c.node.ensures.value) c.append.new.node c.append.ensures.here

pub invariant_of-self-clause-counted : goal.invariant_of-self-clause-counted
invariant_of-self-clause-counted g c =
    let n = c.node.result.now in
    c.args.self.now.counted ∙ sym (residents-same (forest.nodes_of c.args.self.now.forest) (c.slot_of-slot.result - 1) n (there-at g.F.SpillFile.held c.args.self.now c.args.key.now c.slot_of-slot.result c.slot_of-slot.ensures n c.node.ensures.value) c.append.new.node c.append.ensures.here)

pub returns-clause-same : goal.returns-clause-same
returns-clause-same g c =
    ap (λ w. branches w c.args.self.now.slots.entries) (there-still g.F.SpillFile.held c.args.self.now c.args.key.now c.slot_of-slot.result c.slot_of-slot.ensures c.node.result.now c.node.ensures.value c.append.new.node c.append.ensures.named c.append.ensures.node)

pub returns-clause-begun : goal.returns-clause-begun
returns-clause-begun g c =
    ap (λ w. keys_in w) (there-taken g.F.SpillFile.held c.args.self.now c.args.key.now c.slot_of-slot.result c.slot_of-slot.ensures c.node.result.now c.node.ensures.value c.append.new.node c.append.ensures.named c.append.ensures.node c.append.ensures.children)

pub returns-clause-linked : goal.returns-clause-linked
returns-clause-linked g c = λ linked.
    subst (λ w. AreLinked w) (sym (there-taken g.F.SpillFile.held c.args.self.now c.args.key.now c.slot_of-slot.result c.slot_of-slot.ensures c.node.result.now c.node.ensures.value c.append.new.node c.append.ensures.named c.append.ensures.node c.append.ensures.children)) linked

pub returns-clause-agrees : goal.returns-clause-agrees
returns-clause-agrees g c =
    All-set (AgreesWithFile g.F.SpillFile.held g.F.SpillFile.faults g.F.SpillFile.keeps) (forest.nodes_of c.args.self.now.forest) (c.slot_of-slot.result - 1) c.append.new.node c.append.ensures.agrees c.requires.agrees

pub returns-clause-unbroken : goal.returns-clause-unbroken
returns-clause-unbroken g c =
    let ns = forest.nodes_of c.args.self.now.forest in
    let place : ℕ = c.slot_of-slot.result - 1 in
    on-ok c.append.result (fault_of c.append.new.node ≡ None) (IsUnbroken c.args.self.now → All (λ m. fault_of m ≡ None) _) c.append.ensures.sound
    (λ sound all. All-set (λ m. fault_of m ≡ None) ns place c.append.new.node sound all)

pub returns-clause-spill : goal.returns-clause-spill
returns-clause-spill g c = λ is.
    let ns = forest.nodes_of c.args.self.now.forest in
    let n = c.node.result.now in
    let at = there-at g.F.SpillFile.held c.args.self.now c.args.key.now c.slot_of-slot.result c.slot_of-slot.ensures n c.node.ensures.value in
    faults-at g.F.SpillFile.held g.F.SpillFile.faults g.F.SpillFile.keeps _ (c.slot_of-slot.result - 1) c.append.new.node (at-set ns (c.slot_of-slot.result - 1) c.append.new.node (at-below at)) (c.append.ensures.spill is)

pub returns-clause-intact : goal.returns-clause-intact
returns-clause-intact g c = λ sound tells once.
    let held = g.F.SpillFile.held in
    let ns = forest.nodes_of c.args.self.now.forest in
    let n = c.node.result.now in
    let at = there-at held c.args.self.now c.args.key.now c.slot_of-slot.result c.slot_of-slot.ensures n c.node.ensures.value in
    c.append.ensures.intact (all-at (λ m. fault_of m ≡ None) ns (c.slot_of-slot.result - 1) n sound at) tells (there-back held c.args.self.now c.args.key.now c.slot_of-slot.result c.slot_of-slot.ensures n c.node.ensures.value (λ h. HasDistinctIds h.points) once)
