use Rattle.std.proofs.Common.{◌≡◌, ◌∙◌, ◌-◌, length, refl, sym, ap}
use Rattle.std.proofs.lemmas.List.{length-set}
use Rattle.ept_forest.specs.Slots.{nodes_of}
use Rattle.ept_table.proofs.Lists.{set-again}
use Rattle.ept_octree.specs.Index.{in_slots, branches}
use Rattle.ept_octree.proofs.Here.{residents-same}
use Rattle.ept_octree.proofs.Walked.{has-slot, there-low, there-at, there-named, there-has, there-index}
use Rattle.ept_octree.proofs.octree.Octree.count.Goals as goal

pub slot_of-slot-requires : goal.slot_of-slot-requires
slot_of-slot-requires g c = has-slot g.F.SpillFile.held c.args.self.now c.args.key.now c.requires

pub node-requires : goal.node-requires
node-requires g c =
    there-low g.F.SpillFile.held c.args.self.now c.args.key.now c.slot_of-slot.result c.slot_of-slot.ensures

pub count-requires : goal.count-requires
count-requires g c =
    there-named g.F.SpillFile.held c.args.self.now c.args.key.now c.slot_of-slot.result c.slot_of-slot.ensures c.node.result.now c.node.ensures.value

pub returns-clause-count : goal.returns-clause-count
returns-clause-count g c =
    there-has g.F.SpillFile.held c.args.self.now c.args.key.now c.slot_of-slot.result c.slot_of-slot.ensures c.node.result.now c.node.ensures.value (λ h. c.count.result ≡ length h.points) c.count.ensures

pub invariant_of-self-clause-indexed : goal.invariant_of-self-clause-indexed
invariant_of-self-clause-indexed g c =
    let n = c.node.result.now in
    there-index g.F.SpillFile.held c.args.self.now c.args.key.now c.slot_of-slot.result c.slot_of-slot.ensures n c.node.ensures.value n (there-named g.F.SpillFile.held c.args.self.now c.args.key.now c.slot_of-slot.result c.slot_of-slot.ensures n c.node.ensures.value) refl

pub invariant_of-self-clause-limit : goal.invariant_of-self-clause-limit
invariant_of-self-clause-limit g c =
    c.args.self.now.limit ∙ sym (length-set (nodes_of c.args.self.now.forest) (c.slot_of-slot.result - 1) c.node.result.now)

pub invariant_of-self-clause-counted : goal.invariant_of-self-clause-counted
invariant_of-self-clause-counted g c =
    let self = c.args.self.now in
    let n = c.node.result.now in
    self.counted ∙ sym (residents-same (nodes_of self.forest) (c.slot_of-slot.result - 1) n (there-at g.F.SpillFile.held self c.args.key.now c.slot_of-slot.result c.slot_of-slot.ensures n c.node.ensures.value) n refl)

pub returns-clause-nodes : goal.returns-clause-nodes
returns-clause-nodes g c =
    set-again (there-at g.F.SpillFile.held c.args.self.now c.args.key.now c.slot_of-slot.result c.slot_of-slot.ensures c.node.result.now c.node.ensures.value)

pub returns-clause-same : goal.returns-clause-same
returns-clause-same g c =
    let self = c.args.self.now in
    let ns = nodes_of self.forest in
    ap (λ w. branches (in_slots g.F.SpillFile.held w) self.slots.entries) (set-again (there-at g.F.SpillFile.held self c.args.key.now c.slot_of-slot.result c.slot_of-slot.ensures c.node.result.now c.node.ensures.value))
