use Rattle.std.proofs.Common.{◌∙◌, ◌-◌, set, sym, subst, arith}
use Rattle.std.proofs.lemmas.List.{length-set}
use Rattle.std.proofs.lemmas.List.Elements.{All-set}
use Rattle.ept_node.specs.Shown.{file_of, AgreesWithFile}
use Rattle.ept_forest.specs.Slots as forest
use Rattle.ept_table.proofs.Lists.{at-below, at-set}
use Rattle.ept_octree.specs.Index.{in_slots, branches}
use Rattle.ept_octree.specs.Octree.{nodes_of, AreAlike}
use Rattle.ept_node.proofs.Here.{resident-here, spilled-away}
use Rattle.ept_octree.proofs.Here.{telling, residents-same, residents-less, faults-at}
use Rattle.ept_octree.proofs.Alike.{spilled-like, still-like, alike-nodes}
use Rattle.ept_octree.proofs.Gone.{here-low, here-at, here-state, gone-index, gone-nodes, same-nodes}
use Rattle.ept_octree.proofs.octree.Octree.add.Goals as goal

pub returns-then-self-clause-ok : goal.returns-then-self-clause-ok
returns-then-self-clause-ok g c =
    let nodes = nodes_of g.F.SpillFile.held c.place.new.self in
    subst (λ w. AreAlike w nodes) c.in_ok-slot.ensures.ok (alike-nodes nodes)

pub node-requires : goal.node-requires
node-requires g c =
    here-low g.F.SpillFile.held c.place.new.self c.in_ok-slot.slot c.in_ok-slot.ensures.slot

pub put_away-requires : goal.put_away-requires
put_away-requires g c =
    here-state g.F.SpillFile.held c.place.new.self c.in_ok-slot.slot c.in_ok-slot.ensures.slot c.node.result.now c.node.ensures.value

pub invariant_of-self-clause-indexed : goal.invariant_of-self-clause-indexed
invariant_of-self-clause-indexed g c =
    gone-index g.F.SpillFile.held c.place.new.self c.in_ok-slot.slot c.in_ok-slot.ensures.slot c.node.result.now c.node.ensures.value c.put_away.new.node c.put_away.ensures.named (spilled-like g.F.SpillFile.held c.node.result.now c.put_away.new.node c.in-Ok.ensures.ok c.put_away.ensures.alike)

pub invariant_of-self-clause-limit : goal.invariant_of-self-clause-limit
invariant_of-self-clause-limit g c =
    c.place.new.self.limit ∙ sym (length-set (forest.nodes_of c.place.new.self.forest) (c.in_ok-slot.slot - 1) c.put_away.new.node)

pub invariant_of-self-clause-counted : goal.invariant_of-self-clause-counted
invariant_of-self-clause-counted g c =
    let n = c.node.result.now in
    let m = c.put_away.new.node in
    omega (arith, c.place.new.self.counted, residents-less (forest.nodes_of c.place.new.self.forest) (c.in_ok-slot.slot - 1) n (here-at g.F.SpillFile.held c.place.new.self c.in_ok-slot.slot c.in_ok-slot.ensures.slot c.node.result.now c.node.ensures.value) m (resident-here n (here-state g.F.SpillFile.held c.place.new.self c.in_ok-slot.slot c.in_ok-slot.ensures.slot c.node.result.now c.node.ensures.value)) (spilled-away m c.in-Ok.ensures.ok))

pub invariant_of-self-in-Err-1 : goal.invariant_of-self-in-Err-1
invariant_of-self-in-Err-1 g c =
    let n = c.node.result.now in
    let m = c.put_away.new.node in
    record {
      indexed = gone-index g.F.SpillFile.held c.place.new.self c.in_ok-slot.slot c.in_ok-slot.ensures.slot c.node.result.now c.node.ensures.value c.put_away.new.node c.put_away.ensures.named (still-like g.F.SpillFile.held c.node.result.now c.put_away.new.node c.in-Err.ensures.unchanged);
      limit = c.place.new.self.limit ∙ sym (length-set (forest.nodes_of c.place.new.self.forest) (c.in_ok-slot.slot - 1) m);
      some = c.place.new.self.some;
      counted = c.place.new.self.counted ∙ sym (residents-same (forest.nodes_of c.place.new.self.forest) (c.in_ok-slot.slot - 1) n (here-at g.F.SpillFile.held c.place.new.self c.in_ok-slot.slot c.in_ok-slot.ensures.slot c.node.result.now c.node.ensures.value) m (c.in-Err.ensures.here ∙ sym (resident-here n (here-state g.F.SpillFile.held c.place.new.self c.in_ok-slot.slot c.in_ok-slot.ensures.slot c.node.result.now c.node.ensures.value))));
      cached = c.place.new.self.cached;
    }

pub returns-in-Ok-clause-ok : goal.returns-in-Ok-clause-ok
returns-in-Ok-clause-ok g c =
    let self = c.place.new.self in
    let after = branches (in_slots g.F.SpillFile.held (set (forest.nodes_of self.forest) (c.in_ok-slot.slot - 1) c.put_away.new.node)) self.slots.entries in
    subst (λ w. AreAlike w after) c.in_ok-slot.ensures.ok (gone-nodes g.F.SpillFile.held c.place.new.self c.in_ok-slot.slot c.in_ok-slot.ensures.slot c.node.result.now c.node.ensures.value c.put_away.new.node c.put_away.ensures.named (spilled-like g.F.SpillFile.held c.node.result.now c.put_away.new.node c.in-Ok.ensures.ok c.put_away.ensures.alike))

pub returns-in-Ok-clause-told : goal.returns-in-Ok-clause-told
returns-in-Ok-clause-told g c = λ tells.
    let m = c.put_away.new.node in
    same-nodes g.F.SpillFile.held c.place.new.self c.in_ok-slot.slot c.in_ok-slot.ensures.slot c.node.result.now c.node.ensures.value c.put_away.new.node c.put_away.ensures.named (telling (g.F.SpillFile.held (file_of m)) (tells (file_of m)) c.in-Ok.ensures.told) ∙ c.in_ok-slot.ensures.ok

pub returns-in-Ok-clause-agrees : goal.returns-in-Ok-clause-agrees
returns-in-Ok-clause-agrees g c =
    All-set (AgreesWithFile g.F.SpillFile.held g.F.SpillFile.faults g.F.SpillFile.keeps) (forest.nodes_of c.place.new.self.forest) (c.in_ok-slot.slot - 1) c.put_away.new.node c.put_away.ensures.agrees c.place.ensures.agrees

pub returns-in-Err-clause-spill : goal.returns-in-Err-clause-spill
returns-in-Err-clause-spill g c = λ is.
    let m = c.put_away.new.node in
    faults-at g.F.SpillFile.held g.F.SpillFile.faults g.F.SpillFile.keeps (set (forest.nodes_of c.place.new.self.forest) (c.in_ok-slot.slot - 1) m) (c.in_ok-slot.slot - 1) m (at-set (forest.nodes_of c.place.new.self.forest) (c.in_ok-slot.slot - 1) m (at-below (here-at g.F.SpillFile.held c.place.new.self c.in_ok-slot.slot c.in_ok-slot.ensures.slot c.node.result.now c.node.ensures.value))) (c.in-Err.ensures.spill is)

pub returns-in-Err-clause-agrees : goal.returns-in-Err-clause-agrees
returns-in-Err-clause-agrees g c =
    All-set (AgreesWithFile g.F.SpillFile.held g.F.SpillFile.faults g.F.SpillFile.keeps) (forest.nodes_of c.place.new.self.forest) (c.in_ok-slot.slot - 1) c.put_away.new.node c.put_away.ensures.agrees c.place.ensures.agrees
