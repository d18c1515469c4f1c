use Rattle.std.proofs.Common.{◌≡◌, ◌∙◌, ℕ, None, ◌-◌, ◌+◌, arith, rules}
use Rattle.std.proofs.lemmas.List.{length-set}
use Rattle.std.proofs.lemmas.List.Elements.{All-set}
use Rattle.ept_forest.specs.Slots.{nodes_of, used_of}
use Rattle.ept_node.specs.Shown.{file_of, fault_of, AgreesWithFile}
use Rattle.ept_octree.proofs.Placing.{slice-at, same-in, same-file}
use Rattle.ept_node.proofs.Here.{same-here, same-fault}
use Rattle.ept_octree.proofs.Here.{all-at, residents-same}
use Rattle.ept_octree.proofs.Linked.{same-slot, step-may, step-children, step-agrees}
use Rattle.ept_octree.proofs.linking.link_all.Goals as goal

pub link_node-requires : goal.link_node-requires
link_node-requires g c =
    let ns = nodes_of c.loop-place.forest in
    let p : ℕ = c.loop-place.place + 1 - 1 in
    c.loop-place.invariant.may p c.node.result.now (slice-at ns p c.node.result.now c.node.ensures.value) (search rules)

pub loop-place-preserved : goal.loop-place-preserved
loop-place-preserved g c =
    let ns = nodes_of c.loop-place.forest in
    let p : ℕ = c.loop-place.place + 1 - 1 in
    let n = c.node.result.now in
    let m = c.link_node.new.node in
    let at = slice-at ns p n c.node.ensures.value in
    let i = c.loop-place.invariant in
    let state = c.link_node.ensures.state in
    let node = c.link_node.ensures.node in
    let held = g.F.SpillFile.held in
    let faults = g.F.SpillFile.faults in
    let keeps = g.F.SpillFile.keeps in
    let was = all-at (λ x. fault_of x ≡ None) ns p n i.unbroken at in
    let now = same-fault n m state was in
    record {
      children = step-children g.F.SpillFile.held ns p n at m state node c.args.slots.now.entries c.loop-place.place (omega arith) i.children c.link_node.ensures.children;
      may = step-may g.F.SpillFile.held ns p n at m state node (used_of c.args.forest.now) i.may;
      nodes = same-in g.F.SpillFile.held ns p n at m (same-slot g.F.SpillFile.held ns p n at m state node) ∙ i.nodes;
      used = i.used;
      long = length-set ns p m ∙ i.long;
      files = same-file ns p n at file_of m c.link_node.ensures.file ∙ i.files;
      unbroken = All-set (λ x. fault_of x ≡ None) ns p m now i.unbroken;
      residents = residents-same ns p n at m (same-here n m state was now) ∙ i.residents;
      agrees = λ all. All-set (AgreesWithFile held faults keeps) ns p m (step-agrees held ns p n at m state node faults keeps c.link_node.ensures.file now (all-at (AgreesWithFile held faults keeps) ns p n (i.agrees all) at)) (i.agrees all);
    }
