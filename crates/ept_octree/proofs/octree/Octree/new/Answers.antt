use Rattle.std.proofs.Common.{◌≡◌, ◌∙◌, [], ◌∷◌, cond, Some, List, map, ap, sym, subst, arith}
use Rattle.std.specs.BTreeMap.{is_at, insert_entry}
use Rattle.ept_space.specs.VoxelKey.{VoxelKey, root, key_cmp, AreAscending}
use Rattle.ept_sample.proofs.KeyOrder.{AllPairs-IsRising}
use Rattle.ept_core.proofs.Lookups.{sorted-rising}
use Rattle.ept_node.specs.Shown.{file_of}
use Rattle.ept_forest.specs.Slots as forest
use Rattle.ept_space.specs.declared.cube.Rules.{Rules}
use Rattle.ept_table.specs.Octree.{entry_of, AreWhole, AreSampled}
use Rattle.ept_octree.proofs.Begun.{root-whole, root-sampled, can-none}
use Rattle.ept_octree.specs.Index.{in_slots, untold, branches, Site, slot_of}
use Rattle.ept_octree.proofs.Rooting.{none-together, planted-index, planted-linked, planted-root, planted-here, planted-agrees, planted-unbroken}
use Rattle.ept_octree.proofs.Alike.{index-any}
use Rattle.ept_octree.proofs.octree.Octree.new.Goals as goal

pub invariant_of-result-clause-indexed : goal.invariant_of-result-clause-indexed
invariant_of-result-clause-indexed g c =
    let none = c.new-slots.ensures.empty in
    let sites : List Site = c.insert.new.self.entries in
    let put : sites ≡ insert_entry key_cmp [] root 1 = subst (λ (es : List Site). sites ≡ insert_entry key_cmp es root 1) none c.in-Ok.ensures.entries in
    let finds : (q : VoxelKey) → slot_of sites q ≡ cond (is_at (key_cmp root) q) (Some 1) (slot_of [] q) = subst (λ (es : List Site). (q : VoxelKey) → slot_of sites q ≡ cond (is_at (key_cmp root) q) (Some 1) (slot_of es q)) none c.in-Ok.ensures.updates.0 in
    let ascend : AreAscending (map (λ (s : Site). s.0) sites) = AllPairs-IsRising (map (λ (s : Site). s.0) sites) (sorted-rising (map (λ (s : Site). s.0) sites) c.in-Ok.ensures.ordered) in
    let f = c.in_ok-forest.forest in
    index-any g.F.SpillFile.held untold c.args.rules.now (forest.used_of f) (forest.nodes_of f) sites (planted-index g.F.SpillFile.held g.F.SpillFile.faults g.F.SpillFile.keeps c.args.most c.args.rules.now f c.in_ok-forest.ensures.planted c.requires.0 sites put finds ascend)

pub returns-in-Ok-clause-linked : goal.returns-in-Ok-clause-linked
returns-in-Ok-clause-linked g c =
    planted-linked g.F.SpillFile.held g.F.SpillFile.faults g.F.SpillFile.keeps c.args.most c.args.rules.now c.in_ok-forest.forest c.in_ok-forest.ensures.planted

pub returns-in-Ok-clause-fresh : goal.returns-in-Ok-clause-fresh
returns-in-Ok-clause-fresh g c =
    none-together (λ node. g.F.SpillFile.faults (file_of node)) (forest.nodes_of c.in_ok-forest.forest) c.in_ok-forest.ensures.planted.fresh

pub returns-in-Err-clause-unkept : goal.returns-in-Err-clause-unkept
returns-in-Err-clause-unkept g c =
    omega (arith, c.retire_all.ensures.counted, none-together (λ node. g.F.SpillFile.keeps (file_of node)) (forest.nodes_of c.in_ok-forest.forest) c.in_ok-forest.ensures.planted.unused, c.in_ok-forest.ensures.counted)

pub returns-in-Ok-clause-whole : goal.returns-in-Ok-clause-whole
returns-in-Ok-clause-whole g c =
    let none = c.new-slots.ensures.empty in
    let sites : List Site = c.insert.new.self.entries in
    let rules : Rules = c.args.rules.now in
    let put : sites ≡ insert_entry key_cmp [] root 1 = subst (λ (es : List Site). sites ≡ insert_entry key_cmp es root 1) none c.in-Ok.ensures.entries in
    let nodes = ap (λ (w : List Site). branches (in_slots g.F.SpillFile.held (forest.nodes_of c.in_ok-forest.forest)) w) put ∙ ap (λ w. branches w ((root, 1) ∷ [])) (planted-root g.F.SpillFile.held g.F.SpillFile.faults g.F.SpillFile.keeps c.args.most rules c.in_ok-forest.forest c.in_ok-forest.ensures.planted) in
    subst (λ w. AreWhole (map entry_of w)) (sym nodes) (root-whole rules)

pub returns-in-Ok-clause-sampled : goal.returns-in-Ok-clause-sampled
returns-in-Ok-clause-sampled g c =
    let none = c.new-slots.ensures.empty in
    let sites : List Site = c.insert.new.self.entries in
    let rules : Rules = c.args.rules.now in
    let put : sites ≡ insert_entry key_cmp [] root 1 = subst (λ (es : List Site). sites ≡ insert_entry key_cmp es root 1) none c.in-Ok.ensures.entries in
    let nodes = ap (λ (w : List Site). branches (in_slots g.F.SpillFile.held (forest.nodes_of c.in_ok-forest.forest)) w) put ∙ ap (λ w. branches w ((root, 1) ∷ [])) (planted-root g.F.SpillFile.held g.F.SpillFile.faults g.F.SpillFile.keeps c.args.most rules c.in_ok-forest.forest c.in_ok-forest.ensures.planted) in
    subst (λ w. AreSampled rules [] w) (sym nodes) (root-sampled rules (can-none rules c.known.ensures))

pub invariant_of-result-clause-counted : goal.invariant_of-result-clause-counted
invariant_of-result-clause-counted g c =
    sym (planted-here g.F.SpillFile.held g.F.SpillFile.faults g.F.SpillFile.keeps c.args.most c.args.rules.now c.in_ok-forest.forest c.in_ok-forest.ensures.planted)

pub returns-in-Ok-clause-here : goal.returns-in-Ok-clause-here
returns-in-Ok-clause-here g c =
    planted-here g.F.SpillFile.held g.F.SpillFile.faults g.F.SpillFile.keeps c.args.most c.args.rules.now c.in_ok-forest.forest c.in_ok-forest.ensures.planted

pub returns-in-Ok-clause-agrees : goal.returns-in-Ok-clause-agrees
returns-in-Ok-clause-agrees g c =
    planted-agrees g.F.SpillFile.held g.F.SpillFile.faults g.F.SpillFile.keeps c.args.most c.args.rules.now c.in_ok-forest.forest c.in_ok-forest.ensures.planted

pub returns-in-Ok-clause-unbroken : goal.returns-in-Ok-clause-unbroken
returns-in-Ok-clause-unbroken g c =
    planted-unbroken g.F.SpillFile.held g.F.SpillFile.faults g.F.SpillFile.keeps c.args.most c.args.rules.now c.in_ok-forest.forest c.in_ok-forest.ensures.planted
