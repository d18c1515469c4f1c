use Rattle.std.proofs.Common.{◌≡◌, List, [], ◌∷◌, map, length, ap, suc, refl, arith}
use Rattle.ept_forest.specs.Slots as forest
use Rattle.ept_octree.specs.Index.{in_slots, branches}
use Rattle.ept_octree.proofs.Sites.{own-nodes, shallow-nodes}
use Rattle.ept_octree.proofs.Here.{each-kept}
use Rattle.ept_octree.proofs.Placing.{its-node}
use Rattle.ept_octree.proofs.Alike.{told-index}
use Rattle.ept_octree.proofs.Linked.{used-low}
use Rattle.ept_octree.proofs.octree.Octree.len.Goals as goal

pub returns-clause-own : goal.returns-clause-own
returns-clause-own g c =
    let self = c.args.self.now in
    own-nodes self.rules (forest.used_of self.forest) (in_slots g.F.SpillFile.held (forest.nodes_of self.forest)) self.slots.entries (told-index g.F.SpillFile.held self)

pub returns-clause-shallow : goal.returns-clause-shallow
returns-clause-shallow g c =
    let self = c.args.self.now in
    shallow-nodes self.rules (forest.used_of self.forest) (in_slots g.F.SpillFile.held (forest.nodes_of self.forest)) self.slots.entries (told-index g.F.SpillFile.held self)

length_map : {X Y : Type 0} (f : X → Y) (xs : List X) → length (map f xs) ≡ length xs
length_map f [] = refl
length_map f (x ∷ xs) = ap suc (length_map f xs)

pub returns-clause-kept : goal.returns-clause-kept
returns-clause-kept g c = λ sound agrees.
    let self = c.args.self.now in
    let held = g.F.SpillFile.held in
    let ns = forest.nodes_of self.forest in
    let used = forest.used_of self.forest in
    let sites = self.slots.entries in
    let index = told-index held self in
    let kept = each-kept held g.F.SpillFile.faults g.F.SpillFile.keeps ns used (used-low held self.rules used ns sites index) (λ k n at low. (its-node held self.rules used ns sites index k n at low).2) sound agrees in
    let long : length (branches (in_slots held ns) sites) ≡ length sites = length_map _ sites in
    omega (arith, kept, long, index.are.many, self.counted, self.cached)
