use Rattle.std.proofs.Common.{◌≡◌, ◌∙◌, List, map, sym, ap, subst, rules}
use Rattle.std.specs.Map.Iter.{deref_pair}
use Rattle.std.proofs.lemmas.Map.Iter.{iter_end}
use Rattle.ept_forest.specs.Slots.{nodes_of}
use Rattle.ept_space.specs.VoxelKey.{VoxelKey, AreAscending}
use Rattle.ept_octree.specs.Index.{Site, in_slots}
use Rattle.ept_octree.proofs.Walked.{keys-all}
use Rattle.ept_octree.proofs.octree.Octree.keys.Goals as goal

pub returns-clause-keys : goal.returns-clause-keys
returns-clause-keys g c =
    let sites : List Site = c.args.self.now.slots.entries in
    let all : map deref_pair c.loop-key.yielded ≡ sites = search (rules, iter_end) in
    c.loop-key.invariant ∙ (ap (λ (w : List Site). map (λ (s : Site). s.0) w) all ∙ sym (keys-all (in_slots g.F.SpillFile.held (nodes_of c.args.self.now.forest)) sites))

pub returns-clause-ascend : goal.returns-clause-ascend
returns-clause-ascend g c =
    let sites : List Site = c.args.self.now.slots.entries in
    let all : map deref_pair c.loop-key.yielded ≡ sites = search (rules, iter_end) in
    subst (λ (w : List VoxelKey). AreAscending w) (sym (c.loop-key.invariant ∙ ap (λ (w : List Site). map (λ (s : Site). s.0) w) all)) c.args.self.now.indexed.are.ascend
