use Rattle.std.proofs.Common.{◌≡◌, true, false, take}
use Rattle.std.specs.BTreeSet.{contains}
use Rattle.ept_forest.specs.Slots as trees
use Rattle.ept_space.specs.VoxelKey.{VoxelKey, key_cmp}
use Rattle.ept_octree.specs.Octree.{forest_of, rules_of, cache_of, nodes_of}
use Rattle.ept_octree_ckpt.specs.Saving.{IsStill}
use Rattle.ept_octree_ckpt.proofs.still.grown_keys.Given as goal

abbrev pub invariant-loop-key : goal.invariant-loop-key
invariant-loop-key g l =
    let held = g.F.SpillFile.held in
    let all = nodes_of held l.initial.octree in
    record {
      still : (key : VoxelKey) → contains key_cmp l.grown key ≡ false → IsStill l.saved.current (take l.key-index all) key;
      grown : (key : VoxelKey) → contains key_cmp l.grown key ≡ true → ¬ IsStill l.saved.current all key;
      nodes : trees.nodes_of (forest_of l.octree) ≡ trees.nodes_of (forest_of l.initial.octree);
      same : nodes_of held l.octree ≡ all;
      rules : rules_of l.octree ≡ rules_of l.initial.octree;
      cache : cache_of l.octree ≡ cache_of l.initial.octree;
    }
