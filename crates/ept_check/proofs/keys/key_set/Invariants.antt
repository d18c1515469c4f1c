use Rattle.std.proofs.Common.{◌≡◌, take}
use Rattle.std.specs.List.{All}
use Rattle.std.specs.BTreeSet.{contains}
use Rattle.ept_space.specs.VoxelKey.{VoxelKey, IsKey, key_cmp}
use Rattle.ept_hier.specs.Hierarchy.{keys_of}
use Rattle.ept_fit.specs.Fit.{is_among}
use Rattle.ept_check.proofs.keys.key_set.Given as goal

abbrev pub invariant-loop-node : goal.invariant-loop-node
invariant-loop-node l = record {
  keys : (key : VoxelKey) → contains key_cmp l.keys key ≡ is_among (keys_of (take l.node-index l.nodes)) key;
  are_keys : All IsKey (keys_of (take l.node-index l.nodes));
}
