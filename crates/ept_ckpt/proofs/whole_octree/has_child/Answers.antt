use Rattle.std.proofs.Common.{◌≡◌, ◌∙◌, sym, ap, arith}
use Rattle.ept_space.specs.VoxelKey.{VoxelKey}
use Rattle.ept_ckpt.specs.Octree.{keys_of}
use Rattle.ept_ckpt.proofs.KeySearch.{too-deep, not-below}
use Rattle.ept_ckpt.proofs.whole_octree.has_child.Goals as goal

pub returns-else-key-lt-MAX_DEPTH : goal.returns-else-key-lt-MAX_DEPTH
returns-else-key-lt-MAX_DEPTH c =
    let depth : c.key.inside.depth ≡ c.args.key.now.depth = ap (λ (k : VoxelKey). k.depth) c.key.view_is in
    not-below c.key.inside.depth 31 c.if-key-lt-MAX_DEPTH.false ∙ sym (too-deep (keys_of c.args.nodes.now) c.args.key.now c.args.octant c.requires.known (omega (arith, depth, c.if-key-lt-MAX_DEPTH.false)))
