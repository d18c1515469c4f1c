use Rattle.std.proofs.Common.{◌≡◌, ◌≤◌, ◌∙◌, ap, sym, arith, Bool, true, false}
use Rattle.std.proofs.lemmas.Bool.Decides.{nat_tests}
use Rattle.ept_space.specs.VoxelKey.{VoxelKey}
use Rattle.ept_check.specs.declared.octree.Octree.{Octree}
use Rattle.ept_check.proofs.Sets.{no-child}
use Rattle.ept_check.proofs.octree.Octree.has_child.Goals as goal

pub returns-else-key-self : goal.returns-else-key-self
returns-else-key-self c =
    let deep : c.args.key.now.depth ≡ c.key.inside.depth = sym (ap (λ (k : VoxelKey). k.depth) c.key.view_is) in
    let cube : c.args.self.now.rules.cube.depth ≡ c.self.inside.0.0.0.0.depth = sym (ap (λ (o : Octree). o.rules.cube.depth) c.self.view_is) in
    let none = no-child c.args.self.now c.args.key.now c.args.octant c.requires.sound (let less = c.if-key-self.false in omega (arith, deep, cube, less)) in
    (let less = c.if-key-self.false in grind (arith, nat_tests)) ∙ sym none
