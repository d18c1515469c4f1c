use Rattle.std.proofs.Common.{◌≡◌, ◌∙◌, inr, ℕ, refl, ap, arith}
use Rattle.ept_space.specs.declared.cube.Rules.{Rules}
use Rattle.ept_space.specs.VoxelKey.{VoxelKey, root, child}
use Rattle.ept_leaf_rows.proofs.octrees.put_three.Goals as goal

depth_below : (o : ℕ) → (child root o).depth ≡ 1
unfolding child
depth_below o = refl

deep : (key : VoxelKey) → key.depth ≡ 1 → key ≡ root → ⊥
deep key one is = let none : key.depth ≡ 0 = ap (λ (k : VoxelKey). k.depth) is in omega (arith, one, none)

pub add-requires-clause-free : goal.add-requires-clause-free
add-requires-clause-free g c = inr (refl, c.requires.alone.0, c.requires.alone.1, c.requires.alone.2)

pub add-requires-2-clause-low : goal.add-requires-2-clause-low
add-requires-2-clause-low g c =
    let one : c.child-first.result.depth ≡ 1 = ap (λ (k : VoxelKey). k.depth) c.child-first.ensures.key ∙ depth_below 0 in
    let same : c.add.new.self.rules.cube.depth ≡ c.args.octree.now.rules.cube.depth = ap (λ (r : Rules). r.cube.depth) c.add.ensures.rules in
    omega (arith, one, same, c.requires.deep)

pub add-requires-2-clause-here : goal.add-requires-2-clause-here
add-requires-2-clause-here g c = λ is.
    absurd (deep c.child-first.result (ap (λ (k : VoxelKey). k.depth) c.child-first.ensures.key ∙ depth_below 0) is)

pub add-requires-3-clause-low : goal.add-requires-3-clause-low
add-requires-3-clause-low g c =
    let one : c.child-second.result.depth ≡ 1 = ap (λ (k : VoxelKey). k.depth) c.child-second.ensures.key ∙ depth_below 1 in
    let first : c.add.new.self.rules.cube.depth ≡ c.args.octree.now.rules.cube.depth = ap (λ (r : Rules). r.cube.depth) c.add.ensures.rules in
    let second : c.add-2.new.self.rules.cube.depth ≡ c.add.new.self.rules.cube.depth = ap (λ (r : Rules). r.cube.depth) c.add-2.ensures.rules in
    omega (arith, one, first, second, c.requires.deep)

pub add-requires-3-clause-here : goal.add-requires-3-clause-here
add-requires-3-clause-here g c = λ is.
    absurd (deep c.child-second.result (ap (λ (k : VoxelKey). k.depth) c.child-second.ensures.key ∙ depth_below 1) is)
