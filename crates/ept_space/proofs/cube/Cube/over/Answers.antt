use Rattle.std.proofs.Common.{FitsSigned, w32, rules, arith, ap, sym, subst, ◌∙◌, max}
use Rattle.ept_space.specs.Place.{coordinate}
use Rattle.ept_space.specs.OctreeCube.{IsCube}
use Rattle.ept_space.specs.CubeOfBounds.{IsCubeOf}
use Rattle.ept_space.proofs.Extents.{cube_of-code, IsCube-cube_of, IsCubeOf-cube_of}
use Rattle.ept_space.proofs.cube.Cube.over.Goals as goal

pub invariant_of-result : goal.invariant_of-result
invariant_of-result c =
    let x_min : FitsSigned w32 (coordinate c.args.bounds.now.min 0) = search rules in
    let y_min : FitsSigned w32 (coordinate c.args.bounds.now.min 1) = search rules in
    let z_min : FitsSigned w32 (coordinate c.args.bounds.now.min 2) = search rules in
    let same = cube_of-code c.args.bounds.now c.args.s c.args.max_depth _ _ _ _ _ (search rules) x_min y_min z_min c.from.ensures c.from-2.ensures c.from-3.ensures (c.max-e.ensures ∙ ap (λ n. max c.args.s n) c.extent_bits.ensures.value) c.min.ensures in
    subst IsCube (sym same) (IsCube-cube_of c.args.bounds.now c.args.s c.args.max_depth (omega arith) (omega arith) x_min y_min z_min)

pub returns-clause-cube : goal.returns-clause-cube
returns-clause-cube c =
    let x_min : FitsSigned w32 (coordinate c.args.bounds.now.min 0) = search rules in
    let y_min : FitsSigned w32 (coordinate c.args.bounds.now.min 1) = search rules in
    let z_min : FitsSigned w32 (coordinate c.args.bounds.now.min 2) = search rules in
    let same = cube_of-code c.args.bounds.now c.args.s c.args.max_depth _ _ _ _ _ (search rules) x_min y_min z_min c.from.ensures c.from-2.ensures c.from-3.ensures (c.max-e.ensures ∙ ap (λ n. max c.args.s n) c.extent_bits.ensures.value) c.min.ensures in
    subst (IsCubeOf c.args.bounds.now c.args.s c.args.max_depth) (sym same) (IsCubeOf-cube_of c.args.bounds.now c.args.s c.args.max_depth c.requires.ordered c.extent_bits.ensures.in_word)

pub returns-clause-value : goal.returns-clause-value
returns-clause-value c =
    let x_min : FitsSigned w32 (coordinate c.args.bounds.now.min 0) = search rules in
    let y_min : FitsSigned w32 (coordinate c.args.bounds.now.min 1) = search rules in
    let z_min : FitsSigned w32 (coordinate c.args.bounds.now.min 2) = search rules in
    let same = cube_of-code c.args.bounds.now c.args.s c.args.max_depth _ _ _ _ _ (search rules) x_min y_min z_min c.from.ensures c.from-2.ensures c.from-3.ensures (c.max-e.ensures ∙ ap (λ n. max c.args.s n) c.extent_bits.ensures.value) c.min.ensures in
    same
