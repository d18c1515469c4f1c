use Rattle.std.proofs.Common.{◌≡◌, ◌∙◌, ℕ, ◌*◌, List, sym, ap, subst, arith, length}
use Rattle.ept_point.specs.declared.layout.Layout.TheVariants.{New}
use Rattle.ept_space.specs.declared.cube.Rules.{Rules}
use Rattle.ept_space.specs.VoxelKey.{VoxelKey}
use Rattle.ept_space.specs.OctreeCube.{IsCube}
use Rattle.ept_node.specs.Told.{HasPlaces}
use Rattle.ept_node.proofs.Tellings.{places-of}
use Rattle.ept_node.proofs.filing.label.Goals as goal

pub invariant_of-result-2-clause-deepest : goal.invariant_of-result-2-clause-deepest
invariant_of-result-2-clause-deepest c = λ e. (
    c.open_mask.ensures.mask ∙ c.known.ensures.deepest (ap (λ (k : VoxelKey). k.depth) (sym c.key.ensures) ∙ (e ∙ ap (λ (r : Rules). r.cube.depth) c.rules.ensures)))

pub invariant_of-result-2-clause-fits : goal.invariant_of-result-2-clause-fits
invariant_of-result-2-clause-fits c =
    let long : length c.args.bytes.now ≡ 53 * length c.args.grid.now.points = ap (λ (w : List ℕ). length w) c.requires.bytes ∙ c.tile_length_law.ensures.length New c.args.grid.now.points in
    let counted : c.args.count ≡ length c.args.grid.now.points = c.requires.count in
    omega (arith, long, counted)

pub invariant_of-result-2-clause-places : goal.invariant_of-result-2-clause-places
invariant_of-result-2-clause-places c = λ some. (
    subst (λ (k : VoxelKey). HasPlaces c.rules.result.now.cube k) (sym c.key.ensures)
    (subst (λ (r : Rules). HasPlaces r.cube c.args.grid.now.key) (sym c.rules.ensures)
    (places-of c.args.grid.now.rules.cube c.args.grid.now.key c.args.grid.now.points (subst (λ (r : Rules). IsCube r.cube) c.rules.ensures c.known-2.ensures) c.known.ensures.inside
    (let counted : c.args.count ≡ length c.args.grid.now.points = c.requires.count in omega (arith, some, counted)))))
