use Rattle.std.proofs.Common.{FitsSigned, w32, rules}
use Rattle.ept_space.specs.Place.{coordinate}
use Rattle.ept_space.proofs.Extents.{has_place-code}
use Rattle.std.proofs.lemmas.Int.{to_z-of_z}
use Rattle.ept_space.proofs.cube.has_place.Goals as goal

pub returns : goal.returns
returns c =
    let bounds = c.args.bounds.now in
    let a : FitsSigned w32 (coordinate c.args.bounds.now.min 0) = search rules in
    let b : FitsSigned w32 (coordinate c.args.bounds.now.max 0) = search rules in
    let d : FitsSigned w32 (coordinate c.args.bounds.now.min 1) = search rules in
    let e : FitsSigned w32 (coordinate c.args.bounds.now.max 1) = search rules in
    let f : FitsSigned w32 (coordinate c.args.bounds.now.min 2) = search rules in
    let g : FitsSigned w32 (coordinate c.args.bounds.now.max 2) = search rules in
    simp to_z-of_z (has_place-code c.args.bounds.now)
