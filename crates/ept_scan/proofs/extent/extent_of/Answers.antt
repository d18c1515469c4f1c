use Rattle.std.proofs.Common.{FitsSigned, rules, sym, ◌∙◌}
use Rattle.std.specs.Int.{w32}
use Rattle.std.proofs.Math.Facts.{to_z-of_z}
use Rattle.ept_scan.proofs.Spans.{extent_of_one}
use Rattle.ept_scan.proofs.extent.extent_of.Goals as goal

pub returns : goal.returns
returns c p lies =
    let x_fits : FitsSigned w32 c.args.place.x = search rules in
    let y_fits : FitsSigned w32 c.args.place.y = search rules in
    let z_fits : FitsSigned w32 c.args.place.z = search rules in
    extent_of_one p _ _ _ (to_z-of_z x_fits ∙ sym lies.x) (to_z-of_z y_fits ∙ sym lies.y) (to_z-of_z z_fits ∙ sym lies.z)
