use Rattle.std.proofs.Common.{ℤ, pos, List, ◌≡◌, length, rules, FitsSigned, ap, sym, ◌∙◌}
use Rattle.std.specs.Prelude.{slice_index_or}
use Rattle.std.specs.Int.{w32}
use mir.Syntax.{w128}
use Rattle.std.proofs.lemmas.Int.{to_z-of_z}
use Rattle.ept_config_text.specs.Numbers.{place_of}
use Rattle.ept_config_text.proofs.Places.{three_items, place_of-three}
use Rattle.ept_config_text.proofs.numbers.place_of.Goals as goal

pub returns-clause-value : goal.returns-clause-value
returns-clause-value c =
    let xs : List ℤ = c.args.numbers in
    let count : length c.args.numbers ≡ 3 = search rules in
    let a : FitsSigned w128 (slice_index_or c.args.numbers 0 (pos 0)) = search rules in
    let b : FitsSigned w128 (slice_index_or c.args.numbers 1 (pos 0)) = search rules in
    let d : FitsSigned w128 (slice_index_or c.args.numbers 2 (pos 0)) = search rules in
    let x : FitsSigned w32 c.in_ok-coordinate_of.field-0 = search rules in
    let y : FitsSigned w32 c.in_ok-coordinate_of-2.field-0 = search rules in
    let z : FitsSigned w32 c.in_ok-coordinate_of-3.field-0 = search rules in
    simp to_z-of_z (
    place_of-three _ _ _ _ _ _
    (simp to_z-of_z at c.in_ok-coordinate_of.ensures.value)
    (simp to_z-of_z at c.in_ok-coordinate_of-2.ensures.value)
    (simp to_z-of_z at c.in_ok-coordinate_of-3.ensures.value)
    ∙ ap place_of (sym (three_items c.args.numbers count)))
