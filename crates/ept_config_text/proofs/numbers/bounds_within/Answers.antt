use Rattle.std.proofs.Common.{pos, ◌≡◌, length, rules, FitsSigned}
use Rattle.std.specs.Prelude.{slice_index_or}
use mir.Syntax.{w128}
use Rattle.std.proofs.lemmas.Int.{to_z-of_z}
use Rattle.ept_config_text.specs.Numbers.{bounds_within}
use Rattle.ept_config_text.proofs.Places.{first_three, last_three}
use Rattle.ept_config_text.proofs.numbers.bounds_within.Goals as goal

pub returns-clause-value : goal.returns-clause-value
unfolding bounds_within
returns-clause-value c =
    let count : length c.args.numbers ≡ 6 = search rules in
    let p : FitsSigned w128 (slice_index_or c.args.numbers 0 (pos 0)) = search rules in
    let q : FitsSigned w128 (slice_index_or c.args.numbers 1 (pos 0)) = search rules in
    let r : FitsSigned w128 (slice_index_or c.args.numbers 2 (pos 0)) = search rules in
    let s : FitsSigned w128 (slice_index_or c.args.numbers 3 (pos 0)) = search rules in
    let t : FitsSigned w128 (slice_index_or c.args.numbers 4 (pos 0)) = search rules in
    let u : FitsSigned w128 (slice_index_or c.args.numbers 5 (pos 0)) = search rules in
    rw (
      first_three c.args.numbers count,
      last_three c.args.numbers count,
      ← simp to_z-of_z at c.in_ok-min.ensures.value,
      ← simp to_z-of_z at c.in_ok-place_of.ensures.value,
    ) c.bounds_between.ensures.value
