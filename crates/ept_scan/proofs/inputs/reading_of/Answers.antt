use Rattle.std.proofs.Common.{sym, subst, pos, ◌^◌}
use Rattle.std.specs.Prelude.{ℤ, ◌≤ℤ◌}
use Rattle.ept_scan.proofs.Powers.{same_factor}
use Rattle.ept_scan.proofs.inputs.reading_of.Goals as goal

pub invariant_of-shift : goal.invariant_of-shift
invariant_of-shift c =
    let same = sym (same_factor c.power_of_ten-factor.result c.power_of_ten-factor.ensures.least c.power_of_ten-factor.ensures.greatest) in
    record {
      least_factor = subst (λ (z : ℤ). pos 1 ≤ℤ z) same c.power_of_ten-factor.ensures.least;
      greatest_factor = subst (λ (z : ℤ). z ≤ℤ pos (10 ^ 9)) same c.power_of_ten-factor.ensures.greatest;
      x_bound = c.args.input.now.in_range.shift_within.x;
      y_bound = c.args.input.now.in_range.shift_within.y;
      z_bound = c.args.input.now.in_range.shift_within.z;
    }
