use Rattle.std.proofs.Common.{arith}
use Rattle.std.proofs.lemmas.Bool.Decides.{nat_tests}
use Rattle.ept_config_diff.proofs.Same.{same-input}
use Rattle.ept_config_diff.proofs.equal.is_same_input.Goals as goal

pub returns : goal.returns
returns c =
    same-input c.args.a.now c.args.b.now c.is_same-path.result _ c.is_same_offset-shift.result c.is_same_expect-expect.result
    c.is_same-path.ensures ((λ is. grind (arith, nat_tests, is)), (λ is. grind (arith, nat_tests, is))) c.is_same_offset-shift.ensures c.is_same_expect-expect.ensures
