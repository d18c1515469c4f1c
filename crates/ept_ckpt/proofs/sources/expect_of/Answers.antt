use Rattle.std.proofs.Common.{rules, ◌≡◌, ℕ, List, sym, subst, arith}
use Rattle.ept_config.specs.InputRanges.{AreBytes}
use Rattle.ept_ckpt.proofs.sources.expect_of.Goals as goal

pub returns-clause-bytes : goal.returns-clause-bytes
returns-clause-bytes c =
    let same : c.copy_from_slice.new.self ≡ c.args.front.now = search rules in
    subst (λ (w : List ℕ). AreBytes 48 w) (sym same) (record { width_is = c.requires; fit = λ i. omega (arith, c.type_inv.front i) })
