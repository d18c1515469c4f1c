use Rattle.std.proofs.Common.{rules, FitsSigned, w64, arith, ◌∙◌}
use Rattle.std.proofs.lemmas.Int.{to_z-of_z}
use Rattle.ept_http.proofs.Numbers.{one-number}
use Rattle.ept_http.proofs.QueryLemmas.{small-depth, if-none}
use Rattle.ept_http.proofs.query.read_depths.Goals as goal

pub returns-in_err-first-clause-none : goal.returns-in_err-first-clause-none
returns-in_err-first-clause-none c = rw c.from_residual.ensures (λ first last is.
    absurd (c.in_err-first.ensures.found _ _ (small-depth first (omega (arith, is.ordered, is.bounded))) is.spelled))

pub returns-in_err-last-clause-none : goal.returns-in_err-last-clause-none
returns-in_err-last-clause-none c = rw c.from_residual-in_err-last.ensures (λ first last is.
    let parts = c.in_ok-first.ensures.found _ _ (small-depth first (omega (arith, is.ordered, is.bounded))) is.spelled in
    c.in_err-last.ensures.refused _ (small-depth last is.bounded) parts.1)

pub returns-clause-none : goal.returns-clause-none
returns-clause-none c =
    let small : FitsSigned w64 c.in_ok-last.last = search rules in
    let small_first : FitsSigned w64 c.in_ok-first.first = search rules in
    if-none c.depths_of.result _ _ c.depths_of.ensures.none (λ none first last is.
    let parts = c.in_ok-first.ensures.found _ _ (small-depth first (omega (arith, is.ordered, is.bounded))) is.spelled in
    none first last (to_z-of_z w64 _ small_first ∙ parts.0) (to_z-of_z w64 _ small ∙ one-number _ _ _ small (small-depth last is.bounded) c.in_ok-last.ensures.read parts.1) is.ordered is.bounded)
