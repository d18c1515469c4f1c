use Rattle.std.proofs.Common.{rules, FitsSigned, w64, ◌∙◌}
use Rattle.std.proofs.lemmas.Int.{to_z-of_z}
use Rattle.ept_listen.proofs.Numbers.{one-number, small-count, if-none}
use Rattle.ept_listen.proofs.words.read_count.Goals as goal

pub returns-in_err-whole-clause-none : goal.returns-in_err-whole-clause-none
returns-in_err-whole-clause-none c = rw c.from_residual.ensures (λ n some small spelled.
    c.in_err-whole.ensures.refused _ (small-count n small) (c.as_bytes.ensures.value ∙ spelled))

pub returns-clause-none : goal.returns-clause-none
returns-clause-none c =
    let fits : FitsSigned w64 c.in_ok-whole.whole = search rules in
    if-none c.count_of.result _ _ c.count_of.ensures.none (λ none n some small spelled.
    none n (to_z-of_z w64 _ fits ∙ one-number _ _ _ fits (small-count n small) c.in_ok-whole.ensures.read (c.as_bytes.ensures.value ∙ spelled)) some small)
