use Rattle.std.proofs.Common.{rules, FitsSigned, w64, ◌∙◌}
use Rattle.std.proofs.lemmas.Int.{to_z-of_z}
use Rattle.ept_command.proofs.Numbers.{one_number, small, if_none}
use Rattle.ept_command.proofs.words.read_number.Goals as goal

pub returns-in_err-whole-clause-none : goal.returns-in_err-whole-clause-none
returns-in_err-whole-clause-none c = rw c.from_residual.ensures (λ n few spelled.
    c.in_err-whole.ensures.refused _ (small n c.args.most few c.ranges.most.fits) (c.as_bytes.ensures.value ∙ spelled))

pub returns-clause-none : goal.returns-clause-none
returns-clause-none c =
    let fits : FitsSigned w64 c.in_ok-whole.whole = search rules in
    if_none c.number_of.result _ _ c.number_of.ensures.none (λ none n few spelled.
    none n (to_z-of_z w64 _ fits ∙ one_number _ _ _ fits (small n c.args.most few c.ranges.most.fits) c.in_ok-whole.ensures.read (c.as_bytes.ensures.value ∙ spelled)) few)
