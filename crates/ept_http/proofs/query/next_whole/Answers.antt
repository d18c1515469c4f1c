use Rattle.std.proofs.Common.{rules, FitsSigned, w64, ◌∙◌, lit<}
use Rattle.std.proofs.lemmas.Int.{to_z-of_z}
use Rattle.ept_http.proofs.Numbers.{number-lacks, one-number}
use Rattle.ept_http.proofs.query.next_whole.Goals as goal

pub returns-in_err-digits-clause-found : goal.returns-in_err-digits-clause-found
returns-in_err-digits-clause-found c = λ n rest fits spelled.
    absurd (c.in_err-digits.ensures.found _ rest (number-lacks 44 n (lit< tt) fits) spelled)

pub returns-in_err-number-clause-found : goal.returns-in_err-number-clause-found
returns-in_err-number-clause-found c = λ n rest fits spelled.
    let parts = c.in_ok-digits.ensures.found _ rest (number-lacks 44 n (lit< tt) fits) spelled in
    absurd (c.in_err-number.ensures.refused n fits parts.0)

pub returns-clause-found : goal.returns-clause-found
returns-clause-found c = λ n rest fits spelled.
    let parts = c.in_ok-digits.ensures.found _ rest (number-lacks 44 n (lit< tt) fits) spelled in
    let small : FitsSigned w64 c.in_ok-number.number = search rules in (
      to_z-of_z w64 c.in_ok-number.number small ∙ one-number _ n _ small fits c.in_ok-number.ensures.read parts.0,
      parts.1,
    )
