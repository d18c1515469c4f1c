use Rattle.std.proofs.Common.{◌≡◌, pos, FitsSigned, w64, arith, rules, sym, ◌∙◌}
use Rattle.std.proofs.lemmas.Fmt.{signed_decimal_injective}
use Rattle.std.proofs.lemmas.Int.{ints}
use Rattle.ept_filter.proofs.classes.read_class.Goals as goal
use Rattle.ept_filter.proofs.classes.read_class.Goals.{then-class-from-via-then-class-from, then-class-from-via-else-class-from+then-class-gt-MAX_CLASS}

pub returns-in_err-class-clause-none : goal.returns-in_err-class-clause-none
returns-in_err-class-clause-none c = rw c.from_residual.ensures (λ class is.
    let fits : FitsSigned w64 (pos class) = record { sfits = omega (arith, is.2) } in
    c.in_err-class.ensures.refused (pos class) fits is.0)

pub returns-then-class-from-clause-none : goal.returns-then-class-from-clause-none
returns-then-class-from-clause-none c = λ class is.
    let fits : FitsSigned w64 (pos class) = record { sfits = omega (arith, is.2) } in
    let small : FitsSigned w64 c.in_ok-class.class = search rules in
    let same : c.in_ok-class.class ≡ pos class = signed_decimal_injective _ _ small.sfits fits.sfits (sym c.in_ok-class.ensures.read ∙ is.0) in
    elim c.then-class-from.branch [
      | then-class-from-via-then-class-from w ↦ omega (arith, ints, same, is.1, is.2)
      | then-class-from-via-else-class-from+then-class-gt-MAX_CLASS w ↦ omega (arith, ints, same, is.1, is.2)
    ]
