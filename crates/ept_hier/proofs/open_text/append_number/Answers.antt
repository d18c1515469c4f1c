use Rattle.std.proofs.Common.{◌∙◌, ◌++◌, ◌∷◌, ap, sym, List, ℕ, Option, arith}
use Rattle.std.specs.Fmt.{signed_decimal}
use Rattle.std.proofs.lemmas.Fmt.{decimal_digit}
use Rattle.ept_hier.specs.OpenFiles.{number_of}
use Rattle.ept_hier.proofs.open_text.append_number.Goals as goal

pub returns-in_ok-extend_from_slice-in-None : goal.returns-in_ok-extend_from_slice-in-None
returns-in_ok-extend_from_slice-in-None c =
    c.in_ok-extend_from_slice-in-None.ensures.items
    ∙ (ap (λ (digits : List ℕ). c.args.text.now.items ++ 45 ∷ digits) (sym (decimal_digit 1 (omega arith)))
    ∙ ap (λ (r : Option ℕ). c.args.text.now.items ++ signed_decimal (number_of r)) (sym c.in-None.is))
