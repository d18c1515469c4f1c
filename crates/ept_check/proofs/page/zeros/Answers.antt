use Rattle.std.proofs.Common.{◌≡◌, ◌∙◌, ◌≤◌, ℕ, List, get_or, replicate, inl, inr, ap, arith}
use Rattle.std.proofs.lemmas.Bool.{cases_lt}
use Rattle.std.proofs.lemmas.List.{get_or-replicate, get_or_past, length-replicate}
use Rattle.ept_check.proofs.page.zeros.Goals as goal

zeros-read : (n i : ℕ) → ◌≡◌ {A = ℕ} (get_or (replicate n 0) i 0) 0
zeros-read n i =
    elim (cases_lt i n) [
      | inl within ↦ get_or-replicate n i 0 0 within
      | inr past ↦ get_or_past (replicate n 0) i 0 (let e = length-replicate {A = ℕ} n 0 in omega (arith, e, past))
    ]

pub returns-clause-zeros : goal.returns-clause-zeros
returns-clause-zeros c = λ i. ap (λ (bytes : List ℕ). get_or bytes i 0) (c.in_ok-bytes.ensures.items_if_clones_equal (λ y e. e)) ∙ zeros-read c.args.count i
