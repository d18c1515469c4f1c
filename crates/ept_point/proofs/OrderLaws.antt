-- The order of ids is strict and total.
use Rattle.std.proofs.Common.{◌≡◌, ◌⊎◌, sym, arith, inl, inr}
use Rattle.std.proofs.lemmas.Bool.{cases_lt}
use Rattle.ept_point.specs.declared.id.PointId.{PointId}
use Rattle.ept_point.specs.Order.{IsBefore}

pub not_before_itself : (a : PointId) → ¬ IsBefore a a
not_before_itself a (inl h) = omega arith
not_before_itself a (inr h) = omega arith

pub before_trans : (a b c : PointId) → IsBefore a b → IsBefore b c → IsBefore a c
before_trans a b c (inl h) (inl g) = inl (omega arith)
before_trans a b c (inl h) (inr g) = inl (omega arith)
before_trans a b c (inr h) (inl g) = inl (omega arith)
before_trans a b c (inr h) (inr g) = inr (omega arith, omega arith)

pub before_total : (a b : PointId) → (a ≡ b) ⊎ (IsBefore a b ⊎ IsBefore b a)
before_total a b =
    elim (cases_lt a.origin b.origin) [
      | inl h ↦ inr (inl (inl h))
      | inr h ↦
          elim (cases_lt b.origin a.origin) [
            | inl g ↦ inr (inr (inl g))
            | inr g ↦
                let origins : a.origin ≡ b.origin = omega arith in
                elim (cases_lt a.number b.number) [
                  | inl k ↦ inr (inl (inr (origins, k)))
                  | inr k ↦
                      elim (cases_lt b.number a.number) [
                        | inl m ↦ inr (inr (inr (sym origins, m)))
                        | inr m ↦
                            let numbers : a.number ≡ b.number = omega arith in
                            inl (λ i. record { origin = origins i; number = numbers i })
                      ]
                ]
          ]
    ]
