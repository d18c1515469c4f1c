-- Short lists by their members.
use Rattle.std.proofs.Common.{◌≡◌, ◌≤◌, ◌<◌, List, [], ◌∷◌, length, get_or, arith}

module _ {T : Type 0} where
  pub two-items : (xs : List T) (a b : T) → 2 ≤ length xs → length xs < 3 → a ≡ get_or xs 0 a → b ≡ get_or xs 1 b → xs ≡ a ∷ b ∷ []
  two-items [] a b least below is_a is_b = absurd (omega arith)
  two-items (x ∷ []) a b least below is_a is_b = absurd (omega arith)
  two-items (x ∷ y ∷ []) a b least below is_a is_b = cc
  two-items (x ∷ y ∷ z ∷ xs) a b least below is_a is_b = absurd (omega arith)

  pub three-items : (xs : List T) (a b c : T) → 3 ≤ length xs → length xs < 4 → a ≡ get_or xs 0 a → b ≡ get_or xs 1 b → c ≡ get_or xs 2 c → xs ≡ a ∷ b ∷ c ∷ []
  three-items [] a b c least below is_a is_b is_c = absurd (omega arith)
  three-items (x ∷ []) a b c least below is_a is_b is_c = absurd (omega arith)
  three-items (x ∷ y ∷ []) a b c least below is_a is_b is_c = absurd (omega arith)
  three-items (x ∷ y ∷ z ∷ []) a b c least below is_a is_b is_c = cc
  three-items (x ∷ y ∷ z ∷ w ∷ xs) a b c least below is_a is_b is_c = absurd (omega arith)

  pub four-items : (xs : List T) (a b c d : T) → 4 ≤ length xs → length xs < 5 → a ≡ get_or xs 0 a → b ≡ get_or xs 1 b → c ≡ get_or xs 2 c → d ≡ get_or xs 3 d → xs ≡ a ∷ b ∷ c ∷ d ∷ []
  four-items [] a b c d least below is_a is_b is_c is_d = absurd (omega arith)
  four-items (x ∷ []) a b c d least below is_a is_b is_c is_d = absurd (omega arith)
  four-items (x ∷ y ∷ []) a b c d least below is_a is_b is_c is_d = absurd (omega arith)
  four-items (x ∷ y ∷ z ∷ []) a b c d least below is_a is_b is_c is_d = absurd (omega arith)
  four-items (x ∷ y ∷ z ∷ w ∷ []) a b c d least below is_a is_b is_c is_d = cc
  four-items (x ∷ y ∷ z ∷ w ∷ v ∷ xs) a b c d least below is_a is_b is_c is_d = absurd (omega arith)

  pub five-items : (xs : List T) (a b c d e : T) → 5 ≤ length xs → length xs < 6 → a ≡ get_or xs 0 a → b ≡ get_or xs 1 b → c ≡ get_or xs 2 c → d ≡ get_or xs 3 d → e ≡ get_or xs 4 e → xs ≡ a ∷ b ∷ c ∷ d ∷ e ∷ []
  five-items [] a b c d e least below is_a is_b is_c is_d is_e = absurd (omega arith)
  five-items (x ∷ []) a b c d e least below is_a is_b is_c is_d is_e = absurd (omega arith)
  five-items (x ∷ y ∷ []) a b c d e least below is_a is_b is_c is_d is_e = absurd (omega arith)
  five-items (x ∷ y ∷ z ∷ []) a b c d e least below is_a is_b is_c is_d is_e = absurd (omega arith)
  five-items (x ∷ y ∷ z ∷ w ∷ []) a b c d e least below is_a is_b is_c is_d is_e = absurd (omega arith)
  five-items (x ∷ y ∷ z ∷ w ∷ v ∷ []) a b c d e least below is_a is_b is_c is_d is_e = cc
  five-items (x ∷ y ∷ z ∷ w ∷ v ∷ u ∷ xs) a b c d e least below is_a is_b is_c is_d is_e = absurd (omega arith)
