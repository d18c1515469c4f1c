-- The places of a list.
use Rattle.std.specs.Prelude.{◌≡◌, ℕ, zero, suc, List, [], ◌∷◌}

-- x is at place i of the list
unfoldable pub LiesAt : {X : Type 0} → List X → ℕ → X → Type 0
LiesAt [] i x = ⊥
LiesAt (y ∷ ys) zero x = y ≡ x
LiesAt (y ∷ ys) (suc i) x = LiesAt ys i x

pub record At {X : Type 0} (xs : List X) (i : ℕ) (x : X) : Type 0 where
  pub lies : LiesAt xs i x
