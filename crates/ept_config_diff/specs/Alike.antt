-- The inputs at the start of two lists that are the same.
use Rattle.std.specs.Prelude.{◌≡◌, ◌≢◌, ℕ, List, ◌∷◌, ◌++◌, length}
use Rattle.ept_config.specs.declared.input.Input.{Input}

-- The first `count` inputs of both lists are the same, and no more: one list ends there, or the next inputs differ.
pub record AreAlikeTo (count : ℕ) (kept given : List Input) : Type 0 where
  pub front : List Input
  pub kept_rest : List Input
  pub given_rest : List Input
  pub counted : length front ≡ count
  pub kept_are : kept ≡ front ++ kept_rest
  pub given_are : given ≡ front ++ given_rest
  pub no_more : (a b : Input) (more others : List Input) → kept_rest ≡ a ∷ more → given_rest ≡ b ∷ others → b ≢ a
