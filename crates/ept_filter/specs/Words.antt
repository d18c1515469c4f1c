use Rattle.std.specs.Prelude.{ℕ, List, ◌==◌}
use Rattle.std.specs.List.{slice_split}

-- the words between the commas of a text
unfoldable pub words : List ℕ → List (List ℕ)
words text = slice_split (λ b. b == 44) text
