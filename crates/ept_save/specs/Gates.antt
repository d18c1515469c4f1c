-- Gates: files that are open where they hold exactly the one byte 1.
use Rattle.std.specs.Prelude.{◌≡◌, ℕ, List, [], ◌∷◌, Some}
use Rattle.ept_base.specs.Files.{Files, SameFiles, Puts}
use Rattle.ept_ckpt.specs.declared.letter.Letter.{Letter}
use Rattle.ept_save.specs.Names.{gate_name}

-- the gate is open: it holds exactly the one byte 1
abbrev pub IsOpen : Files → List ℕ → Type 0
IsOpen files name = files name ≡ Some (1 ∷ [])

-- where the gate was open it holds the one byte 0, and where it was not all is as before
pub record Closes (gate : List ℕ) (old new : Files) : Type 0 where
  pub was_open : IsOpen old gate → Puts gate (0 ∷ []) old new
  pub was_shut : ¬ IsOpen old gate → SameFiles old new

-- a letter counts where its gate is open
abbrev pub Counts : Files → Letter → Type 0
Counts files letter = IsOpen files (gate_name letter)
