-- What opening finds, and why a folder has no current checkpoint.
use Rattle.std.specs.Prelude.{◌≡◌, ◌⊎◌, List, [], Option, Some, None}
use Rattle.ept_base.specs.Files.{Files}
use Rattle.ept_ckpt.specs.declared.letter.Letter.{Letter}
use Rattle.ept_ckpt.specs.declared.letter.Letter.TheVariants.{A, B}
use Rattle.ept_ckpt.specs.declared.node_line.NodeLine.{NodeLine}
use Rattle.ept_ckpt.specs.declared.checkpoint.Checkpoint.{Checkpoint}
use Rattle.ept_save.specs.Gates.{Counts}
use Rattle.ept_save.specs.Current.{Current, HasBody}

-- the letter counts, and its body is missing or that of no checkpoint
pub record IsBroken (files : Files) (letter : Letter) : Type 0 where
  pub counts : Counts files letter
  pub no_body : (c : Checkpoint) → ¬ HasBody files letter c

-- both letters count, and their checkpoints have one generation
pub record AreAlike (files : Files) : Type 0 where
  pub one : Checkpoint
  pub two : Checkpoint
  pub counts_a : Counts files A
  pub counts_b : Counts files B
  pub has_a : HasBody files A one
  pub has_b : HasBody files B two
  pub same : one.generation ≡ two.generation

-- the letter that is reported as bad: a if it is broken; else b, if it is broken or both are alike
abbrev pub IsBad : Files → Letter → Type 0
IsBad files A = IsBroken files A
IsBad files B = ¬ IsBroken files A × (IsBroken files B ⊎ AreAlike files)

-- what is found of one letter: it does not count, or this is its checkpoint
abbrev pub IsFound : Files → Letter → Option Checkpoint → Type 0
IsFound files letter None = ¬ Counts files letter
IsFound files letter (Some c) = Counts files letter × HasBody files letter c

-- the lines of the current checkpoint, or none
abbrev pub lines_of : Current → List NodeLine
lines_of None = []
lines_of (Some (letter, c)) = c.nodes
