-- A checkpoint in files: which one is current, and what keeps it so.
use Rattle.std.specs.Prelude.{◌≡◌, ◌⊎◌, ℕ, ◌<◌, List, Option, Some, None, Any}
use Rattle.ept_base.specs.Files.{Files}
use Rattle.ept_ckpt.specs.declared.letter.Letter.{Letter}
use Rattle.ept_ckpt.specs.declared.node_line.NodeLine.{NodeLine}
use Rattle.ept_ckpt.specs.declared.checkpoint.Checkpoint.{Checkpoint}
use Rattle.ept_ckpt.specs.Body.{body}
use Rattle.ept_ckpt.specs.Facts.{facts}
use Rattle.ept_save.specs.Names.{other, gate_name, body_name, work_tile_name, IsSavedName}
use Rattle.ept_save.specs.Gates.{Counts}

-- the body of the letter is that of this checkpoint
abbrev pub HasBody : Files → Letter → Checkpoint → Type 0
HasBody files letter c = files (body_name letter) ≡ Some (body (facts c))

-- the body of the letter is that of a checkpoint with a smaller generation
pub record HasOlder (files : Files) (letter : Letter) (c : Checkpoint) : Type 0 where
  pub older : Checkpoint
  pub has_body : HasBody files letter older
  pub before : older.generation < c.generation

-- the letter counts, its body is that of this checkpoint, and where the other letter counts, its checkpoint is an older one
pub record IsCurrent (files : Files) (letter : Letter) (c : Checkpoint) : Type 0 where
  pub counts : Counts files letter
  pub has_body : HasBody files letter c
  pub newest : Counts files (other letter) → HasOlder files (other letter) c

-- a checkpoint and the letter of its body, or none
abbrev pub Current : Type 0
Current = Option (Letter × Checkpoint)

-- this is the current checkpoint of the files: none where no letter counts
abbrev pub HasCurrent : Current → Files → Type 0
HasCurrent None files = (letter : Letter) → ¬ Counts files letter
HasCurrent (Some (letter, c)) files = IsCurrent files letter c

-- the name of the tile that a line names
abbrev pub tile_of_line : NodeLine → List ℕ
tile_of_line line = work_tile_name line.letter line.key

-- the current checkpoint names this tile
abbrev pub IsNamed : Current → List ℕ → Type 0
IsNamed None name = ⊥
IsNamed (Some (letter, c)) name = Any (λ line. name ≡ tile_of_line line) c.nodes

-- The current checkpoint and the tiles that it names are as before, and so is every name that is no checkpoint's.
pub record Keeps (current : Current) (old new : Files) : Type 0 where
  pub same : HasCurrent current old → HasCurrent current new
  pub tiles : (name : List ℕ) → IsNamed current name → new name ≡ old name
  pub apart : (name : List ℕ) → ¬ IsSavedName name → new name ≡ old name

-- two folders have the same gates and bodies, and the same tiles that the current checkpoint names
pub record Agrees (current : Current) (one two : Files) : Type 0 where
  pub gates : (letter : Letter) → two (gate_name letter) ≡ one (gate_name letter)
  pub bodies : (letter : Letter) → two (body_name letter) ≡ one (body_name letter)
  pub tiles : (name : List ℕ) → IsNamed current name → two name ≡ one name

-- The checkpoint of the letter is the current one. The tiles that it names read as these files do.
pub record IsNow (letter : Letter) (next : Checkpoint) (start now : Files) : Type 0 where
  pub is_current : IsCurrent now letter next
  pub tiles : (name : List ℕ) → IsNamed (Some (letter, next)) name → now name ≡ start name

-- The last checkpoint is kept, or the next one is now the current one, with the tiles that were read at the start.
pub record Commits (current : Current) (letter : Letter) (next : Checkpoint) (start old new : Files) : Type 0 where
  pub either : Keeps current old new ⊎ IsNow letter next start new
  pub apart : (name : List ℕ) → ¬ IsSavedName name → new name ≡ old name
