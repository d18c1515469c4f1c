-- What callers see of a `Saved`.
use Rattle.std.specs.Prelude.{◌≡◌, ℕ, ◌+◌, ◌<◌, Bool, true, List, Option, Some, None, ⊤}
use Rattle.ept_base.specs.Files.{Files}
use Rattle.ept_config.specs.declared.kept.Kept.{Kept}
use Rattle.ept_config.specs.declared.source_count.SourceCount.{SourceCount}
use Rattle.ept_ckpt.specs.declared.version.BodyVersion.TheVariants.{V3}
use Rattle.ept_ckpt.specs.Facts.{CheckpointFacts, kept_facts, precedence_of, sources_of}
use Rattle.ept_ckpt.specs.declared.letter.Letter.{Letter}
use Rattle.ept_ckpt.specs.declared.letter.Letter.TheVariants.{A}
use Rattle.ept_ckpt.specs.declared.node_line.NodeLine.{NodeLine}
use Rattle.ept_ckpt.specs.declared.checkpoint.Checkpoint.{Checkpoint}
use Rattle.ept_save.specs.Names.{other}
use Rattle.ept_save.specs.Gates.{Counts}
use Rattle.ept_save.specs.Current.{Current, HasCurrent, IsNamed, Agrees}

-- the current checkpoint, the lines for the next one in key order, and whether that one is begun
pub record View : Type 0 where
  pub current : Current
  pub lines : List NodeLine
  pub begun : Bool

-- the letter of the next checkpoint: the one that is not current, or a
abbrev pub next_letter : Current → Letter
next_letter None = A
next_letter (Some (letter, c)) = other letter

-- the generation of the next checkpoint
abbrev pub next_generation : Current → ℕ
next_generation None = 1
next_generation (Some (letter, c)) = c.generation + 1

-- What a store represents. It can be read; the checkpoint is the current one of what is read; each image agrees with that.
-- If the next checkpoint is begun, its letter does not count.
pub record StandsFor (view : View) (files : Option Files) (may_leave : Files → Type 0) : Type 0 where
  pub all : Files
  pub told : files ≡ Some all
  pub has_current : HasCurrent view.current all
  pub agrees : (image : Files) → may_leave image → Agrees view.current all image
  pub shut : view.begun ≡ true → ¬ Counts all (next_letter view.current)

-- the next checkpoint, of the newest version: its lines, and what is given of the inputs
abbrev pub next_facts : View → Kept → List SourceCount → ℕ → CheckpointFacts
next_facts view kept counts inserted = record {
  version = V3;
  generation = next_generation view.current;
  kept = kept_facts kept;
  precedence = precedence_of kept;
  sources = sources_of kept.inputs counts;
  inserted = inserted;
  nodes = view.lines;
}

-- the checkpoint is of a greater generation than the current one
abbrev pub IsNewer : Current → Checkpoint → Type 0
IsNewer None next = ⊤
IsNewer (Some (letter, c)) next = c.generation < next.generation

-- In each image the checkpoint is the current one, and the tiles that it names are those that are read. If the next one
-- is begun, its letter counts in none.
pub record IsInEachImage (view : View) (all : Files) (may_leave : Files → Type 0) : Type 0 where
  pub current : (image : Files) → may_leave image → HasCurrent view.current image
  pub tiles : (image : Files) → may_leave image → (name : List ℕ) → IsNamed view.current name → image name ≡ all name
  pub shut : view.begun ≡ true → (image : Files) → may_leave image → ¬ Counts image (next_letter view.current)
