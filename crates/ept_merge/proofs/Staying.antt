-- The files of the parts stay while they are merged.
use Rattle.std.proofs.Common.{◌≡◌, ◌≢◌, ◌∙◌, inl, inr, ℕ, List, Option, None}
use Rattle.ept_base.specs.Files.{Files, SameFiles, SameBut}
use Rattle.ept_base.specs.Moves.{Moves}
use Rattle.ept_base.proofs.Moving.{moves_weaker, moves_both}
use Rattle.ept_ckpt.specs.declared.letter.Letter.{Letter}
use Rattle.ept_save.specs.Names.{gate_name, body_name}
use Rattle.ept_save.specs.Current.{Keeps}
use Rattle.ept_part.proofs.PartNames.{part-no_build}
use Rattle.ept_merge.specs.Merging.{KeepsParts}
use Rattle.ept_merge.proofs.Reading.{reads-none}

same-keeps : (old new : Files) → SameFiles old new → KeepsParts old new
same-keeps old new same octants name part = same name

gate-keeps : (letter : Letter) (old new : Files) → SameBut (gate_name letter) old new → KeepsParts old new
gate-keeps letter old new same octants name part = same name (λ is. part-no_build octants name part (inl (inl (letter, is))))

current-keeps : (old new : Files) → Keeps None old new → KeepsParts old new
current-keeps old new keeps octants name part = keeps.apart name (λ saved. part-no_build octants name part (inl saved))

-- no name but the body and the gate of the letter changes
abbrev ChangesLetter : Letter → Files → Files → Type 0
ChangesLetter letter old new = (name : List ℕ) → name ≢ body_name letter → name ≢ gate_name letter → new name ≡ old name

letter-keeps : (letter : Letter) (old new : Files) → ChangesLetter letter old new → KeepsParts old new
letter-keeps letter old new same octants name part =
    same name (λ is. part-no_build octants name part (inl (inr (inl (letter, is))))) (λ is. part-no_build octants name part (inl (inl (letter, is))))

module _ {D : Type 0} (files : D → Option Files) (may_leave : D → Files → Type 0) (moment : D → ℕ) (image_since : D → ℕ → Files → Type 0) where
  abbrev Stays : D → D → Type 0
  Stays old new = Moves files may_leave moment image_since KeepsParts old new

  -- a store that is only read keeps them
  pub read-stays : (old new : D) → Moves files may_leave moment image_since SameFiles old new → Stays old new
  read-stays old new moved = moves_weaker files may_leave moment image_since SameFiles KeepsParts same-keeps old new moved

  pub none-stays : (d : D) → Stays d d
  none-stays d = read-stays d d (reads-none files may_leave moment image_since d)

  -- so does each step of making the first checkpoint
  pub begin-stays : (letter : Letter) (old new : D) → Moves files may_leave moment image_since (SameBut (gate_name letter)) old new → Stays old new
  begin-stays letter old new moved = moves_weaker files may_leave moment image_since (SameBut (gate_name letter)) KeepsParts (gate-keeps letter) old new moved

  pub put-stays : (old new : D) → Moves files may_leave moment image_since (Keeps None) old new → Stays old new
  put-stays old new moved = moves_weaker files may_leave moment image_since (Keeps None) KeepsParts current-keeps old new moved

  pub commit-stays : (letter : Letter) (old new : D) → Moves files may_leave moment image_since (ChangesLetter letter) old new → Stays old new
  commit-stays letter old new moved = moves_weaker files may_leave moment image_since (ChangesLetter letter) KeepsParts (letter-keeps letter) old new moved

  pub both-stay : (old mid new : D) → Stays old mid → Stays mid new → Stays old new
  both-stay old mid new =
      moves_both files may_leave moment image_since KeepsParts KeepsParts KeepsParts (λ a b c first second octants name part. second octants name part ∙ first octants name part) (λ a b first. first) old mid new
