-- What keeps the current checkpoint.
use Rattle.std.proofs.Common.{◌≡◌, ◌≢◌, ◌∙◌, inl, inr, ℕ, List, sym, subst, Some, None}
use Rattle.ept_base.specs.Files.{Files, SameFiles, SameBut}
use Rattle.ept_space.specs.VoxelKey.{VoxelKey}
use Rattle.ept_ckpt.specs.declared.letter.Letter.{Letter}
use Rattle.ept_ckpt.specs.declared.checkpoint.Checkpoint.{Checkpoint}
use Rattle.ept_save.specs.Names.{other, gate_name, body_name, work_tile_name, IsSavedName}
use Rattle.ept_save.specs.Gates.{IsOpen, Counts}
use Rattle.ept_save.specs.Current.{Current, HasBody, HasCurrent, IsNamed, Keeps}
use Rattle.ept_save.specs.View.{next_letter}
use Rattle.ept_save.proofs.NamesDiffer.{gates-differ, bodies-differ, gate-body, gate-tile, body-tile}

-- ---- names

pub named-gate : (current : Current) (letter : Letter) (name : List ℕ) → IsNamed current name → name ≢ gate_name letter
named-gate None letter name named same = absurd named
named-gate (Some (at, c)) letter name named same = gate-tile letter named.1.letter named.1.key (sym same ∙ named.4)

named-body : (current : Current) (letter : Letter) (name : List ℕ) → IsNamed current name → name ≢ body_name letter
named-body None letter name named same = absurd named
named-body (Some (at, c)) letter name named same = body-tile letter named.1.letter named.1.key (sym same ∙ named.4)

-- what the current checkpoint names is a name of checkpoints
pub named-saved : (current : Current) (name : List ℕ) → IsNamed current name → IsSavedName name
named-saved None name named = absurd named
named-saved (Some (at, c)) name named = inr (inr (named.1.letter, named.1.key, named.4))

pub gate-saved : (letter : Letter) (name : List ℕ) → ¬ IsSavedName name → name ≢ gate_name letter
gate-saved letter name apart same = apart (inl (letter, same))

pub body-saved : (letter : Letter) (name : List ℕ) → ¬ IsSavedName name → name ≢ body_name letter
body-saved letter name apart same = apart (inr (inl (letter, same)))

pub tile-saved : (letter : Letter) (key : VoxelKey) (name : List ℕ) → ¬ IsSavedName name → name ≢ work_tile_name letter key
tile-saved letter key name apart same = apart (inr (inr (letter, key, same)))

-- ---- which checkpoint is current depends on gates and bodies alone

-- a body that other files have too
pub body-moved : (letter : Letter) (c : Checkpoint) (one two : Files) → two (body_name letter) ≡ one (body_name letter) → HasBody one letter c → HasBody two letter c
body-moved letter c one two same has = same ∙ has

pub has_current-same : (current : Current) (old new : Files) → ((letter : Letter) → new (gate_name letter) ≡ old (gate_name letter)) → ((letter : Letter) → new (body_name letter) ≡ old (body_name letter)) → HasCurrent current old → HasCurrent current new
has_current-same None old new gates bodies none = λ letter counts. none letter (sym (gates letter) ∙ counts)
has_current-same (Some (letter, c)) old new gates bodies was = record {
  counts = gates letter ∙ was.counts;
  has_body = body-moved letter c old new (bodies letter) was.has_body;
  newest = λ counts. (
      let older = was.newest (sym (gates (other letter)) ∙ counts) in
      record { older = older.older; has_body = body-moved (other letter) older.older old new (bodies (other letter)) older.has_body; before = older.before });
}

-- ---- steps that keep it

pub keeps-same : (current : Current) (old new : Files) → SameFiles old new → Keeps current old new
keeps-same current old new same = record {
  same = has_current-same current old new (λ letter. same (gate_name letter)) (λ letter. same (body_name letter));
  tiles = λ name named. same name;
  apart = λ name apart. same name;
}

pub keeps-both : (current : Current) (a b c : Files) → Keeps current a b → Keeps current b c → Keeps current a c
keeps-both current a b c first second = record {
  same = λ was. second.same (first.same was);
  tiles = λ name named. second.tiles name named ∙ first.tiles name named;
  apart = λ name apart. second.apart name apart ∙ first.apart name apart;
}

-- the gate of the next letter is closed, where it was open
pub keeps-gate : (current : Current) (old new : Files) → IsOpen old (gate_name (next_letter current)) → SameBut (gate_name (next_letter current)) old new → Keeps current old new
keeps-gate current old new was_open same = record {
  same = stays current was_open same;
  tiles = λ name named. same name (named-gate current (next_letter current) name named);
  apart = λ name apart. same name (gate-saved (next_letter current) name apart);
}
  where
    stays : (current : Current) → IsOpen old (gate_name (next_letter current)) → SameBut (gate_name (next_letter current)) old new → HasCurrent current old → HasCurrent current new
    stays None was_open same none = absurd (none (next_letter None) was_open)
    stays (Some (letter, c)) was_open same was =
        let older = was.newest was_open in
        record {
          counts = same (gate_name letter) (gates-differ letter) ∙ was.counts;
          has_body = body-moved letter c old new (same (body_name letter) (λ e. gate-body (other letter) letter (sym e))) was.has_body;
          newest = λ counts. record { older = older.older; has_body = body-moved (other letter) older.older old new (same (body_name (other letter)) (λ e. gate-body (other letter) (other letter) (sym e))) older.has_body; before = older.before };
        }

-- a tile is put that the current checkpoint does not name
pub keeps-tile : (current : Current) (letter : Letter) (key : VoxelKey) (old new : Files) → ¬ IsNamed current (work_tile_name letter key) → SameBut (work_tile_name letter key) old new → Keeps current old new
keeps-tile current letter key old new free same = record {
  same = has_current-same current old new (λ l. same (gate_name l) (gate-tile l letter key)) (λ l. same (body_name l) (body-tile l letter key));
  tiles = λ name named. same name (λ e. free (subst (IsNamed current) e named));
  apart = λ name apart. same name (tile-saved letter key name apart);
}

-- the body of the next letter is put, where that letter does not count
pub keeps-body : (current : Current) (old new : Files) → ¬ Counts old (next_letter current) → SameBut (body_name (next_letter current)) old new → Keeps current old new
keeps-body current old new shut same = record {
  same = stays current shut same;
  tiles = λ name named. same name (named-body current (next_letter current) name named);
  apart = λ name apart. same name (body-saved (next_letter current) name apart);
}
  where
    stays : (current : Current) → ¬ Counts old (next_letter current) → SameBut (body_name (next_letter current)) old new → HasCurrent current old → HasCurrent current new
    stays None shut same none = λ letter counts. none letter (sym (same (gate_name letter) (gate-body letter (next_letter None))) ∙ counts)
    stays (Some (letter, c)) shut same was = record {
      counts = same (gate_name letter) (gate-body letter (other letter)) ∙ was.counts;
      has_body = body-moved letter c old new (same (body_name letter) (bodies-differ letter)) was.has_body;
      newest = λ counts. absurd (shut (sym (same (gate_name (other letter)) (gate-body (other letter) (other letter))) ∙ counts));
    }
