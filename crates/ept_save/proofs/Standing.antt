-- What a store represents, from call to call.
use Rattle.std.proofs.Common.{◌≡◌, ◌≢◌, ◌∙◌, ◌⊎◌, inl, inr, ℕ, Bool, true, false, List, [], ◌∷◌, refl, sym, subst, ap, Option, Some, None}
use Rattle.std.specs.Prelude.{bytes_eq}
use Rattle.std.proofs.lemmas.Slice.Eq.{bytes_eq-Decides}
use Rattle.ept_base.specs.Files.{Files, SameFiles, SameBut, StepsBy, Tells}
use Rattle.ept_base.specs.Moves.{Moves, IsSettled}
use Rattle.ept_base.proofs.Moving.{moves_weaker, moves_both}
use Rattle.ept_space.specs.VoxelKey.{VoxelKey}
use Rattle.ept_ckpt.specs.declared.letter.Letter.{Letter}
use Rattle.ept_save.specs.Names.{gate_name, body_name, work_tile_name}
use Rattle.ept_save.specs.Gates.{IsOpen, Counts}
use Rattle.ept_save.specs.Current.{Current, HasCurrent, IsNamed, Keeps, Agrees}
use Rattle.ept_save.specs.View.{View, StandsFor, IsInEachImage, next_letter}
use Rattle.ept_save.proofs.Moving.{moves_where}
use Rattle.ept_save.proofs.NamesDiffer.{gate-tile, body-tile}
use Rattle.ept_save.proofs.Keeping.{has_current-same, keeps-same, keeps-gate, keeps-tile}

-- a gate is open or not
pub open_or_not : (files : Files) (name : List ℕ) → IsOpen files name ⊎ ¬ IsOpen files name
open_or_not files name = by_content (files name)
  where
    by_bytes : (bytes : List ℕ) (b : Bool) → (b ≡ true → bytes ≡ 1 ∷ []) → (bytes ≡ 1 ∷ [] → b ≡ true) → (Some bytes ≡ Some (1 ∷ [])) ⊎ ¬ (Some bytes ≡ Some (1 ∷ []))
    by_bytes bytes true told back = inl (ap Some (told refl))
    by_bytes bytes false told back = inr (λ same. let inner : bytes ≡ 1 ∷ [] = cc in let wrong : false ≡ true = back inner in cc)

    by_content : (content : Option (List ℕ)) → (content ≡ Some (1 ∷ [])) ⊎ ¬ (content ≡ Some (1 ∷ []))
    by_content None = inr (λ same. cc)
    by_content (Some bytes) = by_bytes bytes (bytes_eq bytes (1 ∷ [])) (bytes_eq-Decides bytes (1 ∷ [])).0 (bytes_eq-Decides bytes (1 ∷ [])).1

-- a store that can be read stays so
pub stepped : (step : Files → Files → Type 0) (old new : Option Files) (all : Files) → old ≡ Some all → StepsBy step old new → (now : Files) × (new ≡ Some now) × step all now
stepped step old new all told moved = from_some new (subst (λ (o : Option Files). StepsBy step o new) told moved)
  where
    from_some : (new : Option Files) → StepsBy step (Some all) new → (now : Files) × (new ≡ Some now) × step all now
    from_some None moved = absurd moved
    from_some (Some now) moved = (now, refl, moved)

pub tells_some : (Has : Files → Type 0) (files : Option Files) (all : Files) → files ≡ Some all → Has all → Tells Has files
tells_some Has files all told has = subst (λ (o : Option Files). Tells Has o) (sym told) has

pub told_some : (Has : Files → Type 0) (files : Option Files) (all : Files) → files ≡ Some all → Tells Has files → Has all
told_some Has files all told tells = subst (λ (o : Option Files). Tells Has o) told tells

pub settled_some : (files : Option Files) (may_leave : Files → Type 0) (all : Files) → files ≡ Some all → IsSettled files may_leave → (image : Files) → may_leave image → SameFiles all image
settled_some files may_leave all told settled = subst (λ (o : Option Files). IsSettled o may_leave) told settled

pub agrees-same : (current : Current) (one two : Files) → SameFiles one two → Agrees current one two
agrees-same current one two same = record {
  gates = λ letter. same (gate_name letter);
  bodies = λ letter. same (body_name letter);
  tiles = λ name named. same name;
}

agrees-alike : (current : Current) (one two three four : Files) → SameFiles one two → SameFiles three four → Agrees current one three → Agrees current two four
agrees-alike current one two three four first second agrees = record {
  gates = λ letter. second (gate_name letter) ∙ (agrees.gates letter ∙ sym (first (gate_name letter)));
  bodies = λ letter. second (body_name letter) ∙ (agrees.bodies letter ∙ sym (first (body_name letter)));
  tiles = λ name named. second name ∙ (agrees.tiles name named ∙ sym (first name));
}

-- what each image has of it
pub in-images : (view : View) (files : Option Files) (may_leave : Files → Type 0) (stands : StandsFor view files may_leave) → IsInEachImage view stands.all may_leave
in-images view files may_leave stands = record {
  current = λ image may. (
      let agrees = stands.agrees image may in has_current-same view.current stands.all image agrees.gates agrees.bodies stands.has_current);
  tiles = λ image may. (stands.agrees image may).tiles;
  shut = λ begun image may counts. stands.shut begun (sym ((stands.agrees image may).gates (next_letter view.current)) ∙ counts);
}

-- a settled store with this current checkpoint represents it
pub settled-stands : (view : View) (files : Option Files) (may_leave : Files → Type 0) (all : Files) → files ≡ Some all → HasCurrent view.current all → (view.begun ≡ true → ¬ Counts all (next_letter view.current)) → IsSettled files may_leave → StandsFor view files may_leave
settled-stands view files may_leave all told has shut settled = record {
  all = all;
  told = told;
  has_current = has;
  agrees = λ image may. agrees-same view.current all image (settled_some files may_leave all told settled image may);
  shut = shut;
}

module _ {D : Type 0} (files : D → Option Files) (may_leave : D → Files → Type 0) (moment : D → ℕ) (image_since : D → ℕ → Files → Type 0) where
  -- closing the gate of the next letter
  keeps_by_gate : (view : View) (old new : D) → StandsFor view (files old) (may_leave old)
      → Moves files may_leave moment image_since (SameBut (gate_name (next_letter view.current))) old new
      → ((all : Files) → files old ≡ Some all → ¬ IsOpen all (gate_name (next_letter view.current)) → Moves files may_leave moment image_since SameFiles old new)
      → Moves files may_leave moment image_since (Keeps view.current) old new
  keeps_by_gate view old new stands moved stood_shut =
      let gate : List ℕ = gate_name (next_letter view.current) in
      elim (open_or_not stands.all gate) [
        | inl was_open ↦ moves_where files may_leave moment image_since (λ f. IsOpen f gate) (SameBut gate) (Keeps view.current) (keeps-gate view.current) old new
            (tells_some (λ f. IsOpen f gate) (files old) stands.all stands.told was_open)
            (λ image may. (stands.agrees image may).gates (next_letter view.current) ∙ was_open) moved
        | inr was_shut ↦ moves_weaker files may_leave moment image_since SameFiles (Keeps view.current) (keeps-same view.current) old new (stood_shut stands.all stands.told was_shut)
      ]

  stands_by_gate : (view : View) (old new : D) → StandsFor view (files old) (may_leave old)
      → Moves files may_leave moment image_since (Keeps view.current) old new
      → Tells (λ all. ¬ IsOpen all (gate_name (next_letter view.current))) (files new)
      → IsSettled (files new) (may_leave new)
      → StandsFor (record view { begun = true }) (files new) (may_leave new)
  stands_by_gate view old new stands moved shut settled =
      let now = stepped (Keeps view.current) (files old) (files new) stands.all stands.told moved.reads in
      settled-stands (record view { begun = true }) (files new) (may_leave new) now.0 now.1 (now.2.same stands.has_current) (λ _. told_some (λ all. ¬ IsOpen all (gate_name (next_letter view.current))) (files new) now.0 now.1 shut) settled

  module _ (view : View) (gate : List ℕ) (is : gate ≡ gate_name (next_letter view.current)) (old new : D) (stands : StandsFor view (files old) (may_leave old))
      (moved : Moves files may_leave moment image_since (SameBut gate) old new)
      (stood_shut : (all : Files) → files old ≡ Some all → ¬ IsOpen all gate → Moves files may_leave moment image_since SameFiles old new) where
    pub begin-keeps : Moves files may_leave moment image_since (Keeps view.current) old new
    begin-keeps =
        keeps_by_gate view old new stands (subst (λ (n : List ℕ). Moves files may_leave moment image_since (SameBut n) old new) is moved)
        (λ all told shut. stood_shut all told (subst (λ (n : List ℕ). ¬ IsOpen all n) (sym is) shut))

    pub begin-stands : Tells (λ all. ¬ IsOpen all gate) (files new) → IsSettled (files new) (may_leave new) → StandsFor (record view { begun = true }) (files new) (may_leave new)
    begin-stands shut settled =
        stands_by_gate view old new stands begin-keeps (subst (λ (n : List ℕ). Tells (λ all. ¬ IsOpen all n) (files new)) is shut) settled

  -- a tile is put that the current checkpoint does not name
  module _ (current : Current) (letter : Letter) (key : VoxelKey) (free : ¬ IsNamed current (work_tile_name letter key)) (old new : D) (moved : Moves files may_leave moment image_since (SameBut (work_tile_name letter key)) old new) where
    pub tile-keeps : Moves files may_leave moment image_since (Keeps current) old new
    tile-keeps = moves_weaker files may_leave moment image_since (SameBut (work_tile_name letter key)) (Keeps current) (λ a b same. keeps-tile current letter key a b free same) old new moved

    pub tile-stands : (view next : View) → view.current ≡ current → next.current ≡ current → next.begun ≡ view.begun → StandsFor view (files old) (may_leave old) → StandsFor next (files new) (may_leave new)
    tile-stands view next is stays begun stands =
        let now = stepped (SameBut (work_tile_name letter key)) (files old) (files new) stands.all stands.told moved.reads in
        let was : HasCurrent current stands.all = subst (λ (c : Current). HasCurrent c stands.all) is stands.has_current in
        record {
          all = now.0;
          told = now.1;
          has_current = subst (λ (c : Current). HasCurrent c now.0) (sym stays) ((keeps-tile current letter key stands.all now.0 free now.2).same was);
          agrees = λ image may. (
              let before = moved.leaves image may in
              subst (λ (c : Current). Agrees c now.0 image) (sym stays) (agrees_both stands.all now.0 before.0 image now.2 before.2 (subst (λ (c : Current). Agrees c stands.all before.0) is (stands.agrees before.0 before.1))));
          shut = λ is_begun counts. stands.shut (sym begun ∙ is_begun) (
              let same : gate_name (next_letter next.current) ≡ gate_name (next_letter view.current) = ap (λ (c : Current). gate_name (next_letter c)) (stays ∙ sym is) in
              subst (IsOpen stands.all) same (sym (now.2 (gate_name (next_letter next.current)) (gate-tile (next_letter next.current) letter key)) ∙ counts));
        }
      where
        agrees_both : (one two three four : Files) → SameBut (work_tile_name letter key) one two → SameBut (work_tile_name letter key) three four → Agrees current one three → Agrees current two four
        agrees_both one two three four first second agrees = record {
          gates = λ l. second (gate_name l) (gate-tile l letter key) ∙ (agrees.gates l ∙ sym (first (gate_name l) (gate-tile l letter key)));
          bodies = λ l. second (body_name l) (body-tile l letter key) ∙ (agrees.bodies l ∙ sym (first (body_name l) (body-tile l letter key)));
          tiles = λ name named. (
              let apart : name ≢ work_tile_name letter key = λ e. free (subst (IsNamed current) e named) in
              second name apart ∙ (agrees.tiles name named ∙ sym (first name apart)));
        }

  -- nothing changes, and then nothing more
  pub same_twice : (old mid new : D) → Moves files may_leave moment image_since SameFiles old mid → Moves files may_leave moment image_since SameFiles mid new → Moves files may_leave moment image_since SameFiles old new
  same_twice old mid new first second = moves_both files may_leave moment image_since SameFiles SameFiles SameFiles (λ a b c f s name. s name ∙ f name) (λ a b same. same) old mid new first second

  -- if nothing changes, a settled store represents what it has
  pub opened-stands : (view : View) (old new : D) (all : Files) → files old ≡ Some all → HasCurrent view.current all → view.begun ≡ false → IsSettled (files old) (may_leave old) → Moves files may_leave moment image_since SameFiles old new → StandsFor view (files new) (may_leave new)
  opened-stands view old new all told has begun settled same =
      let now = stepped SameFiles (files old) (files new) all told same.reads in
      record {
        all = now.0;
        told = now.1;
        has_current = (keeps-same view.current all now.0 now.2).same has;
        agrees = λ image may. (
            let was = same.leaves image may in
            agrees-same view.current now.0 image (λ name. was.2 name ∙ (settled_some (files old) (may_leave old) all told settled was.0 was.1 name ∙ sym (now.2 name))));
        shut = λ is_begun. absurd (let wrong : false ≡ true = sym begun ∙ is_begun in cc);
      }

  -- and a store represents what it represented
  pub same-stands : (view : View) (old new : D) → Moves files may_leave moment image_since SameFiles old new → StandsFor view (files old) (may_leave old) → StandsFor view (files new) (may_leave new)
  same-stands view old new same stands =
      let now = stepped SameFiles (files old) (files new) stands.all stands.told same.reads in
      record {
        all = now.0;
        told = now.1;
        has_current = (keeps-same view.current stands.all now.0 now.2).same stands.has_current;
        agrees = λ image may. (
            let was = same.leaves image may in
            agrees-alike view.current stands.all now.0 was.0 image now.2 was.2 (stands.agrees was.0 was.1));
        shut = λ begun counts. stands.shut begun (sym (now.2 (gate_name (next_letter view.current))) ∙ counts);
      }
