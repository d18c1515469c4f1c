-- Closing and opening the done gate, over every image.
use Rattle.std.proofs.Common.{◌≡◌, ◌∙◌, inl, inr, ℕ, refl, sym, Option, Some}
use Rattle.ept_base.specs.Files.{Files, SameFiles, SameBut, Tells}
use Rattle.ept_base.specs.Moves.{Moves, IsSettled}
use Rattle.ept_base.proofs.Moving.{moves_weaker, moves_both}
use Rattle.ept_ckpt.specs.declared.letter.Letter.{Letter}
use Rattle.ept_save.specs.Names.{gate_name, body_name, done_name}
use Rattle.ept_save.specs.Gates.{IsOpen}
use Rattle.ept_save.specs.Done.{IsDone, HasOutputOf, IsGuarded, Guards}
use Rattle.ept_save.specs.View.{View, StandsFor, next_letter}
use Rattle.ept_save.proofs.NamesDiffer.{done-gate, done-body}
use Rattle.ept_save.proofs.WorkNames.{outside-done}
use Rattle.ept_save.proofs.Moving.{moves_where}
use Rattle.ept_save.proofs.Keeping.{has_current-same}
use Rattle.ept_save.proofs.Standing.{open_or_not, stepped, tells_some, told_some, settled_some, settled-stands}

gate-guards : (all a b : Files) → HasOutputOf all a → SameBut done_name a b → Guards all a b
gate-guards all a b has same = record {
  others = same;
  output = λ done name outside. same name (outside-done name outside) ∙ has name outside;
}

same-guards : (all a b : Files) → (IsDone a → HasOutputOf all a) → SameFiles a b → Guards all a b
same-guards all a b has same = record {
  others = λ name apart. same name;
  output = λ done name outside. same name ∙ has (sym (same done_name) ∙ done) name outside;
}

both-guard : (all a b c : Files) → Guards all a b → Guards all b c → Guards all a c
both-guard all a b c first second = record {
  others = λ name apart. second.others name apart ∙ first.others name apart;
  output = second.output;
}

module _ {D : Type 0} (files : D → Option Files) (may_leave : D → Files → Type 0) (moment : D → ℕ) (image_since : D → ℕ → Files → Type 0) where
  -- nothing changes
  pub same-moves : (old new : D) (guarded : IsGuarded (files old) (may_leave old)) → Moves files may_leave moment image_since SameFiles old new → Moves files may_leave moment image_since (Guards guarded.all) old new
  same-moves old new guarded moved =
      moves_where files may_leave moment image_since (λ f. IsDone f → HasOutputOf guarded.all f) SameFiles (Guards guarded.all) (same-guards guarded.all) old new
      (tells_some (λ f. IsDone f → HasOutputOf guarded.all f) (files old) guarded.all guarded.told (λ done name outside. refl))
      (λ image may done. guarded.stable image may done image may) moved

  -- the gate is closed
  pub close-guards : (old new : D) (guarded : IsGuarded (files old) (may_leave old)) → Tells (may_leave old) (files old)
      → Moves files may_leave moment image_since (SameBut done_name) old new
      → ((all : Files) → files old ≡ Some all → ¬ IsOpen all done_name → Moves files may_leave moment image_since SameFiles old new)
      → Moves files may_leave moment image_since (Guards guarded.all) old new
  close-guards old new guarded is_image moved stood_shut = elim (open_or_not guarded.all done_name) [
    | inl was_open ↦ (
        let reads : may_leave old guarded.all = told_some (may_leave old) (files old) guarded.all guarded.told is_image in
        moves_where files may_leave moment image_since (λ f. HasOutputOf guarded.all f) (SameBut done_name) (Guards guarded.all) (gate-guards guarded.all) old new
        (tells_some (λ f. HasOutputOf guarded.all f) (files old) guarded.all guarded.told (λ name outside. refl))
        (λ image may. guarded.stable guarded.all reads was_open image may) moved)
    | inr was_shut ↦ same-moves old new guarded (stood_shut guarded.all guarded.told was_shut)
  ]

  -- what is read is flushed, and the gate is opened
  pub open-guards : (old mid new : D) (guarded : IsGuarded (files old) (may_leave old))
      → Moves files may_leave moment image_since SameFiles old mid → IsSettled (files mid) (may_leave mid)
      → Moves files may_leave moment image_since (SameBut done_name) mid new
      → Moves files may_leave moment image_since (Guards guarded.all) old new
  open-guards old mid new guarded first settled second =
      let now = stepped SameFiles (files old) (files mid) guarded.all guarded.told first.reads in
      moves_both files may_leave moment image_since (Guards guarded.all) (Guards guarded.all) (Guards guarded.all) (both-guard guarded.all) (λ a b guards. guards) old mid new (same-moves old mid guarded first)
      (moves_where files may_leave moment image_since (λ f. HasOutputOf guarded.all f) (SameBut done_name) (Guards guarded.all) (gate-guards guarded.all) mid new
      (tells_some (λ f. HasOutputOf guarded.all f) (files mid) now.0 now.1 (λ name outside. now.2 name))
      (λ image may name outside. settled_some (files mid) (may_leave mid) now.0 now.1 settled image may name ∙ now.2 name) second)

  -- the store represents what it represented
  pub done-stands : (view : View) (old new : D) → Moves files may_leave moment image_since (SameBut done_name) old new → IsSettled (files new) (may_leave new) → StandsFor view (files old) (may_leave old) → StandsFor view (files new) (may_leave new)
  done-stands view old new moved settled stands =
      let now = stepped (SameBut done_name) (files old) (files new) stands.all stands.told moved.reads in
      let gates : (letter : Letter) → now.0 (gate_name letter) ≡ stands.all (gate_name letter) = λ letter. now.2 (gate_name letter) (λ e. done-gate letter (sym e)) in
      settled-stands view (files new) (may_leave new) now.0 now.1
      (has_current-same view.current stands.all now.0 gates (λ letter. now.2 (body_name letter) (λ e. done-body letter (sym e))) stands.has_current)
      (λ begun counts. stands.shut begun (sym (gates (next_letter view.current)) ∙ counts)) settled

  -- and also if what is read is flushed before
  pub opened-stands : (view : View) (old mid new : D) → Moves files may_leave moment image_since SameFiles old mid → IsSettled (files mid) (may_leave mid) → Moves files may_leave moment image_since (SameBut done_name) mid new → IsSettled (files new) (may_leave new) → StandsFor view (files old) (may_leave old) → StandsFor view (files new) (may_leave new)
  opened-stands view old mid new first settled second then stands =
      done-stands view mid new second then (done-stands view old mid (moves_weaker files may_leave moment image_since SameFiles (SameBut done_name) (λ a b same name apart. same name) old mid first) settled stands)
