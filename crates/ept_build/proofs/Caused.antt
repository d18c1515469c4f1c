-- Why the work is not taken up: each refusal has its cause.
use Rattle.std.proofs.Common.{◌≡◌, ◌∙◌, ◌⊎◌, inl, inr, ℕ, ◌<◌, take, length, sym, ap, subst, Option, Some}
use Rattle.std.specs.Prelude.{Result, Ok, Err}
use Rattle.ept_base.specs.Files.{Files, SameFiles, SameBut, StepsBy, Tells}
use Rattle.ept_base.specs.Moves.{Moves, SameImages}
use Rattle.ept_space.specs.VoxelKey.{VoxelKey}
use Rattle.ept_save.specs.Current.{HasCurrent}
use Rattle.ept_save.specs.Errors.{IsStores}
use Rattle.ept_save.specs.Loading.{HasLine, HasNoDamage}
use Rattle.ept_save.specs.Names.{done_name}
use Rattle.ept_save.specs.Opening.{lines_of}
use Rattle.ept_save.specs.Sound.{IsSound}
use Rattle.ept_save.specs.View.{View, StandsFor}
use Rattle.ept_save.specs.declared.error.SaveError.{SaveError}
use Rattle.ept_save.specs.declared.error.SaveError.TheVariants as save
use Rattle.ept_save.proofs.Standing.{stepped, told_some}
use Rattle.ept_octree_ckpt.specs.Loaded.{AreIntact, IsFirstDamaged, IsLoadFault}
use Rattle.ept_octree_ckpt.specs.declared.error.PhaseError.{PhaseError}
use Rattle.ept_octree_ckpt.specs.declared.error.PhaseError.TheVariants as phase
use Rattle.ept_build.specs.declared.error.BuildError.{BuildError}
use Rattle.ept_build.specs.declared.error.BuildError.TheVariants.{StoreFault, BadCheckpoint, TileDamaged, Differs, SourceFault, BadLas, OutOfBounds, TooManyPoints, NoBounds, SourceChanged, SpillFault, SpillDamaged, TooManyNodes, Memory}
use Rattle.ept_build.specs.Errors.{of_phase, of_save}
use Rattle.ept_build.specs.Phases.{IsPhaseFault, IsStartFault, IsRenewFault, IsStoreFault, IsEndFault}
use Rattle.ept_build.specs.Starting.{FindsCause}
use Rattle.ept_build.proofs.Causes.{phase-damaged, phase-many}
use Rattle.ept_build.proofs.Damage.{same-damage, first-damage, store-no-tile}
use Rattle.ept_build.proofs.Ended.{no-refusal}
use Rattle.ept_build.proofs.Judging.{err-one, end-not-many}
use Rattle.ept_build.proofs.Renewed.{save-stores}

-- ---- which causes there are

pub load-start : (e : PhaseError) → IsLoadFault e → IsStartFault (of_phase e)
load-start e (inl many) = subst (λ (w : PhaseError). IsStartFault (of_phase w)) (sym many) tt
load-start e (inr (inl spill)) = subst (λ (w : PhaseError). IsStartFault (of_phase w)) (sym spill) tt
load-start e (inr (inr (inl fault))) = subst (λ (w : PhaseError). IsStartFault (of_phase w)) (sym fault) tt
load-start e (inr (inr (inr (inl memory)))) = subst (λ (w : PhaseError). IsStartFault (of_phase w)) (sym memory) tt
load-start e (inr (inr (inr (inr tile)))) = subst (λ (w : PhaseError). IsStartFault (of_phase w)) (sym tile.1) tt

pub stores-start : (e : SaveError) → IsStores e → IsStartFault (of_save e)
stores-start e (inl fault) = subst (λ (w : SaveError). IsStartFault (of_save w)) (sym fault) tt
stores-start e (inr memory) = subst (λ (w : SaveError). IsStartFault (of_save w)) (sym memory) tt

pub save-renew : (e : SaveError) → ((key : VoxelKey) × (e ≡ save.TileDamaged key)) ⊎ IsStores e → IsRenewFault (of_save e)
save-renew e (inl tile) = inr (tile.0, ap of_save tile.1)
save-renew e (inr stores) = inl (save-stores e stores)

pub renew-start : (e : BuildError) → IsRenewFault e → IsStartFault e
renew-start e (inl (inl fault)) = subst IsStartFault (sym fault) tt
renew-start e (inl (inr memory)) = subst IsStartFault (sym memory) tt
renew-start e (inr tile) = subst IsStartFault (sym tile.1) tt

pub renew-no-spill : (e : BuildError) → IsRenewFault e → e ≡ SpillFault → ⊥
renew-no-spill e (inl (inl fault)) is = let same : StoreFault ≡ SpillFault = sym fault ∙ is in cc
renew-no-spill e (inl (inr memory)) is = let same : Memory ≡ SpillFault = sym memory ∙ is in cc
renew-no-spill e (inr tile) is = let same : TileDamaged tile.0 ≡ SpillFault = sym tile.1 ∙ is in cc

pub start-phase : (e : BuildError) → IsStartFault e → IsPhaseFault e
start-phase StoreFault only = tt
start-phase (TileDamaged key) only = tt
start-phase SpillFault only = tt
start-phase TooManyNodes only = tt
start-phase Memory only = tt
start-phase SourceFault only = tt
start-phase (SourceChanged source number) only = tt
start-phase (SpillDamaged kept found number) only = tt
start-phase (BadCheckpoint letter) only = only
start-phase (Differs field kept given) only = only
start-phase (BadLas source fault) only = only
start-phase (OutOfBounds source number) only = only
start-phase (TooManyPoints source) only = only
start-phase NoBounds only = only

pub end-phase : (e : BuildError) → IsEndFault e → IsPhaseFault e
end-phase e only = start-phase e (renew-start e only)

-- ---- of the checkpoints of a store

module _ {D : Type 0} (files : D → Option Files) (may_leave : D → Files → Type 0) (moment : D → ℕ) (image_since : D → ℕ → Files → Type 0) (view : View) (slots : ℕ) (old : D) where
  -- nothing is refused
  pub cause-ok : (new : D) → FindsCause files may_leave moment image_since view slots (Ok tt) old new
  cause-ok new = record {
    too_many = λ is. absurd (no-refusal is);
    intact = λ is. absurd (no-refusal is);
    untouched = λ is. absurd (no-refusal is);
    damaged = λ key is stands. absurd (no-refusal is);
    first = λ key start told is. absurd (no-refusal is);
    undamaged = λ shelf start ready key is. no-refusal is;
  }

  -- it is neither too many nodes nor a damaged tile
  pub cause-apart : (e : BuildError) (new : D) → (e ≡ TooManyNodes → ⊥) → ((key : VoxelKey) → e ≡ TileDamaged key → ⊥) → FindsCause files may_leave moment image_since view slots (Err e) old new
  cause-apart e new few none = record {
    too_many = λ is. absurd (few (err-one is));
    intact = λ is. absurd (few (err-one is));
    untouched = λ is. absurd (few (err-one is));
    damaged = λ key is stands. absurd (none key (err-one is));
    first = λ key start told is. absurd (none key (err-one is));
    undamaged = λ shelf start ready key is. none key (err-one is);
  }

  -- the nodes are not loaded
  pub cause-loaded : (e : PhaseError) (new : D) → ((◌≡◌ {A = Result (Unit {0}) PhaseError} (Err e) (Err phase.TooManyNodes)) → (slots < length (lines_of view.current)) × Tells (AreIntact view.current (take slots (lines_of view.current))) (files old)) → ((key : VoxelKey) → (◌≡◌ {A = Result (Unit {0}) PhaseError} (Err e) (Err (phase.Save (save.TileDamaged key)))) → HasLine view.current key × Tells (IsFirstDamaged view.current slots key) (files old)) → ((shelf all : Files) → files old ≡ Some all → IsSound shelf all → HasCurrent view.current all → (key : VoxelKey) → (◌≡◌ {A = Result (Unit {0}) PhaseError} (Err e) (Err (phase.Save (save.TileDamaged key)))) → ⊥) → Moves files may_leave moment image_since SameFiles old new → SameImages (may_leave old) (may_leave new) → (StandsFor view (files old) (may_leave old) → StandsFor view (files new) (may_leave new)) → FindsCause files may_leave moment image_since view slots (Err (of_phase e)) old new
  cause-loaded e new many damaged sound moved images stands = record {
    too_many = λ is. (many (ap (λ (w : PhaseError). Err w) (phase-many e (err-one is)))).0;
    intact = λ is. (many (ap (λ (w : PhaseError). Err w) (phase-many e (err-one is)))).1;
    untouched = λ is. (moved, images);
    damaged = λ key is stood. (
        let found = damaged key (ap (λ (w : PhaseError). Err w) (phase-damaged e key (err-one is))) in
        same-damage view key (files old) (files new) (stands stood) moved.reads found.0 (first-damage view.current slots key (files old) found.1));
    first = λ key start told is. (told_some (IsFirstDamaged view.current slots key) (files old) start told (damaged key (ap (λ (w : PhaseError). Err w) (phase-damaged e key (err-one is)))).1, moved);
    undamaged = λ shelf start ready key is. sound shelf start ready.told ready.sound ready.has_current key (ap (λ (w : PhaseError). Err w) (phase-damaged e key (err-one is)));
  }

  -- the checkpoint is not migrated, after a load that found no damage
  pub cause-renewed : (mid new : D) (now : View) (e : BuildError) → now ≡ view → IsRenewFault e → ((all : Files) → files mid ≡ Some all → HasNoDamage now.current all → IsStoreFault e) → Tells (HasNoDamage view.current) (files mid) → StepsBy (SameBut done_name) (files old) (files mid) → (StandsFor view (files old) (may_leave old) → StandsFor view (files mid) (may_leave mid)) → FindsCause files may_leave moment image_since view slots (Err e) old new
  cause-renewed mid new now e same only stored whole gate stands = record {
    too_many = λ is. absurd (end-not-many e only (err-one is));
    intact = λ is. absurd (end-not-many e only (err-one is));
    untouched = λ is. absurd (end-not-many e only (err-one is));
    damaged = λ key is stood. absurd (none key (stands stood).all (stands stood).told (err-one is));
    first = λ key start told is. (
        let at = stepped (SameBut done_name) (files old) (files mid) start told gate in
        absurd (none key at.0 at.1 (err-one is)));
    undamaged = λ shelf start ready key is. none key (stands ready.stands).all (stands ready.stands).told (err-one is);
  }
    where
      none : (key : VoxelKey) (all : Files) → files mid ≡ Some all → e ≡ TileDamaged key → ⊥
      none key all told is = store-no-tile e key (stored all told (subst (λ (v : View). HasNoDamage v.current all) (sym same) (told_some (HasNoDamage view.current) (files mid) all told whole))) is
