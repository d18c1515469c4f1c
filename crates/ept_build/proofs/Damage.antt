-- Which tiles of the current checkpoint are damaged, from call to call.
use Rattle.std.proofs.Common.{◌≡◌, ◌≢◌, ◌∙◌, ◌⊎◌, inl, inr, ℕ, zero, suc, ◌<◌, ◌≤◌, List, [], ◌∷◌, ◌++◌, take, length, refl, sym, ap, subst, arith, Option, Some, None}
use Rattle.std.specs.Prelude.{Result, Err, IsSome, IsSomeAnd}
use Rattle.ept_base.specs.Files.{Files, SameFiles, SameBut, StepsBy, Tells}
use Rattle.ept_space.specs.VoxelKey.{VoxelKey}
use Rattle.ept_sample.specs.Members.{IsMember}
use Rattle.ept_ckpt.specs.declared.node_line.NodeLine.{NodeLine}
use Rattle.ept_ckpt.specs.Lookup.{line_of_key}
use Rattle.ept_meta.specs.Output.{rules_of}
use Rattle.ept_ckpt.specs.Versions.{layout_of}
use Rattle.ept_save.specs.Current.{Current, HasCurrent, Keeps, tile_of_line}
use Rattle.ept_config.specs.declared.config.Config.{Config}
use Rattle.ept_save.specs.Done.{IsDone}
use Rattle.ept_save.specs.Names.{done_name}
use Rattle.ept_save.specs.Loading.{HasLine, HasNoDamage, IsDamaged, IsDamagedLine}
use Rattle.ept_save.specs.Opening.{lines_of}
use Rattle.ept_save.specs.Errors.{IsStores}
use Rattle.ept_save.specs.View.{View, StandsFor}
use Rattle.ept_save.specs.declared.error.SaveError.{SaveError}
use Rattle.ept_save.specs.declared.error.SaveError.TheVariants as save
use Rattle.ept_octree_ckpt.specs.Loaded.{AreIntact, HasSlot, IsFirstDamaged}
use Rattle.ept_save.proofs.DamagedTiles.{damaged-before}
use Rattle.ept_save.proofs.NamesDiffer.{done-apart}
use Rattle.ept_plan.specs.Plans.{inputs_by}
use Rattle.ept_build.specs.declared.error.BuildError.{BuildError}
use Rattle.ept_build.specs.declared.error.BuildError.TheVariants.{StoreFault, BadCheckpoint, TileDamaged, Differs, SourceFault, BadLas, OutOfBounds, TooManyPoints, NoBounds, SourceChanged, SpillFault, SpillDamaged, TooManyNodes, Memory}
use Rattle.ept_build.specs.declared.summary.Summary.{Summary}
use Rattle.ept_base.specs.declared.errors.PutError.{PutError}
use Rattle.ept_base.specs.declared.errors.PutError.TheVariants as put
use Rattle.ept_scan.specs.declared.scan_error.ScanError.{ScanError}
use Rattle.ept_scan.specs.declared.scan_error.ScanError.TheVariants as scan
use Rattle.ept_plan.specs.declared.error.PlanError.{PlanError}
use Rattle.ept_plan.specs.declared.error.PlanError.TheVariants as plan
use Rattle.ept_build.specs.Errors.{of_save, of_scan, of_plan, of_put}
use Rattle.ept_build.specs.Building.{TellsDamage, Fails}
use Rattle.ept_build.specs.Phases.{HasDamage, IsStartFault, IsRoomFault, IsStoreFault}

-- a tile is damaged as before
pub damaged-same : (current : Current) (key : VoxelKey) (old new : Files) → SameFiles old new → IsDamaged current key new → IsDamaged current key old
damaged-same current key old new same = damaged-before current key old new (λ line found. same (tile_of_line line))

-- and is the first that is
pub first-same : (current : Current) (slots : ℕ) (key : VoxelKey) (old new : Files) → SameFiles old new → IsFirstDamaged current slots key new → IsFirstDamaged current slots key old
first-same current slots key old new same first = record {
  slot = first.slot;
  damaged = damaged-same current key old new same first.damaged;
  before = λ line m bad. first.before line m (damaged-same current line.key new old (λ name. sym (same name)) bad);
}

pub first-damage : (current : Current) (slots : ℕ) (key : VoxelKey) (files : Option Files) → Tells (IsFirstDamaged current slots key) files → Tells (IsDamaged current key) files
first-damage current slots key None told = tt
first-damage current slots key (Some all) told = told.damaged

-- also if there are more slots
pub first-more : (current : Current) (slots more : ℕ) (key : VoxelKey) (files : Files) → slots ≤ more → IsFirstDamaged current slots key files → IsFirstDamaged current more key files
first-more current slots more key files wide first = record {
  slot = record { front = first.slot.front; line = first.slot.line; rest = first.slot.rest; lines = first.slot.lines; few = omega (arith, first.slot.few, wide); key_is = first.slot.key_is };
  damaged = first.damaged;
  before = first.before;
}

-- a damaged tile is that of a line
pub damaged-line : (current : Current) (key : VoxelKey) (files : Files) → IsDamaged current key files → HasLine current key
damaged-line None key files is = absurd is
damaged-line (Some (letter, c)) key files is = at (line_of_key c.nodes key) is
  where
    at : (found : Option NodeLine) → IsSomeAnd found (λ line. IsDamagedLine (layout_of c.version) (rules_of c.kept) line files) → IsSome found
    at None is = absurd is
    at (Some line) is = refl

-- the line that has a slot is one of the first
in_front : (front : List NodeLine) (line : NodeLine) (rest : List NodeLine) (n : ℕ) → length front < n → IsMember line (take n (front ++ line ∷ rest))
in_front [] line rest zero low = absurd (omega (arith, low))
in_front [] line rest (suc n) low = inl refl
in_front (f ∷ fs) line rest zero low = absurd (omega (arith, low))
in_front (f ∷ fs) line rest (suc n) low = inr (in_front fs line rest n (omega (arith, low)))

-- if no tile of those is damaged, its own is not
pub slot-intact : (current : Current) (slots : ℕ) (key : VoxelKey) (files : Files) → HasSlot current slots key → AreIntact current (take slots (lines_of current)) files → IsDamaged current key files → ⊥
slot-intact current slots key files slot intact damaged =
    intact slot.line (subst (λ (w : List NodeLine). IsMember slot.line (take slots w)) (sym slot.lines) (in_front slot.front slot.line slot.rest slots slot.few)) (subst (λ (k : VoxelKey). IsDamaged current k files) (sym slot.key_is) damaged)

-- if the current checkpoint is kept, it is that of what is left
pub kept-damage : (view : View) (key : VoxelKey) (old new : Option Files) {may : Files → Type 0} → StandsFor view old may → StepsBy (Keeps view.current) old new → HasLine view.current key → Tells (IsDamaged view.current key) new → HasDamage view.current key new
kept-damage view key old None stands keeps line damaged = (line, tt)
kept-damage view key None (Some b) stands keeps line damaged = absurd keeps
kept-damage view key (Some a) (Some b) stands keeps line damaged = (line, (keeps.same (subst (HasCurrent view.current) (some-one (sym stands.told)) stands.has_current), damaged))
  where
    some-one : {x y : Files} → Some x ≡ Some y → x ≡ y
    some-one is = cc

-- no tile is damaged if only the done gate changes
no_damage_kept : (current : Current) (old mid new : Files) → HasNoDamage current old → SameFiles old mid → SameBut done_name mid new → HasNoDamage current new
no_damage_kept current old mid new whole same but = λ key line damaged. whole key line (damaged-before current key old new (λ l found. but (tile_of_line l) (λ is. done-apart (inr (inr (l.letter, l.key, sym is)))) ∙ same (tile_of_line l)) damaged)

pub still-whole : (current : Current) (old mid new : Option Files) → Tells (HasNoDamage current) old → StepsBy SameFiles old mid → StepsBy (SameBut done_name) mid new → Tells (HasNoDamage current) new
still-whole current old mid None whole same but = tt
still-whole current old None (Some c) whole same but = absurd but
still-whole current None (Some b) (Some c) whole same but = absurd same
still-whole current (Some a) (Some b) (Some c) whole same but = no_damage_kept current a b c whole same but

-- only the done gate changes
pub gate-steps : (old mid new : Option Files) → StepsBy SameFiles old mid → StepsBy (SameBut done_name) mid new → StepsBy (SameBut done_name) old new
gate-steps None None None same but = tt
gate-steps None None (Some c) same but = absurd but
gate-steps None (Some b) new same but = absurd same
gate-steps (Some a) None new same but = absurd same
gate-steps (Some a) (Some b) None same but = absurd but
gate-steps (Some a) (Some b) (Some c) same but = λ name other. but name other ∙ same name

-- and if the files are as they were
pub same-damage : (view : View) (key : VoxelKey) (old new : Option Files) {may : Files → Type 0} → StandsFor view new may → StepsBy SameFiles old new → HasLine view.current key → Tells (IsDamaged view.current key) old → HasDamage view.current key new
same-damage view key old None stands same line damaged = (line, tt)
same-damage view key None (Some b) stands same line damaged = absurd same
same-damage view key (Some a) (Some b) stands same line damaged = (line, (subst (HasCurrent view.current) (some-one (sym stands.told)) stands.has_current, damaged-same view.current key b a (λ name. sym (same name)) damaged))
  where
    some-one : {x y : Files} → Some x ≡ Some y → x ≡ y
    some-one is = cc

-- ---- a refusal if a tile is damaged

module _ (r : Result Summary BuildError) where
  -- the nodes are not loaded
  pub loading-tells : (e : BuildError) → r ≡ Err e → IsStartFault e → e ≢ TooManyNodes → TellsDamage r ⊎ Fails r
  loading-tells StoreFault is only many = inr (inl is)
  loading-tells Memory is only many = inr (inr (inr (inr is)))
  loading-tells SpillFault is only many = inr (inr (inr (inl is)))
  loading-tells (TileDamaged key) is only many = inl (key, is)
  loading-tells TooManyNodes is only many = absurd (many refl)
  loading-tells SourceFault is only many = absurd only
  loading-tells (SourceChanged s n) is only many = absurd only
  loading-tells (SpillDamaged kept found number) is only many = absurd only
  loading-tells (BadCheckpoint letter) is only many = absurd only
  loading-tells (Differs field kept given) is only many = absurd only
  loading-tells (BadLas s fault) is only many = absurd only
  loading-tells (OutOfBounds s number) is only many = absurd only
  loading-tells (TooManyPoints s) is only many = absurd only
  loading-tells NoBounds is only many = absurd only

  -- the checkpoints are not opened
  pub opening-fails : (e : SaveError) → r ≡ Err (of_save e) → IsStores e → Fails r
  opening-fails e is (inl fault) = inl (is ∙ ap (λ (w : SaveError). Err (of_save w)) fault)
  opening-fails e is (inr memory) = inr (inr (inr (is ∙ ap (λ (w : SaveError). Err (of_save w)) memory)))

-- ---- a refusal that names no tile

pub saved-damaged : (e : SaveError) (key : VoxelKey) → of_save e ≡ TileDamaged key → e ≡ save.TileDamaged key
saved-damaged save.StoreFault key is = absurd (cc)
saved-damaged (save.BadCheckpoint letter) key is = absurd (cc)
saved-damaged (save.TileDamaged other) key is = cc
saved-damaged save.Memory key is = absurd (cc)

scan-no-tile : (e : ScanError) (key : VoxelKey) → of_scan e ≡ TileDamaged key → ⊥
scan-no-tile scan.SourceFault key is = cc
scan-no-tile (scan.BadLas source fault) key is = cc
scan-no-tile (scan.OutOfBounds source number) key is = cc
scan-no-tile (scan.TooManyPoints source) key is = cc
scan-no-tile scan.NoBounds key is = cc
scan-no-tile scan.Memory key is = cc

pub plan-no-tile : (e : PlanError) (key : VoxelKey) → of_plan e ≡ TileDamaged key → ⊥
plan-no-tile (plan.Differs d) key is = cc
plan-no-tile (plan.Scan e) key is = scan-no-tile e key is

pub put-no-tile : (e : PutError) (key : VoxelKey) → of_put e ≡ TileDamaged key → ⊥
put-no-tile put.Failed key is = cc
put-no-tile put.Memory key is = cc

pub store-no-tile : (e : BuildError) (key : VoxelKey) → IsStoreFault e → e ≡ TileDamaged key → ⊥
store-no-tile e key (inl fault) is = let same : StoreFault ≡ TileDamaged key = sym fault ∙ is in cc
store-no-tile e key (inr memory) is = let same : Memory ≡ TileDamaged key = sym memory ∙ is in cc

pub room-no-tile : (e : BuildError) (key : VoxelKey) → IsRoomFault e → e ≡ TileDamaged key → ⊥
room-no-tile e key (inl fault) is = let same : SpillFault ≡ TileDamaged key = sym fault ∙ is in cc
room-no-tile e key (inr memory) is = let same : Memory ≡ TileDamaged key = sym memory ∙ is in cc

-- ---- something is left to be done

pub nothing-left : {r : Result Summary BuildError} (config : Config) (start : Files) (current : Current) → (¬ IsDone start) ⊎ (inputs_by current < length config.inputs) → IsDone start → inputs_by current ≡ length config.inputs → TellsDamage r ⊎ Fails r
nothing-left config start current (inl undone) done all = absurd (undone done)
nothing-left config start current (inr less) done all = absurd (omega (arith, less, all))
