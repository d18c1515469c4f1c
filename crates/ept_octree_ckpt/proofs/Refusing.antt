-- Why an octree is not loaded or not saved, and what soundness leaves of it.
use Rattle.std.proofs.Common.{◌≡◌, ◌∙◌, ◌⊎◌, ℕ, inl, inr, refl, sym, ap, subst, Option, Some, None}
use Rattle.std.specs.Prelude.{Result, Ok, Err, IfErr, IsSomeAnd}
use Rattle.ept_base.specs.Files.{Files, SameFiles, StepsBy, Tells}
use Rattle.ept_space.specs.VoxelKey.{VoxelKey}
use Rattle.ept_ckpt.specs.declared.node_line.NodeLine.{NodeLine}
use Rattle.ept_ckpt.specs.Versions.{layout_of}
use Rattle.ept_ckpt.specs.Lookup.{line_of_key}
use Rattle.ept_meta.specs.Output.{rules_of}
use Rattle.ept_node.specs.declared.error.NodeError.{NodeError}
use Rattle.ept_node.specs.declared.error.NodeError.TheVariants as node
use Rattle.ept_save.specs.declared.error.SaveError.{SaveError}
use Rattle.ept_save.specs.declared.error.SaveError.TheVariants.{StoreFault, TileDamaged, Memory}
use Rattle.ept_save.specs.Current.{Current, HasCurrent, Keeps, tile_of_line}
use Rattle.ept_save.specs.Errors.{IsStores}
use Rattle.ept_save.specs.Loading.{HasLine, IsDamaged, IsDamagedLine}
use Rattle.ept_save.specs.Sound.{IsSound}
use Rattle.ept_save.specs.SoundLaws.{SameIsSound, KeepingKeepsSound}
use Rattle.ept_save.proofs.Keeping.{keeps-same}
use Rattle.ept_save.proofs.Standing.{stepped}
use Rattle.ept_octree_ckpt.specs.declared.error.PhaseError.{PhaseError}
use Rattle.ept_octree_ckpt.specs.declared.error.PhaseError.TheVariants.{Save, SpillFault, SpillDamaged}
use Rattle.ept_octree_ckpt.specs.Errors.{of_node, IsDevices}
use Rattle.ept_octree_ckpt.specs.Loaded.{IsLoadFault}
use Rattle.ept_octree_ckpt.specs.Saving.{IsSaveFault}
use Rattle.ept_octree_ckpt.proofs.Lining.{tells-back}

-- ---- which refusal it was

pub was-save : (e f : SaveError) → Save e ≡ Save f → e ≡ f
was-save e f is = cc

one_key : (a b : VoxelKey) → TileDamaged a ≡ TileDamaged b → a ≡ b
one_key a b is = cc

no_fault : (key : VoxelKey) → StoreFault ≡ TileDamaged key → ⊥
no_fault key is = cc

no_memory : (key : VoxelKey) → Memory ≡ TileDamaged key → ⊥
no_memory key is = cc

not-stores : (e : SaveError) (key : VoxelKey) → IsStores e → e ≡ TileDamaged key → ⊥
not-stores e key (inl fault) is = no_fault key (sym fault ∙ is)
not-stores e key (inr memory) is = no_memory key (sym memory ∙ is)

-- ---- a damaged tile

damaged-back : (current : Current) (key : VoxelKey) (old new : Files) → SameFiles old new → IsDamaged current key new → IsDamaged current key old
damaged-back None key old new same is = absurd is
damaged-back (Some (letter, c)) key old new same is = at (line_of_key c.nodes key) is
  where
    at : (found : Option NodeLine) → IsSomeAnd found (λ line. IsDamagedLine (layout_of c.version) (rules_of c.kept) line new) → IsSomeAnd found (λ line. IsDamagedLine (layout_of c.version) (rules_of c.kept) line old)
    at None is = absurd is
    at (Some line) is = elim is [
      | inl absent ↦ inl (sym (same (tile_of_line line)) ∙ absent)
      | inr wrong ↦ inr (wrong.0, sym (same (tile_of_line line)) ∙ wrong.1, wrong.2)
    ]

module _ {T : Type 0} (result : Result T SaveError) (e : SaveError) (was : result ≡ Err e) where
  its_kind : (fact : SaveError → Type 0) → IfErr result fact → fact e
  its_kind fact only = subst (λ (r : Result T SaveError). IfErr r fact) was only

  -- the tile of the line was damaged, also in the files as they were
  pub damaged-told : (current : Current) (at key : VoxelKey) (old mid : Option Files) → StepsBy SameFiles old mid → HasLine current at → IfErr result (λ f. (f ≡ TileDamaged at) ⊎ IsStores f) → (result ≡ Err (TileDamaged at) → Tells (IsDamaged current at) mid) → e ≡ TileDamaged key → HasLine current key × Tells (IsDamaged current key) old
  damaged-told current at key old mid same line only refused is = elim (its_kind (λ f. (f ≡ TileDamaged at) ⊎ IsStores f) only) [
    | inl here ↦
        let same_key : at ≡ key = one_key at key (sym here ∙ is) in
        subst (λ (k : VoxelKey). HasLine current k × Tells (IsDamaged current k) old) same_key
        (line, tells-back (IsDamaged current at) (IsDamaged current at) (damaged-back current at) old mid same (refused (was ∙ ap (λ (f : SaveError). Err f) here)))
    | inr stores ↦ absurd (not-stores e key stores is)
  ]

  -- of sound files none is
  pub none-damaged : (key : VoxelKey) → IfErr result IsStores → e ≡ TileDamaged key → ⊥
  none-damaged key stores is = not-stores e key (its_kind IsStores stores) is

  -- the refusal is one of those that are reported
  pub load-fault : (at : VoxelKey) → IfErr result (λ f. (f ≡ TileDamaged at) ⊎ IsStores f) → IsLoadFault (Save e)
  load-fault at only = elim (its_kind (λ f. (f ≡ TileDamaged at) ⊎ IsStores f) only) [
    | inl here ↦ inr (inr (inr (inr (at, ap (λ (f : SaveError). Save f) here))))
    | inr (inl fault) ↦ inr (inr (inl (ap (λ (f : SaveError). Save f) fault)))
    | inr (inr memory) ↦ inr (inr (inr (inl (ap (λ (f : SaveError). Save f) memory))))
  ]

-- and so where a node is saved
pub save-fault : {T : Type 0} (result : Result T SaveError) (e : SaveError) → result ≡ Err e → (at : VoxelKey) → IfErr result (λ f. (f ≡ TileDamaged at) ⊎ IsStores f) → IsSaveFault (Save e)
save-fault result e was at only = elim (its_kind result e was (λ f. (f ≡ TileDamaged at) ⊎ IsStores f) only) [
  | inl here ↦ inl (at, ap (λ (f : SaveError). Save f) here)
  | inr stores ↦ inr stores
]

-- ---- refusals that are passed on

-- that of a call on checkpoints
module _ {T U : Type 0} (inner : Result T SaveError) (outer : Result U PhaseError) (e : SaveError) (was : inner ≡ Err e) (is : outer ≡ Err (Save e)) where
  pub store-devices : IfErr inner IsStores → IfErr outer IsDevices
  store-devices stores = subst (λ (r : Result U PhaseError). IfErr r IsDevices) (sym is) (its_kind inner e was IsStores stores)

  pub store-refusal : (f : SaveError) → outer ≡ Err (Save f) → inner ≡ Err f
  store-refusal f told = was ∙ ap (λ (w : SaveError). Err w) (was-save e f (same (sym is ∙ told)))
    where
      same : (◌≡◌ {A = Result U PhaseError} (Err (Save e)) (Err (Save f))) → Save e ≡ Save f
      same both = cc

  pub store-no-spill : outer ≡ Err SpillFault → ⊥
  store-no-spill told = apart (sym is ∙ told)
    where
      apart : (◌≡◌ {A = Result U PhaseError} (Err (Save e)) (Err SpillFault)) → ⊥
      apart both = cc

  pub store-no-damage : (kept found at : ℕ) → outer ≡ Err (SpillDamaged kept found at) → ⊥
  store-no-damage kept found at told = apart (sym is ∙ told)
    where
      apart : (◌≡◌ {A = Result U PhaseError} (Err (Save e)) (Err (SpillDamaged kept found at))) → ⊥
      apart both = cc

-- that of a part of a phase
module _ {T U : Type 0} (inner : Result T PhaseError) (outer : Result U PhaseError) (e : PhaseError) (was : inner ≡ Err e) (is : outer ≡ Err e) where
  pub same-refusal : (fact : PhaseError → Type 0) → IfErr inner fact → IfErr outer fact
  same-refusal fact holds = subst (λ (r : Result U PhaseError). IfErr r fact) (sym is) (subst (λ (r : Result T PhaseError). IfErr r fact) was holds)

  pub one-phase-refusal : (f : PhaseError) → outer ≡ Err f → inner ≡ Err f
  one-phase-refusal f told = was ∙ ap (λ (w : PhaseError). Err w) (same (sym is ∙ told))
    where
      same : (◌≡◌ {A = Result U PhaseError} (Err e) (Err f)) → e ≡ f
      same both = cc

-- a refusal of devices is one of those that are reported
pub devices-fault : {U : Type 0} (r : Result U PhaseError) → IfErr r IsDevices → IfErr r IsSaveFault
devices-fault (Ok u) devices = tt
devices-fault (Err e) devices = inr devices

-- and that of a node
node_devices : (e : NodeError) → IsDevices (of_node e)
node_devices node.SpillFault = tt
node_devices (node.SpillDamaged kept found at) = tt
node_devices node.Memory = inr refl

node_fault : (e : NodeError) → of_node e ≡ SpillFault → e ≡ node.SpillFault
node_fault node.SpillFault is = refl
node_fault (node.SpillDamaged kept found at) is = absurd (cc)
node_fault node.Memory is = absurd (cc)

node_damaged : (e : NodeError) (kept found at : ℕ) → of_node e ≡ SpillDamaged kept found at → e ≡ node.SpillDamaged kept found at
node_damaged node.SpillFault kept found at is = absurd (cc)
node_damaged (node.SpillDamaged k f a) kept found at is = cc
node_damaged node.Memory kept found at is = absurd (cc)

node_tile : (e : NodeError) (key : VoxelKey) → of_node e ≡ Save (TileDamaged key) → ⊥
node_tile node.SpillFault key is = cc
node_tile (node.SpillDamaged kept found at) key is = cc
node_tile node.Memory key is = cc

node_store : (e : NodeError) → of_node e ≡ Save StoreFault → ⊥
node_store node.SpillFault is = cc
node_store (node.SpillDamaged kept found at) is = cc
node_store node.Memory is = cc

module _ {T U : Type 0} (inner : Result T NodeError) (outer : Result U PhaseError) (e : NodeError) (was : inner ≡ Err e) (is : outer ≡ Err (of_node e)) where
  its_refusal : (f : PhaseError) → outer ≡ Err f → of_node e ≡ f
  its_refusal f told = same (sym is ∙ told)
    where
      same : (◌≡◌ {A = Result U PhaseError} (Err (of_node e)) (Err f)) → of_node e ≡ f
      same both = cc

  pub node-devices : IfErr outer IsDevices
  node-devices = subst (λ (r : Result U PhaseError). IfErr r IsDevices) (sym is) (node_devices e)

  pub node-fault : outer ≡ Err SpillFault → inner ≡ Err node.SpillFault
  node-fault told = was ∙ ap (λ (w : NodeError). Err w) (node_fault e (its_refusal SpillFault told))

  pub node-damaged : (kept found at : ℕ) → outer ≡ Err (SpillDamaged kept found at) → inner ≡ Err (node.SpillDamaged kept found at)
  node-damaged kept found at told = was ∙ ap (λ (w : NodeError). Err w) (node_damaged e kept found at (its_refusal (SpillDamaged kept found at) told))

  pub node-tile : (key : VoxelKey) → outer ≡ Err (Save (TileDamaged key)) → ⊥
  node-tile key told = node_tile e key (its_refusal (Save (TileDamaged key)) told)

  pub node-store : outer ≡ Err (Save StoreFault) → ⊥
  node-store told = node_store e (its_refusal (Save StoreFault) told)

-- ---- sound files, from call to call

-- where nothing changed, files that were sound with this current checkpoint are so
pub stays-sound : SameIsSound → (shelf all : Files) (current : Current) (old mid : Option Files) → StepsBy SameFiles old mid → old ≡ Some all → IsSound shelf all → HasCurrent current all → (now : Files) × (mid ≡ Some now) × IsSound shelf now × HasCurrent current now
stays-sound law shelf all current old mid same told sound has =
    let at = stepped SameFiles old mid all told same in
    (at.0, at.1, law shelf all at.0 at.2 sound, (keeps-same current all at.0 at.2).same has)

-- and so they are where the current checkpoint is kept
pub keeps-sound : KeepingKeepsSound → (shelf all : Files) (current : Current) (old mid : Option Files) → StepsBy (Keeps current) old mid → old ≡ Some all → IsSound shelf all → HasCurrent current all → (now : Files) × (mid ≡ Some now) × IsSound shelf now × HasCurrent current now
keeps-sound law shelf all current old mid keeps told sound has =
    let at = stepped (Keeps current) old mid all told keeps in
    (at.0, at.1, law shelf all at.0 current has at.2 sound, at.2.same has)
