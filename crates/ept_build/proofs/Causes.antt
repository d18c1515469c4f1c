-- Which refusal of a layer below was reported.
use Rattle.std.proofs.Common.{◌≡◌, ◌∙◌, inl, inr, ℕ, ◌<◌, List, get_or, refl, sym, ap, subst, arith, Option, Some, None}
use Rattle.std.specs.List.{Any}
use Rattle.std.proofs.lemmas.List.Sums.{get_or-le-sum_by}
use Rattle.std.specs.Prelude.{Result, Err, IfErr}
use Rattle.ept_base.specs.Files.{Tells}
use Rattle.ept_space.specs.VoxelKey.{VoxelKey}
use Rattle.ept_scan.specs.declared.read_error.ReadError.{ReadError}
use Rattle.ept_scan.specs.declared.read_error.ReadError.TheVariants as read
use Rattle.ept_node.specs.declared.error.NodeError.TheVariants as node
use Rattle.ept_node.specs.declared.node.Node.{Node}
use Rattle.ept_node.specs.Shown.{file_of, fault_of}
use Rattle.ept_forest.specs.Slots.{faults_of}
use Rattle.ept_insert.specs.declared.error.InsertError.{InsertError}
use Rattle.ept_insert.specs.declared.error.InsertError.TheVariants as insert
use Rattle.ept_save.specs.declared.error.SaveError.{SaveError}
use Rattle.ept_save.specs.declared.error.SaveError.TheVariants as save
use Rattle.ept_save.specs.Errors.{IsStores}
use Rattle.ept_octree_ckpt.specs.declared.error.PhaseError.{PhaseError}
use Rattle.ept_octree_ckpt.specs.declared.error.PhaseError.TheVariants as phase
use Rattle.ept_octree_ckpt.specs.Errors.{IsDevices}
use Rattle.ept_publish.specs.declared.error.PublishError.{PublishError}
use Rattle.ept_publish.specs.declared.error.PublishError.TheVariants as publish
use Rattle.ept_publish.specs.Errors as reported
use Rattle.ept_build.specs.declared.error.BuildError.TheVariants.{TileDamaged, SourceFault, SourceChanged, SpillFault, SpillDamaged, TooManyNodes}
use Rattle.ept_build.specs.Errors.{of_read, of_insert, of_save, of_phase, of_publish}
use Rattle.ept_build.specs.Phases.{IsEndFault}

pub inserted-many : (e : InsertError) → of_insert e ≡ TooManyNodes → e ≡ insert.TooManyNodes
inserted-many insert.SourceFault is = absurd (cc)
inserted-many (insert.SourceChanged a b) is = absurd (cc)
inserted-many insert.SpillFault is = absurd (cc)
inserted-many (insert.SpillDamaged a b d) is = absurd (cc)
inserted-many insert.TooManyNodes is = cc
inserted-many insert.Memory is = absurd (cc)

pub inserted-changed : (e : InsertError) (source number : ℕ) → of_insert e ≡ SourceChanged source number → e ≡ insert.SourceChanged source number
inserted-changed insert.SourceFault source number is = absurd (cc)
inserted-changed (insert.SourceChanged a b) source number is = cc
inserted-changed insert.SpillFault source number is = absurd (cc)
inserted-changed (insert.SpillDamaged a b d) source number is = absurd (cc)
inserted-changed insert.TooManyNodes source number is = absurd (cc)
inserted-changed insert.Memory source number is = absurd (cc)

pub inserted-fault : (e : InsertError) → of_insert e ≡ SourceFault → e ≡ insert.SourceFault
inserted-fault insert.SourceFault is = cc
inserted-fault (insert.SourceChanged a b) is = absurd (cc)
inserted-fault insert.SpillFault is = absurd (cc)
inserted-fault (insert.SpillDamaged a b d) is = absurd (cc)
inserted-fault insert.TooManyNodes is = absurd (cc)
inserted-fault insert.Memory is = absurd (cc)

pub inserted-spill : (e : InsertError) → of_insert e ≡ SpillFault → e ≡ insert.SpillFault
inserted-spill insert.SourceFault is = absurd (cc)
inserted-spill (insert.SourceChanged a b) is = absurd (cc)
inserted-spill insert.SpillFault is = cc
inserted-spill (insert.SpillDamaged a b d) is = absurd (cc)
inserted-spill insert.TooManyNodes is = absurd (cc)
inserted-spill insert.Memory is = absurd (cc)

pub inserted-damage : (e : InsertError) (kept found number : ℕ) → of_insert e ≡ SpillDamaged kept found number → e ≡ insert.SpillDamaged kept found number
inserted-damage insert.SourceFault kept found number is = absurd (cc)
inserted-damage (insert.SourceChanged a b) kept found number is = absurd (cc)
inserted-damage insert.SpillFault kept found number is = absurd (cc)
inserted-damage (insert.SpillDamaged a b d) kept found number is = cc
inserted-damage insert.TooManyNodes kept found number is = absurd (cc)
inserted-damage insert.Memory kept found number is = absurd (cc)

pub read-changed : (e : ReadError) (source number : ℕ) → of_read e ≡ SourceChanged source number → e ≡ read.SourceChanged source number
read-changed read.SourceFault source number is = absurd (cc)
read-changed read.Memory source number is = absurd (cc)
read-changed (read.SourceChanged a b) source number is = cc

pub read-no-spill : (e : ReadError) → of_read e ≡ SpillFault → ⊥
read-no-spill read.SourceFault is = cc
read-no-spill read.Memory is = cc
read-no-spill (read.SourceChanged a b) is = cc

pub read-no-damage : (e : ReadError) (kept found number : ℕ) → of_read e ≡ SpillDamaged kept found number → ⊥
read-no-damage read.SourceFault kept found number is = cc
read-no-damage read.Memory kept found number is = cc
read-no-damage (read.SourceChanged a b) kept found number is = cc

pub phase-damaged : (e : PhaseError) (key : VoxelKey) → of_phase e ≡ TileDamaged key → e ≡ phase.Save (save.TileDamaged key)
phase-damaged (phase.Save save.StoreFault) key is = absurd (cc)
phase-damaged (phase.Save (save.BadCheckpoint letter)) key is = absurd (cc)
phase-damaged (phase.Save (save.TileDamaged other)) key is = cc
phase-damaged (phase.Save save.Memory) key is = absurd (cc)
phase-damaged phase.TooManyNodes key is = absurd (cc)
phase-damaged phase.SpillFault key is = absurd (cc)
phase-damaged (phase.SpillDamaged a b d) key is = absurd (cc)

pub phase-many : (e : PhaseError) → of_phase e ≡ TooManyNodes → e ≡ phase.TooManyNodes
phase-many (phase.Save save.StoreFault) is = absurd (cc)
phase-many (phase.Save (save.BadCheckpoint letter)) is = absurd (cc)
phase-many (phase.Save (save.TileDamaged other)) is = absurd (cc)
phase-many (phase.Save save.Memory) is = absurd (cc)
phase-many phase.TooManyNodes is = cc
phase-many phase.SpillFault is = absurd (cc)
phase-many (phase.SpillDamaged a b d) is = absurd (cc)

pub phase-spill : (e : PhaseError) → of_phase e ≡ SpillFault → e ≡ phase.SpillFault
phase-spill (phase.Save save.StoreFault) is = absurd (cc)
phase-spill (phase.Save (save.BadCheckpoint letter)) is = absurd (cc)
phase-spill (phase.Save (save.TileDamaged other)) is = absurd (cc)
phase-spill (phase.Save save.Memory) is = absurd (cc)
phase-spill phase.TooManyNodes is = absurd (cc)
phase-spill phase.SpillFault is = cc
phase-spill (phase.SpillDamaged a b d) is = absurd (cc)

pub phase-damage : (e : PhaseError) (kept found number : ℕ) → of_phase e ≡ SpillDamaged kept found number → e ≡ phase.SpillDamaged kept found number
phase-damage (phase.Save save.StoreFault) kept found number is = absurd (cc)
phase-damage (phase.Save (save.BadCheckpoint letter)) kept found number is = absurd (cc)
phase-damage (phase.Save (save.TileDamaged other)) kept found number is = absurd (cc)
phase-damage (phase.Save save.Memory) kept found number is = absurd (cc)
phase-damage phase.TooManyNodes kept found number is = absurd (cc)
phase-damage phase.SpillFault kept found number is = absurd (cc)
phase-damage (phase.SpillDamaged a b d) kept found number is = cc

pub phase-no-source : (e : PhaseError) → of_phase e ≡ SourceFault → ⊥
phase-no-source (phase.Save save.StoreFault) is = cc
phase-no-source (phase.Save (save.BadCheckpoint letter)) is = cc
phase-no-source (phase.Save (save.TileDamaged other)) is = cc
phase-no-source (phase.Save save.Memory) is = cc
phase-no-source phase.TooManyNodes is = cc
phase-no-source phase.SpillFault is = cc
phase-no-source (phase.SpillDamaged a b d) is = cc

-- a refusal of devices names no tile
pub stores-undamaged : (e : SaveError) (key : VoxelKey) → IsStores e → of_save e ≡ TileDamaged key → ⊥
stores-undamaged e key (inl fault) is = let told : of_save save.StoreFault ≡ TileDamaged key = sym (ap of_save fault) ∙ is in cc
stores-undamaged e key (inr memory) is = let told : of_save save.Memory ≡ TileDamaged key = sym (ap of_save memory) ∙ is in cc

pub devices-undamaged : (e : PhaseError) (key : VoxelKey) → IsDevices e → of_phase e ≡ TileDamaged key → ⊥
devices-undamaged (phase.Save e) key devices is = stores-undamaged e key devices is
devices-undamaged phase.TooManyNodes key devices is = absurd devices
devices-undamaged phase.SpillFault key devices is = cc
devices-undamaged (phase.SpillDamaged a b d) key devices is = cc

pub publish-tile : (e : PublishError) (key : VoxelKey) → of_publish e ≡ TileDamaged key → e ≡ publish.TileDamaged key
publish-tile publish.StoreFault key is = absurd (cc)
publish-tile (publish.TileDamaged other) key is = cc
publish-tile publish.Memory key is = absurd (cc)

pub publish-undamaged : (e : PublishError) (key : VoxelKey) → reported.IsStores e → of_publish e ≡ TileDamaged key → ⊥
publish-undamaged e key (inl fault) is = let told : of_publish publish.StoreFault ≡ TileDamaged key = sym (ap of_publish fault) ∙ is in cc
publish-undamaged e key (inr memory) is = let told : of_publish publish.Memory ≡ TileDamaged key = sym (ap of_publish memory) ∙ is in cc

pub publish-end : (e : PublishError) → IsEndFault (of_publish e)
publish-end publish.StoreFault = inl (inl refl)
publish-end (publish.TileDamaged key) = inr (key, refl)
publish-end publish.Memory = inl (inr refl)

-- what follows from a fact about visible contents holds of them too
pub tells-more : {X : Type 0} (P Q : X → Type 0) → ((x : X) → P x → Q x) → (o : Option X) → Tells P o → Tells Q o
tells-more P Q more None told = tt
tells-more P Q more (Some x) told = more x told

-- what holds of all contents holds of visible ones
pub tells-all : {X : Type 0} (P : X → Type 0) → ((x : X) → P x) → (o : Option X) → Tells P o
tells-all P all None = tt
tells-all P all (Some x) = all x

-- and what holds of the visible contents holds of these, if these are visible
pub tells-some : {X : Type 0} (P : X → Type 0) (o : Option X) (x : X) → o ≡ Some x → Tells P o → P x
tells-some {X} P o x is told = subst (λ (w : Option X). Tells P w) is told

-- what holds of an error holds of the result that returns it
pub if-refused : {T E : Type 0} (P : E → Type 0) (r : Result T E) (e : E) → r ≡ Err e → P e → IfErr r P
if-refused P r e is holds = subst (λ (w : Result _ _). IfErr w P) (sym is) holds

-- of a node that is broken by it, a spill file has failed
pub broken-fault : {F : Type 0} (faults : F → ℕ) (nodes : List (Node F)) → Any (λ (n : Node F). (fault_of n ≡ Some node.SpillFault) × (0 < faults (file_of n))) nodes → 0 < faults_of faults nodes
broken-fault {F} faults nodes there =
    let one : 0 < faults (file_of there.1) = there.4.1 in
    let same : faults (file_of (get_or nodes there.0 there.1)) ≡ faults (file_of there.1) = ap (λ (n : Node F). faults (file_of n)) there.3 in
    omega (arith, one, same, get_or-le-sum_by (λ (n : Node F). faults (file_of n)) nodes there.0 there.1 there.2)
