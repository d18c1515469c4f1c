-- Refusals that are passed on.
use Rattle.std.proofs.Common.{◌≡◌, ◌∙◌, inl, inr, refl, sym, ap, subst, Option, Some}
use Rattle.std.specs.Prelude.{Result, Ok, Err, IfErr}
use Rattle.ept_base.specs.Files.{Files, Tells}
use Rattle.ept_base.specs.declared.errors.PutError.{PutError}
use Rattle.ept_base.specs.declared.errors.PutError.TheVariants as put
use Rattle.ept_space.specs.VoxelKey.{VoxelKey}
use Rattle.ept_save.specs.Current.{Current}
use Rattle.ept_save.specs.Loading.{HasLine, IsDamaged, HasNoDamage}
use Rattle.ept_publish.specs.declared.error.PublishError.{PublishError}
use Rattle.ept_publish.specs.declared.error.PublishError.TheVariants.{StoreFault, TileDamaged, Memory}
use Rattle.ept_publish.specs.Errors.{of_put, IsStores, IsFault}

-- ---- that of a store

put_fault : (e : PutError) → of_put e ≡ StoreFault → e ≡ put.Failed
put_fault put.Failed is = refl
put_fault put.Memory is = absurd (cc)

put_tile : (e : PutError) (key : VoxelKey) → of_put e ≡ TileDamaged key → ⊥
put_tile put.Failed key is = cc
put_tile put.Memory key is = cc

put_stores : (e : PutError) → IsStores (of_put e)
put_stores put.Failed = inl refl
put_stores put.Memory = inr refl

-- one refusal is another's only if they are the same
same-error : {U : Type 0} (outer : Result U PublishError) (e f : PublishError) → outer ≡ Err e → outer ≡ Err f → e ≡ f
same-error {U} outer e f is told = same (sym is ∙ told)
  where
    same : (◌≡◌ {A = Result U PublishError} (Err e) (Err f)) → e ≡ f
    same both = cc

module _ {T U : Type 0} (inner : Result T PutError) (outer : Result U PublishError) (e : PutError) (was : inner ≡ Err e) (is : outer ≡ Err (of_put e)) where
  pub store-fault : outer ≡ Err StoreFault → inner ≡ Err put.Failed
  store-fault told = was ∙ ap (λ (w : PutError). Err w) (put_fault e (same-error outer (of_put e) StoreFault is told))

  pub store-no-tile : (key : VoxelKey) → outer ≡ Err (TileDamaged key) → ⊥
  store-no-tile key told = put_tile e key (same-error outer (of_put e) (TileDamaged key) is told)

  pub store-only : (current : Current) → IfErr outer (IsFault current)
  store-only current = subst (λ (r : Result U PublishError). IfErr r (IsFault current)) (sym is) (inl (put_stores e))

  pub store-stores : IfErr outer IsStores
  store-stores = subst (λ (r : Result U PublishError). IfErr r IsStores) (sym is) (put_stores e)

-- ---- that of a part of the output

pub one-refusal : {T U : Type 0} (inner : Result T PublishError) (outer : Result U PublishError) (e f : PublishError) → inner ≡ Err e → outer ≡ Err e → outer ≡ Err f → inner ≡ Err f
one-refusal inner outer e f was is told = was ∙ ap (λ (w : PublishError). Err w) (same-error outer e f is told)

-- a refusal that names no tile is one of the store
pub no-tile-stores : {U : Type 0} (outer : Result U PublishError) → ((key : VoxelKey) → outer ≡ Err (TileDamaged key) → ⊥) → IfErr outer IsStores
no-tile-stores (Ok u) none = tt
no-tile-stores (Err StoreFault) none = inl refl
no-tile-stores (Err (TileDamaged key)) none = absurd (none key refl)
no-tile-stores (Err Memory) none = inr refl

module _ {U : Type 0} (current : Current) (files : Option Files) where
  -- and one that names a tile, names that of a line
  pub tile-only : (outer : Result U PublishError) → ((key : VoxelKey) → outer ≡ Err (TileDamaged key) → HasLine current key × Tells (IsDamaged current key) files) → IfErr outer (IsFault current)
  tile-only (Ok u) damaged = tt
  tile-only (Err StoreFault) damaged = inl (inl refl)
  tile-only (Err (TileDamaged key)) damaged = inr (key, (damaged key refl).0, refl)
  tile-only (Err Memory) damaged = inl (inr refl)

  -- if no tile is damaged, it names none
  pub undamaged-stores : (outer : Result U PublishError) → ((key : VoxelKey) → outer ≡ Err (TileDamaged key) → HasLine current key × Tells (IsDamaged current key) files) → (all : Files) → files ≡ Some all → HasNoDamage current all → IfErr outer IsStores
  undamaged-stores outer damaged all told none =
      no-tile-stores outer (λ key is. (
      let found = damaged key is in
      none key found.0 (subst (λ (o : Option Files). Tells (IsDamaged current key) o) told found.1)))
