-- Refusals before anything is put, and those while tiles are put.
use Rattle.std.proofs.Common.{◌≡◌, ◌≢◌, ◌∙◌, inl, inr, ℕ, sym, ap, Option, Some}
use Rattle.std.specs.Prelude.{Result, Ok, Err, IfErr}
use Rattle.ept_base.specs.Files.{Files, SameFiles}
use Rattle.ept_base.specs.Moves.{Moves}
use Rattle.ept_save.specs.declared.error.SaveError.{SaveError}
use Rattle.ept_save.specs.Errors as save
use Rattle.ept_merge.specs.declared.error.MergeError.{MergeError}
use Rattle.ept_merge.specs.declared.error.MergeError.TheVariants.{StoreFault, SourceFault, PartDamaged, Memory}
use Rattle.ept_merge.specs.Errors.{of_save, IsOfTiles}
use Rattle.ept_merge.proofs.Reading.{reads-both}
use Rattle.ept_merge.proofs.Steps.{saved-stores}

abbrev Outcome : Type 0
Outcome = Result (Unit {0}) MergeError

pub saved-tiles : (e : SaveError) → save.IsStores e → IsOfTiles (of_save e)
saved-tiles e stores = inl (saved-stores e stores)

pub tiles-no_source : (e : MergeError) → IsOfTiles e → e ≢ SourceFault
tiles-no_source e (inl (inl is)) same = let other : StoreFault ≡ SourceFault = sym is ∙ same in cc
tiles-no_source e (inl (inr is)) same = let other : Memory ≡ SourceFault = sym is ∙ same in cc
tiles-no_source e (inr (octants, key, is)) same = let other : PartDamaged octants (Some key) ≡ SourceFault = sym is ∙ same in cc

pub put-no_source : (r : Outcome) → IfErr r IsOfTiles → r ≢ Err SourceFault
put-no_source (Ok u) only same = cc
put-no_source (Err e) only same = tiles-no_source e only (ap error_in same)
  where
    error_in : Outcome → MergeError
    error_in (Ok u) = e
    error_in (Err other) = other

module _ {D : Type 0} (files : D → Option Files) (may_leave : D → Files → Type 0) (moment : D → ℕ) (image_since : D → ℕ → Files → Type 0) where
  abbrev Early : Outcome → D → D → Type 0
  Early r old new = IfErr r (λ e. ¬ IsOfTiles e → Moves files may_leave moment image_since SameFiles old new)

  -- a refusal while tiles are put says nothing here
  pub early-put : (r : Outcome) (old new : D) → IfErr r IsOfTiles → Early r old new
  early-put (Ok u) old new only = tt
  early-put (Err e) old new only = λ none. absurd (none only)

  -- after a store that is only read
  pub early-both : (r : Outcome) (old mid new : D) → Moves files may_leave moment image_since SameFiles old mid → Early r mid new → Early r old new
  early-both (Ok u) old mid new first second = tt
  early-both (Err e) old mid new first second = λ none. reads-both files may_leave moment image_since old mid new first (second none)
