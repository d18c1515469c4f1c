-- What refuses a merge after the scan is no fault of a source.
use Rattle.std.proofs.Common.{◌≡◌, ◌≢◌, ◌∙◌, ◌⊎◌, inl, inr, ℕ, List, sym, None}
use Rattle.std.specs.Prelude.{Result, Err}
use Rattle.ept_save.specs.declared.error.SaveError.{SaveError}
use Rattle.ept_save.specs.declared.error.SaveError.TheVariants as save
use Rattle.ept_merge.specs.declared.error.MergeError.{MergeError}
use Rattle.ept_merge.specs.declared.error.MergeError.TheVariants.{StoreFault, SourceFault, NoPart, PartDamaged, Memory}
use Rattle.ept_merge.specs.declared.bodies.PartBody.{PartBody}
use Rattle.ept_merge.specs.Errors.{of_save, IsStores}
use Rattle.ept_merge.specs.Putting.{IsMisfit}

err-same : {X : Type 0} (r : Result X MergeError) (a b : MergeError) → r ≡ Err a → r ≡ Err b → a ≡ b
err-same r a b one other = cc

save-no_source : (e : SaveError) → of_save e ≢ SourceFault
save-no_source save.StoreFault is = cc
save-no_source (save.BadCheckpoint letter) is = cc
save-no_source (save.TileDamaged key) is = cc
save-no_source save.Memory is = cc

-- a result that has the refusal of a saved folder
pub saved-no_source : {X : Type 0} (r : Result X MergeError) (a : MergeError) (e : SaveError) → r ≡ Err a → a ≡ of_save e → r ≢ Err SourceFault
saved-no_source r a e is from same = save-no_source e (sym from ∙ err-same r a SourceFault is same)

-- a result that has a refusal which is no fault of a source
pub passed-no_source : {X : Type 0} (r : Result X MergeError) (a e : MergeError) → r ≡ Err a → a ≡ e → e ≢ SourceFault → r ≢ Err SourceFault
passed-no_source r a e is from none same = none (sym from ∙ err-same r a SourceFault is same)

stores-no_source : (e : MergeError) → IsStores e → e ≢ SourceFault
stores-no_source e (inl is) same = let other : StoreFault ≡ SourceFault = sym is ∙ same in cc
stores-no_source e (inr is) same = let other : Memory ≡ SourceFault = sym is ∙ same in cc

pub body-no_source : (octants : ℕ) (e : MergeError) → ((e ≡ NoPart octants) ⊎ (e ≡ PartDamaged octants None) ⊎ IsStores e) → e ≢ SourceFault
body-no_source octants e (inl is) same = let other : NoPart octants ≡ SourceFault = sym is ∙ same in cc
body-no_source octants e (inr (inl is)) same = let other : PartDamaged octants None ≡ SourceFault = sym is ∙ same in cc
body-no_source octants e (inr (inr is)) same = stores-no_source e is same

pub misfit-no_source : (parts : List PartBody) (points : ℕ) (e : MergeError) → (e ≡ Memory) ⊎ IsMisfit parts points e → e ≢ SourceFault
misfit-no_source parts points e (inl is) same = let other : Memory ≡ SourceFault = sym is ∙ same in cc
misfit-no_source parts points e (inr (octants, is, last, misfit)) same = let other : PartDamaged octants None ≡ SourceFault = sym is ∙ same in cc
