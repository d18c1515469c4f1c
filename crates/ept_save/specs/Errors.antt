-- How the refusals of a store are reported.
use Rattle.std.specs.Prelude.{◌≡◌, ◌⊎◌}
use Rattle.ept_base.specs.declared.errors.GetError.{GetError}
use Rattle.ept_base.specs.declared.errors.GetError.TheVariants as get
use Rattle.ept_base.specs.declared.errors.PutError.{PutError}
use Rattle.ept_base.specs.declared.errors.PutError.TheVariants as put
use Rattle.ept_save.specs.declared.error.SaveError.{SaveError}
use Rattle.ept_save.specs.declared.error.SaveError.TheVariants.{StoreFault, Memory}

abbrev pub of_get : GetError → SaveError
of_get get.Failed = StoreFault
of_get get.Memory = Memory

abbrev pub of_put : PutError → SaveError
of_put put.Failed = StoreFault
of_put put.Memory = Memory

-- a refusal of the store itself: it failed, or memory ran out
abbrev pub IsStores : SaveError → Type 0
IsStores e = (e ≡ StoreFault) ⊎ (e ≡ Memory)
