-- Why the output is not put, and how the refusals of a store are reported.
use Rattle.std.specs.Prelude.{◌≡◌, ◌⊎◌}
use Rattle.ept_base.specs.declared.errors.PutError.{PutError}
use Rattle.ept_base.specs.declared.errors.PutError.TheVariants as put
use Rattle.ept_space.specs.VoxelKey.{VoxelKey}
use Rattle.ept_save.specs.Current.{Current}
use Rattle.ept_save.specs.Loading.{HasLine}
use Rattle.ept_publish.specs.declared.error.PublishError.{PublishError}
use Rattle.ept_publish.specs.declared.error.PublishError.TheVariants.{StoreFault, TileDamaged, Memory}

abbrev pub of_put : PutError → PublishError
of_put put.Failed = StoreFault
of_put put.Memory = Memory

-- the store failed, or memory ran out
abbrev pub IsStores : PublishError → Type 0
IsStores e = (e ≡ StoreFault) ⊎ (e ≡ Memory)

-- so it is, or a tile of the current checkpoint is damaged
abbrev pub IsFault : Current → PublishError → Type 0
IsFault current e = IsStores e ⊎ ((key : VoxelKey) × HasLine current key × (e ≡ TileDamaged key))
