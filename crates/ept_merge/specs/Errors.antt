-- What the refusals of the steps of a merge are as refusals of the merge.
use Rattle.std.specs.Prelude.{◌≡◌, ◌⊎◌, ℕ, Some}
use Rattle.ept_base.specs.declared.errors.GetError.{GetError}
use Rattle.ept_base.specs.declared.errors.GetError.TheVariants as get
use Rattle.ept_space.specs.VoxelKey.{VoxelKey}
use Rattle.ept_scan.specs.declared.scan_error.ScanError.{ScanError}
use Rattle.ept_scan.specs.declared.scan_error.ScanError.TheVariants as scan
use Rattle.ept_save.specs.declared.error.SaveError.{SaveError}
use Rattle.ept_save.specs.declared.error.SaveError.TheVariants as save
use Rattle.ept_merge.specs.declared.error.MergeError.{MergeError}
use Rattle.ept_merge.specs.declared.error.MergeError.TheVariants.{StoreFault, BadCheckpoint, SourceFault, BadLas, OutOfBounds, TooManyPoints, NoBounds, PartDamaged, Memory}

abbrev pub of_scan : ScanError → MergeError
of_scan scan.SourceFault = SourceFault
of_scan (scan.BadLas source fault) = BadLas source fault
of_scan (scan.OutOfBounds source number) = OutOfBounds source number
of_scan (scan.TooManyPoints source) = TooManyPoints source
of_scan scan.NoBounds = NoBounds
of_scan scan.Memory = Memory

abbrev pub of_save : SaveError → MergeError
of_save save.StoreFault = StoreFault
of_save (save.BadCheckpoint letter) = BadCheckpoint letter
of_save (save.TileDamaged key) = Memory
of_save save.Memory = Memory

abbrev pub of_get : GetError → MergeError
of_get get.Failed = StoreFault
of_get get.Memory = Memory

-- a refusal of the store itself: it failed, or memory ran out
abbrev pub IsStores : MergeError → Type 0
IsStores e = (e ≡ StoreFault) ⊎ (e ≡ Memory)

-- a refusal that may come while tiles are put: one of the store itself, or a damaged tile
abbrev pub IsOfTiles : MergeError → Type 0
IsOfTiles e = IsStores e ⊎ ((octants : ℕ) × (key : VoxelKey) × (e ≡ PartDamaged octants (Some key)))
