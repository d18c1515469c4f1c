-- What the refusals of the steps of a part are as refusals of the part.
use Rattle.std.specs.Prelude.{◌≡◌, ◌⊎◌, ℕ}
use Rattle.ept_base.specs.declared.errors.PutError.{PutError}
use Rattle.ept_base.specs.declared.errors.PutError.TheVariants as put
use Rattle.ept_scan.specs.declared.scan_error.ScanError.{ScanError}
use Rattle.ept_scan.specs.declared.scan_error.ScanError.TheVariants as scan
use Rattle.ept_scan.specs.declared.read_error.ReadError.{ReadError}
use Rattle.ept_scan.specs.declared.read_error.ReadError.TheVariants as read
use Rattle.ept_tree.specs.declared.tree_error.TreeError.{TreeError}
use Rattle.ept_tree.specs.declared.tree_error.TreeError.TheVariants as tree
use Rattle.ept_part.specs.declared.error.PartError.{PartError}
use Rattle.ept_part.specs.declared.error.PartError.TheVariants.{SourceFault, BadLas, OutOfBounds, TooManyPoints, NoBounds, SourceChanged, TooManyNodes, StoreFault, Memory}

abbrev pub of_scan : ScanError → PartError
of_scan scan.SourceFault = SourceFault
of_scan (scan.BadLas source fault) = BadLas source fault
of_scan (scan.OutOfBounds source number) = OutOfBounds source number
of_scan (scan.TooManyPoints source) = TooManyPoints source
of_scan scan.NoBounds = NoBounds
of_scan scan.Memory = Memory

abbrev pub of_read : ReadError → PartError
of_read read.SourceFault = SourceFault
of_read (read.SourceChanged source number) = SourceChanged source number
of_read read.Memory = Memory

abbrev pub of_tree : TreeError → PartError
of_tree tree.TooManyNodes = TooManyNodes
of_tree tree.Memory = Memory

abbrev pub of_put : PutError → PartError
of_put put.Failed = StoreFault
of_put put.Memory = Memory

-- a refusal of the store itself: it failed, or memory ran out
abbrev pub IsStores : PartError → Type 0
IsStores e = (e ≡ StoreFault) ⊎ (e ≡ Memory)

-- why the points of a part are not sampled
abbrev pub IsOfSampling : PartError → Type 0
IsOfSampling e = (e ≡ SourceFault) ⊎ (e ≡ TooManyNodes) ⊎ (e ≡ Memory) ⊎ ((source number : ℕ) × (e ≡ SourceChanged source number))
