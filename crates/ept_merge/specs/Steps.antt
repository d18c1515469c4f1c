-- What a merge begins from, and why it does not begin.
use Rattle.std.specs.Prelude.{◌≡◌, false, [], Some, None, ⊤}
use Rattle.ept_base.specs.Files.{Files}
use Rattle.ept_config.specs.declared.config.Config.{Config}
use Rattle.ept_scan.specs.declared.scan_error.ScanError.TheVariants as scan
use Rattle.ept_ckpt.specs.declared.letter.Letter.{Letter}
use Rattle.ept_ckpt.specs.declared.checkpoint.Checkpoint.{Checkpoint}
use Rattle.ept_save.specs.Current.{HasCurrent}
use Rattle.ept_save.specs.Opening.{IsBad}
use Rattle.ept_save.specs.View.{View}
use Rattle.ept_part.specs.Scanned.{AreRefused, rules_by, OfScan}
use Rattle.ept_merge.specs.declared.error.MergeError.{MergeError}
use Rattle.ept_merge.specs.declared.error.MergeError.TheVariants.{StoreFault, BadCheckpoint, HasCheckpoint, SourceFault, BadLas, OutOfBounds, TooManyPoints, NoBounds, Shallow, NoPart, PartDiffers, PartDamaged, TooManyNodes, Memory}
use Rattle.ept_merge.specs.Merging.{IsInRange}

-- no checkpoint is current, and no line is there for the next one
abbrev pub IsFresh : View → Type 0
IsFresh view = view ≡ record { current = None; lines = []; begun = false }

-- why a folder is not opened for a merge; a fault of the store and out of memory say nothing
abbrev pub IsOpenFault : Files → MergeError → Type 0
IsOpenFault files StoreFault = ⊤
IsOpenFault files (BadCheckpoint letter) = IsBad files letter
IsOpenFault files (HasCheckpoint generation) = (letter : Letter) × (c : Checkpoint) × HasCurrent (Some (letter, c)) files × (c.generation ≡ generation)
IsOpenFault files SourceFault = ⊥
IsOpenFault files (BadLas source fault) = ⊥
IsOpenFault files (OutOfBounds source number) = ⊥
IsOpenFault files (TooManyPoints source) = ⊥
IsOpenFault files NoBounds = ⊥
IsOpenFault files Shallow = ⊥
IsOpenFault files (NoPart octants) = ⊥
IsOpenFault files (PartDiffers octants) = ⊥
IsOpenFault files (PartDamaged octants key) = ⊥
IsOpenFault files TooManyNodes = ⊥
IsOpenFault files Memory = ⊤

-- why there is no plan of the inputs; a fault of the shelf and out of memory say nothing
abbrev pub IsPlanFault : Files → Config → MergeError → Type 0
IsPlanFault shelf config StoreFault = ⊥
IsPlanFault shelf config (BadCheckpoint letter) = ⊥
IsPlanFault shelf config (HasCheckpoint generation) = ⊥
IsPlanFault shelf config SourceFault = ⊤
IsPlanFault shelf config (BadLas source fault) = AreRefused shelf config (scan.BadLas source fault)
IsPlanFault shelf config (OutOfBounds source number) = AreRefused shelf config (scan.OutOfBounds source number)
IsPlanFault shelf config (TooManyPoints source) = AreRefused shelf config (scan.TooManyPoints source)
IsPlanFault shelf config NoBounds = AreRefused shelf config scan.NoBounds
IsPlanFault shelf config Shallow = OfScan shelf config (λ points done. ((rules_by config done).cube.depth ≡ 0) × IsInRange done)
IsPlanFault shelf config (NoPart octants) = ⊥
IsPlanFault shelf config (PartDiffers octants) = ⊥
IsPlanFault shelf config (PartDamaged octants key) = ⊥
IsPlanFault shelf config TooManyNodes = ⊥
IsPlanFault shelf config Memory = ⊤
