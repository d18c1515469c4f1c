-- What a store over a folder has to flush, what it has flushed, and whether it still can.
use Rattle.std.specs.Prelude.{◌≡◌, ℕ, List, [], Bool, Contains}
use Rattle.ept_base.specs.Files.{Files}
use Rattle.ept_real.specs.Paths.{store_folder}
use Rattle.ept_real.specs.Ways.{Keeps, KeepsBut, IsOnWay}
use Rattle.ept_real.specs.declared.store.RealStore.{RealStore}

-- the names whose files the next sync has to flush
abbrev pub names_to_flush : {R D F G : Type 0} → RealStore R D F G → List (List ℕ)
names_to_flush store = store.unsynced.names

-- the paths of the folders that the next sync has to flush, for the sake of their entries
abbrev pub folders_to_flush : {R D F G : Type 0} → RealStore R D F G → List (List ℕ)
folders_to_flush store = store.unsynced.folders

-- the names whose files this store has flushed since it last wrote or removed them
abbrev pub flushed : {R D F G : Type 0} → RealStore R D F G → List (List ℕ)
flushed store = store.flushed

-- whether a sync was refused
abbrev pub sync_refused : {R D F G : Type 0} → RealStore R D F G → Bool
sync_refused store = store.refused

-- the next sync has to flush each folder on the way to this name
abbrev pub HasWayToFlush : {R D F G : Type 0} → RealStore R D F G → List ℕ → Type 0
HasWayToFlush store name = (folder : List ℕ) → IsOnWay (store_folder store) name folder → Contains (folders_to_flush store) folder

-- the next sync has to flush the file of this name, and each folder on the way to it
abbrev pub HasToFlush : {R D F G : Type 0} → RealStore R D F G → List ℕ → Type 0
HasToFlush store name = Contains (names_to_flush store) name × HasWayToFlush store name

-- nothing is left to flush
abbrev pub IsFlushed : {R D F G : Type 0} → RealStore R D F G → Type 0
IsFlushed store = (names_to_flush store ≡ []) × (folders_to_flush store ≡ [])

-- what was left to flush still is
abbrev pub KeepsToFlush : {R D F G : Type 0} → RealStore R D F G → RealStore R D F G → Type 0
KeepsToFlush old new = Keeps (names_to_flush old) (names_to_flush new) × Keeps (folders_to_flush old) (folders_to_flush new)

-- the same, except for the file of this name
abbrev pub KeepsToFlushBut : {R D F G : Type 0} → List ℕ → RealStore R D F G → RealStore R D F G → Type 0
KeepsToFlushBut name old new = KeepsBut name (names_to_flush old) (names_to_flush new) × Keeps (folders_to_flush old) (folders_to_flush new)

-- no image of a folder of the machine is visible, now or since any moment
abbrev pub no_image : Files → Type 0
no_image _ = ⊥

abbrev pub no_image_since : ℕ → Files → Type 0
no_image_since _ _ = ⊥
