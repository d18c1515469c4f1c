-- The paths of files.
use Rattle.std.specs.Prelude.{ℕ, List, ◌++◌, Option, Some, None, option_map, string_bytes, codes}
use Rattle.std.specs.Fmt.{decimal}
use Rattle.ept_real.specs.declared.room.RealRoom.{RealRoom}
use Rattle.ept_real.specs.declared.room.RealSpill.{RealSpill}
use Rattle.ept_real.specs.declared.shelf.RealShelf.{RealShelf}
use Rattle.ept_real.specs.declared.source.RealSource.{RealSource}
use Rattle.ept_real.specs.declared.store.RealStore.{RealStore}

-- the path of a store's folder
abbrev pub store_folder : {R D F G : Type 0} → RealStore R D F G → List ℕ
store_folder store = store.folder.now

-- the path of the folder of a room, and of a spill file
abbrev pub room_folder : {R F D : Type 0} → RealRoom R F D → List ℕ
room_folder room = room.folder.now

abbrev pub spill_folder : {R F D : Type 0} → RealSpill R F D → List ℕ
spill_folder spill = spill.folder.now

-- the slot for which a spill file was made
abbrev pub slot_of : {R F D : Type 0} → RealSpill R F D → ℕ
slot_of spill = spill.slot

-- the name of its file in the folder: the number of the slot
abbrev pub spill_name : {R F D : Type 0} → RealSpill R F D → List ℕ
spill_name spill = decimal spill.slot ++ codes ".bin"

-- the path of a source's file
abbrev pub source_path : {R F D : Type 0} → RealSource R F D → List ℕ
source_path source = string_bytes source.path

-- the path of the first file of a shelf that failed
abbrev pub shelf_refused : {R F D : Type 0} → RealShelf R F D → Option (List ℕ)
shelf_refused shelf = option_map string_bytes shelf.refused

-- the first path, where there was none before
abbrev pub first_of : Option (List ℕ) → List ℕ → Option (List ℕ)
first_of None path = Some path
first_of (Some first) path = Some first
