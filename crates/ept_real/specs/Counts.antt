-- The counts that the objects over the real machine keep.
use Rattle.std.specs.Prelude.{ℕ}
use Rattle.ept_real.specs.declared.source.RealSource.{RealSource}
use Rattle.ept_real.specs.declared.shelf.RealShelf.{RealShelf}
use Rattle.ept_real.specs.declared.sink.RealSink.{RealSink}
use Rattle.ept_real.specs.declared.store.RealStore.{RealStore}
use Rattle.ept_real.specs.declared.link.RealLink.{RealLink}
use Rattle.ept_real.specs.declared.room.RealRoom.{RealRoom}
use Rattle.ept_real.specs.declared.room.RealSpill.{RealSpill}
use Rattle.ept_real.specs.declared.real_files.RealFiles.{RealFiles}

-- how often an object has failed
abbrev pub source_faults : {R F D : Type 0} → RealSource R F D → ℕ
source_faults source = source.faults

abbrev pub shelf_faults : {R F D : Type 0} → RealShelf R F D → ℕ
shelf_faults shelf = shelf.faults

abbrev pub sink_faults : {W : Type 0} → RealSink W → ℕ
sink_faults sink = sink.faults

abbrev pub store_faults : {R D F G : Type 0} → RealStore R D F G → ℕ
store_faults store = store.faults

abbrev pub files_faults : {R F D : Type 0} → RealFiles R F D → ℕ
files_faults files = files.faults

abbrev pub link_faults : {S : Type 0} → RealLink S → ℕ
link_faults link = link.faults

abbrev pub room_faults : {R F D : Type 0} → RealRoom R F D → ℕ
room_faults room = room.faults

abbrev pub spill_faults : {R F D : Type 0} → RealSpill R F D → ℕ
spill_faults spill = spill.faults

-- how many bytes a source gave, and the sources that a shelf took back
abbrev pub source_given : {R F D : Type 0} → RealSource R F D → ℕ
source_given source = source.given

abbrev pub shelf_given : {R F D : Type 0} → RealShelf R F D → ℕ
shelf_given shelf = shelf.given

-- how many calls of `get` a store had
abbrev pub store_gets : {R D F G : Type 0} → RealStore R D F G → ℕ
store_gets store = store.gets

-- how many calls of `keep` a spill file had, and the files that a room took back
abbrev pub spill_keeps : {R F D : Type 0} → RealSpill R F D → ℕ
spill_keeps spill = spill.keeps

abbrev pub room_keeps : {R F D : Type 0} → RealRoom R F D → ℕ
room_keeps room = room.keeps
