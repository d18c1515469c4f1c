-- What the objects in memory that never fail hold.
use Rattle.std.specs.Prelude.{ℕ, List, [], Some, None, unwrap_or}
use Rattle.ept_base.specs.Files.{Files}
use Rattle.ept_mem.specs.Objects.{source_bytes, source_left, source_given, shelf_files, shelf_given, shelf_asked, spill_bytes, spill_keeps, room_keeps, store_files, store_images, store_images_since, store_moment, store_gets}
use Rattle.ept_mem_infallible.specs.declared.shelf.SureSource.{SureSource}
use Rattle.ept_mem_infallible.specs.declared.shelf.SureShelf.{SureShelf}
use Rattle.ept_mem_infallible.specs.declared.room.SureFile.{SureFile}
use Rattle.ept_mem_infallible.specs.declared.room.SureRoom.{SureRoom}
use Rattle.ept_mem_infallible.specs.declared.store.SureStore.{SureStore}

-- ---- files

-- no name has a file
abbrev pub no_files : Files
no_files = λ name. None

-- each name has a file: the one that these files have for it, or otherwise an empty one
abbrev pub or_empty : Files → Files
or_empty files = λ name. Some (unwrap_or (files name) [])

-- ---- sources

-- the bytes of a source, those from its place to its end, and how many it has given
abbrev pub source_bytes_of : SureSource → List ℕ
source_bytes_of source = source_bytes source.source

abbrev pub source_left_of : SureSource → List ℕ
source_left_of source = source_left source.source

abbrev pub source_given_of : SureSource → ℕ
source_given_of source = source_given source.source

-- the map from path to bytes of a shelf
abbrev pub shelf_files_of : SureShelf → Files
shelf_files_of shelf = or_empty (shelf_files shelf.shelf)

-- how many bytes its sources have given that it took back, and the paths that it was asked to open
abbrev pub shelf_given_of : SureShelf → ℕ
shelf_given_of shelf = shelf_given shelf.shelf

abbrev pub shelf_asked_of : SureShelf → List (List ℕ)
shelf_asked_of shelf = shelf_asked shelf.shelf

-- ---- spill files

-- the bytes that a spill file holds, and the counts of calls of `keep`
abbrev pub file_bytes_of : SureFile → List ℕ
file_bytes_of file = spill_bytes file.file

abbrev pub file_keeps_of : SureFile → ℕ
file_keeps_of file = spill_keeps file.file

abbrev pub room_keeps_of : SureRoom → ℕ
room_keeps_of room = room_keeps room.room

-- ---- the store

-- what a store reads
abbrev pub store_files_of : SureStore → Files
store_files_of store = store_files store.store

-- the images that a crash now may leave, and since the moment t
abbrev pub store_images_of : SureStore → Files → Type 0
store_images_of store = store_images store.store

abbrev pub store_images_since_of : SureStore → ℕ → Files → Type 0
store_images_since_of store = store_images_since store.store

-- the number of calls that put, removed or synced
abbrev pub store_moment_of : SureStore → ℕ
store_moment_of store = store_moment store.store

-- the count of calls of `get`
abbrev pub store_gets_of : SureStore → ℕ
store_gets_of store = store_gets store.store
