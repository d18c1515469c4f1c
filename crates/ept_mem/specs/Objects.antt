-- What the objects in memory hold.
use Rattle.std.specs.Prelude.{◌≡◌, ℕ, Option, List, [], length, map, drop, string_bytes}
use Rattle.ept_base.specs.Files.{Files}
use Rattle.ept_mem.specs.Named.{content_of}
use Rattle.ept_mem.specs.Disk.{Disk, disk, IsImage, WasImageSince}
use Rattle.ept_mem.specs.declared.plan.Plan.{Plan}
use Rattle.ept_mem.specs.declared.plan.FusedPlan.{FusedPlan}
use Rattle.ept_mem.specs.declared.source.MemSource.{MemSource}
use Rattle.ept_mem.specs.declared.source.MemShelf.{MemShelf}
use Rattle.ept_mem.specs.declared.sink.MemSink.{MemSink}
use Rattle.ept_mem.specs.declared.spill.MemSpill.{MemSpill}
use Rattle.ept_mem.specs.declared.spill.MemRoom.{MemRoom}
use Rattle.ept_mem.specs.declared.store.MemStore.{MemStore}
use Rattle.ept_mem.specs.declared.link.MemLink.{MemLink}
use Rattle.ept_mem.specs.Cut.{bytes_of_all, rest_of_piece}
use Rattle.ept_base.specs.Links.{Wire}

-- the bytes of a source
abbrev pub source_bytes : MemSource → List ℕ
source_bytes source = source.bytes.items

-- its bytes from its place to the end
abbrev pub source_left : MemSource → List ℕ
source_left source = drop source.place source.bytes.items

-- the map from path to bytes of a shelf
abbrev pub shelf_files : MemShelf → Files
shelf_files shelf = content_of shelf.files.items

-- the paths that a shelf was asked to open, in order
abbrev pub shelf_asked : MemShelf → List (List ℕ)
shelf_asked shelf = map string_bytes shelf.asked.items

-- the bytes written to a sink
abbrev pub sink_bytes : MemSink → List ℕ
sink_bytes sink = sink.bytes.items

-- what comes and goes over a link
abbrev pub link_wire : MemLink → Wire
link_wire link = record {
  taken = link.taken.items;
  left = drop (length link.taken.items) (bytes_of_all link.pieces.items);
  written = link.written.items;
  reads = link.reads.items;
}

-- what a read of a link gives at most: the rest of the piece that it is in
abbrev pub link_piece : MemLink → List ℕ
link_piece link = rest_of_piece link.pieces.items (length link.taken.items)

-- the bytes that a spill file holds
abbrev pub spill_bytes : MemSpill → List ℕ
spill_bytes spill = spill.held.items

-- which calls are to fail, and how many there were
abbrev pub source_plan : MemSource → Plan
source_plan source = source.plan

abbrev pub shelf_plan : MemShelf → Plan
shelf_plan shelf = shelf.plan

abbrev pub sink_plan : MemSink → Plan
sink_plan sink = sink.plan

abbrev pub link_plan : MemLink → Plan
link_plan link = link.plan

abbrev pub spill_plan : MemSpill → Plan
spill_plan spill = spill.plan

abbrev pub room_plan : MemRoom → Plan
room_plan room = room.plan

abbrev pub store_plan : MemStore → FusedPlan
store_plan store = store.plan

-- how many bytes a sink takes in a write, at most
abbrev pub sink_most : MemSink → ℕ
sink_most sink = sink.most

-- how many calls there were
abbrev pub source_calls : MemSource → ℕ
source_calls source = source.plan.calls

abbrev pub shelf_calls : MemShelf → ℕ
shelf_calls shelf = shelf.plan.calls

abbrev pub sink_calls : MemSink → ℕ
sink_calls sink = sink.plan.calls

abbrev pub link_calls : MemLink → ℕ
link_calls link = link.plan.calls

abbrev pub spill_calls : MemSpill → ℕ
spill_calls spill = spill.plan.calls

abbrev pub room_calls : MemRoom → ℕ
room_calls room = room.plan.calls

abbrev pub store_calls : MemStore → ℕ
store_calls store = store.plan.plan.calls

-- the numbers of the calls that are to fail, and of those of the sources and files that an object makes
abbrev pub source_fails : MemSource → List ℕ
source_fails source = source.plan.fails.items

abbrev pub shelf_fails : MemShelf → List ℕ
shelf_fails shelf = shelf.plan.fails.items

abbrev pub shelf_source_fails : MemShelf → List ℕ
shelf_source_fails shelf = shelf.source_fails.items

abbrev pub sink_fails : MemSink → List ℕ
sink_fails sink = sink.plan.fails.items

abbrev pub link_fails : MemLink → List ℕ
link_fails link = link.plan.fails.items

abbrev pub spill_fails : MemSpill → List ℕ
spill_fails spill = spill.plan.fails.items

abbrev pub room_fails : MemRoom → List ℕ
room_fails room = room.plan.fails.items

abbrev pub room_file_fails : MemRoom → List ℕ
room_file_fails room = room.file_fails.items

abbrev pub store_fails : MemStore → List ℕ
store_fails store = store.plan.plan.fails.items

-- how many more calls a store's fuse passes, if it has one
abbrev pub store_fuse : MemStore → Option ℕ
store_fuse store = store.plan.fuse

-- the counts of faults
abbrev pub source_faults : MemSource → ℕ
source_faults source = source.plan.faults

abbrev pub shelf_faults : MemShelf → ℕ
shelf_faults shelf = shelf.plan.faults

abbrev pub sink_faults : MemSink → ℕ
sink_faults sink = sink.plan.faults

abbrev pub link_faults : MemLink → ℕ
link_faults link = link.plan.faults

abbrev pub spill_faults : MemSpill → ℕ
spill_faults spill = spill.plan.faults

abbrev pub room_faults : MemRoom → ℕ
room_faults room = room.plan.faults

abbrev pub store_faults : MemStore → ℕ
store_faults store = store.plan.plan.faults

-- how many bytes a source gave, and how many the sources gave that a shelf took back
abbrev pub source_given : MemSource → ℕ
source_given source = source.given

abbrev pub shelf_given : MemShelf → ℕ
shelf_given shelf = shelf.given

-- the counts of calls of `keep`, and of `get`
abbrev pub spill_keeps : MemSpill → ℕ
spill_keeps spill = spill.keeps

abbrev pub room_keeps : MemRoom → ℕ
room_keeps room = room.keeps

abbrev pub store_gets : MemStore → ℕ
store_gets store = store.gets

-- a source as it is opened: at its start, without a fault and unread, and these calls of it are to fail
pub record IsFresh (source : MemSource) (fails : List ℕ) : Type 0 where
  pub at_start : source_left source ≡ source_bytes source
  pub sound : source_faults source ≡ 0
  pub unread : source_given source ≡ 0
  pub unused : source_calls source ≡ 0
  pub listed : source_fails source ≡ fails

-- a spill file as it is made: empty, without a fault and unused, and these calls of it are to fail
pub record IsFreshFile (file : MemSpill) (fails : List ℕ) : Type 0 where
  pub empty : spill_bytes file ≡ []
  pub sound : spill_faults file ≡ 0
  pub unused : spill_calls file ≡ 0
  pub unkept : spill_keeps file ≡ 0
  pub listed : spill_fails file ≡ fails

-- what a store's calls made of its files
abbrev pub store_disk : MemStore → Disk
store_disk store = disk (content_of store.first.items) store.calls.items

abbrev pub store_files : MemStore → Files
store_files store = (store_disk store).reads

-- the images that a crash now may leave, and since the moment t
abbrev pub store_images : MemStore → Files → Type 0
store_images store files = IsImage (store_disk store) files

abbrev pub store_images_since : MemStore → ℕ → Files → Type 0
store_images_since store t files = WasImageSince (content_of store.first.items) store.calls.items t files

-- the number of calls that wrote, removed or synced
abbrev pub store_moment : MemStore → ℕ
store_moment store = length store.calls.items
