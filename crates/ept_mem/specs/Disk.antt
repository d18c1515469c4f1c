-- What a store's calls make of its files, and what a crash may leave of them.
use Rattle.std.specs.Prelude.{◌≡◌, ℕ, ◌≤◌, Bool, List, [], ◌∷◌, Option, Some, None, Vec, option_map, string_bytes, bytes_eq, fold, length, take, Contains, if◌then◌else◌}
use Rattle.std.specs.List.{list_any}
use Rattle.std.specs.declared.alloc.Global.{Global}
use Rattle.ept_mem.specs.declared.store.Call.{Call}
use Rattle.ept_mem.specs.declared.store.Call.TheVariants.{Write, Sync, Crashed}
use Rattle.ept_mem.specs.declared.crash.Crash.{Crash}
use Rattle.ept_mem.specs.declared.crash.Crash.TheVariants.{Old, New, Absent, Junk}
use Rattle.ept_base.specs.Files.{Files, changed, SameFiles}

-- the files that are read, those that a sync flushed, and the names written or removed since
pub record Disk : Type 0 where
  pub reads : Files
  pub stable : Files
  pub touched : List (List ℕ)

-- every name as at the last sync
abbrev pub settled : Files → Disk
settled files = record { reads = files; stable = files; touched = [] }

abbrev pub bytes_of : Option (Vec ℕ Global) → Option (List ℕ)
bytes_of content = option_map (λ (bytes : Vec ℕ Global). bytes.items) content

-- the name was written or removed since the last sync
abbrev pub is_touched : Disk → List ℕ → Bool
is_touched disk name = list_any (λ written. bytes_eq name written) disk.touched

-- what a crash of this kind leaves of a name that was written or removed since the last sync
abbrev pub left_of : Crash → Disk → Files
left_of Old disk name = disk.stable name
left_of New disk name = disk.reads name
left_of Absent disk name = None
left_of Junk disk name = Some (255 ∷ [])

-- what it leaves of all names: each other name is as it was flushed
abbrev pub crashed : Crash → Disk → Files
crashed how disk = λ name. if is_touched disk name then left_of how disk name else disk.stable name

-- the name was made to read as this content, or to be missing
abbrev pub written : Disk → List ℕ → Option (List ℕ) → Disk
written disk name content = record {
  reads = changed disk.reads name content;
  stable = disk.stable;
  touched = name ∷ disk.touched;
}

-- after one more call
abbrev pub after : Disk → Call → Disk
after disk (Write name content) = written disk (string_bytes name) (bytes_of content)
after disk Sync = settled disk.reads
after disk (Crashed name content how) = settled (crashed how (written disk (string_bytes name) (bytes_of content)))

-- all of the calls, the first call first
abbrev pub disk : Files → List Call → Disk
disk first calls = fold after (settled first) calls

-- A crash may leave these files. A name that was not touched since the last sync reads as it was flushed. A touched one
-- may be missing or hold any bytes.
abbrev pub IsImage : Disk → Files → Type 0
IsImage disk files = (name : List ℕ) → ¬ Contains disk.touched name → files name ≡ disk.stable name

-- a crash after some number of calls, at least t, may have left these files
abbrev pub WasImageSince : Files → List Call → ℕ → Files → Type 0
WasImageSince first calls t files = (k : ℕ) × (t ≤ k) × (k ≤ length calls) × IsImage (disk first (take k calls)) files

-- each image may have anything under this name instead
abbrev pub MaySpoil : List ℕ → (Files → Type 0) → (Files → Type 0) → Type 0
MaySpoil name old new = (image : Files) (content : Option (List ℕ)) → old image → new (changed image name content)

-- a crash of this kind made the new one from the old one, with every name as after a sync
pub record IsCrashOf (how : Crash) (old new : Disk) : Type 0 where
  pub reads : SameFiles (crashed how old) new.reads
  pub stable : SameFiles (crashed how old) new.stable
  pub untouched : new.touched ≡ []

-- what is known of one name
pub record Knows (disk : Disk) (name : List ℕ) (reads stable : Option (List ℕ)) (touched : Bool) : Type 0 where
  pub read : disk.reads name ≡ reads
  pub kept : disk.stable name ≡ stable
  pub since : is_touched disk name ≡ touched
