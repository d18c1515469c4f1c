-- The files of the second reading: what each holds, where the reading is, and which points are left.
use Rattle.std.specs.Prelude.{◌≡◌, ◌≢◌, ℕ, ◌+◌, ◌-◌, ◌<◌, ◌≤◌, List, [], ◌∷◌, Option, Some, length, take, drop, map, sum_by, slice_get, slice_index_or, All, Any, Contains}
use Rattle.std.specs.List.{AllZip}
use Rattle.ept_base.specs.Files.{Tells}
use Rattle.ept_point.specs.declared.point.Point.{Point}
use Rattle.ept_space.specs.declared.bounds.Bounds.{Bounds}
use Rattle.ept_scan.specs.declared.reading.Reading.{Reading}
use Rattle.ept_scan.specs.declared.part.Part.{Part}
use Rattle.ept_scan.specs.declared.part.Cursor.{Cursor}
use Rattle.ept_scan.specs.declared.queue.Queue.{Queue}
use Rattle.ept_config.specs.Extents.{IsWithin}
use Rattle.ept_scan.specs.LasFile.{ArePointsOf}
use Rattle.ept_scan.specs.Scans.{in_order}
use Rattle.ept_scan.specs.Changes.{Differs, HasRecord}
use Rattle.ept_scan.specs.Places.{StandsAt, GivenAt}
use Rattle.ept_scan.specs.Reach.{ReadsNoFurther, TakesOfFile}

-- a file of which records were left: how it is read, how many points were found, and its bytes if they are visible
pub record Held : Type 0 where
  pub reading : Reading
  pub points : ℕ
  pub file : Option (List ℕ)

-- the bytes are visible, and read as the points that were found
pub record HoldsPoints (held : Held) (points : List Point) : Type 0 where
  pub file : List ℕ
  pub told : held.file ≡ Some file
  pub are : ArePointsOf held.reading file points
  pub count : length points ≡ held.points

-- the points of these files, without the first ones
pub record AreRest (ahead : List Held) (passed : ℕ) (points : List Point) : Type 0 where
  pub lists : List (List Point)
  pub hold : AllZip HoldsPoints ahead lists
  pub rest : points ≡ drop passed (in_order lists)

-- the point is of one of these files, and lies within the extent of its points
pub record LiesIn (files : List Held) (p : Point) : Type 0 where
  pub held : Held
  pub among : Contains files held
  pub origin : p.origin ≡ held.reading.origin
  pub extent : Bounds
  pub kept : held.reading.limits ≡ Some extent
  pub within : IsWithin extent p

-- From record `number` of this file on, `left` records of these files are left.
pub record IsNext (files : List Held) (left : ℕ) (file : Held) (number : ℕ) : Type 0 where
  pub index : ℕ
  pub is : slice_get files index ≡ Some file
  pub more : number < file.points
  pub left_is : number + left ≡ sum_by (λ held. held.points) (drop index files)

-- The point is that of the record from which on `left` records are left. It carries the record's file and number.
pub record IsDrawn (files : List Held) (left : ℕ) (p : Point) : Type 0 where
  pub held : Held
  pub next : IsNext files left held p.number
  pub origin : p.origin ≡ held.reading.origin
  pub record_is : Tells (λ file. HasRecord held.reading held.points file p.number p) held.file

-- these are the points of the next records, one after the other
abbrev pub AreDrawn : List Held → ℕ → List Point → Type 0
AreDrawn files left points = (k : ℕ) (d : Point) → k < length points
    → IsDrawn files (left - k) (slice_index_or points k d)

-- The file of the record from which on `left` records are left differs from what was found. It differs in its header,
-- or in this record.
pub record HasChanged (files : List Held) (left source n : ℕ) : Type 0 where
  pub held : Held
  pub number : ℕ
  pub next : IsNext files left held number
  pub origin : source ≡ held.reading.origin
  pub differs : Differs held.reading held.points held.file number n

-- the first record that differs among the next `most` records: those before it have points
pub record IsFirstChanged (files : List Held) (left most source n : ℕ) : Type 0 where
  pub before : List Point
  pub few : length before < most
  pub drawn : AreDrawn files left before
  pub changed : HasChanged files (left - length before) source n

module _ {S : Type 0} (whole : S → Option (List ℕ)) where
  abbrev pub held : Part S → Held
  held part = record { reading = part.reading; points = part.points; file = whole part.source }

  abbrev pub held_of : Queue S → List Held
  held_of queue = map held queue.parts.items

  -- the points that are left
  abbrev pub RestOf : Queue S → List Point → Type 0
  RestOf queue points = AreRest (map held (drop queue.at queue.parts.items)) queue.cursor.number points

-- how many records are left
abbrev pub records_left : {S : Type 0} → Queue S → ℕ
records_left queue = sum_by (λ part. part.points) (drop queue.at queue.parts.items) - queue.cursor.number

-- a source has failed
abbrev pub HasFault : {S : Type 0} → (S → ℕ) → Queue S → Type 0
HasFault faults queue = Any (λ part. faults part.source ≢ 0) queue.parts.items

-- a file has an extent within which its points have to lie
abbrev pub IsLimited : {S : Type 0} → Part S → Type 0
IsLimited part = (extent : Bounds) × (part.reading.limits ≡ Some extent)

module _ {S : Type 0} (whole left : S → Option (List ℕ)) where
  -- the file is at its first byte
  abbrev pub IsAtFront : Part S → Type 0
  IsAtFront part = left part.source ≡ whole part.source

  -- each file before the place was rewound after its last record
  abbrev pub AreRewound : Queue S → Type 0
  AreRewound queue = All IsAtFront (take queue.at queue.parts.items)

  -- no file was read further than its last record
  abbrev pub AreNear : Queue S → Type 0
  AreNear queue = All (λ part. ReadsNoFurther part.reading (whole part.source)
      (left part.source)) queue.parts.items

-- each file has given at most the bytes that may be read of it
abbrev pub GiveNoMore : {S : Type 0} → (S → Option (List ℕ)) → (S → ℕ) → Queue S → Type 0
GiveNoMore whole given queue = All (λ part. Tells (λ file. TakesOfFile part.reading file 0
    (given part.source)) (whole part.source)) queue.parts.items

module _ {S : Type 0} (whole left : S → Option (List ℕ)) (given : S → ℕ) where
  -- a file that was not begun
  pub record IsUnread (part : Part S) : Type 0 where
    pub some : 0 < part.points
    pub front : IsAtFront whole left part
    pub unread : given part.source ≡ 0

  -- the file that is read
  pub record IsCurrent (part : Part S) (cursor : Cursor) (window : List ℕ) : Type 0 where
    pub more : cursor.number < part.points
    pub at : StandsAt part.reading part.points (whole part.source)
        (left part.source) window cursor.number cursor.header
    pub given_at : GivenAt (given part.source) window cursor.number cursor.header

  abbrev pub StandsBefore : List (Part S) → Cursor → List ℕ → Type 0
  StandsBefore [] cursor window = cursor.number ≡ 0
  StandsBefore (part ∷ parts) cursor window = IsCurrent part cursor window × All IsUnread parts

  -- the files after the place are not begun, and the file at the place is read up to the next record
  pub record IsQueue (queue : Queue S) : Type 0 where
    pub within : queue.at ≤ length queue.parts.items
    pub stands : StandsBefore (drop queue.at queue.parts.items) queue.cursor queue.window
    pub limited : All IsLimited queue.parts.items
