-- The second reading, as its callers see it.
use Rattle.std.specs.Prelude.{◌≡◌, ◌≢◌, ℕ, ◌+◌, ◌^◌, ◌<◌, min, List, Option, Some, None}
use Rattle.ept_point.specs.declared.point.Point.{Point}
use Rattle.ept_scan.specs.declared.read_error.ReadError.{ReadError}
use Rattle.ept_scan.specs.declared.read_error.ReadError.TheVariants.{SourceFault, SourceChanged, Memory}
use Rattle.ept_scan.specs.declared.second_reading.Reader.{Reader}
use Rattle.ept_scan.specs.Queue as queue

-- how many records were drawn, counted from the first record of the first input
abbrev pub drawn_of : {S : Type 0} → Reader S → ℕ
drawn_of reader = reader.drawn

-- how many more records may be drawn
abbrev pub allowed_of : {S : Type 0} → Reader S → ℕ
allowed_of reader = reader.allowed

-- how many of the records that the counts state are left
abbrev pub left_of : {S : Type 0} → Reader S → ℕ
left_of reader = reader.left

-- the refusal that it returns from now on, if there is one
abbrev pub refusal_of : {S : Type 0} → Reader S → Option ReadError
refusal_of reader = reader.refused

-- how many records a batch of at most n has: at most those that are allowed, and those that are left
abbrev pub batch_of : {S : Type 0} → ℕ → Reader S → ℕ
batch_of n reader = min n (min (allowed_of reader) (left_of reader))

-- a source has failed
abbrev pub HasFault : {S : Type 0} → (S → ℕ) → Reader S → Type 0
HasFault faults reader = queue.HasFault faults reader.queue

module _ {S : Type 0} (whole : S → Option (List ℕ)) where
  -- the files that are read: how each is read, how many points were found in it, and its bytes if they are visible
  abbrev pub files_of : Reader S → List queue.Held
  files_of reader = queue.held_of whole reader.queue

  -- the points that are left, if the sources hold the bytes that were scanned
  abbrev pub IsRest : Reader S → List Point → Type 0
  IsRest reader points = queue.RestOf whole reader.queue points

  -- The first of the records that are left that differs from what was found. Those before it have points. The input and
  -- the number are those of the difference.
  abbrev pub IsNextChange : Reader S → ℕ → ℕ → Type 0
  IsNextChange reader source n =
      queue.IsFirstChanged (files_of reader) (left_of reader) (left_of reader) source n

-- no source was read further than the last record that its header states
abbrev pub ReadsNoFurther : {S : Type 0} → (S → Option (List ℕ)) → (S → Option (List ℕ)) → Reader S → Type 0
ReadsNoFurther whole left reader = queue.AreNear whole left reader.queue

-- Each source has given at most the bytes that may belong to a header, or those up to the last record of an accepted
-- header.
abbrev pub GivesNoMore : {S : Type 0} → (S → Option (List ℕ)) → (S → ℕ) → Reader S → Type 0
GivesNoMore whole given reader = queue.GiveNoMore whole given reader.queue

-- each source was rewound after its last record was drawn
abbrev pub AreRewound : {S : Type 0} → (S → Option (List ℕ)) → (S → Option (List ℕ)) → Reader S → Type 0
AreRewound whole left reader = queue.AreRewound whole left reader.queue

-- A reader is before the next record, or has a refusal. If that is a fault of a source, a source has failed. If it is a
-- change, its numbers are those of the next record that differs.
pub record IsReader {S : Type 0} (whole left : S → Option (List ℕ)) (given : S → ℕ) (faults : S → ℕ)
    (reader : Reader S) : Type 0 where
  pub stands : refusal_of reader ≡ None → queue.IsQueue whole left given reader.queue
  pub counts : refusal_of reader ≡ None → queue.records_left reader.queue ≡ left_of reader
  pub rewound : AreRewound whole left reader
  pub fits : drawn_of reader + left_of reader < 2 ^ 64
  pub fault : refusal_of reader ≡ Some SourceFault → HasFault faults reader
  pub changed : (source n : ℕ) → refusal_of reader ≡ Some (SourceChanged source n) → IsNextChange whole reader source n
  pub memory : refusal_of reader ≢ Some Memory
