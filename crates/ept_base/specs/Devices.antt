-- What the calls of sources, sinks and spill files do to what they hold.
use Rattle.std.specs.Prelude.{◌≡◌, ℕ, ◌+◌, ◌-◌, ◌^◌, ◌<◌, ◌≤◌, min, Bool, false, Option, Some, List, [], ◌∷◌, ◌++◌, length, take, IsSome, if◌then◌else◌, None, Result, Err}
use Rattle.std.specs.Io.KnownBytes.{Consumes, Appends, IsAtEnd}
use Rattle.ept_base.specs.Files.{Files, Tells, StepsBy, NoChange}
use Rattle.ept_base.specs.declared.errors.GetError.{GetError}
use Rattle.ept_base.specs.declared.errors.GetError.TheVariants.{Memory}

-- A source was opened on this path of the shelf, and it is before the first byte. If the shelf's contents are visible,
-- they have the path, with these bytes.
pub record Opens (files : Option Files) (path : List ℕ) (whole left : Option (List ℕ)) : Type 0 where
  pub at_start : left ≡ whole
  pub content : Tells (λ all. IsSome whole × (whole ≡ all path)) files

-- A shelf was asked for this path, even if the path can't be opened. The path comes after those that it was asked for
-- before. If memory ran out, it was not asked.
abbrev pub Asks : {T : Type 0} → Option (List (List ℕ)) → Option (List (List ℕ)) → List ℕ → Result T GetError → Type 0
Asks old new path (Err Memory) = StepsBy NoChange old new
Asks old new path result = StepsBy (λ before now. now ≡ before ++ path ∷ []) old new

-- n bytes were read to the start of the buffer; the buffer is full, or the end was reached
pub record ReadsFull (old new : Option (List ℕ)) (n : ℕ) (buffer : List ℕ) : Type 0 where
  pub fits : n ≤ length buffer
  pub consumed : Consumes old new (take n buffer)
  pub end : n < length buffer → IsAtEnd new

-- n bytes were read, and are a prefix of the buffer
abbrev pub ReadsSome : Option (List ℕ) → Option (List ℕ) → List ℕ → Type 0
ReadsSome old new buffer = (n : ℕ) × (n ≤ length buffer) × Consumes old new (take n buffer)

-- a prefix of the bytes was appended
abbrev pub AppendsPrefix : Option (List ℕ) → Option (List ℕ) → List ℕ → Type 0
AppendsPrefix old new bytes = (n : ℕ) × (n ≤ length bytes) × Appends old new (take n bytes)

-- a count of 64 bits that rose by n, or to its last value
abbrev pub counts_on : ℕ → ℕ → ℕ
counts_on before n = min (before + n) (2 ^ 64 - 1)

-- the number is the length of what is held, and its prefix fills the buffer as far as both reach
pub record LoadsFront (held : List ℕ) (n : ℕ) (old new : List ℕ) : Type 0 where
  pub count : n ≡ length held
  pub front : take n new ≡ take (length old) held

-- a file of this name reads as these bytes; if there is none, the result is false, with no byte
abbrev pub Gets : Files → List ℕ → Bool → List ℕ → Type 0
Gets files name found into = (files name ≡ (if found then Some into else None)) × (found ≡ false → into ≡ [])
