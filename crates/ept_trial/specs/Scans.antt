-- The generated scans as files (LAS 1.2, point data record format 0).
use Rattle.std.specs.Prelude.{◌≡◌, ℕ, zero, suc, ◌+◌, ◌-◌, ◌*◌, ◌/◌, ◌%◌, ◌^◌, List, [], ◌∷◌, ◌++◌, replicate, codes, slice_get, Some}
use Rattle.byteorder.specs.Endian.{little_bytes}
use Rattle.ept_base.specs.Files.{Files}
use Rattle.ept_num.specs.Generator.{after}
use Rattle.ept_trial.specs.Trials.{state}

-- the number that a state of the generator gives, below another one
abbrev pub drawn : ℕ → ℕ → ℕ
drawn at below = (at / 2 ^ 33) % below

-- The record of point i, if the generator is in this state: X, Y and Z of the next three states, the intensity, and six
-- bytes 0.
unfoldable pub record_bytes : ℕ → ℕ → List ℕ
record_bytes at i =
    little_bytes 4 (drawn (after at) 100000)
    ++ little_bytes 4 (drawn (after (after at)) 100000)
    ++ little_bytes 4 (drawn (after (after (after at))) 1000)
    ++ little_bytes 2 (i % 65536)
    ++ replicate 6 0

-- The records of the first points of an input. Its points are every fourth of the `count` points, beginning with the
-- one whose number is that of the input.
abbrev pub first_records : ℕ → ℕ → ℕ → List ℕ
first_records count input zero = []
first_records count input (suc n) =
    first_records count input n ++ record_bytes (state count (3 * (4 * n + input))) (4 * n + input)

-- how many of `count` points are those of an input
abbrev pub records_of : ℕ → ℕ → ℕ
records_of count input = (count + 3 - input) / 4

-- A header of 227 bytes: the signature, the version, its size, and the place of the first record. Then come the format
-- and the length of a record, and the number of records.
unfoldable pub header_bytes : ℕ → List ℕ
header_bytes records =
    codes "LASF" ++ replicate 20 0 ++ 1 ∷ 2 ∷ [] ++ replicate 68 0
    ++ 227 ∷ 0 ∷ 227 ∷ 0 ∷ 0 ∷ 0 ∷ 0 ∷ 0 ∷ 0 ∷ 0 ∷ 0 ∷ 20 ∷ 0 ∷ []
    ++ little_bytes 4 records ++ replicate 116 0

-- the file of an input
unfoldable pub scan_bytes : ℕ → ℕ → List ℕ
scan_bytes count input =
    header_bytes (records_of count input) ++ first_records count input (records_of count input)

-- the paths of the inputs
abbrev pub paths : List (List ℕ)
paths = codes "trial-0.las" ∷ codes "trial-1.las" ∷ codes "trial-2.las" ∷ codes "trial-3.las" ∷ []

-- the file of each path is that of its input
abbrev pub HasScans : ℕ → Files → Type 0
HasScans count files =
    (input : ℕ) (path : List ℕ) → slice_get paths input ≡ Some path → files path ≡ Some (scan_bytes count input)
