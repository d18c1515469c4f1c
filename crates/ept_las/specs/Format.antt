-- The six point data record formats that are read (LAS 1.4 R15, section 2.6).
use Rattle.std.specs.Prelude.{ℕ, Bool, Option, Some, None, nat_le, ◌==◌, ◌||◌, if◌then◌else◌, IsTrue}

-- a format of the six: 0 to 3, 6 or 7
abbrev pub is_format : ℕ → Bool
is_format format = nat_le format 3 || (format == 6 || format == 7)

abbrev pub IsFormat : ℕ → Type 0
IsFormat format = IsTrue (is_format format)

-- 6 and 7 are the extended formats, which have fields of their own
abbrev pub is_extended : ℕ → Bool
is_extended format = nat_le 6 format

-- how many bytes the fields of a record have
unfoldable pub record_length : ℕ → ℕ
record_length format =
    if format == 0
    then 20
    else (if format == 1
    then 28
    else (if format == 2
    then 26
    else (if format == 3
    then 34
    else (if format == 6
    then 30
    else 36))))

-- the place of the GPS time, in a format that has it
unfoldable pub gps_place : ℕ → Option ℕ
gps_place format = if format == 1 || format == 3 then Some 20 else (if is_extended format then Some 22 else None)

-- the place of red, green and blue, in a format that has them
unfoldable pub colour_place : ℕ → Option ℕ
colour_place format =
    if format == 2
    then Some 20
    else (if format == 3
    then Some 28
    else (if format == 7
    then Some 30
    else None))
