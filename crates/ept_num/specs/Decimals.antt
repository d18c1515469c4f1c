-- The text of a whole number divided by a power of ten.
use Rattle.std.specs.Prelude.{ℕ, ◌+◌, ◌/◌, ◌%◌, ◌^◌, zero, suc, List, [], ◌∷◌, ◌++◌, codes, ℤ, pos, negsuc}
use Rattle.std.specs.Fmt.{decimal}

-- the last `count` decimal digits of n, with leading zeros
abbrev pub last_digits : ℕ → ℕ → List ℕ
last_digits zero n = []
last_digits (suc count) n = last_digits count (n / 10) ++ ((48 + n % 10) ∷ [])

-- a point and the rest in exactly `places` digits, and nothing if there are no places
abbrev pub fraction_text : ℕ → ℕ → List ℕ
fraction_text zero rest = []
fraction_text (suc k) rest = codes "." ++ last_digits (suc k) rest

-- n divided by 10 ^ places: the whole part, and the rest in exactly that many places
abbrev pub scaled_text : ℕ → ℕ → List ℕ
scaled_text n places = decimal (n / 10 ^ places) ++ fraction_text places (n % 10 ^ places)

-- the same of a signed number, with its sign first
unfoldable pub decimal_text_of : ℤ → ℕ → List ℕ
decimal_text_of (pos n) places = scaled_text n places
decimal_text_of (negsuc n) places = codes "-" ++ scaled_text (suc n) places
