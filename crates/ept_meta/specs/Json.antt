-- The pieces of a JSON text without white space.
use Rattle.std.specs.Prelude.{ℕ, ℤ, ◌||◌, ◌==◌, List, [], ◌∷◌, ◌++◌, if◌then◌else◌, codes}
use Rattle.std.specs.List.{flat_map, join_by}
use Rattle.std.specs.Fmt.{decimal, signed_decimal}

-- a byte of a string; a backslash is before a quotation mark (34) and before a backslash (92)
abbrev pub escaped : ℕ → List ℕ
escaped byte = if (byte == 34) || (byte == 92) then 92 ∷ byte ∷ [] else byte ∷ []

-- a string
unfoldable pub quoted : List ℕ → List ℕ
quoted text = codes "\"" ++ flat_map escaped text ++ codes "\""

-- a member that is a number, after other members
unfoldable pub number_member : List ℕ → ℕ → List ℕ
number_member key number = codes ",\"" ++ key ++ codes "\":" ++ decimal number

-- whole numbers with commas between them
abbrev pub wholes : List ℤ → List ℕ
wholes numbers = join_by signed_decimal (codes ",") numbers

-- an array of whole numbers
unfoldable pub wholes_text : List ℤ → List ℕ
wholes_text numbers = codes "[" ++ wholes numbers ++ codes "]"

-- an array of numbers
unfoldable pub naturals_text : List ℕ → List ℕ
naturals_text numbers = codes "[" ++ join_by decimal (codes ",") numbers ++ codes "]"
