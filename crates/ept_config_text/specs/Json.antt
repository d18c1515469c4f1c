-- What a JSON value is read as.
use Rattle.std.specs.Prelude.{ℕ, ℤ, Bool, false, List, [], ◌∷◌, length, ◌==◌, if◌then◌else◌, Option, Some, None, option_map, option_and_then, unwrap_or}
use Rattle.std.specs.List.{list_all, list_any}
use Rattle.std.specs.Str.{bytes_eq}
use Rattle.serde_json.specs.Data.{Data, Items, no_items, item, Members, no_members, member}
use Rattle.serde_json.specs.Find.{as_number, as_integer, as_array, as_object}

-- a whole number of 64 bits; a number with a fraction or an exponent is not one, nor is `-0`
unfoldable pub whole : Data → Option ℤ
whole d = option_and_then as_integer (as_number d)

-- the items of an array
abbrev pub list_of : Items → List Data
list_of no_items = []
list_of (item d ds) = d ∷ list_of ds

unfoldable pub array_items : Data → Option (List Data)
array_items d = option_map list_of (as_array d)

-- the value that a rule gives each item, if it gives each one a value
abbrev pub each : {A B : Type 0} → (A → Option B) → List A → Option (List B)
each rule [] = Some []
each rule (x ∷ xs) = option_and_then (λ y. option_map (λ ys. y ∷ ys) (each rule xs)) (rule x)

-- `count` items, each a whole number
abbrev pub wholes_of : ℕ → List Data → Option (List ℤ)
wholes_of count items = if length items == count then each whole items else None

-- an array of `count` whole numbers
unfoldable pub wholes : ℕ → Data → Option (List ℤ)
wholes count d = option_and_then (wholes_of count) (array_items d)

-- the keys of an object
abbrev pub keys_of : Members → List (List ℕ)
keys_of no_members = []
keys_of (member key d ms) = key ∷ keys_of ms

-- the key is one of these
abbrev pub is_among : List (List ℕ) → List ℕ → Bool
is_among keys key = list_any (bytes_eq key) keys

-- an object that has no keys except these
unfoldable pub has_only : List (List ℕ) → Data → Bool
has_only keys d = unwrap_or (option_map (λ ms. list_all (is_among keys) (keys_of ms)) (as_object d)) false

-- what a rule gives a value that may be missing
abbrev pub if_given : {A : Type 0} → (Data → Option A) → Option Data → Option (Option A)
if_given rule None = Some None
if_given rule (Some d) = option_map Some (rule d)
