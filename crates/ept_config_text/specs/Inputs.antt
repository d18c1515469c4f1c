-- The inputs of a configuration.
use Rattle.std.specs.Prelude.{ℕ, ℤ, pos, Bool, ◌&&◌, ◌||◌, ◌^◌, List, [], ◌∷◌, codes, nat_le, is_some, if◌then◌else◌, Option, Some, None, option_map, option_and_then}
use Rattle.std.specs.Option.{option_map_or, option_or}
use Rattle.std.specs.Result.{result_ok}
use Rattle.std.specs.List.{list_all}
use Rattle.hex.specs.Hex.{decode_sized}
use Rattle.serde_json.specs.Data.{Data}
use Rattle.serde_json.specs.Find.{get, as_str}
use Rattle.ept_config.specs.Texts.{is_path}
use Rattle.ept_config_text.specs.Json.{whole, wholes, array_items, has_only, if_given}
use Rattle.ept_config_text.specs.Numbers.{natural_within, all_within}
use Rattle.ept_config.specs.Facts.{InputFacts}

infixl 10 ◌>>=◌
abbrev ◌>>=◌ : {A B : Type 0} → Option A → (A → Option B) → Option B
o >>= next = option_and_then next o

-- a digit of a hexadecimal number, in lower case
abbrev pub is_lower_digit : ℕ → Bool
is_lower_digit c = (nat_le 48 c && nat_le c 57) || (nat_le 97 c && nat_le c 102)

-- 96 such digits are 48 bytes
unfoldable pub expected_bytes : List ℕ → Option (List ℕ)
expected_bytes text = if list_all is_lower_digit text then result_ok (decode_sized text 48) else None

unfoldable pub expect_of : Data → Option (List ℕ)
expect_of d = option_and_then expected_bytes (as_str d)

-- what a configuration says of an input: of the right types, and of any range
pub record InputMembers : Type 0 where
  pub path : List ℕ
  pub scale : Option ℤ
  pub shift : Option (List ℤ)
  pub expect : Option (List ℕ)

abbrev pub input_keys : List (List ℕ)
input_keys = codes "path" ∷ codes "scale" ∷ codes "shift" ∷ codes "expect" ∷ []

-- the path has to be there, and the other members may be
unfoldable pub path_member : Data → Option (List ℕ)
path_member d = option_and_then as_str (get (codes "path") d)

unfoldable pub scale_member : Data → Option (Option ℤ)
scale_member d = if_given whole (get (codes "scale") d)

unfoldable pub shift_member : Data → Option (Option (List ℤ))
shift_member d = if_given (wholes 3) (get (codes "shift") d)

unfoldable pub expect_member : Data → Option (Option (List ℕ))
expect_member d = if_given expect_of (get (codes "expect") d)

unfoldable pub input_members : Data → Option InputMembers
input_members d = do
  path ← path_member d
  scale ← scale_member d
  shift ← shift_member d
  expect ← expect_member d
  Some (record { path = path; scale = scale; shift = shift; expect = expect })

-- an object of these members
unfoldable pub input_object : Data → Option InputMembers
input_object d = if has_only input_keys d then input_members d else None

-- an input that is a text has only a path
abbrev pub plain_input : List ℕ → InputMembers
plain_input path = record { path = path; scale = None; shift = None; expect = None }

-- an input is a text or an object
unfoldable pub raw_input : Data → Option InputMembers
raw_input d = option_or (option_map plain_input (as_str d)) (input_object d)

-- An input's own scale is at most the configuration's. If it gives none, it has the configuration's.
unfoldable pub input_scale : ℕ → Option ℤ → Option ℕ
input_scale scale given = option_map_or (natural_within 0 scale) given (Some scale)

unfoldable pub input_shift : Option (List ℤ) → Option (List ℤ)
input_shift given = option_map_or (all_within (10 ^ 15)) given (Some (pos 0 ∷ pos 0 ∷ pos 0 ∷ []))

-- the input, if each part of it is in its range
unfoldable pub input_within : ℕ → InputMembers → Option InputFacts
input_within scale raw =
    if is_path raw.path
    then (do
      own ← input_scale scale raw.scale
      shift ← input_shift raw.shift
      Some (record { path = raw.path; scale = own; shift = shift; expect = raw.expect }))
    else None

abbrev pub is_input : Data → Bool
is_input d = is_some (raw_input d)

-- one text, or the items of an array
unfoldable pub input_items : Data → Option (List Data)
input_items d = option_or (option_map (λ _. d ∷ []) (as_str d)) (array_items d)
