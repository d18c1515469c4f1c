-- The classes that a list names.
use Rattle.std.specs.Prelude.{ℕ, Bool, List, [], ◌∷◌, ◌==◌, is_some, if◌then◌else◌, Option, Some, None, option_and_then}
use Rattle.std.specs.List.{list_all, list_any}
use Rattle.serde_json.specs.Data.{Data}
use Rattle.ept_config_text.specs.Json.{whole, array_items}
use Rattle.ept_config_text.specs.Numbers.{natural_within}

infixl 10 ◌>>=◌
abbrev ◌>>=◌ : {A B : Type 0} → Option A → (A → Option B) → Option B
o >>= next = option_and_then next o

abbrev pub is_whole : Data → Bool
is_whole d = is_some (whole d)

-- the items of an array of whole numbers
unfoldable pub whole_items : Data → Option (List Data)
whole_items d = option_and_then (λ items. if list_all is_whole items then Some items else None) (array_items d)

-- the class that an item names, a number from 0 to 255
unfoldable pub class_of : Data → Option ℕ
class_of d = option_and_then (natural_within 0 255) (whole d)

-- a class added to others, if it is not one of them
unfoldable pub one_more : ℕ → List ℕ → Option (List ℕ)
one_more class classes = if list_any (λ other. class == other) classes then None else Some (class ∷ classes)

-- the classes that the items name, if each item names a class, and no class twice
abbrev pub distinct_classes : List Data → Option (List ℕ)
distinct_classes [] = Some []
distinct_classes (d ∷ ds) = do
  classes ← distinct_classes ds
  class ← class_of d
  one_more class classes

-- a class is one of these
abbrev pub is_listed : List ℕ → ℕ → Bool
is_listed classes class = list_any (λ other. class == other) classes
