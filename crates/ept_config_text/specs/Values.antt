-- The value of each key. Its type is checked before its range.
use Rattle.std.specs.Prelude.{ℕ, ℤ, Bool, false, pos, ◌^◌, ◌&&◌, nat_le, length, List, [], ◌∷◌, if◌then◌else◌, Option, Some, None, option_map, Result, Ok}
use Rattle.std.specs.Option.{option_map_or}
use Rattle.std.specs.List.{list_all}
use Rattle.serde_json.specs.Data.{Data}
use Rattle.serde_json.specs.Find.{get, as_bool}
use Rattle.ept_space.specs.declared.bounds.Bounds.{Bounds}
use Rattle.ept_config_text.specs.declared.config_key.ConfigKey.{ConfigKey}
use Rattle.ept_config_text.specs.declared.config_key.ConfigKey.TheVariants as key
use Rattle.ept_config_text.specs.declared.config_error.ConfigError.{ConfigError}
use Rattle.ept_config_text.specs.declared.config_error.ConfigError.TheVariants as error
use Rattle.ept_config_text.specs.Keys.{name_of}
use Rattle.ept_config_text.specs.Json.{whole, wholes}
use Rattle.ept_config_text.specs.Numbers.{natural_within, span_exponent, all_within, bounds_within}
use Rattle.ept_config_text.specs.Inputs.{raw_input, input_within, input_items, is_input}
use Rattle.ept_config_text.specs.SrsTexts.{raw_srs, fits_srs, no_srs}
use Rattle.ept_config_text.specs.Classes.{whole_items, distinct_classes, is_listed}
use Rattle.ept_config.specs.Facts.{InputFacts, SrsFacts}
use Rattle.ept_config_text.specs.Steps.{◌>>=◌, of_kind, in_range, unless_refused}

-- a whole number in a range
unfoldable pub natural : ConfigKey → ℕ → ℕ → Data → Result ℕ ConfigError
natural key least greatest d = do
  n ← of_kind key (whole d)
  in_range key (natural_within least greatest n)

unfoldable pub span : Data → Result ℕ ConfigError
span d = do
  n ← of_kind key.Span (whole d)
  in_range key.Span (span_exponent n)

unfoldable pub offset : Data → Result (List ℤ) ConfigError
offset d = do
  xs ← of_kind key.Offset (wholes 3 d)
  in_range key.Offset (all_within (10 ^ 9) xs)

unfoldable pub bounds : Data → Result (Option Bounds) ConfigError
bounds d = do
  xs ← of_kind key.Bounds (wholes 6 d)
  box ← in_range key.Bounds (bounds_within xs)
  Ok (Some box)

unfoldable pub srs_text : Option (List ℕ) → Result (Option (List ℕ)) ConfigError
srs_text text = in_range key.Srs (if fits_srs text then Some text else None)

-- the texts, if each of them fits
unfoldable pub srs_texts : SrsFacts → Result SrsFacts ConfigError
srs_texts raw = do
  authority ← srs_text raw.authority
  horizontal ← srs_text raw.horizontal
  vertical ← srs_text raw.vertical
  wkt ← srs_text raw.wkt
  Ok (record { authority = authority; horizontal = horizontal; vertical = vertical; wkt = wkt })

unfoldable pub srs : Data → Result SrsFacts ConfigError
srs d = do
  raw ← of_kind key.Srs (raw_srs d)
  srs_texts raw

-- one input
unfoldable pub input : ℕ → Data → Result InputFacts ConfigError
input scale d = do
  members ← of_kind key.Input (raw_input d)
  in_range key.Input (input_within scale members)

-- the classes that come first: an array of whole numbers, each a class, and no class twice
unfoldable pub first_classes : Data → Result (ℕ → Bool) ConfigError
first_classes d = do
  items ← of_kind key.FirstClasses (whole_items d)
  in_range key.FirstClasses (option_map is_listed (distinct_classes items))

-- inputs one after another
abbrev pub each_input : ℕ → List Data → Result (List InputFacts) ConfigError
each_input scale [] = Ok []
each_input scale (d ∷ ds) = do
  first ← input scale d
  rest ← each_input scale ds
  Ok (first ∷ rest)

abbrev pub is_input_count : ℕ → Bool
is_input_count n = nat_le 1 n && nat_le n 65535

-- 1 to 65,535 inputs; the types of all are checked before any range
unfoldable pub list_inputs : ℕ → List Data → Result (List InputFacts) ConfigError
list_inputs scale items = do
  _ ← unless_refused (error.Kind key.Input) (list_all is_input items)
  _ ← unless_refused (error.Range key.Input) (is_input_count (length items))
  each_input scale items

unfoldable pub inputs : ℕ → Data → Result (List InputFacts) ConfigError
inputs scale d = do
  items ← of_kind key.Input (input_items d)
  list_inputs scale items

-- ---- the value of a key in the top object, or its default

unfoldable pub natural_at : ConfigKey → ℕ → ℕ → ℕ → Data → Result ℕ ConfigError
natural_at key least greatest default top = option_map_or (natural key least greatest) (get (name_of key) top) (Ok default)

-- 2 ^ 7 cells
unfoldable pub span_at : Data → Result ℕ ConfigError
span_at top = option_map_or span (get (name_of key.Span) top) (Ok 7)

unfoldable pub offset_at : Data → Result (List ℤ) ConfigError
offset_at top = option_map_or offset (get (name_of key.Offset) top) (Ok (pos 0 ∷ pos 0 ∷ pos 0 ∷ []))

unfoldable pub bounds_at : Data → Result (Option Bounds) ConfigError
bounds_at top = option_map_or bounds (get (name_of key.Bounds) top) (Ok None)

unfoldable pub srs_at : Data → Result SrsFacts ConfigError
srs_at top = option_map_or srs (get (name_of key.Srs) top) (Ok no_srs)

-- no class comes first
unfoldable pub first_classes_at : Data → Result (ℕ → Bool) ConfigError
first_classes_at top = option_map_or first_classes (get (name_of key.FirstClasses) top) (Ok (is_listed []))

-- whether withheld points come last, which they do not by default
unfoldable pub withheld_last_at : Data → Result Bool ConfigError
withheld_last_at top = option_map_or (λ d. of_kind key.WithheldLast (as_bool d)) (get (name_of key.WithheldLast) top) (Ok false)
