-- The spatial reference of a configuration.
use Rattle.std.specs.Prelude.{ℕ, Bool, true, List, [], ◌∷◌, codes, if◌then◌else◌, Option, Some, None, option_and_then}
use Rattle.std.specs.Option.{option_map_or}
use Rattle.serde_json.specs.Data.{Data}
use Rattle.serde_json.specs.Find.{get, as_str}
use Rattle.ept_config.specs.Texts.{is_srs_text}
use Rattle.ept_config_text.specs.Json.{has_only, if_given}
use Rattle.ept_config.specs.Facts.{SrsFacts}

infixl 10 ◌>>=◌
abbrev ◌>>=◌ : {A B : Type 0} → Option A → (A → Option B) → Option B
o >>= next = option_and_then next o

abbrev pub srs_keys : List (List ℕ)
srs_keys = codes "authority" ∷ codes "horizontal" ∷ codes "vertical" ∷ codes "wkt" ∷ []

-- a text that may be missing
unfoldable pub srs_member : List ℕ → Data → Option (Option (List ℕ))
srs_member name d = if_given as_str (get name d)

unfoldable pub srs_members : Data → Option SrsFacts
srs_members d = do
  authority ← srs_member (codes "authority") d
  horizontal ← srs_member (codes "horizontal") d
  vertical ← srs_member (codes "vertical") d
  wkt ← srs_member (codes "wkt") d
  Some (record { authority = authority; horizontal = horizontal; vertical = vertical; wkt = wkt })

-- an object of texts
unfoldable pub raw_srs : Data → Option SrsFacts
raw_srs d = if has_only srs_keys d then srs_members d else None

-- a missing text fits
unfoldable pub fits_srs : Option (List ℕ) → Bool
fits_srs text = option_map_or is_srs_text text true

abbrev pub no_srs : SrsFacts
no_srs = record { authority = None; horizontal = None; vertical = None; wkt = None }
