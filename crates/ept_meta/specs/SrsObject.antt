-- The object of a spatial reference.
use Rattle.std.specs.Prelude.{ℕ, Bool, List, [], ◌∷◌, ◌++◌, codes, if◌then◌else◌, Option, Some, None}
use Rattle.std.specs.List.{join_by}
use Rattle.ept_config.specs.declared.srs.Srs.{Srs}
use Rattle.ept_meta.specs.Json.{quoted}

-- a key and its text
abbrev pub Member : Type 0
Member = List ℕ × List ℕ

-- `"key":"text"`
unfoldable pub member_text : Member → List ℕ
member_text m = quoted m.0 ++ codes ":" ++ quoted m.1

-- the member of this key, if its text is there
abbrev pub given : List ℕ → Option (List ℕ) → List Member
given key (Some text) = (key, text) ∷ []
given key None = []

-- the members that are there
unfoldable pub members : Srs → List Member
members srs =
    given (codes "authority") srs.authority ++ given (codes "horizontal") srs.horizontal
    ++ given (codes "vertical") srs.vertical ++ given (codes "wkt") srs.wkt

-- the object of these members
unfoldable pub srs_text : Srs → List ℕ
srs_text srs = codes "{" ++ join_by member_text (codes ",") (members srs) ++ codes "}"

-- what a member adds to an object, which has members already or not
abbrev pub member_part : Bool → List ℕ → Option (List ℕ) → List ℕ
member_part some key (Some text) = (if some then codes "," else []) ++ member_text (key, text)
member_part some key None = []
