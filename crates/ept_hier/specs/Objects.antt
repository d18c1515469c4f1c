-- The members of a map of JSON values, while they are read.
use Rattle.std.specs.Prelude.{◌≡◌, ℕ, ⊤, Bool, true, false, List, [], ◌∷◌, ◌++◌, string_bytes, String}
use Rattle.std.specs.List.{AllZip}
use Rattle.std.specs.declared.alloc.Global.{Global}
use Rattle.serde_json.specs.View.{view}
use Rattle.serde_json.specs.declared.value.Value.{Value}
use Rattle.ept_json.specs.declared.json_error.JsonError.{JsonError}
use Rattle.ept_json.specs.declared.json_error.JsonError.TheVariants as json
use Rattle.ept_hier.specs.Hierarchy.{Entry}
use Rattle.ept_hier.specs.Reading.{Member, NamesKey, IsEntryOf, HasNoCount, RefusesMembers}
use Rattle.ept_hier.specs.declared.hier_error.HierError.{HierError}
use Rattle.ept_hier.specs.declared.hier_error.HierError.TheVariants.{Json, Key, Count, Memory}

-- what is returned if a text has no value
abbrev pub of_json : JsonError → HierError
of_json json.NoText = Json
of_json json.Memory = Memory

-- an entry of a map as a member of the object
abbrev pub member_at : String Global × Value → Member
member_at e = (string_bytes e.0, view e.1)

-- a name is refused for this cause: it is not the text of a key
abbrev pub RefusesName : List ℕ → HierError → Type 0
RefusesName name Json = ⊥
RefusesName name Key = ¬ NamesKey name
RefusesName name Count = ⊥
RefusesName name Memory = ⊤

-- A member was read. Its entry is after the others, or its name is the text of a key and its value no count.
abbrev pub IsTaken : Member → Bool → List Entry → List Entry → Type 0
IsTaken m true old new = (e : Entry) × IsEntryOf m e × (new ≡ old ++ e ∷ [])
IsTaken m false old new = NamesKey m.0 × HasNoCount m

-- Members were read. The entries are theirs, or their names are texts of keys and a value is no count.
abbrev pub AreTaken : List Member → Bool → List Entry → Type 0
AreTaken members true entries = AllZip IsEntryOf members entries
AreTaken members false entries = RefusesMembers members Count
