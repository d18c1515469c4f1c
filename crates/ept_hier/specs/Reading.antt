-- What a hierarchy file is read as.
use Rattle.std.specs.Prelude.{◌≡◌, ℕ, ℤ, negsuc, ⊤, List, [], ◌∷◌, ◌++◌, All, Any, IsPermutation, if◌then◌else◌, Option, Some, None, option_map, option_and_then}
use Rattle.std.specs.List.{AllZip}
use Rattle.std.specs.List.Sorted.{IsSortedByKey}
use Rattle.std.specs.Int.Signed.{lt_z}
use Rattle.serde_json.specs.Data.{Data, Members, no_members, member}
use Rattle.serde_json.specs.Find.{as_number, as_i64, as_object}
use Rattle.ept_json.specs.Document.{document}
use Rattle.ept_space.specs.VoxelKey.{VoxelKey, IsKey, key_cmp}
use Rattle.ept_space.specs.KeyText.{key_text}
use Rattle.ept_hier.specs.Hierarchy.{Entry}
use Rattle.ept_hier.specs.declared.hier_error.HierError.{HierError}
use Rattle.ept_hier.specs.declared.hier_error.HierError.TheVariants.{Json, Key, Count, Memory}

-- a member of an object: its name and its value
abbrev pub Member : Type 0
Member = List ℕ × Data

abbrev pub member_list : Members → List Member
member_list no_members = []
member_list (member name value members) = (name, value) ∷ member_list members

-- the members of the object, if the bytes are the text of one
unfoldable pub members_in : List ℕ → Option (List Member)
members_in bytes = option_map member_list (option_and_then as_object (document bytes))

-- a name is the text of the key
pub record Names (name : List ℕ) (key : VoxelKey) : Type 0 where
  pub is_key : IsKey key
  pub spelled : key_text key ≡ name

-- a name is the text of a key
abbrev pub NamesKey : List ℕ → Type 0
NamesKey name = (key : VoxelKey) × Names name key

-- the number of a value, if it is a whole number of 64 bits from -1 up
unfoldable pub number_in : Data → Option ℤ
number_in value = option_and_then (λ z. if lt_z z (negsuc 0) then None else Some z) (option_and_then as_i64 (as_number value))

-- an entry is that of a member
pub record IsEntryOf (m : Member) (e : Entry) : Type 0 where
  pub names : Names m.0 e.0
  pub number : number_in m.1 ≡ Some e.1

-- the entries are those of the members of the object, in key order
pub record IsReading (bytes : List ℕ) (entries : List Entry) : Type 0 where
  pub members : List Member
  pub object : members_in bytes ≡ Some members
  pub said : List Entry
  pub each : AllZip IsEntryOf members said
  pub same : IsPermutation said entries
  pub ordered : IsSortedByKey (λ (e : Entry). e.0) key_cmp entries

-- what is appended is a reading
abbrev pub Appends : List ℕ → List Entry → List Entry → Type 0
Appends bytes old new = (entries : List Entry) × IsReading bytes entries × (new ≡ old ++ entries)

-- a member whose name is not the text of a key
abbrev pub HasNoKey : Member → Type 0
HasNoKey m = ¬ NamesKey m.0

-- a member whose value is no count
abbrev pub HasNoCount : Member → Type 0
HasNoCount m = number_in m.1 ≡ None

-- Members are refused for this cause: a name is not the text of a key, or if all are, a value is no count.
abbrev pub RefusesMembers : List Member → HierError → Type 0
RefusesMembers members Json = ⊥
RefusesMembers members Key = Any HasNoKey members
RefusesMembers members Count = All (λ (m : Member). NamesKey m.0) members × Any HasNoCount members
RefusesMembers members Memory = ⊤

-- The bytes are refused for this cause: they are not the text of an object, or if they are, its members are refused.
abbrev pub RefusesFile : List ℕ → HierError → Type 0
RefusesFile bytes Json = members_in bytes ≡ None
RefusesFile bytes Key = (members : List Member) × (members_in bytes ≡ Some members) × RefusesMembers members Key
RefusesFile bytes Count = (members : List Member) × (members_in bytes ≡ Some members) × RefusesMembers members Count
RefusesFile bytes Memory = ⊤
