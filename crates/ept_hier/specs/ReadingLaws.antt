-- What holds of the reading of hierarchy files. Each statement is a clause of a function of `laws`.
use Rattle.std.specs.Prelude.{◌≡◌, ℕ, ◌<◌, ◌^◌, pos, negsuc, ◌≤ℤ◌, ◌<ℤ◌, List, All, AllPairs}
use Rattle.std.specs.declared.cmp.Ordering.TheVariants.{Less}
use Rattle.ept_space.specs.VoxelKey.{IsKey, key_cmp}
use Rattle.ept_hier.specs.declared.file.HierFile.{HierFile}
use Rattle.ept_hier.specs.Hierarchy.{Entry, Node, keys_of, KeysAscend, hierarchy_text, entries_of, hierarchy}
use Rattle.ept_hier.specs.Reading.{IsReading}

-- bytes have one reading
abbrev pub ReadingIsOne : Type 0
ReadingIsOne = (bytes : List ℕ) (a b : List Entry) → IsReading bytes a → IsReading bytes b → a ≡ b

-- an entry is a key with a whole number of 64 bits from -1 up
pub record IsEntry (e : Entry) : Type 0 where
  pub is_key : IsKey e.0
  pub least : negsuc 0 ≤ℤ e.1
  pub most : e.1 <ℤ pos (2 ^ 63)

-- the text of entries whose keys ascend is read as these entries
abbrev pub TextsAreReadBack : Type 0
TextsAreReadBack =
    (entries : List Entry) → All IsEntry entries → AllPairs (λ a b. key_cmp a.0 b.0 ≡ Less) entries → IsReading (hierarchy_text entries) entries

-- each file of nodes whose keys ascend, with counts below 2 ^ 63, is read as the entries of its node's file
abbrev pub FilesAreReadBack : Type 0
FilesAreReadBack =
    (step : ℕ) (nodes : List Node) → KeysAscend nodes → All IsKey (keys_of nodes) → All (λ (n : Node). n.1 < 2 ^ 63) nodes → All (λ (f : HierFile). IsReading f.text (entries_of step nodes f.key)) (hierarchy step nodes)
