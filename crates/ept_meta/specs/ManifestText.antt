-- The manifest of a dataset's scans (Entwine Point Tile 1.1.0, "ept-sources").
use Rattle.std.specs.Prelude.{ℕ, List, [], ◌++◌, codes, Option, Some, None}
use Rattle.std.specs.List.{join_by, zip}
use Rattle.ept_space.specs.declared.bounds.Bounds.{Bounds}
use Rattle.ept_config.specs.declared.input.Input.{Input}
use Rattle.ept_config.specs.declared.kept.Kept.{Kept}
use Rattle.ept_config.specs.declared.source_count.SourceCount.{SourceCount}
use Rattle.ept_meta.specs.Json.{number_member, quoted}
use Rattle.ept_meta.specs.Units.{bounds_text}

-- the extent of a scan's points, if it has any
abbrev pub extent_text : Kept → Option Bounds → List ℕ
extent_text kept (Some extent) = codes ",\"bounds\":" ++ bounds_text kept extent
extent_text kept None = []

-- the object of a scan
unfoldable pub source_text : Kept → Input × SourceCount → List ℕ
source_text kept source =
    codes "{\"path\":" ++ quoted source.0.path ++ number_member (codes "points") source.1.points
    ++ extent_text kept source.1.extent ++ codes ",\"inserted\":true}"

-- the array of the inputs, each with its count
unfoldable pub manifest_text : Kept → List SourceCount → List ℕ
manifest_text kept counts =
    codes "[" ++ join_by (source_text kept) (codes ",") (zip kept.inputs counts) ++ codes "]"
