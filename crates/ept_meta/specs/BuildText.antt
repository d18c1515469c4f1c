-- What a dataset was built with.
use Rattle.std.specs.Prelude.{ℕ, ◌^◌, Bool, true, false, List, [], ◌∷◌, ◌++◌, codes, Option, Some, None}
use Rattle.std.specs.List.{join_by}
use Rattle.std.specs.Fmt.{decimal}
use Rattle.hex.specs.Hex.{encode_lower}
use Rattle.ept_space.specs.declared.bounds.Bounds.{Bounds}
use Rattle.ept_config.specs.declared.input.Input.{Input}
use Rattle.ept_config.specs.declared.kept.Kept.{Kept}
use Rattle.ept_meta.specs.declared.fields.Field.{Field}
use Rattle.ept_meta.specs.declared.fields.Field.TheVariants as field
use Rattle.ept_meta.specs.Classes.{members_of}
use Rattle.ept_meta.specs.Json.{naturals_text, number_member, quoted, wholes, wholes_text}
use Rattle.ept_meta.specs.SrsObject.{srs_text}

-- the bytes that the header of a scan has to have, in hexadecimal, if they were given
abbrev pub expect_text : Option (List ℕ) → List ℕ
expect_text (Some bytes) = codes ",\"expect\":" ++ quoted (encode_lower bytes)
expect_text None = []

-- the object of an input
unfoldable pub input_text : Input → List ℕ
input_text input =
    codes "{\"path\":" ++ quoted input.path ++ number_member (codes "scale") input.scale
    ++ codes ",\"shift\":" ++ wholes_text input.shift ++ expect_text input.expect ++ codes "}"

-- the member of the inputs, in order
unfoldable pub inputs_text : List Input → List ℕ
inputs_text inputs = codes ",\"input\":[" ++ join_by input_text (codes ",") inputs ++ codes "]"

-- the six numbers of bounds, in stored units
unfoldable pub stored_bounds_text : Bounds → List ℕ
stored_bounds_text bounds = codes "[" ++ wholes bounds.min ++ codes "," ++ wholes bounds.max ++ codes "]"

-- how the points are stored: in which units, and within which bounds
unfoldable pub units_text : Kept → List ℕ
units_text kept =
    codes "{\"scale\":" ++ decimal kept.scale ++ codes ",\"offset\":" ++ wholes_text kept.offset
    ++ codes ",\"bounds\":" ++ stored_bounds_text kept.bounds

-- how the octree is divided
unfoldable pub octree_text : Kept → List ℕ
octree_text kept =
    number_member (codes "span") (2 ^ kept.s) ++ number_member (codes "minNodeSize") kept.threshold
    ++ number_member (codes "maxDepth") kept.max_depth
    ++ number_member (codes "hierarchyStep") kept.step

-- true or false
abbrev pub flag_text : Bool → List ℕ
flag_text true = codes "true"
flag_text false = codes "false"

-- the member of the classes that come first, if there are any
abbrev pub first_member : List ℕ → List ℕ
first_member [] = []
first_member (class ∷ classes) = codes ",\"firstClasses\":" ++ naturals_text (class ∷ classes)

-- the member that withheld points come last, if they do
abbrev pub last_member : Bool → List ℕ
last_member true = codes ",\"withheldLast\":true"
last_member false = []

-- the whole text
unfoldable pub build_text : Kept → List ℕ
build_text kept =
    units_text kept ++ octree_text kept ++ codes ",\"srs\":" ++ srs_text kept.srs
    ++ first_member (members_of kept.first) ++ last_member kept.withheld_last
    ++ inputs_text kept.inputs ++ codes "}"

-- ---- field by field

-- the inputs, in order
unfoldable pub input_list_text : List Input → List ℕ
input_list_text inputs = codes "[" ++ join_by input_text (codes ",") inputs ++ codes "]"

-- the value of a field
abbrev pub field_text : Field → Kept → List ℕ
field_text field.Scale kept = decimal kept.scale
field_text field.Offset kept = wholes_text kept.offset
field_text field.Bounds kept = stored_bounds_text kept.bounds
field_text field.Span kept = decimal (2 ^ kept.s)
field_text field.MinNodeSize kept = decimal kept.threshold
field_text field.MaxDepth kept = decimal kept.max_depth
field_text field.HierarchyStep kept = decimal kept.step
field_text field.Srs kept = srs_text kept.srs
field_text field.FirstClasses kept = naturals_text (members_of kept.first)
field_text field.WithheldLast kept = flag_text kept.withheld_last
field_text field.Input kept = input_list_text kept.inputs
