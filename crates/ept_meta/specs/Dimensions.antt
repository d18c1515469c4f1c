-- The schema: the dimensions of a packed point (Entwine Point Tile 1.1.0, "schema").
use Rattle.std.specs.Prelude.{ℕ, pos, List, [], ◌∷◌, ◌++◌, codes, Option, Some, None, map, drop}
use Rattle.std.specs.List.{join_by}
use Rattle.std.specs.Fmt.{signed_decimal}
use Rattle.ept_num.specs.Decimals.{decimal_text_of}
use Rattle.ept_point.specs.Dimensions as point
use Rattle.ept_point.specs.Dimensions.{Kind, Signed, Unsigned, Float, Dimension, dimensions}
use Rattle.ept_space.specs.Place.{coordinate}
use Rattle.ept_config.specs.declared.kept.Kept.{Kept}
use Rattle.ept_meta.specs.declared.schema.Kind as code
use Rattle.ept_meta.specs.declared.schema.Kind.TheVariants as row_kind
use Rattle.ept_meta.specs.declared.schema.Axis.{Axis}
use Rattle.ept_meta.specs.declared.schema.Axis.TheVariants.{X, Y, Z}
use Rattle.ept_meta.specs.declared.schema.Row.{Row}
use Rattle.ept_meta.specs.Json.{quoted, number_member}

-- the axes x, y and z
abbrev pub axis_number : Axis → ℕ
axis_number X = 0
axis_number Y = 1
axis_number Z = 2

-- how a schema spells a type
abbrev pub kind_name : Kind → List ℕ
kind_name Signed = codes "signed"
kind_name Unsigned = codes "unsigned"
kind_name Float = codes "float"

-- a dimension of a packed point, and its axis if it is a coordinate
abbrev pub Field : Type 0
Field = Dimension × Option Axis

-- the dimensions in order: the first three are the coordinates
abbrev pub fields : List Field
fields =
    (point.X, Some X) ∷ (point.Y, Some Y) ∷ (point.Z, Some Z)
    ∷ map (λ dimension. (dimension, None)) (drop 3 dimensions)

-- how the stored units of a coordinate become native ones: the unit is 10 ^ -scale, and 0 is at the offset
abbrev pub transform_text : Kept → Option Axis → List ℕ
transform_text kept (Some axis) =
    codes ",\"scale\":" ++ decimal_text_of (pos 1) kept.scale ++ codes ",\"offset\":"
    ++ signed_decimal (coordinate kept.offset (axis_number axis))
transform_text kept None = []

-- the object of a dimension of this name, type and size
unfoldable pub dimension_text : Kept → List ℕ → Kind → ℕ → Option Axis → List ℕ
dimension_text kept name kind size axis =
    codes "{\"name\":" ++ quoted name ++ codes ",\"type\":" ++ quoted (kind_name kind)
    ++ number_member (codes "size") size ++ transform_text kept axis ++ codes "}"

abbrev pub field_text : Kept → Field → List ℕ
field_text kept field = dimension_text kept field.0.name field.0.kind field.0.width field.1

-- the array of the dimensions
unfoldable pub schema_text : Kept → List ℕ
schema_text kept = codes "[" ++ join_by (field_text kept) (codes ",") fields ++ codes "]"

-- a kind of the code's table
abbrev pub kind_of : code.Kind → Kind
kind_of row_kind.Signed = Signed
kind_of row_kind.Unsigned = Unsigned
kind_of row_kind.Float = Float

-- the object of a row of the code's table
unfoldable pub row_text : Kept → Row → List ℕ
row_text kept row = dimension_text kept row.0.now (kind_of row.1) row.2 row.3

-- the objects of rows, with commas between them
unfoldable pub rows_text : Kept → List Row → List ℕ
rows_text kept rows = join_by (row_text kept) (codes ",") rows
