-- Rows of the code's table that are the dimensions.
use Rattle.std.proofs.Common.{◌≡◌, ◌∙◌, ◌++◌, List, [], ◌∷◌, ℕ, map, codes, Option, ap, sym, refl, append_assoc}
use Rattle.std.specs.List.{join_by}
use Rattle.std.proofs.lemmas.List.Folds.{flat_map-map}
use Rattle.ept_config.specs.declared.kept.Kept.{Kept}
use Rattle.ept_point.specs.Dimensions.{Kind}
use Rattle.ept_meta.specs.declared.schema.Row.{Row}
use Rattle.ept_meta.specs.declared.schema.Axis.{Axis}
use Rattle.ept_meta.specs.Dimensions.{Field, schema_text, field_text, dimension_text, kind_of, fields, row_text, rows_text}

-- the name, kind, size and axis of a dimension
abbrev Told : Type 0
Told = List ℕ × Kind × ℕ × Option Axis

abbrev told_of_row : Row → Told
told_of_row row = (row.0.now, kind_of row.1, row.2, row.3)

abbrev told_of_field : Field → Told
told_of_field field = (field.0.name, field.0.kind, field.0.width, field.1)

abbrev told_text : Kept → Told → List ℕ
told_text kept told = dimension_text kept told.0 told.1 told.2 told.3

rows_are : (kept : Kept) (rows : List Row) → rows_text kept rows ≡ join_by (told_text kept) (codes ",") (map told_of_row rows)
unfolding rows_text row_text
rows_are kept [] = refl
rows_are kept (row ∷ rows) =
    ap (λ t. told_text kept (told_of_row row) ++ t) (sym (flat_map-map (λ (told : Told). codes "," ++ told_text kept told) told_of_row rows))

fields_are : (kept : Kept) (those : List Field) → join_by (field_text kept) (codes ",") those ≡ join_by (told_text kept) (codes ",") (map told_of_field those)
fields_are kept [] = refl
fields_are kept (field ∷ those) =
    ap (λ t. told_text kept (told_of_field field) ++ t) (sym (flat_map-map (λ (told : Told). codes "," ++ told_text kept told) told_of_field those))

around : (start opened inside closed front middle back : List ℕ) → opened ≡ start ++ front → inside ≡ opened ++ middle → closed ≡ inside ++ back → closed ≡ start ++ (front ++ middle ++ back)
around start opened inside closed front middle back a b d =
    d ∙ ap (λ t. t ++ back) (b ∙ ap (λ t. t ++ middle) a) ∙ simp append_assoc

-- a schema written piece by piece
pub schema_written : (kept : Kept) (rows : List Row) (start opened inside closed : List ℕ) → map told_of_row rows ≡ map told_of_field fields → opened ≡ start ++ codes "[" → inside ≡ opened ++ rows_text kept rows → closed ≡ inside ++ codes "]" → closed ≡ start ++ schema_text kept
unfolding schema_text
schema_written kept rows start opened inside closed is a b d =
    around start opened inside closed (codes "[") (rows_text kept rows) (codes "]") a b d
    ∙ ap (λ t. start ++ (codes "[" ++ t ++ codes "]")) (rows_are kept rows ∙ ap (join_by (told_text kept) (codes ",")) is ∙ sym (fields_are kept fields))
