-- Whether a configuration continues what is kept of an earlier one, and in which field it first differs.
use Rattle.std.specs.Prelude.{◌≡◌, ◌≢◌, ◌⊎◌, ℕ, List, [], ◌∷◌, ◌++◌, All}
use Rattle.ept_config.specs.declared.input.Input.{Input}
use Rattle.ept_config.specs.declared.kept.Kept.{Kept}
use Rattle.ept_meta.specs.declared.fields.Field.{Field}
use Rattle.ept_meta.specs.declared.fields.Field.TheVariants as field
use Rattle.ept_meta.specs.BuildText.{field_text, input_text}
use Rattle.ept_config_diff.specs.declared.differing.Difference.{Difference}

-- the kept inputs are the first of the given ones
abbrev pub ArePrefix : List Input → List Input → Type 0
ArePrefix kept given = (more : List Input) × (given ≡ kept ++ more)

-- a field is given as it is kept
abbrev pub IsAsKept : Kept → Kept → Field → Type 0
IsAsKept kept given field.Scale = given.scale ≡ kept.scale
IsAsKept kept given field.Offset = given.offset ≡ kept.offset
IsAsKept kept given field.Bounds = given.bounds ≡ kept.bounds
IsAsKept kept given field.Span = given.s ≡ kept.s
IsAsKept kept given field.MinNodeSize = given.threshold ≡ kept.threshold
IsAsKept kept given field.MaxDepth = given.max_depth ≡ kept.max_depth
IsAsKept kept given field.HierarchyStep = given.step ≡ kept.step
IsAsKept kept given field.Srs = given.srs ≡ kept.srs
IsAsKept kept given field.FirstClasses = given.first ≡ kept.first
IsAsKept kept given field.WithheldLast = given.withheld_last ≡ kept.withheld_last
IsAsKept kept given field.Input = ArePrefix kept.inputs given.inputs

-- the order in which fields are compared
abbrev pub in_order : List Field
in_order =
    field.Scale ∷ field.Offset ∷ field.Bounds ∷ field.Span ∷ field.MinNodeSize ∷ field.MaxDepth ∷ field.HierarchyStep ∷ field.Srs ∷ field.FirstClasses ∷ field.WithheldLast ∷ field.Input ∷ []

-- no field differs; there may be more inputs than are kept
abbrev pub GoesOnFrom : Kept → Kept → Type 0
GoesOnFrom kept given = All (IsAsKept kept given) in_order

-- a field differs, and each before it is as it is kept
pub record IsFirst (kept given : Kept) (field : Field) : Type 0 where
  pub before : List Field
  pub behind : List Field
  pub among : in_order ≡ before ++ field ∷ behind
  pub alike : All (IsAsKept kept given) before
  pub differs : ¬ IsAsKept kept given field

-- The texts of the first input that differs. The given list may end before it, and then its text is empty.
pub record AreInputTexts (kept given : List Input) (kept_text given_text : List ℕ) : Type 0 where
  pub alike : List Input
  pub one : Input
  pub rest : List Input
  pub kept_are : kept ≡ alike ++ one ∷ rest
  pub kept_is : kept_text ≡ input_text one
  pub given_is : ((given ≡ alike) × (given_text ≡ [])) ⊎ ((other : Input) × (more : List Input) × (given ≡ alike ++ other ∷ more) × (other ≢ one) × (given_text ≡ input_text other))

-- both texts of a field, in the spelling of the build file
abbrev pub AreTexts : Kept → Kept → Field → List ℕ → List ℕ → Type 0
AreTexts kept given field.Input kept_text given_text = AreInputTexts kept.inputs given.inputs kept_text given_text
AreTexts kept given field kept_text given_text = (kept_text ≡ field_text field kept) × (given_text ≡ field_text field given)

-- the first field that differs, with both texts
pub record IsDifference (kept given : Kept) (d : Difference) : Type 0 where
  pub first : IsFirst kept given d.field
  pub texts : AreTexts kept given d.field d.kept.items d.given.items
