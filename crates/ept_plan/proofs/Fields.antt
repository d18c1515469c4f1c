-- A configuration that continues what is kept.
use Rattle.std.proofs.Common.{◌≡◌, ◌∙◌, ℕ, List, [], ◌∷◌, ◌++◌, length, refl, sym, ap, subst, arith, length-append}
use Rattle.std.specs.Prelude.{All}
use Rattle.std.proofs.Props.{props}
use Rattle.std.proofs.lemmas.List.{append-nil}
use Rattle.std.proofs.lemmas.List.Elements.{All-head, All-tail}
use mathlib.Core.HLevel.{is_prop→PathP}
use Rattle.ept_space.specs.CubeOfBounds.{cube_of}
use Rattle.ept_config.specs.Ranges.{LayoutInRange, BoundsInRange}
use Rattle.ept_meta.specs.Output.{rules_of}
use Rattle.ept_space.specs.declared.bounds.Bounds.{Bounds}
use Rattle.ept_config.specs.declared.config.Config.{Config}
use Rattle.ept_config.specs.declared.input.Input.{Input}
use Rattle.ept_config.specs.declared.kept.Kept.{Kept}
use Rattle.ept_config.specs.KeptOf.{IsKeptOf}
use Rattle.ept_meta.specs.declared.fields.Field.{Field}
use Rattle.ept_meta.specs.declared.fields.Field.TheVariants as field
use Rattle.ept_config_diff.specs.declared.differing.Difference.{Difference}
use Rattle.ept_config_diff.specs.Differing.{ArePrefix, IsAsKept, GoesOnFrom, IsDifference}
use Rattle.ept_plan.specs.Plans.{IsGiven}

at-middle : (P : Field → Type 0) (before behind : List Field) (x : Field) → All P (before ++ x ∷ behind) → P x
at-middle P [] behind x all = All-head P x behind all
at-middle P (b ∷ before) behind x all = at-middle P before behind x (All-tail P b (before ++ x ∷ behind) all)

-- what is given of a configuration is given in one way
as-given : (config : Config) (bounds : Bounds) (kept a b : Kept) → IsKeptOf config bounds a → IsKeptOf config bounds b → (f : Field) → IsAsKept kept a f → IsAsKept kept b f
as-given config bounds kept a b of_a of_b field.Scale is = of_b.scale_is ∙ (sym of_a.scale_is ∙ is)
as-given config bounds kept a b of_a of_b field.Offset is = of_b.offset_is ∙ (sym of_a.offset_is ∙ is)
as-given config bounds kept a b of_a of_b field.Bounds is = of_b.bounds_is ∙ (sym of_a.bounds_is ∙ is)
as-given config bounds kept a b of_a of_b field.Span is = of_b.s_is ∙ (sym of_a.s_is ∙ is)
as-given config bounds kept a b of_a of_b field.MinNodeSize is = of_b.threshold_is ∙ (sym of_a.threshold_is ∙ is)
as-given config bounds kept a b of_a of_b field.MaxDepth is = of_b.max_depth_is ∙ (sym of_a.max_depth_is ∙ is)
as-given config bounds kept a b of_a of_b field.HierarchyStep is = of_b.step_is ∙ (sym of_a.step_is ∙ is)
as-given config bounds kept a b of_a of_b field.Srs is = of_b.srs_is ∙ (sym of_a.srs_is ∙ is)
as-given config bounds kept a b of_a of_b field.FirstClasses is = of_b.first_is ∙ (sym of_a.first_is ∙ is)
as-given config bounds kept a b of_a of_b field.WithheldLast is = of_b.withheld_last_is ∙ (sym of_a.withheld_last_is ∙ is)
as-given config bounds kept a b of_a of_b field.Input is = (is.0, of_b.inputs_is ∙ (sym of_a.inputs_is ∙ is.1))

-- a configuration that continues what is kept does not differ from it
pub not-both : (config : Config) (kept a b : Kept) (d : Difference) → IsGiven config kept a → GoesOnFrom kept a → IsGiven config kept b → IsDifference kept b d → ⊥
not-both config kept a b d is_a on is_b differs =
    let first = differs.first in
    let here : IsAsKept kept a d.field = at-middle (IsAsKept kept a) first.before first.behind d.field (subst (All (IsAsKept kept a)) first.among on) in
    first.differs (as-given config _ kept a b is_a is_b d.field here)

pub nothing : {X : Type 0} (xs : List X) → length xs ≡ 0 → xs ≡ []
nothing [] none = refl
nothing (x ∷ xs) none = absurd (omega (arith, none))

fields-same : (a b : Kept) → a.scale ≡ b.scale → a.offset ≡ b.offset → a.bounds ≡ b.bounds → a.s ≡ b.s → a.threshold ≡ b.threshold → a.max_depth ≡ b.max_depth → a.step ≡ b.step → a.srs ≡ b.srs → a.first ≡ b.first → a.withheld_last ≡ b.withheld_last → a.inputs ≡ b.inputs → a ≡ b
fields-same a b scale offset bounds s threshold depth step srs classes last inputs = λ i. record {
  scale = scale i;
  offset = offset i;
  bounds = bounds i;
  s = s i;
  threshold = threshold i;
  max_depth = depth i;
  step = step i;
  srs = srs i;
  first = classes i;
  withheld_last = last i;
  inputs = inputs i;
  layout = is_prop→PathP (λ j. LayoutInRange (scale j) (offset j) (s j) (threshold j) (depth j) (step j) (inputs j)) (λ j. hlevel props) a.layout b.layout i;
  has_bounds = is_prop→PathP (λ j. BoundsInRange (bounds j)) (λ j. hlevel props) a.has_bounds b.has_bounds i;
}

-- with the same bounds, the same is kept of a configuration
pub kept-once : (config : Config) (bounds : Bounds) (a b : Kept) → IsKeptOf config bounds a → IsKeptOf config bounds b → a ≡ b
kept-once config bounds a b of_a of_b =
    fields-same a b (of_a.scale_is ∙ sym of_b.scale_is) (of_a.offset_is ∙ sym of_b.offset_is) (of_a.bounds_is ∙ sym of_b.bounds_is) (of_a.s_is ∙ sym of_b.s_is) (of_a.threshold_is ∙ sym of_b.threshold_is) (of_a.max_depth_is ∙ sym of_b.max_depth_is) (of_a.step_is ∙ sym of_b.step_is) (of_a.srs_is ∙ sym of_b.srs_is) (of_a.first_is ∙ sym of_b.first_is) (of_a.withheld_last_is ∙ sym of_b.withheld_last_is) (of_a.inputs_is ∙ sym of_b.inputs_is)

module _ (config : Config) (kept given : Kept) (is : IsGiven config kept given) (on : GoesOnFrom kept given) where
  -- the scale, the bounds and the step are the kept ones, and the kept inputs are the first ones
  pub scale-kept : kept.scale ≡ config.scale
  scale-kept = sym (on 0 field.Scale (omega arith)) ∙ is.scale_is

  pub bounds-kept : given.bounds ≡ kept.bounds
  bounds-kept = on 2 field.Scale (omega arith)

  pub inputs-kept : ArePrefix kept.inputs config.inputs
  inputs-kept =
      let first : ArePrefix kept.inputs given.inputs = on 10 field.Scale (omega arith) in
      (first.0, sym is.inputs_is ∙ first.1)

  pub step-kept : given.step ≡ kept.step
  step-kept = on 6 field.Scale (omega arith)

  -- and so are the rules of the sampling
  pub rules-kept : rules_of given ≡ rules_of kept
  rules-kept =
      let cube : cube_of given.bounds given.s given.max_depth ≡ cube_of kept.bounds kept.s kept.max_depth =
      ap (λ (b : Bounds). cube_of b given.s given.max_depth) bounds-kept ∙ (ap (λ (k : ℕ). cube_of kept.bounds k given.max_depth) (on 3 field.Scale (omega arith)) ∙ ap (λ (k : ℕ). cube_of kept.bounds kept.s k) (on 5 field.Scale (omega arith))) in
      let threshold : given.threshold ≡ kept.threshold = on 4 field.Scale (omega arith) in
      let classes : given.first ≡ kept.first = on 8 field.Scale (omega arith) in
      let last : given.withheld_last ≡ kept.withheld_last = on 9 field.Scale (omega arith) in
      λ i. record { cube = cube i; threshold = threshold i; first = classes i; withheld_last = last i }

  -- if no input is added, all is kept
  pub same-kept : length kept.inputs ≡ length given.inputs → given ≡ kept
  same-kept number =
      let first : ArePrefix kept.inputs given.inputs = on 10 field.Scale (omega arith) in
      let none : first.0 ≡ [] = nothing first.0 (omega (arith, number, ap length first.1, length-append kept.inputs first.0)) in
      let inputs : given.inputs ≡ kept.inputs = first.1 ∙ (ap (λ (l : List Input). kept.inputs ++ l) none ∙ append-nil kept.inputs) in
      fields-same given kept (on 0 field.Scale (omega arith)) (on 1 field.Scale (omega arith)) bounds-kept (on 3 field.Scale (omega arith)) (on 4 field.Scale (omega arith)) (on 5 field.Scale (omega arith)) step-kept (on 7 field.Scale (omega arith)) (on 8 field.Scale (omega arith)) (on 9 field.Scale (omega arith)) inputs
