-- Bodies that keep what the plan keeps.
use Rattle.std.proofs.Common.{◌≡◌, ◌∙◌, List, [], ◌∷◌, ◌++◌, append-nil, length, length-append, refl, sym, ap, subst, arith}
use Rattle.std.proofs.Props.{props}
use mathlib.Core.HLevel.{is_prop→PathP}
use Rattle.ept_point.specs.declared.layout.Layout.TheVariants.{New}
use Rattle.ept_config.specs.Ranges.{LayoutInRange, BoundsInRange}
use Rattle.ept_config.specs.declared.input.Input.{Input}
use Rattle.ept_config.specs.declared.kept.Kept.{Kept}
use Rattle.ept_config.specs.declared.source_count.SourceCount.{SourceCount}
use Rattle.ept_ckpt.specs.declared.checkpoint.Checkpoint.{Checkpoint}
use Rattle.ept_ckpt.specs.Versions.{layout_of}
use Rattle.ept_meta.specs.declared.fields.Field.{Field}
use Rattle.ept_meta.specs.declared.fields.Field.TheVariants as field
use Rattle.ept_config_diff.specs.declared.differing.Difference.{Difference}
use Rattle.ept_config_diff.specs.Differing.{ArePrefix, IsAsKept, GoesOnFrom, IsDifference}
use Rattle.ept_merge.specs.Joining.{IsLike}

fields-same : (a b : Kept) → a.scale ≡ b.scale → a.offset ≡ b.offset → a.bounds ≡ b.bounds → a.s ≡ b.s → a.threshold ≡ b.threshold → a.max_depth ≡ b.max_depth → a.step ≡ b.step → a.srs ≡ b.srs → a.first ≡ b.first → a.withheld_last ≡ b.withheld_last → a.inputs ≡ b.inputs → a ≡ b
fields-same a b scale offset bounds s threshold depth step srs classes last inputs = λ i. record {
  scale = scale i;
  offset = offset i;
  bounds = bounds i;
  s = s i;
  threshold = threshold i;
  max_depth = depth i;
  step = step i;
  srs = srs i;
  first = classes i;
  withheld_last = last i;
  inputs = inputs i;
  layout = is_prop→PathP (λ j. LayoutInRange (scale j) (offset j) (s j) (threshold j) (depth j) (step j) (inputs j)) (λ j. hlevel props) a.layout b.layout i;
  has_bounds = is_prop→PathP (λ j. BoundsInRange (bounds j)) (λ j. hlevel props) a.has_bounds b.has_bounds i;
}

nothing : {X : Type 0} (xs : List X) → length xs ≡ 0 → xs ≡ []
nothing [] none = refl
nothing (x ∷ xs) none = absurd (omega (arith, none))

-- nothing differs, and the number of inputs is the same
same-kept : (kept given : Kept) → GoesOnFrom kept given → length kept.inputs ≡ length given.inputs → given ≡ kept
same-kept kept given on number =
    let first : ArePrefix kept.inputs given.inputs = on 10 field.Scale (omega arith) in
    let none : first.0 ≡ [] = nothing first.0 (omega (arith, number, ap length first.1, length-append kept.inputs first.0)) in
    let inputs : given.inputs ≡ kept.inputs = first.1 ∙ (ap (λ (l : List Input). kept.inputs ++ l) none ∙ append-nil kept.inputs) in
    fields-same given kept (on 0 field.Scale (omega arith)) (on 1 field.Scale (omega arith)) (on 2 field.Scale (omega arith)) (on 3 field.Scale (omega arith)) (on 4 field.Scale (omega arith)) (on 5 field.Scale (omega arith)) (on 6 field.Scale (omega arith)) (on 7 field.Scale (omega arith)) (on 8 field.Scale (omega arith)) (on 9 field.Scale (omega arith)) inputs

-- what is kept is as it is kept
as-itself : (k : Kept) (f : Field) → IsAsKept k k f
as-itself k field.Scale = refl
as-itself k field.Offset = refl
as-itself k field.Bounds = refl
as-itself k field.Span = refl
as-itself k field.MinNodeSize = refl
as-itself k field.MaxDepth = refl
as-itself k field.HierarchyStep = refl
as-itself k field.Srs = refl
as-itself k field.FirstClasses = refl
as-itself k field.WithheldLast = refl
as-itself k field.Input = ([], sym (append-nil k.inputs))

pub none-differs : (kept given : Kept) (d : Difference) → kept ≡ given → IsDifference kept given d → ⊥
none-differs kept given d same differs = differs.first.differs (subst (λ (k : Kept). IsAsKept kept k d.field) same (as-itself kept d.field))

module _ (kept : Kept) (counts : List SourceCount) (c : Checkpoint) (newest : layout_of c.version ≡ New) where
  pub like-tested : GoesOnFrom c.kept kept → ((length c.kept.inputs ≡ length kept.inputs) × (c.counts ≡ counts)) → IsLike kept counts c
  like-tested on same = record { kept_is = sym (same-kept c.kept kept on same.0); counts_are = same.1; newest = newest }

  pub like-has : IsLike kept counts c → (length c.kept.inputs ≡ length kept.inputs) × (c.counts ≡ counts)
  like-has like = (ap (λ (k : Kept). length k.inputs) like.kept_is, like.counts_are)
