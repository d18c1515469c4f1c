-- Two checkpoints with the same facts are the same.
use Rattle.std.proofs.Common.{◌≡◌, List, [], ◌∷◌, length, map, refl, sym, ◌∙◌, arith}
use Rattle.std.specs.List.{zip}
use Rattle.std.proofs.Props.{props}
use Rattle.std.proofs.lemmas.List.{length-map}
use mathlib.Core.HLevel.{is_prop→PathP}
use Rattle.ept_class.proofs.Bits.{same_set}
use Rattle.ept_config.specs.declared.kept.Kept.{Kept}
use Rattle.ept_config.specs.Facts.{input_facts}
use Rattle.ept_config.specs.Ranges.{LayoutInRange, BoundsInRange}
use Rattle.ept_config.proofs.FactsTell.{inputs_same, srs_same}
use Rattle.ept_ckpt.specs.declared.checkpoint.Checkpoint.{Checkpoint}
use Rattle.ept_ckpt.specs.Facts.{sources_of, kept_facts, precedence_of, facts}
use Rattle.ept_ckpt.specs.Valid.{IsCheckpoint}

-- two lists of pairs are equal only if the paired lists are
zip_same : {X Y : Type 0} (xs us : List X) (ys vs : List Y) → length ys ≡ length xs → length vs ≡ length us → zip xs ys ≡ zip us vs → (xs ≡ us) × (ys ≡ vs)
zip_same [] [] [] [] m n e = (refl, refl)
zip_same [] us (y ∷ ys) vs m n e = absurd (omega (arith, m))
zip_same (x ∷ xs) us [] vs m n e = absurd (omega (arith, m))
zip_same xs [] ys (v ∷ vs) m n e = absurd (omega (arith, n))
zip_same xs (u ∷ us) ys [] m n e = absurd (omega (arith, n))
zip_same [] (u ∷ us) [] (v ∷ vs) m n e = absurd cc
zip_same (x ∷ xs) [] (y ∷ ys) [] m n e = absurd cc
zip_same {X} {Y} (x ∷ xs) (u ∷ us) (y ∷ ys) (v ∷ vs) m n e =
    let first : ◌≡◌ {A = X × Y} (x, y) (u, v) = cc in
    let others : zip xs ys ≡ zip us vs = cc in
    let more = zip_same xs us ys vs (omega (arith, m)) (omega (arith, n)) others in
    ((λ i. (first i).0 ∷ more.0 i), (λ i. (first i).1 ∷ more.1 i))

kept_same : (a b : Kept) → kept_facts a ≡ kept_facts b → precedence_of a ≡ precedence_of b → a.inputs ≡ b.inputs → a ≡ b
kept_same a b e p inputs = λ i. record {
  scale = (e i).scale;
  offset = (e i).offset;
  bounds = (e i).bounds;
  s = (e i).s;
  threshold = (e i).threshold;
  max_depth = (e i).max_depth;
  step = (e i).step;
  srs = reference i;
  first = classes i;
  withheld_last = (p i).withheld_last;
  inputs = inputs i;
  layout = is_prop→PathP (λ j. LayoutInRange (e j).scale (e j).offset (e j).s (e j).threshold (e j).max_depth (e j).step (inputs j)) (λ j. hlevel props) a.layout b.layout i;
  has_bounds = is_prop→PathP (λ j. BoundsInRange (e j).bounds) (λ j. hlevel props) a.has_bounds b.has_bounds i;
}
  where
    reference : a.srs ≡ b.srs
    reference = srs_same a.srs b.srs (λ i. (e i).srs)

    classes : a.first ≡ b.first
    classes = same_set a.first b.first (λ i. (p i).first)

pub checkpoint_same : (a b : Checkpoint) → facts a ≡ facts b → a ≡ b
unfolding sources_of
checkpoint_same a b e = λ i. record {
  version = (e i).version;
  generation = (e i).generation;
  kept = kept i;
  counts = lists.1 i;
  inserted = (e i).inserted;
  nodes = (e i).nodes;
  is_checkpoint = is_prop→PathP (λ j. IsCheckpoint (e j).version (e j).generation (kept j) (lists.1 j) (e j).inserted (e j).nodes) (λ j. hlevel props) a.is_checkpoint b.is_checkpoint i;
}
  where
    lists : (map input_facts a.kept.inputs ≡ map input_facts b.kept.inputs) × (a.counts ≡ b.counts)
    lists = zip_same (map input_facts a.kept.inputs) (map input_facts b.kept.inputs) a.counts b.counts (a.is_checkpoint.each ∙ sym (length-map a.kept.inputs input_facts)) (b.is_checkpoint.each ∙ sym (length-map b.kept.inputs input_facts)) (λ i. (e i).sources)

    kept : a.kept ≡ b.kept
    kept = kept_same a.kept b.kept (λ i. (e i).kept) (λ i. (e i).precedence) (inputs_same a.kept.inputs b.kept.inputs lists.0)
