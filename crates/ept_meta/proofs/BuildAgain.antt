-- A build file is that of one configuration, and is read as that.
use Rattle.std.proofs.Common.{◌≡◌, ◌≢◌, ◌∙◌, ℕ, List, Some, None, sym, ap}
use Rattle.std.proofs.Props.{props}
use mathlib.Core.HLevel.{is_prop→PathP}
use Rattle.ept_class.proofs.Bits.{members_make_the_set}
use Rattle.ept_config.specs.declared.kept.Kept.{Kept}
use Rattle.ept_config.specs.Ranges.{LayoutInRange, BoundsInRange}
use Rattle.ept_config.proofs.FactsTell.{inputs_same, srs_same}
use Rattle.ept_meta.specs.BuildText.{build_text}
use Rattle.ept_meta.specs.BuildReading.{BuildFacts, build_facts, told}
use Rattle.ept_meta.proofs.BuildRead.{build_told}

-- configurations with the same facts are the same
kept_same : (a b : Kept) → build_facts a ≡ build_facts b → a ≡ b
kept_same a b e = λ i. record {
  scale = (e i).scale;
  offset = (e i).offset;
  bounds = (e i).bounds;
  s = (e i).s;
  threshold = (e i).threshold;
  max_depth = (e i).max_depth;
  step = (e i).step;
  srs = reference i;
  first = classes i;
  withheld_last = (e i).withheld_last;
  inputs = list i;
  layout = is_prop→PathP (λ j. LayoutInRange (e j).scale (e j).offset (e j).s (e j).threshold (e j).max_depth (e j).step (list j)) (λ j. hlevel props) a.layout b.layout i;
  has_bounds = is_prop→PathP (λ j. BoundsInRange (e j).bounds) (λ j. hlevel props) a.has_bounds b.has_bounds i;
}
  where
    reference : a.srs ≡ b.srs
    reference = srs_same a.srs b.srs (λ i. (e i).srs)

    classes : a.first ≡ b.first
    classes = members_make_the_set a.first b.first (λ class i. (e i).first class)

    list : a.inputs ≡ b.inputs
    list = inputs_same a.inputs b.inputs (λ i. (e i).inputs)

same_facts : (a b : BuildFacts) → Some a ≡ Some b → a ≡ b
same_facts a b same = cc

-- what the build file of `kept` was read as is `kept`
pub read_again : (bytes : List ℕ) (found kept : Kept) → told bytes ≡ Some (build_facts found) → bytes ≡ build_text kept → kept ≡ found
read_again bytes found kept read is =
    kept_same kept found (same_facts (build_facts kept) (build_facts found) (sym (ap told is ∙ build_told kept) ∙ read))

-- bytes that are not read as anything are no build file
pub told_nothing : (bytes : List ℕ) → told bytes ≡ None → (kept : Kept) → bytes ≢ build_text kept
told_nothing bytes nothing kept is = let some = sym nothing ∙ (ap told is ∙ build_told kept) in cc

-- so two configurations with the same build file are the same
pub build-of-one : (a b : Kept) → build_text a ≡ build_text b → a ≡ b
build-of-one a b same = sym (read_again (build_text a) a b (build_told a) same)
