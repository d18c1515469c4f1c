-- Configurations with the same facts are the same.
use Rattle.std.proofs.Common.{◌≡◌, List, [], ◌∷◌, map, refl}
use Rattle.std.proofs.Props.{props}
use mathlib.Core.HLevel.{is_prop→PathP}
use Rattle.ept_class.proofs.Bits.{members_make_the_set}
use Rattle.ept_config.specs.declared.input.Input.{Input}
use Rattle.ept_config.specs.declared.srs.Srs.{Srs}
use Rattle.ept_config.specs.declared.config.Config.{Config}
use Rattle.ept_config.specs.InputRanges.{InputInRange}
use Rattle.ept_config.specs.SrsRanges.{SrsInRange}
use Rattle.ept_config.specs.Ranges.{LayoutInRange, GivenBoundsInRange, WorkInRange}
use Rattle.ept_config.specs.Facts.{input_facts, srs_facts, facts}

pub input_same : (a b : Input) → input_facts a ≡ input_facts b → a ≡ b
input_same a b e = λ i. record {
  path = (e i).path;
  scale = (e i).scale;
  shift = (e i).shift;
  expect = (e i).expect;
  in_range = is_prop→PathP (λ j. InputInRange (e j).path (e j).scale (e j).shift (e j).expect) (λ j. hlevel props) a.in_range b.in_range i;
}

pub inputs_same : (xs ys : List Input) → map input_facts xs ≡ map input_facts ys → xs ≡ ys
inputs_same [] [] e = refl
inputs_same [] (y ∷ ys) e = absurd cc
inputs_same (x ∷ xs) [] e = absurd cc
inputs_same (x ∷ xs) (y ∷ ys) e =
    let first : input_facts x ≡ input_facts y = cc in
    let others : map input_facts xs ≡ map input_facts ys = cc in
    let one : x ≡ y = input_same x y first in
    let more : xs ≡ ys = inputs_same xs ys others in
    cc

pub srs_same : (a b : Srs) → srs_facts a ≡ srs_facts b → a ≡ b
srs_same a b e = λ i. record {
  authority = (e i).authority;
  horizontal = (e i).horizontal;
  vertical = (e i).vertical;
  wkt = (e i).wkt;
  in_range = is_prop→PathP (λ j. SrsInRange (e j).authority (e j).horizontal (e j).vertical (e j).wkt) (λ j. hlevel props) a.in_range b.in_range i;
}

pub config_same : (a b : Config) → facts a ≡ facts b → a ≡ b
config_same a b e = λ i. record {
  scale = (e i).scale;
  offset = (e i).offset;
  bounds = (e i).bounds;
  s = (e i).s;
  threshold = (e i).threshold;
  max_depth = (e i).max_depth;
  step = (e i).step;
  srs = same_srs i;
  first = same_first i;
  withheld_last = (e i).withheld_last;
  inputs = same_inputs i;
  threads = (e i).threads;
  cache = (e i).cache;
  max_nodes = (e i).max_nodes;
  checkpoint = (e i).checkpoint;
  layout = is_prop→PathP (λ j. LayoutInRange (e j).scale (e j).offset (e j).s (e j).threshold (e j).max_depth (e j).step (same_inputs j)) (λ j. hlevel props) a.layout b.layout i;
  has_bounds = is_prop→PathP (λ j. GivenBoundsInRange (e j).bounds) (λ j. hlevel props) a.has_bounds b.has_bounds i;
  work = is_prop→PathP (λ j. WorkInRange (e j).threads (e j).cache (e j).max_nodes (e j).checkpoint) (λ j. hlevel props) a.work b.work i;
}
  where
    same_srs : a.srs ≡ b.srs
    same_srs = srs_same a.srs b.srs (λ i. (e i).srs)

    same_first : a.first ≡ b.first
    same_first = members_make_the_set a.first b.first (λ class i. (e i).first class)

    same_inputs : a.inputs ≡ b.inputs
    same_inputs = inputs_same a.inputs b.inputs (λ i. (e i).inputs)
