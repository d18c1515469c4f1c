use Rattle.std.proofs.Common.{◌∙◌, ◌++◌, ℕ, List, ap, sym, arith}
use Rattle.ept_meta.specs.BuildText.{input_text}
use Rattle.ept_config_diff.proofs.Alike.{texts-of-both, texts-of-one}
use Rattle.ept_config_diff.proofs.differing.append_inputs.Goals as goal

pub returns-in_ok-input_json-2 : goal.returns-in_ok-input_json-2
returns-in_ok-input_json-2 c = record {
  texts = texts-of-both c.alike-at.result c.args.kept.now c.args.given.now c.index-kept-at.result c.index-given-at.result _ _ c.alike-at.ensures c.requires.differ (omega (arith, c.if-at-given.true)) (sym c.index-kept-at.is) (sym c.index-given-at.is)
      (c.in_ok-input_json.ensures.text ∙ ap (λ (w : List ℕ). w ++ input_text c.index-kept-at.result) c.requires.empty_one)
      (c.in_ok-input_json-2.ensures.text ∙ ap (λ (w : List ℕ). w ++ input_text c.index-given-at.result) c.requires.empty_other);
}

pub returns-else-at-given : goal.returns-else-at-given
returns-else-at-given c = record {
  texts = texts-of-one c.alike-at.result c.args.kept.now c.args.given.now c.index-kept-at.result _ _ c.alike-at.ensures c.requires.differ (omega (arith, c.if-at-given.false)) (sym c.index-kept-at.is)
      (c.in_ok-input_json.ensures.text ∙ ap (λ (w : List ℕ). w ++ input_text c.index-kept-at.result) c.requires.empty_one)
      c.requires.empty_other;
}
