use Rattle.std.proofs.Common.{◌≡◌, true, false, sym, ◌∙◌}
use Rattle.serde_json.specs.View.{view}
use Rattle.ept_config_text.specs.Json.{has_only}
use Rattle.ept_config_text.specs.SrsTexts.{srs_keys, raw_srs}
use Rattle.ept_config_text.proofs.srs_texts.raw_srs.Goals as goal

pub returns-then-has_only : goal.returns-then-has_only
unfolding raw_srs
returns-then-has_only c =
    let known : has_only srs_keys (view c.args.value.now) ≡ true = sym c.has_only.ensures ∙ c.if-has_only.true in
    rw known c.srs_members.ensures

pub returns-else-has_only : goal.returns-else-has_only
unfolding raw_srs
returns-else-has_only c =
    let unknown : has_only srs_keys (view c.args.value.now) ≡ false = sym c.has_only.ensures ∙ c.if-has_only.false in
    rw unknown
