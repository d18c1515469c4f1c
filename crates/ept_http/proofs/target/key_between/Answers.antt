use Rattle.std.proofs.Common.{◌++◌, sym, ◌∙◌}
use Rattle.std.proofs.lemmas.List.{append_cancel_left, append_cancel_right}
use Rattle.ept_space.specs.KeyText.{key_text}
use Rattle.ept_http.proofs.QueryLemmas.{if-none}
use Rattle.ept_http.proofs.target.key_between.Goals as goal

pub returns-in_err-text-clause-none : goal.returns-in_err-text-clause-none
returns-in_err-text-clause-none c = rw c.from_residual-in_err-text.ensures (λ key is spelled.
    c.in_err-text.ensures (key_text key) (append_cancel_left c.args.front.now c.in_ok-rest.rest.now (key_text key ++ c.args.back.now) (sym c.in_ok-rest.ensures ∙ spelled)))

pub returns-clause-none : goal.returns-clause-none
returns-clause-none c = if-none c.read_key.result _ _ c.read_key.ensures.none (λ none key is spelled.
    none key is (append_cancel_right _ c.in_ok-text.text.now c.args.back.now (sym (append_cancel_left c.args.front.now c.in_ok-rest.rest.now (key_text key ++ c.args.back.now) (sym c.in_ok-rest.ensures ∙ spelled)) ∙ c.in_ok-text.ensures)))
