use Rattle.std.proofs.Common.{◌∙◌, ◌++◌, sym}
use Rattle.std.proofs.lemmas.List.{append_cancel_left}
use Rattle.ept_http.proofs.target.word_before.Goals as goal

pub returns-in_err-rest-clause-found : goal.returns-in_err-rest-clause-found
returns-in_err-rest-clause-found c = λ word rest clean spelled.
    let parts = c.in_ok-word.ensures.found word (c.args.key.now ++ rest) clean spelled in
    absurd (c.in_err-rest.ensures rest parts.1)

pub returns-clause-found : goal.returns-clause-found
returns-clause-found c = λ word rest clean spelled.
    let parts = c.in_ok-word.ensures.found word (c.args.key.now ++ rest) clean spelled in
    (parts.0, append_cancel_left c.args.key.now _ rest (sym c.in_ok-rest.ensures ∙ parts.1))
