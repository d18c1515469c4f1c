use Rattle.std.proofs.Common.{eqb, rules, tests}
use Rattle.std.proofs.lemmas.Iterator.{YieldsList-from_slice}
use Rattle.std.proofs.lemmas.Iterator.Search.{position_from_yields_List}
use Rattle.ept_http.proofs.Marks.{found-mark, parts-mark}
use Rattle.ept_http.proofs.query.split_once.Goals as goal

pub returns-in_err-at-clause-found : goal.returns-in_err-at-clause-found
returns-in_err-at-clause-found c = λ front rest clean spelled.
    let found = found-mark c.args.mark front rest c.args.text.now c.position.result clean spelled
    (position_from_yields_List (λ b. eqb b c.args.mark) _ _ _ c.position.ensures.ran (YieldsList-from_slice c.args.text.now c.iter.ensures.rest) (λ x r q k. search (rules, tests))) in
    let none = c.in_err-at.was in
    absurd cc

pub returns-clause-found : goal.returns-clause-found
returns-clause-found c = λ front rest clean spelled.
    let found = found-mark c.args.mark front rest c.args.text.now c.position.result clean spelled
    (position_from_yields_List (λ b. eqb b c.args.mark) _ _ _ c.position.ensures.ran (YieldsList-from_slice c.args.text.now c.iter.ensures.rest) (λ x r q k. search (rules, tests))) in
    let some = c.in_ok-at.was in
    parts-mark c.args.mark front rest c.args.text.now c.in_ok-at.at spelled cc
