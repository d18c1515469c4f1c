use Rattle.std.proofs.Common.{rules, tests, sym, ◌∙◌}
use Rattle.std.proofs.lemmas.Iterator.{YieldsList-from_slice}
use Rattle.std.proofs.lemmas.Iterator.Search.{position_from_yields_List}
use Rattle.ept_filter.proofs.Commas.{is_comma, first-of-some, first-of-none}
use Rattle.ept_filter.proofs.words.first_word.Goals as goal

pub returns-in-Some : goal.returns-in-Some
returns-in-Some c =
    first-of-some c.args.text.now c.in-Some.at
    (sym c.in-Some.is ∙ position_from_yields_List is_comma _ _ _ c.position.ensures.ran (YieldsList-from_slice c.args.text.now c.iter.ensures.rest) (λ x r q k. search (rules, tests)))

pub returns-in-None : goal.returns-in-None
returns-in-None c =
    first-of-none c.args.text.now
    (sym c.in-None.is ∙ position_from_yields_List is_comma _ _ _ c.position.ensures.ran (YieldsList-from_slice c.args.text.now c.iter.ensures.rest) (λ x r q k. search (rules, tests)))
