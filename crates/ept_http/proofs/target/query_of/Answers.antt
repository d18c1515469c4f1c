use Rattle.std.proofs.Common.{ℕ, List, sym, subst}
use Rattle.ept_http.specs.QueryWords.{IsBoxText, IsDepthsText}
use Rattle.ept_http.proofs.TargetLemmas.{box-lacks}
use Rattle.ept_http.proofs.target.query_of.Goals as goal

pub returns-in_err-area-clause-none : goal.returns-in_err-area-clause-none
returns-in_err-area-clause-none c = rw c.from_residual.ensures (λ area first last is.
    absurd (c.in_err-area.ensures.found is.box is.depths (box-lacks is.box area is.is_box) is.spelled))

pub returns-in_err-area-2-clause-none : goal.returns-in_err-area-2-clause-none
returns-in_err-area-2-clause-none c = rw c.from_residual-in_err-area-2.ensures (λ area first last is.
    let words = c.in_ok-area.ensures.found is.box is.depths (box-lacks is.box area is.is_box) is.spelled in
    c.in_err-area-2.ensures.none area (subst (λ (text : List ℕ). IsBoxText text area) (sym words.0) is.is_box))

pub returns-in_err-first-clause-none : goal.returns-in_err-first-clause-none
returns-in_err-first-clause-none c = rw c.from_residual-in_err-first.ensures (λ area first last is.
    let words = c.in_ok-area.ensures.found is.box is.depths (box-lacks is.box area is.is_box) is.spelled in
    c.in_err-first.ensures.none first last (subst (λ (text : List ℕ). IsDepthsText text first last) (sym words.1) is.are_depths))
