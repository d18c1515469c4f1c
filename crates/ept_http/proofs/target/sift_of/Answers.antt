use Rattle.std.proofs.Common.{◌∙◌, ◌++◌, List, ℕ, sym, ap, subst}
use Rattle.std.specs.Prelude.{codes}
use Rattle.ept_filter.specs.SiftText.{IsSiftText}
use Rattle.ept_http.specs.Targets.{AreSiftWords}
use Rattle.ept_http.proofs.QueryLemmas.{if-none}
use Rattle.ept_http.proofs.SiftTexts.{classes-lack, time-lacks}
use Rattle.ept_http.proofs.target.sift_of.Goals as goal

pub returns-in_err-classes-clause-none : goal.returns-in_err-classes-clause-none
returns-in_err-classes-clause-none c = rw c.from_residual.ensures (λ sift is.
    absurd (c.in_err-classes.ensures.found is.classes (is.time ++ (codes "&dims=" ++ is.dims)) (classes-lack is.classes sift.classes is.are.classes_are) is.spelled))

pub returns-in_err-time-clause-none : goal.returns-in_err-time-clause-none
returns-in_err-time-clause-none c = rw c.from_residual-in_err-time.ensures (λ sift is.
    let classes = c.in_ok-classes.ensures.found is.classes (is.time ++ (codes "&dims=" ++ is.dims)) (classes-lack is.classes sift.classes is.are.classes_are) is.spelled in
    absurd (c.in_err-time.ensures.found is.time is.dims (time-lacks is.time sift.time is.are.time_is) classes.1))

pub returns-clause-none : goal.returns-clause-none
returns-clause-none c = if-none c.read_sift.result _ _ c.read_sift.ensures.none (λ none sift is.
    let classes = c.in_ok-classes.ensures.found is.classes (is.time ++ (codes "&dims=" ++ is.dims)) (classes-lack is.classes sift.classes is.are.classes_are) is.spelled in
    let time = c.in_ok-time.ensures.found is.time is.dims (time-lacks is.time sift.time is.are.time_is) classes.1 in
    none sift
    (subst (λ (text : List ℕ). IsSiftText text c.in_ok-time.time.now c.in_ok-time.dims.now sift) (sym classes.0)
    (subst (λ (text : List ℕ). IsSiftText is.classes text c.in_ok-time.dims.now sift) (sym time.0)
    (subst (λ (text : List ℕ). IsSiftText is.classes is.time text sift) (sym time.1) is.are))))
