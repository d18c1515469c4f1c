use Rattle.std.proofs.Common.{rules, FitsSigned, w64, subst}
use Rattle.ept_http.specs.QueryWords.{IsOrdered}
use Rattle.ept_http.proofs.Numbers.{one-number}
use Rattle.ept_http.proofs.QueryLemmas.{split-box, same-box, read-three, if-none, after_min_x, after_min_y, after_min_z, after_max_x}
use Rattle.ept_http.proofs.query.read_box.Goals as goal

pub returns-in_err-min_y-clause-none : goal.returns-in_err-min_y-clause-none
returns-in_err-min_y-clause-none c = rw c.from_residual-in_err-min_y.ensures (λ area is.
    let parts = split-box c.args.text.now area is in
    let a = c.in_ok-min_x.ensures.found _ (after_min_x area) parts.min_x parts.spelled in
    absurd (c.in_err-min_y.ensures.found _ (after_min_y area) parts.min_y a.1))

pub returns-in_err-min_z-clause-none : goal.returns-in_err-min_z-clause-none
returns-in_err-min_z-clause-none c = rw c.from_residual-in_err-min_z.ensures (λ area is.
    let parts = split-box c.args.text.now area is in
    let a = c.in_ok-min_x.ensures.found _ (after_min_x area) parts.min_x parts.spelled in
    let b = c.in_ok-min_y.ensures.found _ (after_min_y area) parts.min_y a.1 in
    absurd (c.in_err-min_z.ensures.found _ (after_min_z area) parts.min_z b.1))

pub returns-in_err-max_x-clause-none : goal.returns-in_err-max_x-clause-none
returns-in_err-max_x-clause-none c = rw c.from_residual-in_err-max_x.ensures (λ area is.
    let parts = split-box c.args.text.now area is in
    let a = c.in_ok-min_x.ensures.found _ (after_min_x area) parts.min_x parts.spelled in
    let b = c.in_ok-min_y.ensures.found _ (after_min_y area) parts.min_y a.1 in
    let d = c.in_ok-min_z.ensures.found _ (after_min_z area) parts.min_z b.1 in
    absurd (c.in_err-max_x.ensures.found _ (after_max_x area) parts.max_x d.1))

pub returns-in_err-max_y-clause-none : goal.returns-in_err-max_y-clause-none
returns-in_err-max_y-clause-none c = rw c.from_residual-in_err-max_y.ensures (λ area is.
    let parts = split-box c.args.text.now area is in
    let a = c.in_ok-min_x.ensures.found _ (after_min_x area) parts.min_x parts.spelled in
    let b = c.in_ok-min_y.ensures.found _ (after_min_y area) parts.min_y a.1 in
    let d = c.in_ok-min_z.ensures.found _ (after_min_z area) parts.min_z b.1 in
    let e = c.in_ok-max_x.ensures.found _ (after_max_x area) parts.max_x d.1 in
    absurd (c.in_err-max_y.ensures.found _ _ parts.max_y e.1))

pub returns-in_err-max_z-clause-none : goal.returns-in_err-max_z-clause-none
returns-in_err-max_z-clause-none c = rw c.from_residual-in_err-max_z.ensures (λ area is.
    let parts = split-box c.args.text.now area is in
    let a = c.in_ok-min_x.ensures.found _ (after_min_x area) parts.min_x parts.spelled in
    let b = c.in_ok-min_y.ensures.found _ (after_min_y area) parts.min_y a.1 in
    let d = c.in_ok-min_z.ensures.found _ (after_min_z area) parts.min_z b.1 in
    let e = c.in_ok-max_x.ensures.found _ (after_max_x area) parts.max_x d.1 in
    let f = c.in_ok-max_y.ensures.found _ _ parts.max_y e.1 in
    c.in_err-max_z.ensures.refused _ parts.max_z f.1)

pub returns-clause-none : goal.returns-clause-none
returns-clause-none c =
    let small_a : FitsSigned w64 c.in_ok-min_x.min_x = search rules in
    let small_b : FitsSigned w64 c.in_ok-min_y.min_y = search rules in
    let small_d : FitsSigned w64 c.in_ok-min_z.min_z = search rules in
    let small_e : FitsSigned w64 c.in_ok-max_x.max_x = search rules in
    let small_f : FitsSigned w64 c.in_ok-max_y.max_y = search rules in
    let small_g : FitsSigned w64 c.in_ok-max_z.max_z = search rules in
    if-none c.ordered.result _ _ c.ordered.ensures.none (λ none area is.
    let parts = split-box c.args.text.now area is in
    let a = c.in_ok-min_x.ensures.found _ (after_min_x area) parts.min_x parts.spelled in
    let b = c.in_ok-min_y.ensures.found _ (after_min_y area) parts.min_y a.1 in
    let d = c.in_ok-min_z.ensures.found _ (after_min_z area) parts.min_z b.1 in
    let e = c.in_ok-max_x.ensures.found _ (after_max_x area) parts.max_x d.1 in
    let f = c.in_ok-max_y.ensures.found _ _ parts.max_y e.1 in
    let g = one-number _ _ _ small_g parts.max_z c.in_ok-max_z.ensures.read f.1 in
    none (subst IsOrdered (same-box area _ _ is.least is.greatest (read-three _ _ _ _ _ _ small_a small_b small_d a.0 b.0 d.0) (read-three _ _ _ _ _ _ small_e small_f small_g e.0 f.0 g)) is.ordered))
