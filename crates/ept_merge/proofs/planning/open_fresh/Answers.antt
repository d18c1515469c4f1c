use Rattle.std.proofs.Common.{◌∙◌, sym, ap, subst, refl}
use Rattle.std.specs.Prelude.{Err}
use Rattle.std.proofs.lemmas.Result.{err_from_is_err_and}
use Rattle.ept_base.specs.Files.{Tells}
use Rattle.ept_save.specs.declared.error.SaveError.{SaveError}
use Rattle.ept_save.specs.Current.{Current, HasCurrent}
use Rattle.ept_merge.proofs.Reading.{tells-more}
use Rattle.ept_merge.proofs.Opening.{none-current, some-current, fresh-view, open-refused}
use Rattle.ept_merge.proofs.NoSource.{saved-no_source}
use Rattle.ept_merge.proofs.planning.open_fresh.Goals as goal

pub returns-in_err-saved-clause-refused : goal.returns-in_err-saved-clause-refused
returns-in_err-saved-clause-refused g c =
    let p = err_from_is_err_and c.from_residual.result c.from_residual.ensures.1 in
    rw (p.1, p.2) (open-refused (g.T.Store.files c.args.store.now) c.in_err-saved.field-0.0 (λ which is. c.in_err-saved.ensures.refused which (ap (λ (e : SaveError). Err e) is)))

pub returns-in_err-saved-clause-no_source : goal.returns-in_err-saved-clause-no_source
returns-in_err-saved-clause-no_source g c =
    let p = err_from_is_err_and c.from_residual.result c.from_residual.ensures.1 in
    saved-no_source c.from_residual.result p.0 c.in_err-saved.field-0.0 p.1 p.2

pub returns-in-Some-clause-refused : goal.returns-in-Some-clause-refused
returns-in-Some-clause-refused g c =
    let s = some-current c.in_ok-saved.saved.current c.in-Some.checkpoint.now (sym c.current.ensures ∙ cc) in
    tells-more (λ all. HasCurrent c.in_ok-saved.saved.current all) _ (λ all has. (s.0, c.in-Some.checkpoint.now, subst (λ (w : Current). HasCurrent w all) s.1 has, refl)) (g.T.Store.files c.args.store.now) c.in_ok-saved.ensures.current

pub returns-in-None-clause-fresh : goal.returns-in-None-clause-fresh
returns-in-None-clause-fresh g c =
    fresh-view c.in_ok-saved.saved (none-current c.in_ok-saved.saved.current (sym c.current.ensures ∙ cc)) c.in_ok-saved.ensures.lines c.in_ok-saved.ensures.begun

pub returns-in-None-clause-none : goal.returns-in-None-clause-none
returns-in-None-clause-none g c =
    subst (λ (w : Current). Tells (λ all. HasCurrent w all) (g.T.Store.files c.args.store.now)) (none-current c.in_ok-saved.saved.current (sym c.current.ensures ∙ cc)) c.in_ok-saved.ensures.current
