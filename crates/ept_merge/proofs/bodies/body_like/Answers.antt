use Rattle.std.proofs.Common.{◌∙◌, refl, sym, ap}
use Rattle.std.specs.Prelude.{Err}
use Rattle.std.proofs.lemmas.Bool.{false≢true}
use Rattle.std.proofs.lemmas.Result.{err_from_is_err_and}
use Rattle.ept_merge.specs.declared.error.MergeError.{MergeError}
use Rattle.ept_merge.specs.Merging.{HasBody}
use Rattle.ept_merge.proofs.Reading.{tells-more}
use Rattle.ept_merge.proofs.EachBody.{body-fault}
use Rattle.ept_merge.proofs.NoSource.{body-no_source, passed-no_source}
use Rattle.ept_merge.proofs.bodies.body_like.Goals as goal

pub returns-in_err-body-clause-refused : goal.returns-in_err-body-clause-refused
returns-in_err-body-clause-refused g c =
    let files = g.T.Store.files c.args.store.now in
    let e = c.in_err-body.field-0.0 in
    let p = err_from_is_err_and c.from_residual.result c.from_residual.ensures.1 in
    rw (p.1, p.2)
    (body-fault files c.args.plan.now c.args.octants e c.in_err-body.ensures.only
    (λ is. tells-more _ _ (λ all shut. (refl, shut)) files (c.in_err-body.ensures.no_part (ap (λ (w : MergeError). Err w) is)))
    (λ is. tells-more _ _ (λ all broken. (refl, broken)) files (c.in_err-body.ensures.damaged (ap (λ (w : MergeError). Err w) is))))

pub returns-in_err-body-clause-no_source : goal.returns-in_err-body-clause-no_source
returns-in_err-body-clause-no_source g c =
    let p = err_from_is_err_and c.from_residual.result c.from_residual.ensures.1 in
    passed-no_source c.from_residual.result p.0 c.in_err-body.field-0.0 p.1 p.2 (body-no_source c.args.octants c.in_err-body.field-0.0 c.in_err-body.ensures.only)

pub returns-in-Ok-false-clause-refused : goal.returns-in-Ok-false-clause-refused
returns-in-Ok-false-clause-refused g c =
    let body = c.in_ok-body.body in
    tells-more (λ all. HasBody all c.args.octants body) _ (λ all has. (refl, (body, has, λ like. false≢true (sym c.in-Ok-false.field-0-test ∙ c.in-Ok-false.ensures.1 like)))) (g.T.Store.files c.args.store.now) c.in_ok-body.ensures.has
