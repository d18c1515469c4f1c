use Rattle.std.proofs.Common.{◌∙◌, List, refl, ap, rules}
use Rattle.std.specs.Prelude.{Ok, Err}
use Rattle.std.proofs.lemmas.Result.{err_from_is_err_and}
use Rattle.ept_point.specs.declared.point.Point.{Point}
use Rattle.ept_save.proofs.Standing.{told_some}
use Rattle.ept_part.specs.declared.error.PartError.{PartError}
use Rattle.ept_part.specs.Making.{IsPartOf}
use Rattle.ept_part.proofs.Planned.{stores-refused}
use Rattle.ept_part.proofs.Parting.{is-made, same-folder, same-own, stores-late, stores-no_source}
use Rattle.ept_part.proofs.Judging.{err-comes, err-accepts, fails-comes, fails-accepts, ok-comes, ok-accepts}
use Rattle.ept_part.proofs.part_done.part.Goals as goal

pub put_part-requires : goal.put_part-requires
put_part-requires g c = record { keys = c.in_ok-ready.ensures.ready.keys }

-- ---- no part is ready

pub returns-in_err-ready-clause-folder : goal.returns-in_err-ready-clause-folder
returns-in_err-ready-clause-folder g c =
    let s = g.T.Store in
    same-folder s.files s.may_leave s.moment s.image_since c.args.octants c.args.store.now

pub returns-in_err-ready-clause-own : goal.returns-in_err-ready-clause-own
returns-in_err-ready-clause-own g c = λ all start shelf told settled sound.
    let s = g.T.Store in
    same-own s.files s.may_leave s.moment s.image_since c.args.octants c.args.store.now all start told settled sound

pub returns-in_err-ready-clause-comes : goal.returns-in_err-ready-clause-comes
returns-in_err-ready-clause-comes g c =
    let e = c.in_err-ready.field-0.0 in
    let p = err_from_is_err_and c.from_residual.result c.from_residual.ensures.1 in
    err-comes c.args.config.now c.args.octants c.from_residual.result e (p.1 ∙ ap (λ (x : PartError). Err x) p.2) (g.H.Shelf.files c.args.shelf.now) c.in_err-ready.ensures.refused

pub returns-in_err-ready-clause-accepted : goal.returns-in_err-ready-clause-accepted
returns-in_err-ready-clause-accepted g c =
    let e = c.in_err-ready.field-0.0 in
    let p = err_from_is_err_and c.from_residual.result c.from_residual.ensures.1 in
    err-accepts c.args.config.now c.args.octants c.from_residual.result e (p.1 ∙ ap (λ (x : PartError). Err x) p.2) (g.H.Shelf.files c.args.shelf.now) c.in_err-ready.ensures.refused

-- ---- it is not put

pub returns-in_err-put_part-clause-refused : goal.returns-in_err-put_part-clause-refused
returns-in_err-put_part-clause-refused g c =
    let p = err_from_is_err_and c.from_residual-in_err-put_part.result c.from_residual-in_err-put_part.ensures.1 in
    rw (p.1, p.2) (stores-refused (g.H.Shelf.files c.args.shelf.now) c.args.config.now c.args.octants c.in_err-put_part.field-0.0 c.in_err-put_part.ensures.only)

pub returns-in_err-put_part-clause-early : goal.returns-in_err-put_part-clause-early
returns-in_err-put_part-clause-early g c =
    let p = err_from_is_err_and c.from_residual-in_err-put_part.result c.from_residual-in_err-put_part.ensures.1 in
    rw (p.1, p.2) (λ no_fault no_want. stores-late c.in_err-put_part.field-0.0 c.in_err-put_part.ensures.only no_fault no_want)

pub returns-in_err-put_part-clause-comes : goal.returns-in_err-put_part-clause-comes
returns-in_err-put_part-clause-comes g c =
    let e = c.in_err-put_part.field-0.0 in
    let p = err_from_is_err_and c.from_residual-in_err-put_part.result c.from_residual-in_err-put_part.ensures.1 in
    fails-comes c.args.config.now c.args.octants c.from_residual-in_err-put_part.result e (p.1 ∙ ap (λ (x : PartError). Err x) p.2) c.in_err-put_part.ensures.only (g.H.Shelf.files c.args.shelf.now)

pub returns-in_err-put_part-clause-accepted : goal.returns-in_err-put_part-clause-accepted
returns-in_err-put_part-clause-accepted g c =
    let e = c.in_err-put_part.field-0.0 in
    let p = err_from_is_err_and c.from_residual-in_err-put_part.result c.from_residual-in_err-put_part.ensures.1 in
    fails-accepts c.args.config.now c.args.octants c.from_residual-in_err-put_part.result e (p.1 ∙ ap (λ (x : PartError). Err x) p.2) c.in_err-put_part.ensures.only (g.H.Shelf.files c.args.shelf.now)

pub returns-in_err-put_part-clause-own : goal.returns-in_err-put_part-clause-own
returns-in_err-put_part-clause-own g c = λ all start shelf told settled sound.
    let part = told_some (λ f. (points : List Point) × IsPartOf f c.args.config.now c.args.octants c.in_ok-ready.ready points) (g.H.Shelf.files c.args.shelf.now) all shelf c.in_ok-ready.ensures.part in
    c.put_part.ensures.own all start c.args.config.now part.0 c.in_ok-ready.ensures.ready part.1 told settled sound

pub returns-in_err-put_part-clause-sources : goal.returns-in_err-put_part-clause-sources
returns-in_err-put_part-clause-sources g c = record {
  later = c.prepare.ensures.cause.later;
  failed = λ is. absurd (stores-no_source c.in_err-put_part.field-0.0 c.in_err-put_part.ensures.only (search (rules, is)));
}

-- ---- it is made

pub returns-clause-made : goal.returns-clause-made
returns-clause-made g c = λ all shelf.
    let s = g.T.Store in
    let part = told_some (λ f. (points : List Point) × IsPartOf f c.args.config.now c.args.octants c.in_ok-ready.ready points) (g.H.Shelf.files c.args.shelf.now) all shelf c.in_ok-ready.ensures.part in
    is-made all c.args.config.now c.args.octants c.in_ok-ready.ready c.done_of.result c.in_ok-ready.ensures.ready part c.done_of.ensures.points c.done_of.ensures.nodes (s.files c.put_part.new.store)
    (c.in_ok-put_part.ensures.part all c.args.config.now part.0 c.in_ok-ready.ensures.ready part.1) c.in_ok-put_part.ensures.opened

pub returns-clause-comes : goal.returns-clause-comes
returns-clause-comes g c =
    ok-comes c.args.config.now c.args.octants (Ok c.done_of.result) c.in_ok-ready.ready c.in_ok-ready.ensures.ready (g.H.Shelf.files c.args.shelf.now) c.in_ok-ready.ensures.part

pub returns-clause-accepted : goal.returns-clause-accepted
returns-clause-accepted g c =
    ok-accepts c.args.config.now c.args.octants (Ok c.done_of.result) c.done_of.result refl (g.H.Shelf.files c.args.shelf.now)

pub returns-clause-own : goal.returns-clause-own
returns-clause-own g c = λ all start shelf told settled sound.
    let part = told_some (λ f. (points : List Point) × IsPartOf f c.args.config.now c.args.octants c.in_ok-ready.ready points) (g.H.Shelf.files c.args.shelf.now) all shelf c.in_ok-ready.ensures.part in
    c.put_part.ensures.own all start c.args.config.now part.0 c.in_ok-ready.ensures.ready part.1 told settled sound
