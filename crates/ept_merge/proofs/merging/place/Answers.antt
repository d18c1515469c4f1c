use Rattle.std.proofs.Common.{arith}
use Rattle.std.proofs.lemmas.Result.{err_from_is_err_and}
use Rattle.ept_merge.proofs.Fits.{fit-low}
use Rattle.ept_merge.proofs.PutAll.{of-rules}
use Rattle.ept_merge.proofs.Sounding.{same-sound}
use Rattle.ept_merge.proofs.Outcome.{nodes-fault, too-many, placed-accepted, placed-refused}
use Rattle.ept_merge.proofs.NoSource.{passed-no_source}
use Rattle.ept_merge.proofs.Early.{tiles-no_source, put-no_source, early-put}
use Rattle.ept_merge.proofs.Staying.{read-stays}
use Rattle.ept_merge.proofs.merging.place.Goals as goal

pub judge-requires-clause-rules : goal.judge-requires-clause-rules
judge-requires-clause-rules g c = of-rules c.args.plan.now c.args.rules.now c.args.parts.now c.requires.rules c.requires.like

pub judge-requires-clause-low : goal.judge-requires-clause-low
judge-requires-clause-low g c = fit-low c.args.parts.now c.args.nodes.now c.requires.fit.order c.args.rules.now (of-rules c.args.plan.now c.args.rules.now c.args.parts.now c.requires.rules c.requires.like)

pub returns-then-count-most-clause-accepted : goal.returns-then-count-most-clause-accepted
returns-then-count-most-clause-accepted g c =
    placed-accepted c.args.rules.now c.args.config.now.max_nodes c.args.plan.now.points c.args.parts.now c.args.nodes.now c.requires.fit (g.T.Store.files c.args.store.now) c.put_all.result (omega (arith, c.if-count-most.true)) c.put_all.ensures.intact

pub returns-then-count-most-clause-refused : goal.returns-then-count-most-clause-refused
returns-then-count-most-clause-refused g c =
    placed-refused c.args.rules.now c.args.config.now.max_nodes c.args.plan.now.points c.args.parts.now c.args.nodes.now c.requires.fit (g.T.Store.files c.args.store.now) c.put_all.result c.put_all.ensures.refused

pub returns-then-count-most-clause-early : goal.returns-then-count-most-clause-early
returns-then-count-most-clause-early g c =
    let s = g.T.Store in
    early-put s.files s.may_leave s.moment s.image_since c.put_all.result c.args.store.now c.put_all.new.store c.put_all.ensures.only

pub returns-then-count-most-clause-no_source : goal.returns-then-count-most-clause-no_source
returns-then-count-most-clause-no_source g c = put-no_source c.put_all.result c.put_all.ensures.only

pub returns-in_err-judge-clause-sound : goal.returns-in_err-judge-clause-sound
returns-in_err-judge-clause-sound g c = λ all start points told settled sound of.
    let s = g.T.Store in
    same-sound s.files s.may_leave s.moment s.image_since c.sound_steps_law.ensures.same all c.args.store.now c.judge.new.store start told settled sound c.judge.ensures.any_moment

pub returns-in_err-judge-clause-refused : goal.returns-in_err-judge-clause-refused
returns-in_err-judge-clause-refused g c =
    let p = err_from_is_err_and c.from_residual.result c.from_residual.ensures.1 in
    rw (p.1, p.2) (nodes-fault c.args.rules.now c.args.config.now.max_nodes c.args.plan.now.points c.args.parts.now c.args.nodes.now c.requires.fit (g.T.Store.files c.args.store.now) c.in_err-judge.field-0.0 c.in_err-judge.ensures.refused)

pub returns-in_err-judge-clause-early : goal.returns-in_err-judge-clause-early
returns-in_err-judge-clause-early g c =
    let p = err_from_is_err_and c.from_residual.result c.from_residual.ensures.1 in
    rw (p.1, p.2) (λ none. c.judge.ensures.any_moment)

pub returns-in_err-judge-clause-no_source : goal.returns-in_err-judge-clause-no_source
returns-in_err-judge-clause-no_source g c =
    let p = err_from_is_err_and c.from_residual.result c.from_residual.ensures.1 in
    passed-no_source c.from_residual.result p.0 c.in_err-judge.field-0.0 p.1 p.2 (tiles-no_source c.in_err-judge.field-0.0 c.in_err-judge.ensures.only)

pub returns-clause-sound : goal.returns-clause-sound
returns-clause-sound g c = λ all start points told settled sound of.
    let s = g.T.Store in
    same-sound s.files s.may_leave s.moment s.image_since c.sound_steps_law.ensures.same all c.args.store.now c.judge.new.store start told settled sound c.judge.ensures.any_moment

pub returns-clause-refused : goal.returns-clause-refused
returns-clause-refused g c =
    too-many c.args.rules.now c.args.config.now.max_nodes c.args.plan.now.points c.args.parts.now c.args.nodes.now c.requires.fit (g.T.Store.files c.args.store.now) (omega (arith, c.if-count-most.false)) c.in_ok-judge.ensures.intact

pub returns-clause-early : goal.returns-clause-early
returns-clause-early g c = λ none. c.judge.ensures.any_moment

pub returns-in_err-judge-clause-parts_stay : goal.returns-in_err-judge-clause-parts_stay
returns-in_err-judge-clause-parts_stay g c =
    let s = g.T.Store in
    read-stays s.files s.may_leave s.moment s.image_since c.args.store.now c.judge.new.store c.judge.ensures.any_moment

pub returns-clause-parts_stay : goal.returns-clause-parts_stay
returns-clause-parts_stay g c =
    let s = g.T.Store in
    read-stays s.files s.may_leave s.moment s.image_since c.args.store.now c.judge.new.store c.judge.ensures.any_moment
