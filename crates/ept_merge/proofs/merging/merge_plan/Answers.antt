use Rattle.std.proofs.Common.{◌∙◌, ◌<◌, List, sym, ap, subst, Option, None}
use Rattle.std.proofs.lemmas.Result.{err_from_is_err_and}
use Rattle.std.specs.Prelude.{OnOk, IfErr}
use Rattle.ept_base.specs.Files.{Files, Tells}
use Rattle.ept_space.specs.declared.cube.Rules.{Rules}
use Rattle.ept_save.specs.Current.{HasCurrent}
use Rattle.ept_save.proofs.Standing.{told_some}
use Rattle.ept_merge.specs.declared.bodies.PartBody.{PartBody}
use Rattle.ept_merge.specs.Joining.{octants_of, bodies_in}
use Rattle.ept_merge.specs.Putting.{AreLike, HasBodies, HaveParts, AreMergeable, IsMergeFault}
use Rattle.ept_merge.proofs.Reading.{reads-files}
use Rattle.ept_merge.proofs.Sounding.{same-sound, settled-reads, stays-both}
use Rattle.ept_merge.proofs.Found.{parts-some, of-parts}
use Rattle.ept_merge.proofs.Outcome.{parts-accepted, parts-refused, bodies-refused}
use Rattle.ept_merge.proofs.Early.{early-both}
use Rattle.ept_merge.proofs.Staying.{read-stays, both-stay}
use Rattle.ept_merge.proofs.merging.merge_plan.Goals as goal

pub merge_bodies-requires-clause-some : goal.merge_bodies-requires-clause-some
merge_bodies-requires-clause-some g c = parts-some c.args.parts.now c.as_slice.result.now (ap octants_of c.as_slice.ensures.value ∙ c.in_ok-bodies.ensures.parts) c.requires.parts

pub merge_bodies-requires-clause-rules : goal.merge_bodies-requires-clause-rules
merge_bodies-requires-clause-rules g c = c.rules_of-rules.ensures.value

pub merge_bodies-requires-clause-deep : goal.merge_bodies-requires-clause-deep
merge_bodies-requires-clause-deep g c = subst (λ (r : Rules). 0 < r.cube.depth) (sym c.rules_of-rules.ensures.value) c.requires.deep

pub merge_bodies-requires-clause-none : goal.merge_bodies-requires-clause-none
merge_bodies-requires-clause-none g c =
    let s = g.T.Store in
    subst (λ (o : Option Files). Tells (HasCurrent None) o) (sym (reads-files s.files s.may_leave s.moment s.image_since c.args.store.now c.bodies_of.new.store c.bodies_of.ensures.any_moment)) c.requires.none

pub merge_bodies-requires-clause-like : goal.merge_bodies-requires-clause-like
merge_bodies-requires-clause-like g c = subst (λ (w : List PartBody). AreLike c.args.plan.now w) (sym c.as_slice.ensures.value) c.in_ok-bodies.ensures.like

-- ---- the bodies are not there

pub returns-in_err-bodies-clause-sound : goal.returns-in_err-bodies-clause-sound
returns-in_err-bodies-clause-sound g c = λ all start points told settled sound has parts.
    let s = g.T.Store in
    same-sound s.files s.may_leave s.moment s.image_since c.sound_steps_law.ensures.same all c.args.store.now c.bodies_of.new.store start told settled sound c.bodies_of.ensures.any_moment

pub returns-in_err-bodies-clause-early : goal.returns-in_err-bodies-clause-early
returns-in_err-bodies-clause-early g c =
    let p = err_from_is_err_and c.from_residual.result c.from_residual.ensures.1 in
    rw (p.1, p.2) (λ none. c.bodies_of.ensures.any_moment)

pub returns-in_err-bodies-clause-refused : goal.returns-in_err-bodies-clause-refused
returns-in_err-bodies-clause-refused g c =
    let p = err_from_is_err_and c.from_residual.result c.from_residual.ensures.1 in
    rw (p.1, p.2) (bodies-refused c.args.parts.now c.args.plan.now c.args.config.now.max_nodes c.in_err-bodies.field-0.0 (g.T.Store.files c.args.store.now) c.in_err-bodies.ensures.refused)

-- ---- they are

pub returns-clause-accepted : goal.returns-clause-accepted
returns-clause-accepted g c =
    let s = g.T.Store in
    let plan = c.args.plan.now in
    let most = c.args.config.now.max_nodes in
    let bodies = c.as_slice.result.now in
    let before = s.files c.args.store.now in
    let between = s.files c.bodies_of.new.store in
    parts-accepted c.args.parts.now plan most bodies before between (reads-files s.files s.may_leave s.moment s.image_since c.args.store.now c.bodies_of.new.store c.bodies_of.ensures.any_moment) (ap octants_of c.as_slice.ensures.value ∙ c.in_ok-bodies.ensures.parts)
    (subst (λ (w : List PartBody). AreLike plan w) (sym c.as_slice.ensures.value) c.in_ok-bodies.ensures.like)
    (subst (λ (w : List PartBody). Tells (λ all. HasBodies all plan c.args.parts.now (bodies_in w)) before) (sym c.as_slice.ensures.value) c.in_ok-bodies.ensures.bodies)
    c.merge_bodies.result (subst (λ (r : Rules). OnOk c.merge_bodies.result (Tells (λ all. AreMergeable r all most bodies plan.points) between)) c.rules_of-rules.ensures.value c.merge_bodies.ensures.accepted)

pub returns-clause-refused : goal.returns-clause-refused
returns-clause-refused g c =
    let s = g.T.Store in
    let plan = c.args.plan.now in
    let most = c.args.config.now.max_nodes in
    let bodies = c.as_slice.result.now in
    let before = s.files c.args.store.now in
    let between = s.files c.bodies_of.new.store in
    parts-refused c.args.parts.now plan most bodies before between (reads-files s.files s.may_leave s.moment s.image_since c.args.store.now c.bodies_of.new.store c.bodies_of.ensures.any_moment) (ap octants_of c.as_slice.ensures.value ∙ c.in_ok-bodies.ensures.parts)
    (subst (λ (w : List PartBody). AreLike plan w) (sym c.as_slice.ensures.value) c.in_ok-bodies.ensures.like)
    (subst (λ (w : List PartBody). Tells (λ all. HasBodies all plan c.args.parts.now (bodies_in w)) before) (sym c.as_slice.ensures.value) c.in_ok-bodies.ensures.bodies)
    c.merge_bodies.result (subst (λ (r : Rules). IfErr c.merge_bodies.result (λ e. Tells (λ all. IsMergeFault r all most bodies plan.points e) between)) c.rules_of-rules.ensures.value c.merge_bodies.ensures.refused)

pub returns-clause-early : goal.returns-clause-early
returns-clause-early g c =
    let s = g.T.Store in
    early-both s.files s.may_leave s.moment s.image_since c.merge_bodies.result c.args.store.now c.bodies_of.new.store c.merge_bodies.new.store c.bodies_of.ensures.any_moment c.merge_bodies.ensures.early

pub returns-clause-sound : goal.returns-clause-sound
returns-clause-sound g c = λ all start points told settled sound has parts.
    let s = g.T.Store in
    let plan = c.args.plan.now in
    let bodies = c.as_slice.result.now in
    let before = s.files c.args.store.now in
    let reads = reads-files s.files s.may_leave s.moment s.image_since c.args.store.now c.bodies_of.new.store c.bodies_of.ensures.any_moment in
    let there : HaveParts start plan c.args.parts.now bodies = record {
      octants_are = ap octants_of c.as_slice.ensures.value ∙ c.in_ok-bodies.ensures.parts;
      like = subst (λ (w : List PartBody). AreLike plan w) (sym c.as_slice.ensures.value) c.in_ok-bodies.ensures.like;
      bodies = told_some (λ f. HasBodies f plan c.args.parts.now (bodies_in bodies)) before start told (subst (λ (w : List PartBody). Tells (λ f. HasBodies f plan c.args.parts.now (bodies_in w)) before) (sym c.as_slice.ensures.value) c.in_ok-bodies.ensures.bodies);
    } in
    let of = of-parts c.body_once_law.ensures.once all start c.args.config.now plan c.requires.plan points has c.args.parts.now c.requires.parts parts bodies there c.rules_of-rules.result c.rules_of-rules.ensures.value in
    stays-both s.files s.may_leave s.moment s.image_since all c.args.store.now c.bodies_of.new.store c.merge_bodies.new.store
    (same-sound s.files s.may_leave s.moment s.image_since c.sound_steps_law.ensures.same all c.args.store.now c.bodies_of.new.store start told settled sound c.bodies_of.ensures.any_moment)
    (c.merge_bodies.ensures.sound all start points (reads ∙ told) (settled-reads s.files s.may_leave s.moment s.image_since c.args.store.now c.bodies_of.new.store start told settled c.bodies_of.ensures.any_moment) sound of)

-- ---- the parts stay

pub returns-in_err-bodies-clause-parts_stay : goal.returns-in_err-bodies-clause-parts_stay
returns-in_err-bodies-clause-parts_stay g c =
    let s = g.T.Store in
    read-stays s.files s.may_leave s.moment s.image_since c.args.store.now c.bodies_of.new.store c.bodies_of.ensures.any_moment

pub returns-clause-parts_stay : goal.returns-clause-parts_stay
returns-clause-parts_stay g c =
    let s = g.T.Store in
    both-stay s.files s.may_leave s.moment s.image_since c.args.store.now c.bodies_of.new.store c.merge_bodies.new.store (read-stays s.files s.may_leave s.moment s.image_since c.args.store.now c.bodies_of.new.store c.bodies_of.ensures.any_moment) c.merge_bodies.ensures.parts_stay
