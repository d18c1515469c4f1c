use Rattle.std.proofs.Common.{inl, inr, ◌≡◌, ◌≤◌, ◌∙◌, ◌++◌, ◌∷◌, [], ◌+◌, ℕ, List, length, get_or, refl, sym, ap, subst, arith, take, Option}
use Rattle.std.proofs.lemmas.List.{take_all, take_more}
use Rattle.std.proofs.lemmas.Result.{err_from_is_err_and}
use Rattle.ept_base.specs.Files.{Files, Tells}
use Rattle.ept_merge.specs.declared.bodies.PartBody.{PartBody}
use Rattle.ept_merge.specs.Joining.{octants_of, bodies_in}
use Rattle.ept_merge.specs.Merging.{HasBody}
use Rattle.ept_merge.specs.Putting.{HasBodies, IsBodyFault, AreLike}
use Rattle.ept_merge.proofs.Reading.{tells-always, reads-none, reads-both, reads-files}
use Rattle.ept_merge.proofs.EachBody.{bodies-none, bodies-more, octants-more, first-fault, like-none, like-more}
use Rattle.ept_merge.proofs.bodies.bodies_of.Goals as goal

pub loop-octants-init : goal.loop-octants-init
loop-octants-init g c =
    let s = g.T.Store in
    let empty = c.in_ok-bodies.ensures.items in
    record {
      parts = ap octants_of empty;
      like = subst (λ (w : List PartBody). AreLike c.args.plan.now w) (sym empty) (like-none c.args.plan.now);
      bodies = subst (λ (w : List PartBody). Tells (λ all. HasBodies all c.args.plan.now [] (bodies_in w)) (s.files c.args.store.now)) (sym empty) (bodies-none (s.files c.args.store.now) c.args.plan.now);
      moves = reads-none s.files s.may_leave s.moment s.image_since c.args.store.now;
      later = omega arith;
    }

pub returns-in_err-body-clause-refused : goal.returns-in_err-body-clause-refused
returns-in_err-body-clause-refused g c =
    let s = g.T.Store in
    let i = c.loop-octants in
    let e = c.in_err-body.field-0.0 in
    let plan = c.args.plan.now in
    let parts = c.args.parts.now in
    let p = err_from_is_err_and c.from_residual-in_err-body.result c.from_residual-in_err-body.ensures.1 in
    rw (p.1, p.2)
    (first-fault (s.files c.args.store.now) plan parts i.octants-index i.bodies.items e c.loop-octants-test.true i.invariant.bodies
    (subst (λ (o : Option Files). Tells (λ all. IsBodyFault all plan (get_or parts i.octants-index 0) e) o) (reads-files s.files s.may_leave s.moment s.image_since c.args.store.now i.store i.invariant.moves) c.in_err-body.ensures.refused))

pub returns-in_err-body-clause-any_moment : goal.returns-in_err-body-clause-any_moment
returns-in_err-body-clause-any_moment g c =
    let s = g.T.Store in
    reads-both s.files s.may_leave s.moment s.image_since c.args.store.now c.loop-octants.store c.body_like.new.store c.loop-octants.invariant.moves c.body_like.ensures.any_moment

pub returns-in_err-push-clause-refused : goal.returns-in_err-push-clause-refused
returns-in_err-push-clause-refused g c =
    let p = err_from_is_err_and c.from_residual-in_err-push.result c.from_residual-in_err-push.ensures.1 in
    rw (p.1, p.2) (tells-always _ (λ all. inl (inr refl)) (g.T.Store.files c.args.store.now))

pub returns-in_err-push-clause-any_moment : goal.returns-in_err-push-clause-any_moment
returns-in_err-push-clause-any_moment g c =
    let s = g.T.Store in
    reads-both s.files s.may_leave s.moment s.image_since c.args.store.now c.loop-octants.store c.body_like.new.store c.loop-octants.invariant.moves c.body_like.ensures.any_moment

pub loop-octants-preserved : goal.loop-octants-preserved
loop-octants-preserved g c =
    let s = g.T.Store in
    let i = c.loop-octants in
    let plan = c.args.plan.now in
    let parts = c.args.parts.now in
    let octants = get_or parts i.octants-index 0 in
    let part : PartBody = record { octants = octants; body = c.in_ok-body.body } in
    let files = s.files c.args.store.now in
    let items : c.push.new.self.items ≡ i.bodies.items ++ part ∷ [] = c.in_ok-push.ensures.items in
    let more : take (i.octants-index + 1) parts ≡ take i.octants-index parts ++ octants ∷ [] = take_more parts i.octants-index 0 c.loop-octants-test.true in
    record {
      parts = ap octants_of items ∙ (octants-more i.bodies.items part (take i.octants-index parts) octants i.invariant.parts refl ∙ sym more);
      like = subst (λ (w : List PartBody). AreLike plan w) (sym items) (like-more plan i.bodies.items part i.invariant.like c.in_ok-body.ensures.like);
      bodies = subst (λ (w : List PartBody). Tells (λ all. HasBodies all plan (take (i.octants-index + 1) parts) (bodies_in w)) files) (sym items)
          (subst (λ (w : List ℕ). Tells (λ all. HasBodies all plan w (bodies_in (i.bodies.items ++ part ∷ []))) files) (sym more)
          (bodies-more files plan (take i.octants-index parts) i.bodies.items octants part i.invariant.bodies
          (subst (λ (o : Option Files). Tells (λ all. HasBody all octants part.body) o) (reads-files s.files s.may_leave s.moment s.image_since c.args.store.now i.store i.invariant.moves) c.in_ok-body.ensures.has) c.in_ok-body.ensures.like));
      moves = reads-both s.files s.may_leave s.moment s.image_since c.args.store.now i.store c.body_like.new.store i.invariant.moves c.body_like.ensures.any_moment;
      later = omega (arith, i.invariant.later, c.body_like.ensures.cause.later);
    }

pub returns-clause-parts : goal.returns-clause-parts
returns-clause-parts g c =
    let i = c.loop-octants in
    let end : length c.args.parts.now ≤ i.octants-index = omega arith in
    i.invariant.parts ∙ take_all i.octants-index c.args.parts.now end

pub returns-clause-like : goal.returns-clause-like
returns-clause-like g c = c.loop-octants.invariant.like

pub returns-clause-bodies : goal.returns-clause-bodies
returns-clause-bodies g c =
    let i = c.loop-octants in
    let end : length c.args.parts.now ≤ i.octants-index = omega arith in
    subst (λ (w : List ℕ). Tells (λ all. HasBodies all c.args.plan.now w (bodies_in i.bodies.items)) (g.T.Store.files c.args.store.now)) (take_all i.octants-index c.args.parts.now end) i.invariant.bodies

pub returns-clause-any_moment : goal.returns-clause-any_moment
returns-clause-any_moment g c = c.loop-octants.invariant.moves
