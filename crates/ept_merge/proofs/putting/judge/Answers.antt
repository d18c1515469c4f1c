use Rattle.std.proofs.Common.{◌≡◌, ◌++◌, subst}
use Rattle.std.proofs.lemmas.Result.{err_from_is_err_and}
use Rattle.ept_sample.proofs.Members.{IsMember-left}
use Rattle.ept_point.specs.declared.layout.Layout.TheVariants.{New}
use Rattle.ept_ckpt.specs.Versions.{layout_of}
use Rattle.ept_meta.specs.Output.{rules_of}
use Rattle.ept_merge.specs.declared.bodies.PartBody.{PartBody}
use Rattle.ept_merge.specs.Joining.{roots_of}
use Rattle.ept_merge.specs.Putting.{IsNodesFault}
use Rattle.ept_merge.proofs.Reading.{tells-more, reads-both, reads-files}
use Rattle.ept_merge.proofs.Loads.{fault-more}
use Rattle.ept_merge.proofs.PutAll.{first-rules, judged-intact, judged-fault}
use Rattle.ept_merge.proofs.putting.judge.Goals as goal

pub load_roots-requires-clause-newest : goal.load_roots-requires-clause-newest
load_roots-requires-clause-newest g c = subst (λ (part : PartBody). layout_of part.body.version ≡ New) c.index-parts-0.is (first-rules c.args.rules.now c.args.parts.now c.index-parts-0.result c.requires.rules c.requires.some c.index-parts-0.is).newest

pub load_roots-requires-clause-rules : goal.load_roots-requires-clause-rules
load_roots-requires-clause-rules g c = subst (λ (part : PartBody). c.args.rules.now ≡ rules_of part.body.kept) c.index-parts-0.is (first-rules c.args.rules.now c.args.parts.now c.index-parts-0.result c.requires.rules c.requires.some c.index-parts-0.is).rules_are

pub judge_below-requires-clause-newest : goal.judge_below-requires-clause-newest
judge_below-requires-clause-newest g c = subst (λ (part : PartBody). layout_of part.body.version ≡ New) c.index-parts-0.is (first-rules c.args.rules.now c.args.parts.now c.index-parts-0.result c.requires.rules c.requires.some c.index-parts-0.is).newest

pub judge_below-requires-clause-rules : goal.judge_below-requires-clause-rules
judge_below-requires-clause-rules g c = subst (λ (part : PartBody). c.args.rules.now ≡ rules_of part.body.kept) c.index-parts-0.is (first-rules c.args.rules.now c.args.parts.now c.index-parts-0.result c.requires.rules c.requires.some c.index-parts-0.is).rules_are

pub returns-in_err-load_roots-clause-refused : goal.returns-in_err-load_roots-clause-refused
returns-in_err-load_roots-clause-refused g c =
    let roots = roots_of c.args.parts.now in
    let nodes = c.args.nodes.now in
    let e = c.in_err-load_roots.field-0.0 in
    let p = err_from_is_err_and c.from_residual.result c.from_residual.ensures.1 in
    rw (p.1, p.2)
    (tells-more (λ all. IsNodesFault c.args.rules.now all roots e) (λ all. IsNodesFault c.args.rules.now all (roots ++ nodes) e)
    (λ all fault. fault-more c.args.rules.now all roots (roots ++ nodes) e (λ n m. IsMember-left n roots nodes m) fault) (g.T.Store.files c.args.store.now) c.in_err-load_roots.ensures.refused)

pub returns-clause-intact : goal.returns-clause-intact
returns-clause-intact g c =
    let s = g.T.Store in
    judged-intact c.args.rules.now (roots_of c.args.parts.now) c.args.nodes.now (s.files c.args.store.now) (s.files c.load_roots.new.store) c.judge_below.result (reads-files s.files s.may_leave s.moment s.image_since c.args.store.now c.load_roots.new.store c.load_roots.ensures.any_moment) c.in_ok-load_roots.ensures.intact c.judge_below.ensures.intact

pub returns-clause-refused : goal.returns-clause-refused
returns-clause-refused g c =
    let s = g.T.Store in
    judged-fault c.args.rules.now (roots_of c.args.parts.now) c.args.nodes.now (s.files c.args.store.now) (s.files c.load_roots.new.store) c.judge_below.result (reads-files s.files s.may_leave s.moment s.image_since c.args.store.now c.load_roots.new.store c.load_roots.ensures.any_moment) c.judge_below.ensures.refused

pub returns-clause-any_moment : goal.returns-clause-any_moment
returns-clause-any_moment g c =
    let s = g.T.Store in
    reads-both s.files s.may_leave s.moment s.image_since c.args.store.now c.load_roots.new.store c.judge_below.new.store c.load_roots.ensures.any_moment c.judge_below.ensures.any_moment
