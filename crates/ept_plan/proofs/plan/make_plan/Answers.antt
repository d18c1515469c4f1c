use Rattle.std.proofs.Common.{◌≡◌, ap}
use Rattle.std.specs.Option.{option_copied}
use Rattle.ept_plan.specs.Plans.{GoesOn, new_paths}
use Rattle.ept_scan.specs.Asking.{OpensThese}
use Rattle.ept_plan.proofs.Currents.{at-none, at-some, Found, Why}
use Rattle.ept_plan.proofs.Judged.{is-plan, scans, refused, differs, differs-comes, refusal-comes, accepted}
use Rattle.ept_plan.proofs.plan.make_plan.Goals as goal

pub returns-in-None-clause-plan : goal.returns-in-None-clause-plan
returns-in-None-clause-plan g c =
    let files = g.H.Shelf.files c.args.shelf.now in
    is-plan c.args.config.now c.args.saved.now.current files c.first_plan.result
    (at-none (Found files c.args.config.now c.first_plan.result) c.args.saved.now.current _ c.current.ensures (ap option_copied c.in-None.is) c.first_plan.ensures.found)

pub returns-in-None-clause-scan : goal.returns-in-None-clause-scan
returns-in-None-clause-scan g c =
    let files = g.H.Shelf.files c.args.shelf.now in
    scans c.args.config.now c.args.saved.now.current files c.first_plan.result
    (at-none (Found files c.args.config.now c.first_plan.result) c.args.saved.now.current _ c.current.ensures (ap option_copied c.in-None.is) c.first_plan.ensures.found)

pub returns-in-None-clause-refused : goal.returns-in-None-clause-refused
returns-in-None-clause-refused g c =
    let files = g.H.Shelf.files c.args.shelf.now in
    refused c.args.config.now c.args.saved.now.current files c.first_plan.result
    (at-none (Why files c.args.config.now c.first_plan.result) c.args.saved.now.current _ c.current.ensures (ap option_copied c.in-None.is) c.first_plan.ensures.refused)

pub returns-in-None-clause-differs : goal.returns-in-None-clause-differs
returns-in-None-clause-differs g c =
    let files = g.H.Shelf.files c.args.shelf.now in
    differs c.args.config.now c.args.saved.now.current files c.first_plan.result
    (at-none (Why files c.args.config.now c.first_plan.result) c.args.saved.now.current _ c.current.ensures (ap option_copied c.in-None.is) c.first_plan.ensures.refused)

pub returns-in-None-clause-differs_comes : goal.returns-in-None-clause-differs_comes
returns-in-None-clause-differs_comes g c =
    let files = g.H.Shelf.files c.args.shelf.now in
    differs-comes c.args.config.now c.args.saved.now.current files c.first_plan.result
    (at-none (Found files c.args.config.now c.first_plan.result) c.args.saved.now.current _ c.current.ensures (ap option_copied c.in-None.is) c.first_plan.ensures.found)
    (at-none (Why files c.args.config.now c.first_plan.result) c.args.saved.now.current _ c.current.ensures (ap option_copied c.in-None.is) c.first_plan.ensures.refused)

pub returns-in-None-clause-refusal_comes : goal.returns-in-None-clause-refusal_comes
returns-in-None-clause-refusal_comes g c =
    let files = g.H.Shelf.files c.args.shelf.now in
    refusal-comes c.args.config.now c.args.saved.now.current files c.first_plan.result
    (at-none (Found files c.args.config.now c.first_plan.result) c.args.saved.now.current _ c.current.ensures (ap option_copied c.in-None.is) c.first_plan.ensures.found)
    (at-none (Why files c.args.config.now c.first_plan.result) c.args.saved.now.current _ c.current.ensures (ap option_copied c.in-None.is) c.first_plan.ensures.refused)

pub returns-in-None-clause-accepted : goal.returns-in-None-clause-accepted
returns-in-None-clause-accepted g c =
    let files = g.H.Shelf.files c.args.shelf.now in
    accepted c.args.config.now c.args.saved.now.current files c.first_plan.result
    (at-none (Why files c.args.config.now c.first_plan.result) c.args.saved.now.current _ c.current.ensures (ap option_copied c.in-None.is) c.first_plan.ensures.refused)

pub returns-in-None-clause-differs_first : goal.returns-in-None-clause-differs_first
returns-in-None-clause-differs_first g c = at-none (λ w. ¬ GoesOn c.args.config.now w → c.first_plan.new.shelf ≡ c.args.shelf.now) c.args.saved.now.current _ c.current.ensures (ap option_copied c.in-None.is) (λ not. absurd (not tt))

pub returns-in-None-clause-asked : goal.returns-in-None-clause-asked
returns-in-None-clause-asked g c = at-none (λ w. OpensThese (new_paths c.args.config.now w) c.first_plan.result (g.H.Shelf.asked c.args.shelf.now) (g.H.Shelf.asked c.first_plan.new.shelf)) c.args.saved.now.current _ c.current.ensures (ap option_copied c.in-None.is) c.first_plan.ensures.asked

pub returns-in-Some-clause-plan : goal.returns-in-Some-clause-plan
returns-in-Some-clause-plan g c =
    let files = g.H.Shelf.files c.args.shelf.now in
    is-plan c.args.config.now c.args.saved.now.current files c.next_plan.result
    (at-some (Found files c.args.config.now c.next_plan.result) c.args.saved.now.current _ c.current.ensures c.in-Some.checkpoint.now (ap option_copied c.in-Some.is) c.next_plan.ensures.found)

pub returns-in-Some-clause-scan : goal.returns-in-Some-clause-scan
returns-in-Some-clause-scan g c =
    let files = g.H.Shelf.files c.args.shelf.now in
    scans c.args.config.now c.args.saved.now.current files c.next_plan.result
    (at-some (Found files c.args.config.now c.next_plan.result) c.args.saved.now.current _ c.current.ensures c.in-Some.checkpoint.now (ap option_copied c.in-Some.is) c.next_plan.ensures.found)

pub returns-in-Some-clause-refused : goal.returns-in-Some-clause-refused
returns-in-Some-clause-refused g c =
    let files = g.H.Shelf.files c.args.shelf.now in
    refused c.args.config.now c.args.saved.now.current files c.next_plan.result
    (at-some (Why files c.args.config.now c.next_plan.result) c.args.saved.now.current _ c.current.ensures c.in-Some.checkpoint.now (ap option_copied c.in-Some.is) c.next_plan.ensures.refused)

pub returns-in-Some-clause-differs : goal.returns-in-Some-clause-differs
returns-in-Some-clause-differs g c =
    let files = g.H.Shelf.files c.args.shelf.now in
    differs c.args.config.now c.args.saved.now.current files c.next_plan.result
    (at-some (Why files c.args.config.now c.next_plan.result) c.args.saved.now.current _ c.current.ensures c.in-Some.checkpoint.now (ap option_copied c.in-Some.is) c.next_plan.ensures.refused)

pub returns-in-Some-clause-differs_comes : goal.returns-in-Some-clause-differs_comes
returns-in-Some-clause-differs_comes g c =
    let files = g.H.Shelf.files c.args.shelf.now in
    differs-comes c.args.config.now c.args.saved.now.current files c.next_plan.result
    (at-some (Found files c.args.config.now c.next_plan.result) c.args.saved.now.current _ c.current.ensures c.in-Some.checkpoint.now (ap option_copied c.in-Some.is) c.next_plan.ensures.found)
    (at-some (Why files c.args.config.now c.next_plan.result) c.args.saved.now.current _ c.current.ensures c.in-Some.checkpoint.now (ap option_copied c.in-Some.is) c.next_plan.ensures.refused)

pub returns-in-Some-clause-refusal_comes : goal.returns-in-Some-clause-refusal_comes
returns-in-Some-clause-refusal_comes g c =
    let files = g.H.Shelf.files c.args.shelf.now in
    refusal-comes c.args.config.now c.args.saved.now.current files c.next_plan.result
    (at-some (Found files c.args.config.now c.next_plan.result) c.args.saved.now.current _ c.current.ensures c.in-Some.checkpoint.now (ap option_copied c.in-Some.is) c.next_plan.ensures.found)
    (at-some (Why files c.args.config.now c.next_plan.result) c.args.saved.now.current _ c.current.ensures c.in-Some.checkpoint.now (ap option_copied c.in-Some.is) c.next_plan.ensures.refused)

pub returns-in-Some-clause-accepted : goal.returns-in-Some-clause-accepted
returns-in-Some-clause-accepted g c =
    let files = g.H.Shelf.files c.args.shelf.now in
    accepted c.args.config.now c.args.saved.now.current files c.next_plan.result
    (at-some (Why files c.args.config.now c.next_plan.result) c.args.saved.now.current _ c.current.ensures c.in-Some.checkpoint.now (ap option_copied c.in-Some.is) c.next_plan.ensures.refused)

pub returns-in-Some-clause-differs_first : goal.returns-in-Some-clause-differs_first
returns-in-Some-clause-differs_first g c = at-some (λ w. ¬ GoesOn c.args.config.now w → c.next_plan.new.shelf ≡ c.args.shelf.now) c.args.saved.now.current _ c.current.ensures c.in-Some.checkpoint.now (ap option_copied c.in-Some.is) c.next_plan.ensures.differs_first

pub returns-in-Some-clause-asked : goal.returns-in-Some-clause-asked
returns-in-Some-clause-asked g c = at-some (λ w. OpensThese (new_paths c.args.config.now w) c.next_plan.result (g.H.Shelf.asked c.args.shelf.now) (g.H.Shelf.asked c.next_plan.new.shelf)) c.args.saved.now.current _ c.current.ensures c.in-Some.checkpoint.now (ap option_copied c.in-Some.is) c.next_plan.ensures.asked
