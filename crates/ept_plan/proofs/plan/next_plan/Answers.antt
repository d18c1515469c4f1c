use Rattle.std.proofs.Common.{◌≡◌, sym, subst, arith, rules, Some}
use Rattle.std.specs.Prelude.{Result, Err, IfErr}
use Rattle.ept_plan.specs.declared.error.PlanError.{PlanError}
use Rattle.ept_plan.specs.declared.error.PlanError.TheVariants.{Scan}
use Rattle.ept_plan.specs.declared.plan.Plan.{Plan}
use Rattle.ept_plan.specs.Plans.{new_paths}
use Rattle.ept_plan.specs.Steps.{WhyNot}
use Rattle.ept_plan.proofs.Fields.{inputs-kept}
use Rattle.ept_plan.proofs.Steps.{not-on, no-fault, next-found}
use Rattle.ept_plan.proofs.Told.{refused-first, refused-behind}
use Rattle.ept_plan.proofs.plan.next_plan.Goals as goal

pub returns-in_err-kept-clause-refused : goal.returns-in_err-kept-clause-refused
returns-in_err-kept-clause-refused g c l =
    let files = g.H.Shelf.files c.args.shelf.now in
    let e = c.in_err-kept.field-0.0 in
    let is : c.from_residual.result ≡ Err e = search rules in
    subst (λ (r : Result Plan PlanError). IfErr r (WhyNot files c.args.config.now (Some (l, c.args.checkpoint.now)))) (sym is) (not-on files c.args.config.now c.args.checkpoint.now l e c.in_err-kept.ensures.refused)

pub returns-in_err-kept-clause-asked : goal.returns-in_err-kept-clause-asked
returns-in_err-kept-clause-asked g c l =
    let e = c.in_err-kept.field-0.0 in
    let is : c.from_residual.result ≡ Err e = search rules in
    refused-first (new_paths c.args.config.now (Some (l, c.args.checkpoint.now))) _ _ c.from_residual.result e is (search rules)

pub returns-in_err-kept-clause-cause : goal.returns-in_err-kept-clause-cause
returns-in_err-kept-clause-cause g c =
    let e = c.in_err-kept.field-0.0 in
    let is : c.from_residual.result ≡ Err e = search rules in
    record { later = omega arith; failed = λ fault. absurd (no-fault c.args.config.now c.args.checkpoint.now.kept e c.in_err-kept.ensures.refused (cc)) }

pub all_counts-requires : goal.all_counts-requires
all_counts-requires g c = inputs-kept c.args.config.now c.args.checkpoint.now.kept c.in_ok-kept.kept c.in_ok-kept.ensures.given c.in_ok-kept.ensures.goes_on

pub returns-in_err-counts-clause-refused : goal.returns-in_err-counts-clause-refused
returns-in_err-counts-clause-refused g c l =
    let files = g.H.Shelf.files c.args.shelf.now in
    let is : c.from_residual-in_err-counts.result ≡ Err (Scan c.in_err-counts.field-0.0) = search rules in
    subst (λ (r : Result Plan PlanError). IfErr r (WhyNot files c.args.config.now (Some (l, c.args.checkpoint.now)))) (sym is) (c.in_err-counts.ensures.refused, λ other. (c.in_ok-kept.kept, c.in_ok-kept.ensures.given, c.in_ok-kept.ensures.goes_on))

pub returns-in_err-counts-clause-asked : goal.returns-in_err-counts-clause-asked
returns-in_err-counts-clause-asked g c l =
    let is : c.from_residual-in_err-counts.result ≡ Err (Scan c.in_err-counts.field-0.0) = search rules in
    refused-behind (new_paths c.args.config.now (Some (l, c.args.checkpoint.now))) _ _ c.from_residual-in_err-counts.result _ is c.in_err-counts.ensures.asked

pub returns-in_err-counts-clause-differs_first : goal.returns-in_err-counts-clause-differs_first
returns-in_err-counts-clause-differs_first g c l not = absurd (not (c.in_ok-kept.kept, c.in_ok-kept.ensures.given, c.in_ok-kept.ensures.goes_on))

pub returns-clause-differs_first : goal.returns-clause-differs_first
returns-clause-differs_first g c l not = absurd (not (c.in_ok-kept.kept, c.in_ok-kept.ensures.given, c.in_ok-kept.ensures.goes_on))

pub returns-clause-found : goal.returns-clause-found
returns-clause-found g c l =
    next-found c.args.config.now c.args.checkpoint.now c.in_ok-counts.counts (g.H.Shelf.files c.args.shelf.now) c.in_ok-counts.ensures.counts l _ c.in_ok-kept.ensures.given c.in_ok-kept.ensures.goes_on (search rules) (search rules) (search rules)
