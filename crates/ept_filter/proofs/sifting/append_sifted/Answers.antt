use Rattle.std.proofs.Common.{sym, ap, ◌∙◌, arith}
use Rattle.ept_filter.specs.Sifting.{passes_packed}
use Rattle.ept_filter.proofs.Sifted.{sifted-start, sifted-pass, sifted-skip, sifted-kept, sifted-number}
use Rattle.ept_filter.proofs.sifting.append_sifted.Goals as goal

pub loop-packed-init : goal.loop-packed-init
loop-packed-init c = sifted-start c.args.sift.now c.args.bytes.now c.args.out.now.items c.requires

pub loop-packed-preserved-in_ok-append_cut : goal.loop-packed-preserved-in_ok-append_cut
loop-packed-preserved-in_ok-append_cut c =
    let cases = c.in-Some.ensures.cases in
    let passed = ap (passes_packed c.args.sift.now) (sym cases.0) ∙ sym c.passes.ensures ∙ c.if-passes.true in
    rw cases.1 (sifted-pass _ _ c.loop-packed.rest.now _ _ _ c.loop-packed.invariant (omega (arith, cases.2)) _ passed (rw cases.0 at c.in_ok-append_cut.ensures.kept))

pub loop-packed-preserved : goal.loop-packed-preserved
loop-packed-preserved c =
    let cases = c.in-Some.ensures.cases in
    let skipped = ap (passes_packed c.args.sift.now) (sym cases.0) ∙ sym c.passes.ensures ∙ c.if-passes.false in
    rw cases.1 (sifted-skip _ _ c.loop-packed.rest.now _ _ _ c.loop-packed.invariant (omega (arith, cases.2)) skipped)

pub returns-clause-kept : goal.returns-clause-kept
returns-clause-kept c = sifted-kept _ _ c.loop-packed.rest.now _ _ _ c.loop-packed.invariant c.in_default.ensures.cases

pub returns-clause-number : goal.returns-clause-number
returns-clause-number c = sifted-number _ _ c.loop-packed.rest.now _ _ _ c.loop-packed.invariant c.in_default.ensures.cases
