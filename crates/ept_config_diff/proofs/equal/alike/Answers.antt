use Rattle.std.proofs.Common.{◌≡◌, ◌∙◌, sym, arith}
use Rattle.std.proofs.lemmas.List.{get_or_default}
use Rattle.ept_config.specs.declared.input.Input.{Input}
use Rattle.ept_config_diff.proofs.Alike.{alike-at}
use Rattle.ept_config_diff.proofs.equal.alike.Goals as goal

pub returns-then-not-is_same_input : goal.returns-then-not-is_same_input
returns-then-not-is_same_input c =
    alike-at c.loop-at.at c.args.kept.now c.args.given.now c.loop-at.invariant.in_kept c.loop-at.invariant.in_given c.loop-at.invariant.same
    (λ a b k g at_kept at_given is.
    let one : a ≡ c.index-kept-at.result = sym at_kept ∙ (get_or_default c.args.kept.now c.loop-at.at a c.index-kept-at.result k ∙ sym c.index-kept-at.is) in
    let other : b ≡ c.index-given-at.result = sym at_given ∙ (get_or_default c.args.given.now c.loop-at.at b c.index-given-at.result g ∙ sym c.index-given-at.is) in
    let same = c.is_same_input.ensures.1 (sym other ∙ (is ∙ one)) in
    let not_same = c.if-not-is_same_input.true in
    absurd (cc))

pub returns-else-at-given : goal.returns-else-at-given
returns-else-at-given c =
    alike-at c.loop-at.at c.args.kept.now c.args.given.now c.loop-at.invariant.in_kept c.loop-at.invariant.in_given c.loop-at.invariant.same
    (λ a b k g at_kept at_given is. omega (arith, g, c.if-at-given.false))

pub returns-after-loop-at : goal.returns-after-loop-at
returns-after-loop-at c =
    alike-at c.loop-at.at c.args.kept.now c.args.given.now c.loop-at.invariant.in_kept c.loop-at.invariant.in_given c.loop-at.invariant.same
    (λ a b k g at_kept at_given is. omega (arith, k, c.loop-at-test.false))
