use Rattle.std.proofs.Common.{arith, IsTrue}
use Rattle.std.proofs.lemmas.List.Elements.{All-more}
use Rattle.ept_config_diff.specs.Differing.{IsAsKept, in_order}
use Rattle.ept_config_diff.proofs.First.{first-at, all-taken}
use Rattle.ept_config_diff.proofs.differing.first_field.Goals as goal

pub returns-then-not-is_as_kept-clause-some : goal.returns-then-not-is_as_kept-clause-some
returns-then-not-is_as_kept-clause-some c =
    first-at c.args.kept.now c.args.given.now c.loop-field.field-index _ (omega (arith, c.loop-field-test.true)) c.loop-field.invariant
    (λ is. let told = c.is_as_kept.ensures.1 is in let not = c.if-not-is_as_kept.true in absurd (cc))

pub loop-field-preserved : goal.loop-field-preserved
loop-field-preserved c =
    All-more (IsAsKept c.args.kept.now c.args.given.now) in_order c.loop-field.field-index _ (omega (arith, c.loop-field-test.true)) c.loop-field.invariant
    (c.is_as_kept.ensures.0 (let not = c.if-not-is_as_kept.false in cc))

pub returns-clause-none : goal.returns-clause-none
returns-clause-none c = λ is. all-taken (IsAsKept c.args.kept.now c.args.given.now) in_order c.loop-field.field-index (omega (arith, c.loop-field-test.false)) c.loop-field.invariant
