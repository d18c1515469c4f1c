use Rattle.ept_filter.proofs.Commas.{words-step}
use Rattle.ept_filter.proofs.ClassLists.{none-read, read-more-classes, next-class}
use Rattle.ept_filter.proofs.classes.read_class_list.Goals as goal

pub loop-rest-init : goal.loop-rest-init
loop-rest-init c = none-read c.args.text.now c.new-set.result c.new-set.ensures.empty

pub returns-in_err-class-clause-none : goal.returns-in_err-class-clause-none
returns-in_err-class-clause-none c =
    let h = rw (words-step _ _ _ _ c.in-Some.is c.first_word.ensures) at c.loop-rest.invariant in
    rw c.from_residual.ensures (λ classes is.
    let found = next-class _ _ _ _ _ h classes is in
    c.in_err-class.ensures.none found.0 found.1)

pub loop-rest-preserved : goal.loop-rest-preserved
loop-rest-preserved c =
    let h = rw (words-step _ _ _ _ c.in-Some.is c.first_word.ensures) at c.loop-rest.invariant in
    rw c.from-least.ensures (read-more-classes _ _ _ _ _ h c.insert.new.self c.in_ok-class.class c.in_ok-class.ensures.some c.insert.ensures.members)
