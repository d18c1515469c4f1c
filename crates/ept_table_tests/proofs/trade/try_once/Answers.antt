use Rattle.std.proofs.Common.{sym, ap, ◌∙◌, subst, ℕ, ◌<◌}
use Rattle.ept_table_tests.proofs.Trading.{takes, gives, notes}
use Rattle.ept_table_tests.proofs.trade.try_once.Goals as goal

pub try_take-requires-clause-rule : goal.try_take-requires-clause-rule
try_take-requires-clause-rule c = takes _ _ _ _ _

pub note-requires-clause-rule : goal.note-requires-clause-rule
note-requires-clause-rule c = notes _ _ _ _

pub give-requires-clause-rule : goal.give-requires-clause-rule
give-requires-clause-rule c = let took = c.in_ok-found.ensures.step in let did = c.note.ensures.step in let v = c.note.new.seat.me.0 in
    gives _ _ _ 0 v c.in_ok-found.found 0 _ (ap (λ w. w.hold) did.1 ∙ ap (λ w. w.hold) took.1) (sym (ap (λ w. w.note) did.1 ∙ (did.2 ∙ (ap (λ w. w.note) took.1 ∙ (took.2 ∙ c.requires.idle.2)))))
    (subst (λ (n : ℕ). 0 < n) (sym (ap (λ w. w.parts) did.1 ∙ ap (λ w. w.parts) took.1)) c.requires.idle.1)
