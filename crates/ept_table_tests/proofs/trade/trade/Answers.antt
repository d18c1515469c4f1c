use Rattle.std.proofs.Common.{sym, ap, ◌∙◌, subst, ℕ, ◌<◌}
use Rattle.ept_table_tests.proofs.Trading.{takes, gives}
use Rattle.ept_table_tests.proofs.trade.trade.Goals as goal

pub take-found-requires-clause-rule : goal.take-found-requires-clause-rule
take-found-requires-clause-rule g c = takes _ _ _ _ _

pub give-requires-clause-rule : goal.give-requires-clause-rule
give-requires-clause-rule g c = let took = c.take-found.ensures.step in let v = c.take-found.new.seat.me.0 in
    gives _ _ _ c.args.slot v c.take-found.result c.args.carried _ (ap (λ w. w.hold) took.1) (sym (ap (λ w. w.note) took.1 ∙ (took.2 ∙ c.requires.idle.2))) (subst (λ (n : ℕ). 0 < n) (sym (ap (λ w. w.parts) took.1)) c.requires.idle.1)
