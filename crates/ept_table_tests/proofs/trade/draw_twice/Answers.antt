use Rattle.std.proofs.Common.{◌≡◌, ◌+◌, ap, ◌∙◌, arith}
use Rattle.std.specs.List.{sum_by}
use Rattle.ept_table_tests.specs.Trade.{number}
use Rattle.ept_table_tests.proofs.Trading.{looks, draws, refuses, ends, kept-note, first-drawn, no-permits}
use Rattle.ept_table_tests.proofs.trade.draw_twice.Goals as goal

pub new-requires-clause-permits : goal.new-requires-clause-permits
new-requires-clause-permits c = no-permits c.args.items.items

pub draw-first-requires-clause-rule : goal.draw-first-requires-clause-rule
draw-first-requires-clause-rule c = draws _ _ _

pub draw-first-requires-clause-refused : goal.draw-first-requires-clause-refused
draw-first-requires-clause-refused c = refuses _ _ _

pub draw-second-requires-clause-rule : goal.draw-second-requires-clause-rule
draw-second-requires-clause-rule c = draws _ _ _

pub draw-second-requires-clause-refused : goal.draw-second-requires-clause-refused
draw-second-requires-clause-refused c = refuses _ _ _

pub look-seen-requires-clause-rule : goal.look-seen-requires-clause-rule
look-seen-requires-clause-rule c = looks _ _ _ _

pub returns : goal.returns
returns c = let made = c.in_ok-market.ensures.ok in let one = c.draw-first.ensures.step in let two = c.draw-second.ensures.step in let last = c.look-seen.ensures.step in
    let first = kept-note c.draw-first.result c.in_ok-market.trader.me.0 c.draw-first.new.seat.me.0 one.0 one.1 in let second = kept-note c.draw-second.result c.draw-first.new.seat.me.0 c.draw-second.new.seat.me.0 two.0 two.1 in
    let none : c.look-seen.new.seat.me.0.note ≡ 0 = ap (λ w. w.note) last.1 ∙ (last.2 ∙ (second ∙ (first ∙ ap (λ w. w.note) made.4))) in
    let end = ends _ _ _ c.look-seen.new.seat.me.0 _ _ c.close-ending.ensures.ended in let sum : sum_by number c.close-ending.result.items.items + c.look-seen.new.seat.me.0.note ≡ c.args.total = end ∙ made.0 in
    (first-drawn c.draw-first.result c.in_ok-market.trader.me.0 c.draw-first.new.seat.me.0 one.0 one.1, omega arith)
