use Rattle.std.proofs.Common.{◌+◌, ap, ◌∙◌, sym}
use Rattle.std.specs.List.{sum_by}
use Rattle.ept_table_tests.specs.Trade.{number}
use Rattle.ept_table_tests.proofs.Trading.{ends, no-permits}
use Rattle.ept_table_tests.proofs.trade.take_first.Goals as goal

pub new-requires-clause-permits : goal.new-requires-clause-permits
new-requires-clause-permits c = no-permits c.args.items.items

pub returns : goal.returns
returns c = let end = ends _ _ _ c.try_once-taken.new.trader.me.0 _ _ c.close.ensures.ended in ap (λ n. sum_by number c.close.result.items.items + n) (sym c.try_once-taken.ensures.step.3) ∙ (end ∙ c.in_ok-market.ensures.ok.0)
