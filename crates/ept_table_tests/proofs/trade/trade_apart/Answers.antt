use Rattle.std.proofs.Common.{◌≡◌, ap, ◌∙◌, arith}
use Rattle.ept_slots.specs.Views.{whole}
use Rattle.ept_table_tests.proofs.Trading.{splits, no-permits}
use Rattle.ept_table_tests.proofs.trade.trade_apart.Goals as goal

pub new-requires-clause-permits : goal.new-requires-clause-permits
new-requires-clause-permits g c = no-permits c.args.items.items

pub split-other-requires-clause-rule : goal.split-other-requires-clause-rule
split-other-requires-clause-rule g c = let all : c.in_ok-market.trader.me.0.parts ≡ whole = ap (λ v. v.parts) c.in_ok-market.ensures.ok.4 in splits _ _ _ _ (omega arith)

pub returns : goal.returns
returns g c = c.finish.ensures ∙ c.in_ok-market.ensures.ok.0
