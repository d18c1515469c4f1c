use Rattle.std.proofs.Common.{◌≡◌, ◌+◌, ap, arith}
use Rattle.std.specs.List.{sum_by}
use Rattle.ept_slots.specs.Seating.{key_of}
use Rattle.ept_table_tests.specs.Trade.{number}
use Rattle.ept_table_tests.proofs.Trading.{joins, ends}
use Rattle.ept_table_tests.proofs.trade.finish.Goals as goal

pub join-requires-clause-rule : goal.join-requires-clause-rule
join-requires-clause-rule c = let half : c.args.trader.me.0.parts ≡ 2147483648 = c.requires.halves.0 in joins _ _ _ _ _ _ (omega arith)

pub returns : goal.returns
returns c = let end = ends _ _ _ c.join.new.seat.me.0 _ _ c.close-items.ensures.ended in let a : c.args.trader.me.0.note ≡ c.args.first = c.requires.carried.0 in let b : c.args.other.me.0.note ≡ c.args.second = c.requires.carried.1 in
    let sum : sum_by number c.close-items.result.items.items + c.join.new.seat.me.0.note ≡ key_of c.args.market = end in let note : c.join.new.seat.me.0.note ≡ c.args.trader.me.0.note + c.args.other.me.0.note = ap (λ v. v.note) c.join.ensures.step in omega arith
