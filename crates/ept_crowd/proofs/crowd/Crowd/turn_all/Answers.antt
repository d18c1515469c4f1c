use Rattle.std.proofs.Common.{◌<◌, ◌≤◌, length, rules, arith}
use Rattle.ept_crowd.specs.Shown.{shown}
use Rattle.ept_crowd.proofs.Turning.{gone-none, gone-more, place-within, all-turned}
use Rattle.ept_crowd.proofs.crowd.Crowd.turn_all.Goals as goal

pub loop-init : goal.loop-init
loop-init g c = record {
  gone = gone-none g.L.PollLink g.T.Store (shown c.args.self.now) c.args.cx.now;
  end_is = search rules;
  within = omega arith;
  kept = λ fact holds. holds;
}

pub turn_next-place-requires : goal.turn_next-place-requires
turn_next-place-requires g c =
    let was = c.loop.invariant in
    let end_is = was.end_is in
    let less : c.loop.counter < length c.args.self.now.live.items = (let test = c.loop-test.true in omega (arith, test, end_is)) in
    place-within g.L.PollLink g.T.Store (shown c.args.self.now) (shown c.loop.self) c.args.cx.now c.loop.cx c.loop.counter c.loop.place was.gone less

pub loop-preserved : goal.loop-preserved
loop-preserved g c =
    let was = c.loop.invariant in
    let end_is = was.end_is in
    let test = c.loop-test.true in
    let less : c.loop.counter < length c.args.self.now.live.items = omega (arith, test, end_is) in record {
      gone = gone-more g.L.PollLink g.T.Store (shown c.args.self.now) (shown c.loop.self) (shown c.turn_next-place.new.self) c.args.cx.now c.loop.cx c.turn_next-place.new.cx c.loop.counter c.loop.place c.turn_next-place.result was.gone c.turn_next-place.ensures.kept less c.turn_next-place.ensures.turned;
      end_is = end_is;
      within = omega (arith, test);
      kept = λ fact holds. c.turn_next-place.ensures.kept fact (was.kept fact holds);
    }

pub returns-clause-turned : goal.returns-clause-turned
returns-clause-turned g c =
    let was = c.loop.invariant in
    let end_is = was.end_is in
    let over : length c.args.self.now.live.items ≤ c.loop.counter = (let test = c.loop-test.false in omega (arith, test, end_is)) in
    all-turned g.L.PollLink g.T.Store (shown c.args.self.now) (shown c.loop.self) c.args.cx.now c.loop.cx c.loop.counter c.loop.place c.is_empty.result was.gone over (search rules)
