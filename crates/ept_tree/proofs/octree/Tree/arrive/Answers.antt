use Rattle.std.proofs.Common.{◌≡◌, ℕ, [], ◌++◌, arith, sym, subst, ◌∷◌}
use Rattle.ept_space.specs.declared.cube.Rules.{Rules}
use Rattle.ept_grid.specs.Outgoing.{points_at}
use Rattle.ept_tree.specs.Sending.{sending}
use Rattle.ept_table.specs.Octree.{AreNodes, points_in}
use Rattle.ept_tree.proofs.Growing.{sent-below, one-ok}
use Rattle.ept_tree.proofs.Inside.{sending-placed, sends-above}
use Rattle.ept_tree.proofs.Together.{sent-together}
use Rattle.ept_tree.proofs.octree.Tree.arrive.Goals as goal

pub send_on-requires : goal.send_on-requires
send_on-requires c = record {
  above = λ o low some.
      omega (arith, sends-above c.args.self.now.rules c.args.arrival.now.key c.land.new.self.leaving c.in_ok-land.ensures.landed.down o low some, c.known.ensures.cells_whole, c.known.ensures.side_high, c.known.ensures.span_low);
}

pub returns-clause-rest : goal.returns-clause-rest
returns-clause-rest c =
    one-ok c.send_on.result ((o : ℕ) → points_at c.send_on.new.leaving o ≡ []) _ c.send_on.ensures.none (λ none. record {
      own = subst (λ (r : Rules). AreNodes r c.land.new.self.nodes.entries) (sym c.in_ok-land.ensures.rules) c.in_ok-land.ensures.own;
      none = none;
    })

pub returns-clause-arrived : goal.returns-clause-arrived
returns-clause-arrived c =
    let a = c.args.arrival.now in
    let leaving = c.land.new.self.leaving in
    one-ok c.send_on.result (c.send_on.new.arrivals.items ≡ c.args.next.now.items ++ sending a.key leaving) _ c.send_on.ensures.sent (λ sent. record {
      sent = sending a.key leaving;
      grows = sent;
      deeper = sent-below a.key leaving;
      placed = sending-placed c.args.self.now.rules a.key leaving c.in_ok-land.ensures.landed.down;
      together = λ test. sent-together test (a.point ∷ points_in c.args.self.now.nodes.entries) c.land.new.self.nodes.entries a.key leaving c.known-2.ensures (c.in_ok-land.ensures.landed.together test);
      becomes = c.in_ok-land.ensures.landed.becomes;
      whole = c.in_ok-land.ensures.landed.whole;
    })
