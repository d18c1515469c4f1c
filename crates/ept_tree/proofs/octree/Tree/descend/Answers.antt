use Rattle.std.proofs.Common.{◌≡◌, ◌∙◌, ◌+◌, length, List, refl, sym, subst, arith, count_by, drop, ap}
use Rattle.std.proofs.lemmas.List.Elements.{All-nil}
use Rattle.ept_tree.specs.declared.arrival.Arrival.{Arrival}
use Rattle.ept_table.specs.Octree.{points_in}
use Rattle.ept_tree.specs.Tree.{IsPlaced, ArePlaced, AreAtDepth, on_the_way}
use Rattle.ept_tree.proofs.Descending.{descent-begins, whole-begins, whole-goes-on, whole-ends, descent-goes-on, descent-deepens, descent-placed, descent-places, descent-ends, front-of, none-left}
use Rattle.ept_tree.proofs.Together.{next-together}
use Rattle.ept_tree.proofs.octree.Tree.descend.Goals as goal

pub loop-arrival-init : goal.loop-arrival-init
loop-arrival-init c = record {
  rules = refl;
  rest = c.requires.rest;
  placed = subst (λ (w : List Arrival). ArePlaced c.args.self.now.rules w) (sym c.new-next.ensures.items) (All-nil (IsPlaced c.args.self.now.rules));
  deeper = λ depth at. subst (λ (w : List Arrival). AreAtDepth (depth + 1) w) (sym c.new-next.ensures.items) (All-nil (λ (b : Arrival). b.key.depth ≡ depth + 1));
  together = λ test. (
      let none : count_by test (on_the_way c.new-next.result.items) ≡ 0 = ap (λ (w : List Arrival). count_by test (on_the_way w)) c.new-next.ensures.items in
      omega (arith, none));
  whole = whole-begins c.args.arrivals.now c.new-next.result.items c.args.self.now.nodes.entries c.new-next.ensures.items;
  becomes = descent-begins c.args.self.now.rules c.args.arrivals.now c.new-next.result.items c.args.self.now.nodes.entries c.new-next.ensures.items;
}

pub arrive-requires-clause-placed : goal.arrive-requires-clause-placed
arrive-requires-clause-placed c =
    let i = c.loop-arrival in
    descent-placed c.args.self.now.rules i.self.rules i.invariant.rules c.args.arrivals.now i.arrival-index c.arrival-item.result c.loop-arrival-test.true c.arrival-item.is c.requires.placed

pub returns-in_err-arrive-clause-rules : goal.returns-in_err-arrive-clause-rules
returns-in_err-arrive-clause-rules c = c.in_err-arrive.ensures.rules ∙ c.loop-arrival.invariant.rules

pub loop-arrival-preserved : goal.loop-arrival-preserved
loop-arrival-preserved c =
    let i = c.loop-arrival in
    let rules = c.args.self.now.rules in
    let arrivals = c.args.arrivals.now in
    let old = c.args.self.now.nodes.entries in
    record {
      rules = c.in_ok-arrive.ensures.rules ∙ i.invariant.rules;
      rest = c.in_ok-arrive.ensures.rest;
      placed = descent-places rules i.self.rules i.invariant.rules c.arrival-item.result i.self.nodes.entries c.arrive.new.self.nodes.entries i.next.items c.arrive.new.next.items c.in_ok-arrive.ensures.arrived i.invariant.placed;
      deeper = descent-deepens rules i.self.rules i.invariant.rules arrivals i.next.items i.arrival-index c.arrival-item.result c.loop-arrival-test.true c.arrival-item.is old i.self.nodes.entries i.invariant.becomes c.arrive.new.self.nodes.entries c.arrive.new.next.items c.in_ok-arrive.ensures.arrived i.invariant.deeper;
      together = λ test. next-together test (on_the_way arrivals) (points_in old) (points_in i.self.nodes.entries) c.arrival-item.result (drop i.arrival-index arrivals) (drop (i.arrival-index + 1) arrivals) i.next.items c.in_ok-arrive.ensures.arrived.sent c.arrive.new.next.items c.arrive.new.self.nodes.entries (front-of arrivals i.arrival-index c.arrival-item.result c.loop-arrival-test.true c.arrival-item.is) c.in_ok-arrive.ensures.arrived.grows (c.in_ok-arrive.ensures.arrived.together test) (i.invariant.together test);
      whole = whole-goes-on rules i.self.rules i.invariant.rules arrivals i.next.items i.arrival-index c.arrival-item.result c.loop-arrival-test.true c.arrival-item.is old i.self.nodes.entries i.invariant.becomes c.arrive.new.self.nodes.entries c.arrive.new.next.items c.in_ok-arrive.ensures.arrived i.invariant.whole;
      becomes = descent-goes-on rules i.self.rules i.invariant.rules arrivals i.next.items i.arrival-index c.arrival-item.result c.loop-arrival-test.true c.arrival-item.is old i.self.nodes.entries i.invariant.becomes c.arrive.new.self.nodes.entries c.arrive.new.next.items c.in_ok-arrive.ensures.arrived;
    }

pub returns-clause-rules : goal.returns-clause-rules
returns-clause-rules c = c.loop-arrival.invariant.rules

pub returns-clause-rest : goal.returns-clause-rest
returns-clause-rest c = c.loop-arrival.invariant.rest

pub returns-clause-placed : goal.returns-clause-placed
returns-clause-placed c = c.loop-arrival.invariant.placed

pub returns-clause-deeper : goal.returns-clause-deeper
returns-clause-deeper c = c.loop-arrival.invariant.deeper

pub returns-clause-together : goal.returns-clause-together
returns-clause-together c = λ test. (
    let i = c.loop-arrival in
    let all : i.arrival-index ≡ length c.args.arrivals.now = omega arith in
    let none : count_by test (on_the_way (drop i.arrival-index c.args.arrivals.now)) ≡ 0 = ap (λ (w : List Arrival). count_by test (on_the_way w)) (none-left c.args.arrivals.now i.arrival-index all) in
    omega (arith, i.invariant.together test, none))

pub returns-clause-becomes : goal.returns-clause-becomes
returns-clause-becomes c =
    let all : c.loop-arrival.arrival-index ≡ length c.args.arrivals.now = omega arith in
    descent-ends c.args.self.now.rules c.args.arrivals.now c.loop-arrival.next.items c.loop-arrival.arrival-index c.args.self.now.nodes.entries c.loop-arrival.self.nodes.entries all c.loop-arrival.invariant.becomes

pub returns-clause-whole : goal.returns-clause-whole
returns-clause-whole c =
    let all : c.loop-arrival.arrival-index ≡ length c.args.arrivals.now = omega arith in
    whole-ends c.args.arrivals.now c.loop-arrival.next.items c.loop-arrival.arrival-index c.args.self.now.nodes.entries c.loop-arrival.self.nodes.entries all c.loop-arrival.invariant.whole
