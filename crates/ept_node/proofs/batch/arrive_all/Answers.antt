use Rattle.std.proofs.Common.{◌≡◌, ◌∙◌, ◌+◌, ◌==◌, ◌++◌, ◌∷◌, [], take, drop, List, refl, sym, ap, subst, arith, count_by}
use Rattle.std.proofs.lemmas.List.{drop_more, take_more}
use Rattle.ept_point.specs.declared.point.Point.{Point}
use Rattle.ept_sample.proofs.IdLaws.{count_by-cons, count_by-append}
use Rattle.ept_sample.specs.Arrivals.{octant}
use Rattle.ept_grid.specs.Node.{Node, HasRoomFor}
use Rattle.ept_grid.specs.Outgoing.{Leaving, points_at}
use Rattle.ept_node.proofs.Batches.{taken-next}
use Rattle.ept_node.proofs.Bridges.{sends-none, sends-more}
use Rattle.ept_node.proofs.batch.arrive_all.Goals as goal

pub loop-point-init : goal.loop-point-init
loop-point-init c =
    let old = c.args.grid.now in
    let out = c.args.out.now in
    record {
      key = refl;
      rules = refl;
      room = c.requires.room;
      together = λ test. omega arith;
      sends_on = λ o low. sends-none old old (points_at out o) (points_at out o) refl refl refl refl c.known.ensures.deepest (omega (arith, c.known.ensures.low)) o low;
      taken = λ once. record { points = refl; mask = refl; leave = λ o. refl };
    }

-- the room for the first of some points
first-room : (node : Node) (out : List Leaving) (p : Point) (later : List Point) → HasRoomFor node out (p ∷ later) → HasRoomFor node out (p ∷ [])
first-room node out p later room = record {
  cells = omega (arith, room.cells);
  places = λ o h. omega (arith, room.places o h, count_by-cons (λ q. octant node.rules node.key.depth q == o) p [], count_by-cons (λ q. octant node.rules node.key.depth q == o) p later);
}

pub arrive-requires-clause-room : goal.arrive-requires-clause-room
arrive-requires-clause-room c =
    let i = c.loop-point in
    let p = c.point-item.result in
    let points = c.args.points.now in
    let behind : drop i.point-index points ≡ p ∷ drop (i.point-index + 1) points = drop_more points i.point-index p c.loop-point-test.true ∙ ap (λ (q : Point). q ∷ drop (i.point-index + 1) points) (sym c.point-item.is) in
    first-room i.grid i.out p (drop (i.point-index + 1) points) (subst (λ (w : List Point). HasRoomFor i.grid i.out w) behind i.invariant.room)

pub loop-point-preserved : goal.loop-point-preserved
loop-point-preserved c =
    let i = c.loop-point in
    let old = c.args.grid.now in
    let mid = i.grid in
    let new = c.arrive.new.self in
    let p = c.point-item.result in
    let points = c.args.points.now in
    let key : mid.key ≡ old.key = i.invariant.key in
    let rules : mid.rules ≡ old.rules = i.invariant.rules in
    let behind : drop i.point-index points ≡ p ∷ drop (i.point-index + 1) points = drop_more points i.point-index p c.loop-point-test.true ∙ ap (λ (q : Point). q ∷ drop (i.point-index + 1) points) (sym c.point-item.is) in
    let more : take (i.point-index + 1) points ≡ take i.point-index points ++ p ∷ [] = take_more points i.point-index p c.loop-point-test.true ∙ ap (λ (q : Point). take i.point-index points ++ q ∷ []) (sym c.point-item.is) in
    record {
      key = c.arrive.ensures.key ∙ key;
      rules = c.arrive.ensures.rules ∙ rules;
      room = c.arrive.ensures.room (drop (i.point-index + 1) points) (subst (λ (w : List Point). HasRoomFor mid i.out w) behind i.invariant.room);
      together = λ test. omega (arith, i.invariant.together test, c.arrive.ensures.together test, count_by-cons test p mid.points, ap (λ (w : List Point). count_by test w) more, count_by-append test (take i.point-index points) (p ∷ []), count_by-cons test p []);
      sends_on = λ o low. sends-more old mid new key rules o (points_at c.args.out.now o) (points_at i.out o) (points_at c.arrive.new.out o) (i.invariant.sends_on o low) (c.arrive.ensures.sends_on o low);
      taken = λ once. taken-next c.batch_law.ensures.no_order c.batch_law.ensures.join old mid new key rules points i.point-index p c.loop-point-test.true c.point-item.is c.args.out.now i.out c.arrive.new.out i.invariant.taken c.arrive.ensures.takes_in once;
    }
