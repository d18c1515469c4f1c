use Rattle.std.proofs.Common.{◌≡◌, ◌∙◌, ap, sym, ◌<◌, arith, true, false, filter, get_or, ◌+◌}
use Rattle.ept_space.specs.VoxelKey.{VoxelKey}
use Rattle.ept_space.specs.OctreeCube.{InBox}
use Rattle.ept_sample.specs.Place.{place}
use Rattle.ept_sample.specs.Arrivals.{loses, losers, overflows, none_open}
use Rattle.ept_sample.proofs.ArrivalLaws.{overflows-depth}
use Rattle.ept_sample.proofs.WalkLaws.{found-at, opened-overflows, opened-closed, down-depth, down-InBox, down-InCube, All-passed, losing-at, sent-is, walked-none, walked-open, walked-closed, walked-all}
use Rattle.ept_sample.proofs.Openings.{kept-is, too_many-above}
use Rattle.ept_sample.proofs.top_down.+add_nodes.Goals as goal
use Rattle.ept_sample.proofs.top_down.+add_nodes.Goals.{then-open-which+in_ok-sent+in_ok-add_nodes, else-open-which}

pub overflowing-open-requires : goal.overflowing-open-requires
overflowing-open-requires t c = record {
  inside = All-passed (λ p. InBox c.args.rules.now.cube c.args.key (place p)) (loses c.args.rules.now c.key.inside.depth c.args.given.now) c.args.given.now c.in_ok-losers.losers.items c.as_slice.result.now c.as_slice.ensures.value c.in_ok-losers.ensures.losers c.requires.inside;
}

pub staying-requires-clause-bottom : goal.staying-requires-clause-bottom
staying-requires-clause-bottom t c o small open' =
    too_many-above c.args.rules.now c.args.key.depth c.as_slice.result.now o (sym (c.overflowing-open.ensures.overflow o small) ∙ open')

pub loop-which-init : goal.loop-which-init
loop-which-init t c = walked-none c.args.rules.now c.args.key c.args.given.now c.insert.new.self.entries

pub in_octant-requires-clause-inside : goal.in_octant-requires-clause-inside
in_octant-requires-clause-inside t c =
    All-passed (λ p. InBox c.args.rules.now.cube c.args.key (place p)) (loses c.args.rules.now c.key.inside.depth c.args.given.now) c.args.given.now c.in_ok-losers.losers.items c.as_slice-then-open-which.result.now c.as_slice-then-open-which.ensures.value c.in_ok-losers.ensures.losers c.requires.inside

pub add_nodes-requires : goal.add_nodes-requires
add_nodes-requires t c =
    let losing : c.as_slice.result.now ≡ filter (loses c.args.rules.now c.args.key.depth c.args.given.now) c.args.given.now =
    losing-at c.args.rules.now c.key.inside.depth c.args.key.depth c.args.given.now c.in_ok-losers.losers.items c.as_slice.result.now (ap (λ (k : VoxelKey). k.depth) c.key.view_is) c.as_slice.ensures.value c.in_ok-losers.ensures.losers in
    let over : overflows c.args.rules.now c.args.key.depth c.args.given.now c.loop-which.which ≡ true =
    opened-overflows c.args.rules.now c.args.key.depth c.args.given.now c.as_slice.result.now c.loop-which.which (get_or c.overflowing-open.result c.loop-which.which false) losing (c.overflowing-open.ensures.overflow c.loop-which.which (omega arith)) c.if-open-which.true in
    let above : c.args.key.depth < c.args.rules.now.cube.depth = overflows-depth c.args.rules.now c.args.key.depth c.args.given.now c.loop-which.which over in
    let level : c.child_of.result.depth ≡ c.args.key.depth + 1 = down-depth c.args.key c.child_of.result c.loop-which.which c.child_of.ensures.below in
    let sent : c.as_slice-then-open-which-2.result.now ≡ losers c.args.rules.now c.args.key.depth c.args.given.now c.loop-which.which =
    sent-is c.args.rules.now c.args.key.depth c.args.given.now c.as_slice.result.now c.in_ok-sent.sent.items c.as_slice-then-open-which-2.result.now c.loop-which.which c.as_slice-then-open-which-2.ensures.value losing (found-at c.args.rules.now c.args.key.depth c.loop-which.which c.in_ok-sent.sent.items c.as_slice-then-open-which.result.now c.as_slice.result.now c.in_ok-losers.losers.items c.in_ok-sent.ensures.found c.as_slice-then-open-which.ensures.value c.as_slice.ensures.value) in
    (omega (arith, c.decreases, level, above), (omega (arith, level, above), (down-InBox c.args.rules.now c.args.key c.child_of.result c.args.given.now c.as_slice-then-open-which-2.result.now c.loop-which.which c.known.ensures above c.requires.inside c.child_of.ensures.below sent, down-InCube c.args.rules.now c.args.key.depth c.args.given.now c.as_slice-then-open-which-2.result.now c.loop-which.which c.requires.in_cube sent)))

pub loop-which-preserved : goal.loop-which-preserved
loop-which-preserved t c =
    let losing : c.as_slice.result.now ≡ filter (loses c.args.rules.now c.args.key.depth c.args.given.now) c.args.given.now =
    losing-at c.args.rules.now c.key.inside.depth c.args.key.depth c.args.given.now c.in_ok-losers.losers.items c.as_slice.result.now (ap (λ (k : VoxelKey). k.depth) c.key.view_is) c.as_slice.ensures.value c.in_ok-losers.ensures.losers in
    elim c.if-open-which.branch [
      | then-open-which+in_ok-sent+in_ok-add_nodes w ↦
          let over : overflows c.args.rules.now c.args.key.depth c.args.given.now c.loop-which.which ≡ true =
          opened-overflows c.args.rules.now c.args.key.depth c.args.given.now c.as_slice.result.now c.loop-which.which (get_or c.overflowing-open.result c.loop-which.which false) losing (c.overflowing-open.ensures.overflow c.loop-which.which (omega arith)) w.if-open-which.true in
          let sent : w.as_slice-then-open-which-2.result.now ≡ losers c.args.rules.now c.args.key.depth c.args.given.now c.loop-which.which =
          sent-is c.args.rules.now c.args.key.depth c.args.given.now c.as_slice.result.now w.in_ok-sent.sent.items w.as_slice-then-open-which-2.result.now c.loop-which.which w.as_slice-then-open-which-2.ensures.value losing (found-at c.args.rules.now c.args.key.depth c.loop-which.which w.in_ok-sent.sent.items w.as_slice-then-open-which.result.now c.as_slice.result.now c.in_ok-losers.losers.items w.in_ok-sent.ensures.found w.as_slice-then-open-which.ensures.value c.as_slice.ensures.value) in
          rw w.nodes-is (walked-open c.args.rules.now c.args.key w.child_of.result c.args.given.now w.as_slice-then-open-which-2.result.now c.loop-which.which c.insert.new.self.entries c.loop-which.nodes.entries w.add_nodes.new.nodes.entries w.child_of.ensures.below over sent c.loop-which.invariant w.in_ok-add_nodes.ensures.nodes)
      | else-open-which w ↦
          let shut : overflows c.args.rules.now c.args.key.depth c.args.given.now c.loop-which.which ≡ false =
          opened-closed c.args.rules.now c.args.key.depth c.args.given.now c.as_slice.result.now c.loop-which.which (get_or c.overflowing-open.result c.loop-which.which false) losing (c.overflowing-open.ensures.overflow c.loop-which.which (omega arith)) w.if-open-which.false in
          rw w.nodes-is (walked-closed c.args.rules.now c.args.key c.args.given.now c.loop-which.which c.insert.new.self.entries c.loop-which.nodes.entries shut c.loop-which.invariant)
    ]

pub returns : goal.returns
returns t c =
    let losing : c.as_slice.result.now ≡ filter (loses c.args.rules.now c.args.key.depth c.args.given.now) c.args.given.now =
    losing-at c.args.rules.now c.key.inside.depth c.args.key.depth c.args.given.now c.in_ok-losers.losers.items c.as_slice.result.now (ap (λ (k : VoxelKey). k.depth) c.key.view_is) c.as_slice.ensures.value c.in_ok-losers.ensures.losers in
    record { nodes = walked-all c.args.rules.now c.args.key c.args.given.now c.of.result c.args.nodes.now.entries c.insert.new.self.entries c.loop-which.nodes.entries c.loop-which.which c.requires.low (c.of.ensures ∙ (c.in_ok-points.ensures.kept ∙ kept-is c.args.rules.now c.args.key.depth none_open c.args.given.now c.as_slice.result.now c.overflowing-open.result losing c.overflowing-open.ensures.overflow)) c.in_ok-insert.ensures.entries (omega arith) c.loop-which.invariant }
