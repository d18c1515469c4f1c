use Rattle.std.proofs.Common.{◌≡◌, ◌<◌, suc, length, List, map, subst, arith, ◌+◌}
use Rattle.ept_space.specs.VoxelKey.{AreAscending}
use Rattle.ept_sample.proofs.KeyOrder.{AllPairs-IsRising}
use Rattle.ept_core.proofs.Lookups.{sorted-rising}
use Rattle.ept_octree.specs.Index.{Site, in_slots, AreSites}
use Rattle.ept_octree.proofs.Placing.{length-in}
use Rattle.ept_octree.proofs.Sited.{not-blank, one-more-site, index-at}
use Rattle.ept_octree.proofs.resting.slots_of.Goals as goal

pub key-key-requires : goal.key-key-requires
key-key-requires g c =
    let ns = c.args.nodes.now in
    let low : c.loop-place.place < length ns = omega (arith, c.loop-place-test.true, c.requires.low, length-in g.F.SpillFile.held ns) in
    not-blank g.F.SpillFile.held c.args.used ns c.requires c.loop-place.place c.loop-place-test.true c.index-nodes-place.result (index-at ns c.loop-place.place c.index-nodes-place.result low c.index-nodes-place.is)

pub loop-place-preserved : goal.loop-place-preserved
loop-place-preserved g c =
    let ns = c.args.nodes.now in
    let place = c.loop-place.place in
    let low : place < length ns = omega (arith, c.loop-place-test.true, c.requires.low, length-in g.F.SpillFile.held ns) in
    let sites : List Site = c.insert.new.self.entries in
    let next : place + 1 ≡ suc place = omega arith in
    let ascend : AreAscending (map (λ (s : Site). s.0) sites) = AllPairs-IsRising (map (λ (s : Site). s.0) sites) (sorted-rising (map (λ (s : Site). s.0) sites) c.in_ok-insert.ensures.ordered) in
    subst (λ k. AreSites k (in_slots g.F.SpillFile.held ns) sites) (omega arith) (one-more-site g.F.SpillFile.held c.args.used ns c.requires place c.loop-place-test.true c.index-nodes-place.result (index-at ns place c.index-nodes-place.result low c.index-nodes-place.is) c.loop-place.slots.entries sites c.loop-place.invariant c.key-key.result c.key-key.ensures (place + 1) next c.in_ok-insert.ensures.entries c.in_ok-insert.ensures.updates.0 ascend)

pub returns : goal.returns
returns g c =
    subst (λ k. AreSites k (in_slots g.F.SpillFile.held c.args.nodes.now) c.loop-place.slots.entries) (omega (arith, c.loop-place-test.false, c.loop-place.auto.place-end)) c.loop-place.invariant
