use Rattle.std.proofs.Common.{◌≡◌, ◌+◌, ◌≤◌, ◌∙◌, ℕ, List, take, length, Option, Some, None, Ok, refl, sym, ap, subst, arith}
use Rattle.std.specs.List.{All}
use Rattle.std.proofs.lemmas.Result.{err_from_is_err_and}
use Rattle.ept_base.specs.Files.{Files}
use Rattle.ept_point.specs.declared.point.Point.{Point}
use Rattle.ept_space.specs.VoxelKey.{VoxelKey, IsKey}
use Rattle.ept_sample.specs.Members.{IsMember}
use Rattle.ept_sample.proofs.Members.{all-member}
use Rattle.ept_hier.specs.Hierarchy.{Node, keys_of}
use Rattle.ept_query.specs.Damage.{HasTile}
use Rattle.ept_fit.specs.Fit.{HasParent, IsInOctree}
use Rattle.ept_check.specs.Nodes.{HasNode}
use Rattle.ept_check.specs.Facts.{IsFirstLack}
use Rattle.ept_check.specs.Looking.{Finds, AreFound}
use Rattle.ept_check.specs.Folder.{IsFirstFault}
use Rattle.ept_check.specs.Verdicts.{AreFaultless}
use Rattle.ept_check.proofs.Sets.{whole, item-in}
use Rattle.ept_check.proofs.Told.{tells-from, told-back, tile-back, same-none, same-twice}
use Rattle.ept_check.proofs.Walks.{IsSeen, in-nodes, seen-none, seen-more, damage-first, fault-first, all-clean, count-more, count-whole, listed, none-all, some-of, walk-refused}
use Rattle.ept_check.proofs.walk.walk.Goals as goal

pub returns-in_err-points-clause-answers : goal.returns-in_err-points-clause-answers
returns-in_err-points-clause-answers g c =
    let octree = c.args.octree.now in
    let n = c.node-item.result in
    let p = err_from_is_err_and c.from_residual.result c.from_residual.ensures.1 in
    rw (p.1, p.2) (walk-refused octree.rules octree.nodes.items (g.T.Store.files c.args.store.now) (g.T.Store.files c.loop-node.store) n.0 n.1 c.in_err-points.field-0.0
    (λ all is none. (
    let keys : (key : VoxelKey) → IsMember key (keys_of octree.nodes.items) → IsKey key = λ key m. (all-member (IsInOctree octree.rules) key (keys_of octree.nodes.items) c.requires.sound.in_octree m).0 in
    damage-first c.complete_law.ensures.once octree.rules all octree.nodes.items c.args.order.now c.requires.ascend keys c.requires.each c.requires.order c.loop-node.node-index n c.loop-node-test.true c.node-item.is c.loop-node.seen (c.loop-node.invariant.seen all is c.complete_law.ensures.once c.requires.ascend keys c.requires.each c.requires.order) c.requires.parents none))
    c.loop-node.invariant.moves.reads c.in_err-points.ensures.refused)

pub returns-in_err-points-clause-any_moment : goal.returns-in_err-points-clause-any_moment
returns-in_err-points-clause-any_moment g c =
    same-twice g.T.Store.files g.T.Store.may_leave g.T.Store.moment g.T.Store.image_since c.args.store.now c.loop-node.store c.tile_points.new.store c.loop-node.invariant.moves c.tile_points.ensures.any_moment

pub look-requires-clause-listed : goal.look-requires-clause-listed
look-requires-clause-listed g c =
    listed c.args.octree.now.nodes.items c.args.order.now c.node-item.result c.requires.each (item-in c.args.order.now c.loop-node.node-index c.node-item.result c.loop-node-test.true c.node-item.is)

pub look-requires-clause-parent : goal.look-requires-clause-parent
look-requires-clause-parent g c =
    all-member (HasParent (keys_of c.args.octree.now.nodes.items)) c.node-item.result.0 (keys_of c.args.octree.now.nodes.items) c.requires.parents
    (listed c.args.octree.now.nodes.items c.args.order.now c.node-item.result c.requires.each (item-in c.args.order.now c.loop-node.node-index c.node-item.result c.loop-node-test.true c.node-item.is))

pub loop-node-preserved : goal.loop-node-preserved
loop-node-preserved g c =
    let octree = c.args.octree.now in
    let nodes = c.args.octree.now.nodes.items in
    let n = c.node-item.result in
    let seen = c.loop-node.seen in
    let points = c.deref.result.now in
    let taken = c.in_ok-found.ensures.taken c.in-None.is in
    record {
      moves = same-twice g.T.Store.files g.T.Store.may_leave g.T.Store.moment g.T.Store.image_since c.args.store.now c.loop-node.store c.tile_points.new.store c.loop-node.invariant.moves c.tile_points.ensures.any_moment;
      later = (let a = c.loop-node.invariant.later in let b = c.tile_points.ensures.cause.later in omega (arith, a, b));
      gets = (let a = c.loop-node.invariant.gets in let b = c.tile_points.ensures.gets in omega (arith, a, b));
      of_rules = c.in_ok-found.ensures.of_rules c.in-None.is;
      stack = c.in_ok-found.ensures.stack c.in-None.is;
      seen = λ all is once ascend keys each sorted. (
          let has = told-back (λ (f : Files). HasTile f n.0 n.1 c.in_ok-points.points.items) (tile-back n.0 n.1 c.in_ok-points.points.items) (g.T.Store.files c.args.store.now) (g.T.Store.files c.loop-node.store) all is c.loop-node.invariant.moves.reads c.in_ok-points.ensures.found in
          let node : HasNode all nodes n.0 points = record {
            count = n.1;
            listed = in-nodes once octree.rules all nodes c.args.order.now ascend keys each sorted n (item-in c.args.order.now c.loop-node.node-index n c.loop-node-test.true c.node-item.is);
            tile = subst (λ (ps : List Point). HasTile all n.0 n.1 ps) (sym c.deref.ensures.value) has;
          } in
          let found = none-all (AreFound octree seen n.0 points) (IsFirstLack (Finds octree seen n.0 points)) c.in_ok-found.found c.in-None.is c.in_ok-found.ensures.found in
          seen-more once octree.rules all nodes c.args.order.now ascend keys each sorted c.loop-node.node-index n c.loop-node-test.true c.node-item.is seen (c.loop-node.invariant.seen all is once ascend keys each sorted) c.loop-node.invariant.of_rules points node found c.look.new.self taken);
      total = (let sum = count-more c.args.order.now c.loop-node.node-index n c.loop-node.total c.loop-node-test.true c.node-item.is c.loop-node.invariant.total in c.in-Some-checked_add.ensures.1 ∙ sum);
    }

pub returns-in-Some-clause-answers : goal.returns-in-Some-clause-answers
returns-in-Some-clause-answers g c =
    let octree = c.args.octree.now in
    let nodes = c.args.octree.now.nodes.items in
    let n = c.node-item.result in
    let seen = c.loop-node.seen in
    let points = c.deref.result.now in
    let why = c.in-Some.why in
    tells-from (λ all. IsFirstFault octree.rules all nodes n.0 why) (g.T.Store.files c.args.store.now) (λ all is. (
    let keys : (key : VoxelKey) → IsMember key (keys_of nodes) → IsKey key = λ key m. (all-member (IsInOctree octree.rules) key (keys_of nodes) c.requires.sound.in_octree m).0 in
    let once = c.complete_law.ensures.once in
    let has = told-back (λ (f : Files). HasTile f n.0 n.1 c.in_ok-points.points.items) (tile-back n.0 n.1 c.in_ok-points.points.items) (g.T.Store.files c.args.store.now) (g.T.Store.files c.loop-node.store) all is c.loop-node.invariant.moves.reads c.in_ok-points.ensures.found in
    let node : HasNode all nodes n.0 points = record {
      count = n.1;
      listed = in-nodes once octree.rules all nodes c.args.order.now c.requires.ascend keys c.requires.each c.requires.order n (item-in c.args.order.now c.loop-node.node-index n c.loop-node-test.true c.node-item.is);
      tile = subst (λ (ps : List Point). HasTile all n.0 n.1 ps) (sym c.deref.ensures.value) has;
    } in
    let lack = some-of (AreFound octree seen n.0 points) (IsFirstLack (Finds octree seen n.0 points)) c.in_ok-found.found why c.in-Some.is c.in_ok-found.ensures.found in
    fault-first once octree.rules all nodes c.args.order.now c.requires.ascend keys c.requires.each c.requires.order c.loop-node.node-index n c.loop-node-test.true c.node-item.is seen (c.loop-node.invariant.seen all is once c.requires.ascend keys c.requires.each c.requires.order) c.loop-node.invariant.of_rules points node c.requires.parents why lack))

pub returns-clause-answers : goal.returns-clause-answers
returns-clause-answers g c =
    let octree = c.args.octree.now in
    let nodes = c.args.octree.now.nodes.items in
    let all-of = whole c.args.order.now c.loop-node.node-index c.loop-node.auto.node-index-end c.loop-node-test.false in
    tells-from (λ all. AreFaultless octree.rules all nodes c.loop-node.total c.len.result) (g.T.Store.files c.args.store.now) (λ all is. (
    let keys : (key : VoxelKey) → IsMember key (keys_of nodes) → IsKey key = λ key m. (all-member (IsInOctree octree.rules) key (keys_of nodes) c.requires.sound.in_octree m).0 in
    let once = c.complete_law.ensures.once in
    record {
      parents = c.requires.parents;
      each = all-clean once octree.rules all nodes c.args.order.now c.requires.ascend keys c.requires.each c.requires.order c.loop-node.node-index c.loop-node.seen (c.loop-node.invariant.seen all is once c.requires.ascend keys c.requires.each c.requires.order) all-of;
      points_are = count-whole nodes c.args.order.now c.loop-node.node-index c.loop-node.total c.requires.each all-of c.loop-node.invariant.total;
      count_is = (let len = c.len.ensures in let size = c.args.octree.now.nodes.ok in omega (arith, len, size.0));
    }))

pub returns-in_err-found-clause-any_moment : goal.returns-in_err-found-clause-any_moment
returns-in_err-found-clause-any_moment g c =
    same-twice g.T.Store.files g.T.Store.may_leave g.T.Store.moment g.T.Store.image_since c.args.store.now c.loop-node.store c.tile_points.new.store c.loop-node.invariant.moves c.tile_points.ensures.any_moment

pub returns-in-Some-clause-any_moment : goal.returns-in-Some-clause-any_moment
returns-in-Some-clause-any_moment g c =
    same-twice g.T.Store.files g.T.Store.may_leave g.T.Store.moment g.T.Store.image_since c.args.store.now c.loop-node.store c.tile_points.new.store c.loop-node.invariant.moves c.tile_points.ensures.any_moment

pub returns-in_default-clause-any_moment : goal.returns-in_default-clause-any_moment
returns-in_default-clause-any_moment g c =
    same-twice g.T.Store.files g.T.Store.may_leave g.T.Store.moment g.T.Store.image_since c.args.store.now c.loop-node.store c.tile_points.new.store c.loop-node.invariant.moves c.tile_points.ensures.any_moment
