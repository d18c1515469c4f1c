use Rattle.std.proofs.Common.{◌≡◌, ◌+◌, ◌≤◌, Some, take, length}
use Rattle.ept_base.specs.Files.{Files, SameFiles}
use Rattle.ept_base.specs.Moves.{Moves}
use Rattle.ept_check.specs.Nodes.{count_of}
use Rattle.ept_check.specs.Walking.{AreOfRules, IsStack}
use Rattle.ept_check.proofs.Walks.{Sees}
use Rattle.ept_check.proofs.walk.walk.Given as goal

abbrev pub invariant-loop-node : goal.invariant-loop-node
invariant-loop-node g l =
    let files = g.T.Store.files in
    record {
      moves : Moves files g.T.Store.may_leave g.T.Store.moment g.T.Store.image_since SameFiles l.initial.store l.store;
      later : g.T.Store.faults l.initial.store ≤ g.T.Store.faults l.store;
      gets : g.T.Store.gets l.store ≤ g.T.Store.gets l.initial.store + l.node-index;
      of_rules : AreOfRules l.octree.rules l.seen.above.items;
      stack : IsStack l.seen.above.items;
      seen : (all : Files) → files l.initial.store ≡ Some all → Sees l.octree.rules all l.octree.nodes.items l.order l.node-index l.seen;
      total : l.total ≡ count_of (take l.node-index l.order);
    }
