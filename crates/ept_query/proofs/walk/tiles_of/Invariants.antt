use Rattle.std.proofs.Common.{◌≡◌, ◌+◌, ◌≤◌, List, length, Some}
use Rattle.std.specs.List.{All}
use Rattle.std.specs.BTreeMap.{get}
use Rattle.ept_base.specs.Files.{Files, SameFiles}
use Rattle.ept_base.specs.Moves.{Moves}
use Rattle.ept_space.specs.VoxelKey.{VoxelKey, IsKey, key_cmp}
use Rattle.ept_query.specs.Walk.{AreShallow}
use Rattle.ept_query.proofs.Counting.{left}
use Rattle.ept_query.proofs.Walking.{IsWalk}
use Rattle.ept_query.proofs.walk.tiles_of.Given as goal

abbrev pub invariant-loop-top : goal.invariant-loop-top
invariant-loop-top g l =
    let files = g.T.Store.files in
    let gets = g.T.Store.gets in
    let faults = g.T.Store.faults in
    record {
      are_keys : All IsKey l.pending.keys;
      shallow : AreShallow l.search (get key_cmp l.tiles);
      moves : Moves files g.T.Store.may_leave g.T.Store.moment g.T.Store.image_since SameFiles l.initial.store l.store;
      later : faults l.initial.store ≤ faults l.store;
      walk : (all : Files) → files l.initial.store ≡ Some all → (taken : List VoxelKey) × IsWalk l.search all taken l.pending.keys (get key_cmp l.tiles) × (gets l.store ≤ gets l.initial.store + length taken);
    }

abbrev pub decreases-loop-top : goal.decreases-loop-top
decreases-loop-top g l = left l.pending.keys
