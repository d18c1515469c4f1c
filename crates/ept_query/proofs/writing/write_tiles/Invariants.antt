use Rattle.std.proofs.Common.{◌≡◌, ◌+◌, ◌≤◌, Some, take, length}
use Rattle.ept_base.specs.Files.{Files, SameFiles}
use Rattle.ept_base.specs.Moves.{Moves}
use Rattle.ept_query.proofs.Written.{AreWritten}
use Rattle.ept_query.proofs.writing.write_tiles.Given as goal

abbrev pub invariant-loop-number : goal.invariant-loop-number
invariant-loop-number g l =
    let files = g.T.Store.files in
    record {
      moves : Moves files g.T.Store.may_leave g.T.Store.moment g.T.Store.image_since SameFiles l.initial.store l.store;
      store_later : g.T.Store.faults l.initial.store ≤ g.T.Store.faults l.store;
      sink_later : g.O.Sink.faults l.initial.out ≤ g.O.Sink.faults l.out;
      gets : g.T.Store.gets l.store ≤ g.T.Store.gets l.initial.store + l.number;
      within : l.number ≤ length l.plan.tiles;
      written : (all : Files) → files l.initial.store ≡ Some all → AreWritten l.sift all l.plan.area (take l.number l.plan.tiles) (g.O.Sink.written l.initial.out) (g.O.Sink.written l.out) l.total;
    }
