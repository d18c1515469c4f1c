use Rattle.ept_base.specs.Causes.{Rose}
use Rattle.ept_base.specs.Files.{SameFiles}
use Rattle.ept_base.specs.Moves.{Moves, IsSettled}
use Rattle.ept_build.specs.Building.{BeginsWith}
use Rattle.ept_run.proofs.Merged.{merge_ends}
use Rattle.ept_run.proofs.merging.answer_merge.Goals as goal

pub returns-clause-ends : goal.returns-clause-ends
returns-clause-ends g c =
    merge_ends c.report.result.status c.report.result.failure (g.O.Sink.written c.args.out.now) (g.O.Sink.written c.report.new.out) (Rose (g.O.Sink.faults c.args.out.now) (g.O.Sink.faults c.report.new.out))
    c.args.path.now c.args.parts.now (g.H.Shelf.files c.args.shelf.now) (g.T.Store.files c.args.store.now) (BeginsWith g.M.File.SpillFile.held (g.H.Shelf.files c.args.shelf.now) (g.T.Store.files c.args.store.now) (g.T.Store.may_leave c.args.store.now)) (g.T.Store.files c.merge_and_build-outcome.new.store) (IsSettled (g.T.Store.files c.merge_and_build-outcome.new.store) (g.T.Store.may_leave c.merge_and_build-outcome.new.store)) (Moves g.T.Store.files g.T.Store.may_leave g.T.Store.moment g.T.Store.image_since SameFiles c.args.store.now c.merge_and_build-outcome.new.store) (Rose (g.H.Shelf.faults c.args.shelf.now) (g.H.Shelf.faults c.merge_and_build-outcome.new.shelf)) (Rose (g.T.Store.faults c.args.store.now) (g.T.Store.faults c.merge_and_build-outcome.new.store)) (Rose (g.M.Room.faults c.args.room.now) (g.M.Room.faults c.merge_and_build-outcome.new.room)) c.merge_and_build-outcome.result c.merge_and_build-outcome.ensures.comes_to c.report.ensures
