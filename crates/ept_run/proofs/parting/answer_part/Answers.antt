use Rattle.std.proofs.Common.{◌≡◌, ⊎_elim}
use Rattle.ept_base.specs.Causes.{Rose}
use Rattle.ept_base.specs.Moves.{IsSettled}
use Rattle.ept_run.proofs.Parted.{part_ends, reported_not_usage, reported_rose, reported_configured, build_beside}
use Rattle.ept_run.proofs.parting.answer_part.Goals as goal

pub returns-clause-ends : goal.returns-clause-ends
returns-clause-ends g c =
    part_ends c.args.path.now c.args.octants c.report.result.status c.report.result.failure (g.H.Shelf.files c.args.shelf.now) (g.T.Store.files c.make_part-outcome.new.store) (IsSettled (g.T.Store.files c.make_part-outcome.new.store) (g.T.Store.may_leave c.make_part-outcome.new.store)) (c.make_part-outcome.new.store ≡ c.args.store.now) (g.O.Sink.written c.args.out.now) (g.O.Sink.written c.report.new.out) (Rose (g.H.Shelf.faults c.args.shelf.now) (g.H.Shelf.faults c.make_part-outcome.new.shelf)) (Rose (g.T.Store.faults c.args.store.now) (g.T.Store.faults c.make_part-outcome.new.store)) (Rose (g.O.Sink.faults c.args.out.now) (g.O.Sink.faults c.report.new.out)) c.make_part-outcome.result c.make_part-outcome.ensures.comes_to c.report.ensures

pub returns-clause-failure : goal.returns-clause-failure
returns-clause-failure g c = ⊎_elim (λ told. told.unless_done) (λ told. told.unless_done) c.report.ensures

pub returns-clause-not_usage : goal.returns-clause-not_usage
returns-clause-not_usage g c = reported_not_usage c.report.result.status c.report.result.failure (g.O.Sink.written c.args.out.now) (g.O.Sink.written c.report.new.out) (Rose (g.O.Sink.faults c.args.out.now) (g.O.Sink.faults c.report.new.out)) c.make_part-outcome.result c.make_part-outcome.ensures.named c.report.ensures

pub returns-clause-fault : goal.returns-clause-fault
returns-clause-fault g c =
    reported_rose c.report.result.status c.report.result.failure (g.O.Sink.written c.args.out.now) (g.O.Sink.written c.report.new.out) (Rose (g.O.Sink.faults c.args.out.now) (g.O.Sink.faults c.report.new.out)) c.args.path.now c.args.octants (g.H.Shelf.files c.args.shelf.now) (g.T.Store.files c.make_part-outcome.new.store) (IsSettled (g.T.Store.files c.make_part-outcome.new.store) (g.T.Store.may_leave c.make_part-outcome.new.store)) (c.make_part-outcome.new.store ≡ c.args.store.now) (Rose (g.H.Shelf.faults c.args.shelf.now) (g.H.Shelf.faults c.make_part-outcome.new.shelf)) (Rose (g.T.Store.faults c.args.store.now) (g.T.Store.faults c.make_part-outcome.new.store)) c.make_part-outcome.result c.make_part-outcome.ensures.named c.make_part-outcome.ensures.comes_to c.report.ensures

pub returns-clause-sound : goal.returns-clause-sound
returns-clause-sound g c = λ all start stored settled sound.
    build_beside g.T.Store.files g.T.Store.may_leave g.T.Store.moment g.T.Store.image_since c.sound_steps_law.ensures.same c.sound_steps_law.ensures.beside c.part_law.ensures.build c.args.octants all start c.args.store.now c.make_part-outcome.new.store stored settled sound c.make_part-outcome.ensures.folder

pub returns-clause-given : goal.returns-clause-given
returns-clause-given g c = λ is.
    let bad = reported_configured c.report.result.status c.report.result.failure (g.O.Sink.written c.args.out.now) (g.O.Sink.written c.report.new.out) (Rose (g.O.Sink.faults c.args.out.now) (g.O.Sink.faults c.report.new.out)) c.make_part-outcome.result c.report.ensures is in
    c.make_part-outcome.ensures.given bad.0 bad.1
