use Rattle.ept_base.specs.Files.{SameFiles}
use Rattle.ept_base.specs.Moves.{Moves, IsSettled}
use Rattle.ept_build.specs.Building.{BeginsWith}
use Rattle.ept_command.specs.declared.refusal.Refusal.TheVariants.{Memory}
use Rattle.ept_run.proofs.Refused.{is_err}
use Rattle.ept_run.proofs.Built.{carried_build, built_whole, lacks_line}
use Rattle.ept_run.proofs.commands.build_line.Goals as goal

pub returns-in_err-summary-clause-comes_to : goal.returns-in_err-summary-clause-comes_to
returns-in_err-summary-clause-comes_to g c =
    carried_build c.args.path.now (g.H.Shelf.files c.args.shelf.now) (g.T.Store.files c.args.store.now) (BeginsWith g.M.File.SpillFile.held (g.H.Shelf.files c.args.shelf.now) (g.T.Store.files c.args.store.now) (g.T.Store.may_leave c.args.store.now)) (g.T.Store.files c.carry_out_build.new.store) (IsSettled (g.T.Store.files c.args.store.now) (g.T.Store.may_leave c.args.store.now)) (Moves g.T.Store.files g.T.Store.may_leave g.T.Store.moment g.T.Store.image_since SameFiles c.args.store.now c.carry_out_build.new.store)
    c.carry_out_build.result c.from_residual.result c.in_err-summary.field-0.0 c.in_err-summary.was c.from_residual.ensures.1 c.carry_out_build.ensures.comes_to

pub returns-in_err-line-clause-comes_to : goal.returns-in_err-line-clause-comes_to
returns-in_err-line-clause-comes_to g c =
    lacks_line c.args.path.now (g.H.Shelf.files c.args.shelf.now) (g.T.Store.files c.args.store.now) (BeginsWith g.M.File.SpillFile.held (g.H.Shelf.files c.args.shelf.now) (g.T.Store.files c.args.store.now) (g.T.Store.may_leave c.args.store.now)) (g.T.Store.files c.carry_out_build.new.store) (IsSettled (g.T.Store.files c.args.store.now) (g.T.Store.may_leave c.args.store.now)) (Moves g.T.Store.files g.T.Store.may_leave g.T.Store.moment g.T.Store.image_since SameFiles c.args.store.now c.carry_out_build.new.store)
    c.from_residual-in_err-line.result (is_err c.from_residual-in_err-line.result Memory c.from_residual-in_err-line.ensures.1)

pub returns-clause-comes_to : goal.returns-clause-comes_to
returns-clause-comes_to g c =
    built_whole c.args.path.now (g.H.Shelf.files c.args.shelf.now) (g.T.Store.files c.args.store.now) (BeginsWith g.M.File.SpillFile.held (g.H.Shelf.files c.args.shelf.now) (g.T.Store.files c.args.store.now) (g.T.Store.may_leave c.args.store.now)) (g.T.Store.files c.carry_out_build.new.store) (IsSettled (g.T.Store.files c.args.store.now) (g.T.Store.may_leave c.args.store.now)) (Moves g.T.Store.files g.T.Store.may_leave g.T.Store.moment g.T.Store.image_since SameFiles c.args.store.now c.carry_out_build.new.store)
    c.carry_out_build.result c.in_ok-summary.summary c.in_ok-line.line c.in_ok-summary.was c.carry_out_build.ensures.comes_to
