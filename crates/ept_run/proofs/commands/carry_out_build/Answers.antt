use Rattle.std.proofs.Common.{rules, inl, inr, Option, Err, sym, subst, ap, ◌∙◌}
use Rattle.std.specs.Prelude.{Result}
use Rattle.ept_base.specs.Files.{Files, SameFiles}
use Rattle.ept_base.specs.Moves.{Moves, IsSettled}
use Rattle.ept_base.proofs.Moving.{moves_weaker}
use Rattle.ept_save.specs.Current.{Current, HasCurrent}
use Rattle.ept_save.specs.Sound.{IsSound}
use Rattle.ept_build.specs.declared.summary.Summary.{Summary}
use Rattle.ept_build.specs.Building.{BeginsWith}
use Rattle.ept_build.specs.Building as building
use Rattle.ept_command.specs.declared.refusal.Refusal.{Refusal}
use Rattle.ept_run.specs.Builds.{ComesToBuild}
use Rattle.ept_run.proofs.Refused.{built_at, spilled_at, begun, begun_done, told_as, stays_sound, never_configured, stays, is_err}
use Rattle.ept_run.proofs.Built.{unread_build, answered_build}
use Rattle.ept_run.proofs.commands.carry_out_build.Goals as goal

pub returns-in-Ok-clause-built : goal.returns-in-Ok-clause-built
returns-in-Ok-clause-built g c =
    built_at g.M.File.SpillFile.held (g.H.Shelf.files c.args.shelf.now) (g.H.Shelf.files c.read_configuration.new.shelf) c.read_configuration.ensures.files c.args.path.now c.in_ok-config.config c.in_ok-config.ensures.ok (g.T.Store.files c.args.store.now) (g.T.Store.may_leave c.args.store.now) c.build.result c.in-Ok.summary (g.T.Store.files c.build.new.store) c.in-Ok.is c.build.ensures.built

pub returns-in-Ok-clause-kept : goal.returns-in-Ok-clause-kept
returns-in-Ok-clause-kept g c =
    spilled_at g.M.File.SpillFile.held (g.H.Shelf.files c.args.shelf.now) (g.H.Shelf.files c.read_configuration.new.shelf) c.read_configuration.ensures.files c.args.path.now c.in_ok-config.config c.in_ok-config.ensures.ok (g.T.Store.files c.args.store.now) (g.T.Store.may_leave c.args.store.now) c.build.result c.in-Ok.summary (g.T.Store.files c.build.new.store) (g.M.Room.keeps c.args.room.now) (g.M.Room.keeps c.build.new.room) c.in-Ok.is
    c.build.ensures.built (λ all start begins. (c.build.ensures.sound all start begins).reads) c.build.ensures.kept

pub returns-in-Ok-clause-sound : goal.returns-in-Ok-clause-sound
returns-in-Ok-clause-sound g c =
    begun g.M.File.SpillFile.held (g.H.Shelf.files c.args.shelf.now) (g.H.Shelf.files c.read_configuration.new.shelf) c.read_configuration.ensures.files c.args.path.now c.in_ok-config.config c.in_ok-config.ensures.ok (g.T.Store.files c.args.store.now) (g.T.Store.may_leave c.args.store.now) {M = (λ (all : Files). Moves g.T.Store.files g.T.Store.may_leave g.T.Store.moment g.T.Store.image_since (λ (a b : Files). IsSound all b) c.args.store.now c.build.new.store)} (λ all start begins. moves_weaker g.T.Store.files g.T.Store.may_leave g.T.Store.moment g.T.Store.image_since (λ (a b : Files). building.IsUnderWay all c.in_ok-config.config start b) (λ (a b : Files). IsSound all b) (λ a b at. at.sound) c.args.store.now c.build.new.store (c.build.ensures.sound all start begins))

pub returns-in-Ok-clause-done_already : goal.returns-in-Ok-clause-done_already
returns-in-Ok-clause-done_already g c =
    begun_done g.M.File.SpillFile.held (g.H.Shelf.files c.args.shelf.now) (g.H.Shelf.files c.read_configuration.new.shelf) c.read_configuration.ensures.files c.args.path.now c.in_ok-config.config c.in_ok-config.ensures.ok (g.T.Store.files c.args.store.now) (g.T.Store.may_leave c.args.store.now) {M = (Moves g.T.Store.files g.T.Store.may_leave g.T.Store.moment g.T.Store.image_since SameFiles c.args.store.now c.build.new.store)} c.build.ensures.done_already

pub returns-clause-sound : goal.returns-clause-sound
returns-clause-sound g c =
    begun g.M.File.SpillFile.held (g.H.Shelf.files c.args.shelf.now) (g.H.Shelf.files c.read_configuration.new.shelf) c.read_configuration.ensures.files c.args.path.now c.in_ok-config.config c.in_ok-config.ensures.ok (g.T.Store.files c.args.store.now) (g.T.Store.may_leave c.args.store.now) {M = (λ (all : Files). Moves g.T.Store.files g.T.Store.may_leave g.T.Store.moment g.T.Store.image_since (λ (a b : Files). IsSound all b) c.args.store.now c.build.new.store)} (λ all start begins. moves_weaker g.T.Store.files g.T.Store.may_leave g.T.Store.moment g.T.Store.image_since (λ (a b : Files). building.IsUnderWay all c.in_ok-config.config start b) (λ (a b : Files). IsSound all b) (λ a b at. at.sound) c.args.store.now c.build.new.store (c.build.ensures.sound all start begins))

pub returns-clause-done_already : goal.returns-clause-done_already
returns-clause-done_already g c =
    begun_done g.M.File.SpillFile.held (g.H.Shelf.files c.args.shelf.now) (g.H.Shelf.files c.read_configuration.new.shelf) c.read_configuration.ensures.files c.args.path.now c.in_ok-config.config c.in_ok-config.ensures.ok (g.T.Store.files c.args.store.now) (g.T.Store.may_leave c.args.store.now) {M = (Moves g.T.Store.files g.T.Store.may_leave g.T.Store.moment g.T.Store.image_since SameFiles c.args.store.now c.build.new.store)} c.build.ensures.done_already

pub returns-in_err-config-clause-sound : goal.returns-in_err-config-clause-sound
returns-in_err-config-clause-sound g c =
    stays_sound g.T.Store.files g.T.Store.may_leave g.T.Store.moment g.T.Store.image_since c.sound_steps_law.ensures.same g.M.File.SpillFile.held (g.H.Shelf.files c.args.shelf.now) c.args.store.now

pub returns-in_err-config-clause-asked : goal.returns-in_err-config-clause-asked
returns-in_err-config-clause-asked g c = λ start told. inl c.read_configuration.ensures.asked

pub returns-in-Ok-clause-asked : goal.returns-in-Ok-clause-asked
returns-in-Ok-clause-asked g c = λ start told. inr (
  c.in_ok-config.config,
  c.in_ok-config.ensures.ok,
  g.H.Shelf.asked c.read_configuration.new.shelf,
  c.in_ok-config.ensures.opened,
  λ (current : Current) (has : HasCurrent current start). subst (λ (w : Option Files). building.AsksInOrder w c.in_ok-config.config start current (g.H.Shelf.asked c.read_configuration.new.shelf) (g.H.Shelf.asked c.build.new.shelf)) c.read_configuration.ensures.files (c.build.ensures.asked start current told has),
)

pub returns-clause-asked : goal.returns-clause-asked
returns-clause-asked g c = λ start told. inr (
  c.in_ok-config.config,
  c.in_ok-config.ensures.ok,
  g.H.Shelf.asked c.read_configuration.new.shelf,
  c.in_ok-config.ensures.opened,
  λ (current : Current) (has : HasCurrent current start). subst (λ (w : Option Files). building.AsksInOrder w c.in_ok-config.config start current (g.H.Shelf.asked c.read_configuration.new.shelf) (g.H.Shelf.asked c.build.new.shelf)) c.read_configuration.ensures.files (c.build.ensures.asked start current told has),
)

pub returns-clause-given : goal.returns-clause-given
returns-clause-given g c = λ error is. absurd (never_configured c.in-Err.error error (search (rules, is)))

pub returns-in_err-config-clause-comes_to : goal.returns-in_err-config-clause-comes_to
returns-in_err-config-clause-comes_to g c =
    unread_build g.M.File.SpillFile.held (g.H.Shelf.files c.args.shelf.now) (g.T.Store.files c.args.store.now) (g.T.Store.may_leave c.args.store.now) c.args.path.now (g.T.Store.files c.args.store.now) (IsSettled (g.T.Store.files c.args.store.now) (g.T.Store.may_leave c.args.store.now)) (Moves g.T.Store.files g.T.Store.may_leave g.T.Store.moment g.T.Store.image_since SameFiles c.args.store.now c.args.store.now) c.from_residual.result c.in_err-config.field-0.0
    (is_err c.from_residual.result c.in_err-config.field-0.0 c.from_residual.ensures.1) c.in_err-config.ensures.causes c.in_err-config.ensures.refused (stays g.T.Store.files g.T.Store.may_leave g.T.Store.moment g.T.Store.image_since c.args.store.now)

pub returns-in-Ok-clause-comes_to : goal.returns-in-Ok-clause-comes_to
returns-in-Ok-clause-comes_to g c =
    subst (λ (a : Result Summary Refusal). ComesToBuild c.args.path.now a (g.H.Shelf.files c.args.shelf.now) (g.T.Store.files c.args.store.now) (BeginsWith g.M.File.SpillFile.held (g.H.Shelf.files c.args.shelf.now) (g.T.Store.files c.args.store.now) (g.T.Store.may_leave c.args.store.now)) (g.T.Store.files c.build.new.store) (IsSettled (g.T.Store.files c.args.store.now) (g.T.Store.may_leave c.args.store.now)) (Moves g.T.Store.files g.T.Store.may_leave g.T.Store.moment g.T.Store.image_since SameFiles c.args.store.now c.build.new.store)) (ap told_as c.in-Ok.is)
    (answered_build g.M.File.SpillFile.held (g.H.Shelf.files c.args.shelf.now) (g.T.Store.files c.args.store.now) (g.T.Store.may_leave c.args.store.now) c.args.path.now (g.T.Store.files c.build.new.store) (IsSettled (g.T.Store.files c.args.store.now) (g.T.Store.may_leave c.args.store.now)) (Moves g.T.Store.files g.T.Store.may_leave g.T.Store.moment g.T.Store.image_since SameFiles c.args.store.now c.build.new.store) (g.H.Shelf.files c.read_configuration.new.shelf) c.read_configuration.ensures.files c.in_ok-config.config c.in_ok-config.ensures.ok c.build.result
    c.build.ensures.refused c.build.ensures.differs c.build.ensures.bad c.build.ensures.damaged c.build.ensures.early c.build.ensures.accepted c.build.ensures.done_comes c.build.ensures.refusal_comes c.build.ensures.too_many_comes c.build.ensures.differs_comes c.build.ensures.damaged_comes c.build.ensures.bad_comes)

pub returns-clause-comes_to : goal.returns-clause-comes_to
returns-clause-comes_to g c =
    subst (λ (a : Result Summary Refusal). ComesToBuild c.args.path.now a (g.H.Shelf.files c.args.shelf.now) (g.T.Store.files c.args.store.now) (BeginsWith g.M.File.SpillFile.held (g.H.Shelf.files c.args.shelf.now) (g.T.Store.files c.args.store.now) (g.T.Store.may_leave c.args.store.now)) (g.T.Store.files c.build.new.store) (IsSettled (g.T.Store.files c.args.store.now) (g.T.Store.may_leave c.args.store.now)) (Moves g.T.Store.files g.T.Store.may_leave g.T.Store.moment g.T.Store.image_since SameFiles c.args.store.now c.build.new.store)) (ap told_as c.in-Err.is ∙ ap Err (sym c.refusal_of.ensures))
    (answered_build g.M.File.SpillFile.held (g.H.Shelf.files c.args.shelf.now) (g.T.Store.files c.args.store.now) (g.T.Store.may_leave c.args.store.now) c.args.path.now (g.T.Store.files c.build.new.store) (IsSettled (g.T.Store.files c.args.store.now) (g.T.Store.may_leave c.args.store.now)) (Moves g.T.Store.files g.T.Store.may_leave g.T.Store.moment g.T.Store.image_since SameFiles c.args.store.now c.build.new.store) (g.H.Shelf.files c.read_configuration.new.shelf) c.read_configuration.ensures.files c.in_ok-config.config c.in_ok-config.ensures.ok c.build.result
    c.build.ensures.refused c.build.ensures.differs c.build.ensures.bad c.build.ensures.damaged c.build.ensures.early c.build.ensures.accepted c.build.ensures.done_comes c.build.ensures.refusal_comes c.build.ensures.too_many_comes c.build.ensures.differs_comes c.build.ensures.damaged_comes c.build.ensures.bad_comes)
