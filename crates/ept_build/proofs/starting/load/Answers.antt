use Rattle.std.proofs.Common.{rules, ◌≡◌, ◌∙◌, sym, ap, subst}
use Rattle.std.specs.Prelude.{Result, Err}
use Rattle.ept_base.specs.Files.{Files, SameFiles}
use Rattle.ept_octree.specs.Octree.{most_of}
use Rattle.ept_save.proofs.Standing.{stepped, settled_some}
use Rattle.ept_octree_ckpt.specs.declared.error.PhaseError.{PhaseError}
use Rattle.ept_build.specs.declared.error.BuildError.{BuildError}
use Rattle.ept_build.specs.Errors.{of_phase, of_save}
use Rattle.ept_build.specs.Phases.{IsSoundAt, IsStartFault}
use Rattle.ept_build.specs.Starting.{FindsCause}
use Rattle.ept_build.proofs.Caused.{load-start, stores-start, cause-ok, cause-apart, cause-loaded}
use Rattle.ept_build.proofs.Causes.{phase-spill, stores-undamaged, if-refused}
use Rattle.ept_build.proofs.Judging.{err-one, save-not-many}
use Rattle.ept_build.proofs.Moved.{moves-then}
use Rattle.ept_build.proofs.Running.{sound-settled, same-moves, same-all, close-moves, settled-on, tree-loaded}
use Rattle.ept_build.proofs.Damage.{gate-steps, still-whole}
use Rattle.ept_build.proofs.starting.load.Goals as goal

pub returns-in_err-load_octree-clause-sound : goal.returns-in_err-load_octree-clause-sound
returns-in_err-load_octree-clause-sound g c = λ all start starts.
    same-moves c.sound_steps_law.ensures.same c.sound_law.ensures.published c.sound_steps_law.ensures.guarding all c.args.at.now.saved.current g.T.Store.files g.T.Store.may_leave g.T.Store.moment g.T.Store.image_since c.args.store.now c.load_octree.new.store (sound-settled c.sound_steps_law.ensures.same c.sound_law.ensures.published c.sound_steps_law.ensures.guarding all c.args.at.now.saved.current g.T.Store.files g.T.Store.may_leave g.T.Store.moment g.T.Store.image_since c.args.store.now start starts.told starts.settled starts.sound starts.has_current) c.load_octree.ensures.any_moment

pub returns-in_err-load_octree-clause-only : goal.returns-in_err-load_octree-clause-only
returns-in_err-load_octree-clause-only g c =
    let e = c.in_err-load_octree.field-0.0 in
    let its : c.from_residual.result ≡ Err (of_phase e) = search rules in
    if-refused IsStartFault c.from_residual.result (of_phase e) its (load-start e c.in_err-load_octree.ensures.only)

pub returns-in_err-load_octree-clause-refused : goal.returns-in_err-load_octree-clause-refused
returns-in_err-load_octree-clause-refused g c =
    let e = c.in_err-load_octree.field-0.0 in
    let its : c.from_residual.result ≡ Err (of_phase e) = search rules in
    let own = c.in_err-load_octree.ensures in
    subst (λ (r : Result (Unit {0}) BuildError). FindsCause g.T.Store.files g.T.Store.may_leave g.T.Store.moment g.T.Store.image_since c.args.at.now.saved (most_of c.args.at.now.octree) r c.args.store.now c.load_octree.new.store) (sym its)
    (cause-loaded g.T.Store.files g.T.Store.may_leave g.T.Store.moment g.T.Store.image_since c.args.at.now.saved (most_of c.args.at.now.octree) c.args.store.now e c.load_octree.new.store own.too_many own.damaged own.sound c.load_octree.ensures.any_moment c.load_octree.ensures.images (c.load_octree.ensures.stands c.args.at.now.saved))

pub returns-in_err-load_octree-clause-spill : goal.returns-in_err-load_octree-clause-spill
returns-in_err-load_octree-clause-spill g c = λ is.
    let e = c.in_err-load_octree.field-0.0 in
    let its : c.from_residual.result ≡ Err (of_phase e) = search rules in
    c.in_err-load_octree.ensures.spill (ap (λ (w : PhaseError). Err w) (phase-spill e (err-one (sym its ∙ is))))

pub returns-in_err-close_done-clause-sound : goal.returns-in_err-close_done-clause-sound
returns-in_err-close_done-clause-sound g c = λ all start starts.
    let zero = sound-settled c.sound_steps_law.ensures.same c.sound_law.ensures.published c.sound_steps_law.ensures.guarding all c.args.at.now.saved.current g.T.Store.files g.T.Store.may_leave g.T.Store.moment g.T.Store.image_since c.args.store.now start starts.told starts.settled starts.sound starts.has_current in
    let one = same-all c.sound_steps_law.ensures.same c.sound_law.ensures.published c.sound_steps_law.ensures.guarding all c.args.at.now.saved.current g.T.Store.files g.T.Store.may_leave g.T.Store.moment g.T.Store.image_since c.args.store.now c.load_octree.new.store zero c.load_octree.ensures.any_moment in
    let at_one = stepped SameFiles (g.T.Store.files c.args.store.now) (g.T.Store.files c.load_octree.new.store) start starts.told c.load_octree.ensures.any_moment.reads in
    let alike : (image : Files) → g.T.Store.may_leave c.load_octree.new.store image → SameFiles at_one.0 image = λ image may. settled-on start at_one.0 image (settled_some (g.T.Store.files c.args.store.now) (g.T.Store.may_leave c.args.store.now) start starts.told starts.settled) at_one.2 (c.load_octree.ensures.images.0 image may) in
    moves-then g.T.Store.files g.T.Store.may_leave g.T.Store.moment g.T.Store.image_since (IsSoundAt all c.args.at.now.saved.current) c.args.store.now c.load_octree.new.store c.close_done.new.store
    (same-moves c.sound_steps_law.ensures.same c.sound_law.ensures.published c.sound_steps_law.ensures.guarding all c.args.at.now.saved.current g.T.Store.files g.T.Store.may_leave g.T.Store.moment g.T.Store.image_since c.args.store.now c.load_octree.new.store zero c.load_octree.ensures.any_moment)
    (close-moves c.sound_steps_law.ensures.same c.sound_law.ensures.published c.sound_steps_law.ensures.guarding all c.args.at.now.saved.current g.T.Store.files g.T.Store.may_leave g.T.Store.moment g.T.Store.image_since c.load_octree.new.store c.close_done.new.store one at_one.0 at_one.1 alike c.close_done.ensures.stood_shut c.close_done.ensures.guards)

pub returns-in_err-close_done-clause-only : goal.returns-in_err-close_done-clause-only
returns-in_err-close_done-clause-only g c =
    let e = c.in_err-close_done.field-0.0 in
    let its : c.from_residual-in_err-close_done.result ≡ Err (of_save e) = search rules in
    if-refused IsStartFault c.from_residual-in_err-close_done.result (of_save e) its (stores-start e c.in_err-close_done.ensures.only)

pub returns-in_err-close_done-clause-refused : goal.returns-in_err-close_done-clause-refused
returns-in_err-close_done-clause-refused g c =
    let e = c.in_err-close_done.field-0.0 in
    let its : c.from_residual-in_err-close_done.result ≡ Err (of_save e) = search rules in
    subst (λ (r : Result (Unit {0}) BuildError). FindsCause g.T.Store.files g.T.Store.may_leave g.T.Store.moment g.T.Store.image_since c.args.at.now.saved (most_of c.args.at.now.octree) r c.args.store.now c.close_done.new.store) (sym its)
    (cause-apart g.T.Store.files g.T.Store.may_leave g.T.Store.moment g.T.Store.image_since c.args.at.now.saved (most_of c.args.at.now.octree) c.args.store.now (of_save e) c.close_done.new.store (save-not-many e) (λ key is. stores-undamaged e key c.in_err-close_done.ensures.only is))

pub returns-clause-refused : goal.returns-clause-refused
returns-clause-refused g c =
    cause-ok g.T.Store.files g.T.Store.may_leave g.T.Store.moment g.T.Store.image_since c.args.at.now.saved (most_of c.args.at.now.octree) c.args.store.now c.close_done.new.store

pub returns-clause-sound : goal.returns-clause-sound
returns-clause-sound g c = λ all start starts.
    let zero = sound-settled c.sound_steps_law.ensures.same c.sound_law.ensures.published c.sound_steps_law.ensures.guarding all c.args.at.now.saved.current g.T.Store.files g.T.Store.may_leave g.T.Store.moment g.T.Store.image_since c.args.store.now start starts.told starts.settled starts.sound starts.has_current in
    let one = same-all c.sound_steps_law.ensures.same c.sound_law.ensures.published c.sound_steps_law.ensures.guarding all c.args.at.now.saved.current g.T.Store.files g.T.Store.may_leave g.T.Store.moment g.T.Store.image_since c.args.store.now c.load_octree.new.store zero c.load_octree.ensures.any_moment in
    let at_one = stepped SameFiles (g.T.Store.files c.args.store.now) (g.T.Store.files c.load_octree.new.store) start starts.told c.load_octree.ensures.any_moment.reads in
    let alike : (image : Files) → g.T.Store.may_leave c.load_octree.new.store image → SameFiles at_one.0 image = λ image may. settled-on start at_one.0 image (settled_some (g.T.Store.files c.args.store.now) (g.T.Store.may_leave c.args.store.now) start starts.told starts.settled) at_one.2 (c.load_octree.ensures.images.0 image may) in
    moves-then g.T.Store.files g.T.Store.may_leave g.T.Store.moment g.T.Store.image_since (IsSoundAt all c.args.at.now.saved.current) c.args.store.now c.load_octree.new.store c.close_done.new.store
    (same-moves c.sound_steps_law.ensures.same c.sound_law.ensures.published c.sound_steps_law.ensures.guarding all c.args.at.now.saved.current g.T.Store.files g.T.Store.may_leave g.T.Store.moment g.T.Store.image_since c.args.store.now c.load_octree.new.store zero c.load_octree.ensures.any_moment)
    (close-moves c.sound_steps_law.ensures.same c.sound_law.ensures.published c.sound_steps_law.ensures.guarding all c.args.at.now.saved.current g.T.Store.files g.T.Store.may_leave g.T.Store.moment g.T.Store.image_since c.load_octree.new.store c.close_done.new.store one at_one.0 at_one.1 alike c.close_done.ensures.stood_shut c.close_done.ensures.guards)

pub returns-clause-gate : goal.returns-clause-gate
returns-clause-gate g c =
    gate-steps (g.T.Store.files c.args.store.now) (g.T.Store.files c.load_octree.new.store) (g.T.Store.files c.close_done.new.store) c.load_octree.ensures.any_moment.reads c.close_done.ensures.gate.reads

pub returns-clause-shut : goal.returns-clause-shut
returns-clause-shut g c = c.in_ok-close_done.ensures.closed

pub returns-clause-nodes : goal.returns-clause-nodes
returns-clause-nodes g c =
    still-whole c.args.at.now.saved.current (g.T.Store.files c.args.store.now) (g.T.Store.files c.load_octree.new.store) (g.T.Store.files c.close_done.new.store) c.in_ok-load_octree.ensures.undamaged c.load_octree.ensures.any_moment.reads c.close_done.ensures.gate.reads

pub returns-clause-tree : goal.returns-clause-tree
returns-clause-tree g c = λ view takes newest.
    let own = c.in_ok-load_octree.ensures in
    tree-loaded g.F.SpillFile.held g.F.SpillFile.faults g.F.SpillFile.keeps c.args.plan.now c.args.at.now.inserted c.args.at.now.saved c.args.at.now.octree c.load_octree.new.octree c.requires.begun own.rules own.whole own.linked own.agrees own.unbroken own.told own.begun view takes newest

pub returns-clause-stands : goal.returns-clause-stands
returns-clause-stands g c = λ stands.
    c.in_ok-close_done.ensures.stands c.args.at.now.saved (c.load_octree.ensures.stands c.args.at.now.saved stands)
