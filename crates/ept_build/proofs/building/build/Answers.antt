use Rattle.std.proofs.Common.{rules, ◌≡◌, ◌∙◌, inr, Bool, ℕ, refl, sym, ap, subst, arith, Some, List, length}
use Rattle.std.specs.Prelude.{Result, Ok, Err, IfErr}
use Rattle.std.proofs.lemmas.Result.{IfOk-weaker, IfErr-weaker, err_from_is_err_and}
use Rattle.ept_base.specs.Devices.{counts_on}
use Rattle.ept_base.specs.Files.{Files, SameFiles}
use Rattle.ept_base.specs.Moves.{Moves}
use Rattle.ept_base.specs.declared.errors.PutError.{PutError}
use Rattle.ept_base.proofs.Moving.{moves_once}
use Rattle.ept_scan.specs.Scans.{IsScan}
use Rattle.ept_forest.specs.Slots as slots
use Rattle.ept_forest.specs.Slots.{nodes_of, kept_by}
use Rattle.ept_save.specs.Names.{done_name}
use Rattle.ept_save.specs.Current.{Current, HasCurrent}
use Rattle.ept_save.specs.Done.{IsDone}
use Rattle.ept_save.specs.Loading.{IsDamaged}
use Rattle.ept_octree_ckpt.specs.Loaded.{HasSlot, IsFirstDamaged}
use Rattle.ept_save.specs.declared.error.SaveError.TheVariants as save
use Rattle.ept_build.specs.Phases.{IsPhaseFault}
use Rattle.ept_save.specs.View.{View, StandsFor}
use Rattle.ept_config.specs.declared.input.Input.{Input}
use Rattle.ept_save.proofs.Standing.{stepped, told_some, tells_some, same_twice, same-stands}
use Rattle.ept_plan.specs.Plans.{limits_by, inputs_by, new_paths, GoesOn, AreRefused}
use Rattle.ept_build.specs.declared.error.BuildError.{BuildError}
use Rattle.ept_build.specs.declared.summary.Summary.{Summary}
use Rattle.ept_build.specs.Errors.{of_plan, of_save, of_put}
use Rattle.ept_build.specs.Building.{Starts, HasPoints, IsBuilt, IsUnderWay, AsksInOrder, IsRefusedAt, IsRefused, IsEarly}
use Rattle.ept_build.proofs.Causes.{tells-some}
use Rattle.ept_plan.specs.declared.error.PlanError.TheVariants as plan
use Rattle.ept_build.proofs.Judging.{plan-refused, plan-accepted, plan-only, plan-differs, plan-is-ok, built-many, put-not-bad, put-no-difference, put-no-spill, phase-not-early, opened-not-bad, err-one, stores-fails, room-fails, built-accepted, store-refused, room-refused, room-not-many, put-store, put-no-source, put-failed, save-not-many, plan-not-many, store-not-many, put-not-many}
use Rattle.ept_build.proofs.Damage.{damaged-same, first-same, nothing-left, opening-fails, saved-damaged, plan-no-tile, put-no-tile, store-no-tile, room-no-tile}
use Rattle.ept_build.proofs.Asking.{opens-front, asked-none, asked-scan, asked-read}
use Rattle.ept_build.proofs.Ground.{has-counts}
use Rattle.ept_build.proofs.Moved.{moves-then, moves-wider}
use Rattle.ept_build.proofs.UnderWay.{early-moves}
use Rattle.ept_build.proofs.Finished.{finished-built, built-from, under-way-from, stops-from, starts-again, done-all, done-scan, already-done}
use Rattle.ept_build.proofs.Spilled.{kept-but}
use Rattle.ept_build.proofs.building.build.Goals as goal

pub returns-in_err-saved-clause-sound : goal.returns-in_err-saved-clause-sound
returns-in_err-saved-clause-sound g c = λ all start begins.
    early-moves c.sound_steps_law.ensures.same c.sound_law.ensures.published c.sound_steps_law.ensures.guarding all c.args.config.now start g.T.Store.files g.T.Store.may_leave g.T.Store.moment g.T.Store.image_since c.args.store.now c.open.new.store begins.told begins.settled begins.sound c.open.ensures.any_moment

pub returns-in_err-plan-clause-sound : goal.returns-in_err-plan-clause-sound
returns-in_err-plan-clause-sound g c = λ all start begins.
    early-moves c.sound_steps_law.ensures.same c.sound_law.ensures.published c.sound_steps_law.ensures.guarding all c.args.config.now start g.T.Store.files g.T.Store.may_leave g.T.Store.moment g.T.Store.image_since c.args.store.now c.open.new.store begins.told begins.settled begins.sound c.open.ensures.any_moment

pub returns-in_err-plan-clause-refused : goal.returns-in_err-plan-clause-refused
returns-in_err-plan-clause-refused g c = λ all start begins.
    let cur = told_some (HasCurrent c.in_ok-saved.saved.current) (g.T.Store.files c.args.store.now) start begins.told c.in_ok-saved.ensures.current in
    let e = c.in_err-plan.field-0.0 in
    let is : c.from_residual-in_err-plan.result ≡ Err (of_plan e) = search rules in
    subst (λ (r : Result Summary BuildError). IfErr r (IsRefused all c.args.config.now start)) (sym is)
    (record { current = c.in_ok-saved.saved.current; has_current = cur; because = plan-refused all c.args.config.now c.in_ok-saved.saved.current e (tells-some _ (g.H.Shelf.files c.args.shelf.now) all begins.shelf_told c.in_err-plan.ensures.refused) })

pub returns-in_err-plan-clause-accepted : goal.returns-in_err-plan-clause-accepted
returns-in_err-plan-clause-accepted g c = λ all start begins acc.
    let cur = told_some (HasCurrent c.in_ok-saved.saved.current) (g.T.Store.files c.args.store.now) start begins.told c.in_ok-saved.ensures.current in
    let e = c.in_err-plan.field-0.0 in
    let is : c.from_residual-in_err-plan.result ≡ Err (of_plan e) = search rules in
    let same : acc.current ≡ c.in_ok-saved.saved.current = c.sound_law.ensures.one start acc.current c.in_ok-saved.saved.current acc.has_current cur in
    let comes = tells-some _ (g.H.Shelf.files c.args.shelf.now) all begins.shelf_told c.in_err-plan.ensures.accepted in
    plan-accepted c.from_residual-in_err-plan.result e is
    (comes acc.points acc.has_points.done (subst (λ (w : Current). GoesOn c.args.config.now w) same acc.goes_on)
    (subst (λ (w : Current). IsScan all c.args.config.now.scale (limits_by c.args.config.now.bounds w) c.args.config.now.inputs 0 acc.points acc.has_points.done) same acc.has_points.scan))

pub returns-in_err-plan-clause-done_comes : goal.returns-in_err-plan-clause-done_comes
returns-in_err-plan-clause-done_comes g c = λ all start begins done.
    let cur = told_some (HasCurrent c.in_ok-saved.saved.current) (g.T.Store.files c.args.store.now) start begins.told c.in_ok-saved.ensures.current in
    let e = c.in_err-plan.field-0.0 in
    let is : c.from_residual-in_err-plan.result ≡ Err (of_plan e) = search rules in
    let scan = done-scan c.sound_law.ensures.one c.sound_law.ensures.published all start c.args.config.now c.in_ok-saved.saved.current cur begins.sound done in
    let comes = tells-some _ (g.H.Shelf.files c.args.shelf.now) all begins.shelf_told c.in_err-plan.ensures.accepted in
    plan-accepted c.from_residual-in_err-plan.result e is (comes scan.1.0 scan.1.1 scan.0 scan.1.2)

pub returns-in_err-is_finished-clause-sound : goal.returns-in_err-is_finished-clause-sound
returns-in_err-is_finished-clause-sound g c = λ all start begins.
    early-moves c.sound_steps_law.ensures.same c.sound_law.ensures.published c.sound_steps_law.ensures.guarding all c.args.config.now start g.T.Store.files g.T.Store.may_leave g.T.Store.moment g.T.Store.image_since c.args.store.now c.is_finished.new.store begins.told begins.settled begins.sound (same_twice g.T.Store.files g.T.Store.may_leave g.T.Store.moment g.T.Store.image_since c.args.store.now c.open.new.store c.is_finished.new.store c.open.ensures.any_moment c.is_finished.ensures.any_moment)

pub returns-in_err-is_finished-clause-done_already : goal.returns-in_err-is_finished-clause-done_already
returns-in_err-is_finished-clause-done_already g c = λ all start begins done.
    (same_twice g.T.Store.files g.T.Store.may_leave g.T.Store.moment g.T.Store.image_since c.args.store.now c.open.new.store c.is_finished.new.store c.open.ensures.any_moment c.is_finished.ensures.any_moment)

pub returns-in_err-is_finished-clause-early : goal.returns-in_err-is_finished-clause-early
returns-in_err-is_finished-clause-early g c =
    let p = err_from_is_err_and c.from_residual-in_err-is_finished.result c.from_residual-in_err-is_finished.ensures.1 in
    let is : c.from_residual-in_err-is_finished.result ≡ Err c.in_err-is_finished.field-0.0 = p.1 ∙ ap (λ (w : BuildError). Err w) p.2 in
    subst (λ (r : Result Summary BuildError). IfErr r (λ f. IsEarly f → Moves g.T.Store.files g.T.Store.may_leave g.T.Store.moment g.T.Store.image_since SameFiles c.args.store.now c.is_finished.new.store)) (sym is) (λ early. (same_twice g.T.Store.files g.T.Store.may_leave g.T.Store.moment g.T.Store.image_since c.args.store.now c.open.new.store c.is_finished.new.store c.open.ensures.any_moment c.is_finished.ensures.any_moment))

pub returns-in_err-is_finished-clause-refused : goal.returns-in_err-is_finished-clause-refused
returns-in_err-is_finished-clause-refused g c = λ all start begins.
    let cur = told_some (HasCurrent c.in_ok-saved.saved.current) (g.T.Store.files c.args.store.now) start begins.told c.in_ok-saved.ensures.current in
    let p = err_from_is_err_and c.from_residual-in_err-is_finished.result c.from_residual-in_err-is_finished.ensures.1 in
    let is : c.from_residual-in_err-is_finished.result ≡ Err c.in_err-is_finished.field-0.0 = p.1 ∙ ap (λ (w : BuildError). Err w) p.2 in
    subst (λ (r : Result Summary BuildError). IfErr r (IsRefused all c.args.config.now start)) (sym is)
    (record { current = c.in_ok-saved.saved.current; has_current = cur; because = store-refused all c.args.config.now c.in_ok-saved.saved.current c.in_err-is_finished.field-0.0 c.in_err-is_finished.ensures.only })

pub returns-in_err-is_finished-clause-accepted : goal.returns-in_err-is_finished-clause-accepted
returns-in_err-is_finished-clause-accepted g c = λ all start begins acc.
    let p = err_from_is_err_and c.from_residual-in_err-is_finished.result c.from_residual-in_err-is_finished.ensures.1 in
    let is : c.from_residual-in_err-is_finished.result ≡ Err c.in_err-is_finished.field-0.0 = p.1 ∙ ap (λ (w : BuildError). Err w) p.2 in
    inr (stores-fails c.from_residual-in_err-is_finished.result c.in_err-is_finished.field-0.0 is c.in_err-is_finished.ensures.only)

pub returns-in_err-is_finished-clause-done_comes : goal.returns-in_err-is_finished-clause-done_comes
returns-in_err-is_finished-clause-done_comes g c = λ all start begins done.
    let p = err_from_is_err_and c.from_residual-in_err-is_finished.result c.from_residual-in_err-is_finished.ensures.1 in
    let is : c.from_residual-in_err-is_finished.result ≡ Err c.in_err-is_finished.field-0.0 = p.1 ∙ ap (λ (w : BuildError). Err w) p.2 in
    inr (stores-fails c.from_residual-in_err-is_finished.result c.in_err-is_finished.field-0.0 is c.in_err-is_finished.ensures.only)

pub returns-in_err-sync-clause-sound : goal.returns-in_err-sync-clause-sound
returns-in_err-sync-clause-sound g c = λ all start begins.
    early-moves c.sound_steps_law.ensures.same c.sound_law.ensures.published c.sound_steps_law.ensures.guarding all c.args.config.now start g.T.Store.files g.T.Store.may_leave g.T.Store.moment g.T.Store.image_since c.args.store.now c.sync.new.self begins.told begins.settled begins.sound (same_twice g.T.Store.files g.T.Store.may_leave g.T.Store.moment g.T.Store.image_since c.args.store.now c.is_finished.new.store c.sync.new.self (same_twice g.T.Store.files g.T.Store.may_leave g.T.Store.moment g.T.Store.image_since c.args.store.now c.open.new.store c.is_finished.new.store c.open.ensures.any_moment c.is_finished.ensures.any_moment) (moves_once g.T.Store.files g.T.Store.may_leave g.T.Store.moment g.T.Store.image_since SameFiles c.is_finished.new.store c.sync.new.self c.sync.ensures.reads (λ image is. (image, c.sync.ensures.images image is, λ name. refl)) c.sync.ensures.time))

pub returns-in_err-sync-clause-done_already : goal.returns-in_err-sync-clause-done_already
returns-in_err-sync-clause-done_already g c = λ all start begins done.
    (same_twice g.T.Store.files g.T.Store.may_leave g.T.Store.moment g.T.Store.image_since c.args.store.now c.is_finished.new.store c.sync.new.self (same_twice g.T.Store.files g.T.Store.may_leave g.T.Store.moment g.T.Store.image_since c.args.store.now c.open.new.store c.is_finished.new.store c.open.ensures.any_moment c.is_finished.ensures.any_moment) (moves_once g.T.Store.files g.T.Store.may_leave g.T.Store.moment g.T.Store.image_since SameFiles c.is_finished.new.store c.sync.new.self c.sync.ensures.reads (λ image is. (image, c.sync.ensures.images image is, λ name. refl)) c.sync.ensures.time))

pub returns-in_err-sync-clause-early : goal.returns-in_err-sync-clause-early
returns-in_err-sync-clause-early g c =
    let p = err_from_is_err_and c.from_residual-in_err-sync.result c.from_residual-in_err-sync.ensures.1 in
    let is : c.from_residual-in_err-sync.result ≡ Err (of_put c.in_err-sync.field-0.0) = p.1 ∙ ap (λ (w : BuildError). Err w) p.2 in
    subst (λ (r : Result Summary BuildError). IfErr r (λ f. IsEarly f → Moves g.T.Store.files g.T.Store.may_leave g.T.Store.moment g.T.Store.image_since SameFiles c.args.store.now c.sync.new.self)) (sym is) (λ early. (same_twice g.T.Store.files g.T.Store.may_leave g.T.Store.moment g.T.Store.image_since c.args.store.now c.is_finished.new.store c.sync.new.self (same_twice g.T.Store.files g.T.Store.may_leave g.T.Store.moment g.T.Store.image_since c.args.store.now c.open.new.store c.is_finished.new.store c.open.ensures.any_moment c.is_finished.ensures.any_moment) (moves_once g.T.Store.files g.T.Store.may_leave g.T.Store.moment g.T.Store.image_since SameFiles c.is_finished.new.store c.sync.new.self c.sync.ensures.reads (λ image is. (image, c.sync.ensures.images image is, λ name. refl)) c.sync.ensures.time)))

pub returns-in_err-sync-clause-refused : goal.returns-in_err-sync-clause-refused
returns-in_err-sync-clause-refused g c = λ all start begins.
    let cur = told_some (HasCurrent c.in_ok-saved.saved.current) (g.T.Store.files c.args.store.now) start begins.told c.in_ok-saved.ensures.current in
    let p = err_from_is_err_and c.from_residual-in_err-sync.result c.from_residual-in_err-sync.ensures.1 in
    let is : c.from_residual-in_err-sync.result ≡ Err (of_put c.in_err-sync.field-0.0) = p.1 ∙ ap (λ (w : BuildError). Err w) p.2 in
    subst (λ (r : Result Summary BuildError). IfErr r (IsRefused all c.args.config.now start)) (sym is)
    (record { current = c.in_ok-saved.saved.current; has_current = cur; because = store-refused all c.args.config.now c.in_ok-saved.saved.current (of_put c.in_err-sync.field-0.0) (put-store c.in_err-sync.field-0.0) })

pub returns-in_err-sync-clause-accepted : goal.returns-in_err-sync-clause-accepted
returns-in_err-sync-clause-accepted g c = λ all start begins acc.
    let p = err_from_is_err_and c.from_residual-in_err-sync.result c.from_residual-in_err-sync.ensures.1 in
    let is : c.from_residual-in_err-sync.result ≡ Err (of_put c.in_err-sync.field-0.0) = p.1 ∙ ap (λ (w : BuildError). Err w) p.2 in
    inr (stores-fails c.from_residual-in_err-sync.result (of_put c.in_err-sync.field-0.0) is (put-store c.in_err-sync.field-0.0))

pub returns-in_err-sync-clause-done_comes : goal.returns-in_err-sync-clause-done_comes
returns-in_err-sync-clause-done_comes g c = λ all start begins done.
    let p = err_from_is_err_and c.from_residual-in_err-sync.result c.from_residual-in_err-sync.ensures.1 in
    let is : c.from_residual-in_err-sync.result ≡ Err (of_put c.in_err-sync.field-0.0) = p.1 ∙ ap (λ (w : BuildError). Err w) p.2 in
    inr (stores-fails c.from_residual-in_err-sync.result (of_put c.in_err-sync.field-0.0) is (put-store c.in_err-sync.field-0.0))

pub returns-in_err-sync-clause-sources : goal.returns-in_err-sync-clause-sources
returns-in_err-sync-clause-sources g c = record {
  later = c.make_plan.ensures.cause.later;
  failed = λ is. absurd (put-no-source c.in_err-sync.field-0.0 (search (rules, is)));
}

pub returns-in_err-sync-clause-stores : goal.returns-in_err-sync-clause-stores
returns-in_err-sync-clause-stores g c = record {
  later = omega (arith, c.open.ensures.cause.later, c.is_finished.ensures.stores.later, c.sync.ensures.cause.later);
  failed = λ is. omega (arith, c.open.ensures.cause.later, c.is_finished.ensures.stores.later, c.in_err-sync.ensures.cause.failed (ap (λ (w : PutError). Err w) (put-failed c.in_err-sync.field-0.0 (search (rules, is)))));
}

pub returns-then-branch-clause-built : goal.returns-then-branch-clause-built
returns-then-branch-clause-built g c = λ all start begins.
    let cur = told_some (HasCurrent c.in_ok-saved.saved.current) (g.T.Store.files c.args.store.now) start begins.told c.in_ok-saved.ensures.current in
    let finished = c.in_ok-is_finished.ensures.finished (ap (λ (b : Bool). Ok b) c.if-branch.true) in
    let at_end = stepped SameFiles (g.T.Store.files c.args.store.now) (g.T.Store.files c.sync.new.self) start begins.told (same_twice g.T.Store.files g.T.Store.may_leave g.T.Store.moment g.T.Store.image_since c.args.store.now c.is_finished.new.store c.sync.new.self (same_twice g.T.Store.files g.T.Store.may_leave g.T.Store.moment g.T.Store.image_since c.args.store.now c.open.new.store c.is_finished.new.store c.open.ensures.any_moment c.is_finished.ensures.any_moment) (moves_once g.T.Store.files g.T.Store.may_leave g.T.Store.moment g.T.Store.image_since SameFiles c.is_finished.new.store c.sync.new.self c.sync.ensures.reads (λ image is. (image, c.sync.ensures.images image is, λ name. refl)) c.sync.ensures.time)).reads in
    let at_one = stepped SameFiles (g.T.Store.files c.args.store.now) (g.T.Store.files c.open.new.store) start begins.told c.open.ensures.any_moment.reads in
    let done_one = told_some IsDone (g.T.Store.files c.open.new.store) at_one.0 at_one.1 finished.1 in
    let done_end : IsDone at_end.0 = at_end.2 done_name ∙ (sym (at_one.2 done_name) ∙ done_one) in
    tells_some (IsBuilt all c.args.config.now start (record { points = c.in_ok-plan.plan.points; nodes = c.lines_in.result })) (g.T.Store.files c.sync.new.self) at_end.0 at_end.1
    (finished-built c.sound_steps_law.ensures.same c.sound_law.ensures.complete all start at_end.0 c.args.config.now c.in_ok-saved.saved.current c.in_ok-plan.plan c.in_ok-plan.ensures.plan cur begins.sound at_end.2 finished.0 done_end c.lines_in.result c.lines_in.ensures)

pub returns-then-branch-clause-sound : goal.returns-then-branch-clause-sound
returns-then-branch-clause-sound g c = λ all start begins.
    early-moves c.sound_steps_law.ensures.same c.sound_law.ensures.published c.sound_steps_law.ensures.guarding all c.args.config.now start g.T.Store.files g.T.Store.may_leave g.T.Store.moment g.T.Store.image_since c.args.store.now c.sync.new.self begins.told begins.settled begins.sound (same_twice g.T.Store.files g.T.Store.may_leave g.T.Store.moment g.T.Store.image_since c.args.store.now c.is_finished.new.store c.sync.new.self (same_twice g.T.Store.files g.T.Store.may_leave g.T.Store.moment g.T.Store.image_since c.args.store.now c.open.new.store c.is_finished.new.store c.open.ensures.any_moment c.is_finished.ensures.any_moment) (moves_once g.T.Store.files g.T.Store.may_leave g.T.Store.moment g.T.Store.image_since SameFiles c.is_finished.new.store c.sync.new.self c.sync.ensures.reads (λ image is. (image, c.sync.ensures.images image is, λ name. refl)) c.sync.ensures.time))

pub returns-then-branch-clause-done_already : goal.returns-then-branch-clause-done_already
returns-then-branch-clause-done_already g c = λ all start begins done.
    (same_twice g.T.Store.files g.T.Store.may_leave g.T.Store.moment g.T.Store.image_since c.args.store.now c.is_finished.new.store c.sync.new.self (same_twice g.T.Store.files g.T.Store.may_leave g.T.Store.moment g.T.Store.image_since c.args.store.now c.open.new.store c.is_finished.new.store c.open.ensures.any_moment c.is_finished.ensures.any_moment) (moves_once g.T.Store.files g.T.Store.may_leave g.T.Store.moment g.T.Store.image_since SameFiles c.is_finished.new.store c.sync.new.self c.sync.ensures.reads (λ image is. (image, c.sync.ensures.images image is, λ name. refl)) c.sync.ensures.time))

pub returns-clause-built : goal.returns-clause-built
returns-clause-built g c = λ all start begins.
    let cur = told_some (HasCurrent c.in_ok-saved.saved.current) (g.T.Store.files c.args.store.now) start begins.told c.in_ok-saved.ensures.current in
    let at_two = stepped SameFiles (g.T.Store.files c.args.store.now) (g.T.Store.files c.is_finished.new.store) start begins.told (same_twice g.T.Store.files g.T.Store.may_leave g.T.Store.moment g.T.Store.image_since c.args.store.now c.open.new.store c.is_finished.new.store c.open.ensures.any_moment c.is_finished.ensures.any_moment).reads in
    let told : g.H.Shelf.files c.make_plan.new.shelf ≡ Some all = c.in_ok-plan.ensures.files ∙ begins.shelf_told in
    let stands = same-stands g.T.Store.files g.T.Store.may_leave g.T.Store.moment g.T.Store.image_since c.in_ok-saved.saved c.open.new.store c.is_finished.new.store c.is_finished.ensures.any_moment (c.in_ok-saved.ensures.stands start begins.told begins.settled) in
    let starts = starts-again c.sound_steps_law.ensures.same all start at_two.0 c.args.config.now c.in_ok-saved.saved c.in_ok-plan.plan cur begins.sound at_two.2 g.T.Store.files g.T.Store.may_leave g.T.Store.moment g.T.Store.image_since c.args.store.now c.is_finished.new.store begins.told begins.settled at_two.1 (same_twice g.T.Store.files g.T.Store.may_leave g.T.Store.moment g.T.Store.image_since c.args.store.now c.open.new.store c.is_finished.new.store c.open.ensures.any_moment c.is_finished.ensures.any_moment) g.M.File.SpillFile.held begins.spills stands (tells-some _ (g.H.Shelf.files c.args.shelf.now) all begins.shelf_told c.in_ok-plan.ensures.scan) in
    let begins_at = subst (λ (v : View). Starts g.M.File.SpillFile.held all c.args.config.now v c.in_ok-plan.plan at_two.0 (g.T.Store.files c.is_finished.new.store) (g.T.Store.may_leave c.is_finished.new.store)) (sym c.in_ok-at.ensures.saved) starts in
    IfOk-weaker c.built-forest.result.1 _ _ (λ summary. built-from all c.args.config.now start at_two.0 at_two.2 summary (g.T.Store.files c.built-forest.new.store)) (c.built-forest.ensures.ends all at_two.0 told begins_at).built

pub returns-clause-sound : goal.returns-clause-sound
returns-clause-sound g c = λ all start begins.
    let cur = told_some (HasCurrent c.in_ok-saved.saved.current) (g.T.Store.files c.args.store.now) start begins.told c.in_ok-saved.ensures.current in
    let at_two = stepped SameFiles (g.T.Store.files c.args.store.now) (g.T.Store.files c.is_finished.new.store) start begins.told (same_twice g.T.Store.files g.T.Store.may_leave g.T.Store.moment g.T.Store.image_since c.args.store.now c.open.new.store c.is_finished.new.store c.open.ensures.any_moment c.is_finished.ensures.any_moment).reads in
    let told : g.H.Shelf.files c.make_plan.new.shelf ≡ Some all = c.in_ok-plan.ensures.files ∙ begins.shelf_told in
    let stands = same-stands g.T.Store.files g.T.Store.may_leave g.T.Store.moment g.T.Store.image_since c.in_ok-saved.saved c.open.new.store c.is_finished.new.store c.is_finished.ensures.any_moment (c.in_ok-saved.ensures.stands start begins.told begins.settled) in
    let starts = starts-again c.sound_steps_law.ensures.same all start at_two.0 c.args.config.now c.in_ok-saved.saved c.in_ok-plan.plan cur begins.sound at_two.2 g.T.Store.files g.T.Store.may_leave g.T.Store.moment g.T.Store.image_since c.args.store.now c.is_finished.new.store begins.told begins.settled at_two.1 (same_twice g.T.Store.files g.T.Store.may_leave g.T.Store.moment g.T.Store.image_since c.args.store.now c.open.new.store c.is_finished.new.store c.open.ensures.any_moment c.is_finished.ensures.any_moment) g.M.File.SpillFile.held begins.spills stands (tells-some _ (g.H.Shelf.files c.args.shelf.now) all begins.shelf_told c.in_ok-plan.ensures.scan) in
    let begins_at = subst (λ (v : View). Starts g.M.File.SpillFile.held all c.args.config.now v c.in_ok-plan.plan at_two.0 (g.T.Store.files c.is_finished.new.store) (g.T.Store.may_leave c.is_finished.new.store)) (sym c.in_ok-at.ensures.saved) starts in
    moves-then g.T.Store.files g.T.Store.may_leave g.T.Store.moment g.T.Store.image_since (IsUnderWay all c.args.config.now start) c.args.store.now c.is_finished.new.store c.built-forest.new.store
    (early-moves c.sound_steps_law.ensures.same c.sound_law.ensures.published c.sound_steps_law.ensures.guarding all c.args.config.now start g.T.Store.files g.T.Store.may_leave g.T.Store.moment g.T.Store.image_since c.args.store.now c.is_finished.new.store begins.told begins.settled begins.sound (same_twice g.T.Store.files g.T.Store.may_leave g.T.Store.moment g.T.Store.image_since c.args.store.now c.open.new.store c.is_finished.new.store c.open.ensures.any_moment c.is_finished.ensures.any_moment))
    (moves-wider g.T.Store.files g.T.Store.may_leave g.T.Store.moment g.T.Store.image_since (IsUnderWay all c.args.config.now at_two.0) (IsUnderWay all c.args.config.now start) (under-way-from all c.args.config.now start at_two.0 at_two.2) c.is_finished.new.store c.built-forest.new.store (c.built-forest.ensures.ends all at_two.0 told begins_at).under_way)

pub returns-clause-done_already : goal.returns-clause-done_already
returns-clause-done_already g c = λ all start begins done.
    let cur = told_some (HasCurrent c.in_ok-saved.saved.current) (g.T.Store.files c.args.store.now) start begins.told c.in_ok-saved.ensures.current in
    let has = done-all c.sound_law.ensures.one c.sound_law.ensures.published all start c.args.config.now c.in_ok-saved.saved.current c.in_ok-plan.plan c.in_ok-plan.ensures.plan cur begins.sound done in
    let at_one = stepped SameFiles (g.T.Store.files c.args.store.now) (g.T.Store.files c.open.new.store) start begins.told c.open.ensures.any_moment.reads in
    let undone = told_some (λ f. ¬ IsDone f) (g.T.Store.files c.open.new.store) at_one.0 at_one.1 (c.in_ok-is_finished.ensures.not (ap (λ (b : Bool). Ok b) c.if-branch.false) has.0 has.1) in
    absurd (undone (at_one.2 done_name ∙ done.done))

pub returns-clause-done_comes : goal.returns-clause-done_comes
returns-clause-done_comes g c = λ all start begins done.
    let cur = told_some (HasCurrent c.in_ok-saved.saved.current) (g.T.Store.files c.args.store.now) start begins.told c.in_ok-saved.ensures.current in
    let has = done-all c.sound_law.ensures.one c.sound_law.ensures.published all start c.args.config.now c.in_ok-saved.saved.current c.in_ok-plan.plan c.in_ok-plan.ensures.plan cur begins.sound done in
    let at_one = stepped SameFiles (g.T.Store.files c.args.store.now) (g.T.Store.files c.open.new.store) start begins.told c.open.ensures.any_moment.reads in
    let undone = told_some (λ f. ¬ IsDone f) (g.T.Store.files c.open.new.store) at_one.0 at_one.1 (c.in_ok-is_finished.ensures.not (ap (λ (b : Bool). Ok b) c.if-branch.false) has.0 has.1) in
    absurd (undone (at_one.2 done_name ∙ done.done))

pub returns-clause-refused : goal.returns-clause-refused
returns-clause-refused g c = λ all start begins.
    let cur = told_some (HasCurrent c.in_ok-saved.saved.current) (g.T.Store.files c.args.store.now) start begins.told c.in_ok-saved.ensures.current in
    let at_two = stepped SameFiles (g.T.Store.files c.args.store.now) (g.T.Store.files c.is_finished.new.store) start begins.told (same_twice g.T.Store.files g.T.Store.may_leave g.T.Store.moment g.T.Store.image_since c.args.store.now c.open.new.store c.is_finished.new.store c.open.ensures.any_moment c.is_finished.ensures.any_moment).reads in
    let told : g.H.Shelf.files c.make_plan.new.shelf ≡ Some all = c.in_ok-plan.ensures.files ∙ begins.shelf_told in
    let stands = same-stands g.T.Store.files g.T.Store.may_leave g.T.Store.moment g.T.Store.image_since c.in_ok-saved.saved c.open.new.store c.is_finished.new.store c.is_finished.ensures.any_moment (c.in_ok-saved.ensures.stands start begins.told begins.settled) in
    let starts = starts-again c.sound_steps_law.ensures.same all start at_two.0 c.args.config.now c.in_ok-saved.saved c.in_ok-plan.plan cur begins.sound at_two.2 g.T.Store.files g.T.Store.may_leave g.T.Store.moment g.T.Store.image_since c.args.store.now c.is_finished.new.store begins.told begins.settled at_two.1 (same_twice g.T.Store.files g.T.Store.may_leave g.T.Store.moment g.T.Store.image_since c.args.store.now c.open.new.store c.is_finished.new.store c.open.ensures.any_moment c.is_finished.ensures.any_moment) g.M.File.SpillFile.held begins.spills stands (tells-some _ (g.H.Shelf.files c.args.shelf.now) all begins.shelf_told c.in_ok-plan.ensures.scan) in
    let begins_at = subst (λ (v : View). Starts g.M.File.SpillFile.held all c.args.config.now v c.in_ok-plan.plan at_two.0 (g.T.Store.files c.is_finished.new.store) (g.T.Store.may_leave c.is_finished.new.store)) (sym c.in_ok-at.ensures.saved) starts in
    IfErr-weaker c.built-forest.result.1 (IsRefusedAt all c.args.config.now c.in_ok-saved.saved.current) (IsRefused all c.args.config.now start) (λ e because. record { current = c.in_ok-saved.saved.current; has_current = cur; because = because }) (subst (λ (v : View). IfErr c.built-forest.result.1 (IsRefusedAt all c.args.config.now v.current)) c.in_ok-at.ensures.saved (c.built-forest.ensures.ends all at_two.0 told begins_at).refused)

pub returns-clause-accepted : goal.returns-clause-accepted
returns-clause-accepted g c = λ all start begins acc.
    let cur = told_some (HasCurrent c.in_ok-saved.saved.current) (g.T.Store.files c.args.store.now) start begins.told c.in_ok-saved.ensures.current in
    let at_two = stepped SameFiles (g.T.Store.files c.args.store.now) (g.T.Store.files c.is_finished.new.store) start begins.told (same_twice g.T.Store.files g.T.Store.may_leave g.T.Store.moment g.T.Store.image_since c.args.store.now c.open.new.store c.is_finished.new.store c.open.ensures.any_moment c.is_finished.ensures.any_moment).reads in
    let told : g.H.Shelf.files c.make_plan.new.shelf ≡ Some all = c.in_ok-plan.ensures.files ∙ begins.shelf_told in
    let stands = same-stands g.T.Store.files g.T.Store.may_leave g.T.Store.moment g.T.Store.image_since c.in_ok-saved.saved c.open.new.store c.is_finished.new.store c.is_finished.ensures.any_moment (c.in_ok-saved.ensures.stands start begins.told begins.settled) in
    let starts = starts-again c.sound_steps_law.ensures.same all start at_two.0 c.args.config.now c.in_ok-saved.saved c.in_ok-plan.plan cur begins.sound at_two.2 g.T.Store.files g.T.Store.may_leave g.T.Store.moment g.T.Store.image_since c.args.store.now c.is_finished.new.store begins.told begins.settled at_two.1 (same_twice g.T.Store.files g.T.Store.may_leave g.T.Store.moment g.T.Store.image_since c.args.store.now c.open.new.store c.is_finished.new.store c.open.ensures.any_moment c.is_finished.ensures.any_moment) g.M.File.SpillFile.held begins.spills stands (tells-some _ (g.H.Shelf.files c.args.shelf.now) all begins.shelf_told c.in_ok-plan.ensures.scan) in
    let begins_at = subst (λ (v : View). Starts g.M.File.SpillFile.held all c.args.config.now v c.in_ok-plan.plan at_two.0 (g.T.Store.files c.is_finished.new.store) (g.T.Store.may_leave c.is_finished.new.store)) (sym c.in_ok-at.ensures.saved) starts in
    let same : acc.current ≡ c.in_ok-saved.saved.current = c.sound_law.ensures.one start acc.current c.in_ok-saved.saved.current acc.has_current cur in
    built-accepted c.built-forest.result.1 all c.args.config.now c.in_ok-saved.saved.current c.built-forest.ensures.only (subst (λ (v : View). IfErr c.built-forest.result.1 (IsRefusedAt all c.args.config.now v.current)) c.in_ok-at.ensures.saved (c.built-forest.ensures.ends all at_two.0 told begins_at).refused) acc.kept acc.points (subst (λ (w : Current). HasPoints all c.args.config.now w acc.kept acc.points) same acc.has_points) acc.few

pub returns-in_err-plan-clause-differs_comes : goal.returns-in_err-plan-clause-differs_comes
returns-in_err-plan-clause-differs_comes g c = λ start current told has not_on.
    let cur = told_some (HasCurrent c.in_ok-saved.saved.current) (g.T.Store.files c.args.store.now) start told c.in_ok-saved.ensures.current in
    let e = c.in_err-plan.field-0.0 in
    let is : c.from_residual-in_err-plan.result ≡ Err (of_plan e) = search rules in
    let same : current ≡ c.in_ok-saved.saved.current = c.sound_law.ensures.one start current c.in_ok-saved.saved.current has cur in
    plan-differs c.from_residual-in_err-plan.result e is (c.in_err-plan.ensures.differs_comes (subst (λ (w : Current). ¬ GoesOn c.args.config.now w) same not_on))

pub returns-in_err-plan-clause-too_many_comes : goal.returns-in_err-plan-clause-too_many_comes
returns-in_err-plan-clause-too_many_comes g c = λ all start begins current has on not_done many.
    let cur = told_some (HasCurrent c.in_ok-saved.saved.current) (g.T.Store.files c.args.store.now) start begins.told c.in_ok-saved.ensures.current in
    let e = c.in_err-plan.field-0.0 in
    let is : c.from_residual-in_err-plan.result ≡ Err (of_plan e) = search rules in
    let same : current ≡ c.in_ok-saved.saved.current = c.sound_law.ensures.one start current c.in_ok-saved.saved.current has cur in
    let comes = tells-some _ (g.H.Shelf.files c.args.shelf.now) all begins.shelf_told c.in_err-plan.ensures.accepted in
    inr (plan-only c.from_residual-in_err-plan.result e is
    (comes many.points many.has_points.done (subst (λ (w : Current). GoesOn c.args.config.now w) same on)
    (subst (λ (w : Current). IsScan all c.args.config.now.scale (limits_by c.args.config.now.bounds w) c.args.config.now.inputs 0 many.points many.has_points.done) same many.has_points.scan)))

pub returns-in_err-is_finished-clause-too_many_comes : goal.returns-in_err-is_finished-clause-too_many_comes
returns-in_err-is_finished-clause-too_many_comes g c = λ all start begins current has on not_done many.
    let p = err_from_is_err_and c.from_residual-in_err-is_finished.result c.from_residual-in_err-is_finished.ensures.1 in
    let is : c.from_residual-in_err-is_finished.result ≡ Err c.in_err-is_finished.field-0.0 = p.1 ∙ ap (λ (w : BuildError). Err w) p.2 in
    inr (stores-fails c.from_residual-in_err-is_finished.result c.in_err-is_finished.field-0.0 is c.in_err-is_finished.ensures.only)

pub returns-in_err-sync-clause-bad : goal.returns-in_err-sync-clause-bad
returns-in_err-sync-clause-bad g c = λ letter told.
    let p = err_from_is_err_and c.from_residual-in_err-sync.result c.from_residual-in_err-sync.ensures.1 in
    let is : c.from_residual-in_err-sync.result ≡ Err (of_put c.in_err-sync.field-0.0) = p.1 ∙ ap (λ (w : BuildError). Err w) p.2 in
    absurd (put-not-bad c.in_err-sync.field-0.0 letter (err-one (sym is ∙ told)))

pub returns-in_err-sync-clause-differs : goal.returns-in_err-sync-clause-differs
returns-in_err-sync-clause-differs g c = λ field kept given told.
    let p = err_from_is_err_and c.from_residual-in_err-sync.result c.from_residual-in_err-sync.ensures.1 in
    let is : c.from_residual-in_err-sync.result ≡ Err (of_put c.in_err-sync.field-0.0) = p.1 ∙ ap (λ (w : BuildError). Err w) p.2 in
    absurd (put-no-difference c.in_err-sync.field-0.0 field kept given (err-one (sym is ∙ told)))

pub returns-then-branch-clause-refusal_comes : goal.returns-then-branch-clause-refusal_comes
returns-then-branch-clause-refusal_comes g c = λ all start begins current e has definite refused.
    let cur = told_some (HasCurrent c.in_ok-saved.saved.current) (g.T.Store.files c.args.store.now) start begins.told c.in_ok-saved.ensures.current in
    let same : current ≡ c.in_ok-saved.saved.current = c.sound_law.ensures.one start current c.in_ok-saved.saved.current has cur in
    let comes = tells-some _ (g.H.Shelf.files c.args.shelf.now) all begins.shelf_told c.in_ok-plan.ensures.refusal_comes in
    absurd (plan-is-ok c.in_ok-plan.plan (plan.Scan e) (comes e (subst (λ (w : Current). GoesOn c.args.config.now w) same refused.0) definite (subst (λ (w : Current). AreRefused all c.args.config.now w e) same refused.1)))

pub returns-clause-too_many_comes : goal.returns-clause-too_many_comes
returns-clause-too_many_comes g c = λ all start begins current has on not_done many.
    let cur = told_some (HasCurrent c.in_ok-saved.saved.current) (g.T.Store.files c.args.store.now) start begins.told c.in_ok-saved.ensures.current in
    let at_two = stepped SameFiles (g.T.Store.files c.args.store.now) (g.T.Store.files c.is_finished.new.store) start begins.told (same_twice g.T.Store.files g.T.Store.may_leave g.T.Store.moment g.T.Store.image_since c.args.store.now c.open.new.store c.is_finished.new.store c.open.ensures.any_moment c.is_finished.ensures.any_moment).reads in
    let told : g.H.Shelf.files c.make_plan.new.shelf ≡ Some all = c.in_ok-plan.ensures.files ∙ begins.shelf_told in
    let stands = same-stands g.T.Store.files g.T.Store.may_leave g.T.Store.moment g.T.Store.image_since c.in_ok-saved.saved c.open.new.store c.is_finished.new.store c.is_finished.ensures.any_moment (c.in_ok-saved.ensures.stands start begins.told begins.settled) in
    let starts = starts-again c.sound_steps_law.ensures.same all start at_two.0 c.args.config.now c.in_ok-saved.saved c.in_ok-plan.plan cur begins.sound at_two.2 g.T.Store.files g.T.Store.may_leave g.T.Store.moment g.T.Store.image_since c.args.store.now c.is_finished.new.store begins.told begins.settled at_two.1 (same_twice g.T.Store.files g.T.Store.may_leave g.T.Store.moment g.T.Store.image_since c.args.store.now c.open.new.store c.is_finished.new.store c.open.ensures.any_moment c.is_finished.ensures.any_moment) g.M.File.SpillFile.held begins.spills stands (tells-some _ (g.H.Shelf.files c.args.shelf.now) all begins.shelf_told c.in_ok-plan.ensures.scan) in
    let begins_at = subst (λ (v : View). Starts g.M.File.SpillFile.held all c.args.config.now v c.in_ok-plan.plan at_two.0 (g.T.Store.files c.is_finished.new.store) (g.T.Store.may_leave c.is_finished.new.store)) (sym c.in_ok-at.ensures.saved) starts in
    let same : current ≡ c.in_ok-saved.saved.current = c.sound_law.ensures.one start current c.in_ok-saved.saved.current has cur in
    let end = stepped (λ (a b : Files). IsUnderWay all c.args.config.now at_two.0 b) (g.T.Store.files c.is_finished.new.store) (g.T.Store.files c.built-forest.new.store) at_two.0 at_two.1 (c.built-forest.ensures.ends all at_two.0 told begins_at).under_way.reads in
    built-many c.built-forest.result.1 all c.args.config.now c.in_ok-saved.saved.current at_two.0 (g.T.Store.files c.built-forest.new.store) end.0 end.1 c.built-forest.ensures.only (subst (λ (v : View). IfErr c.built-forest.result.1 (IsRefusedAt all c.args.config.now v.current)) c.in_ok-at.ensures.saved (c.built-forest.ensures.ends all at_two.0 told begins_at).refused) c.built-forest.ensures.few (c.built-forest.ensures.ends all at_two.0 told begins_at).built
    (λ other its. c.sound_law.ensures.one at_two.0 other c.in_ok-saved.saved.current its starts.ready.has_current) many.kept many.points (subst (λ (w : Current). HasPoints all c.args.config.now w many.kept many.points) same many.has_points) many.many

pub returns-in_err-saved-clause-stops : goal.returns-in_err-saved-clause-stops
returns-in_err-saved-clause-stops g c = λ is all start begins.
    let e = c.in_err-saved.field-0.0 in
    let its : c.from_residual.result ≡ Err (of_save e) = search rules in
    absurd (save-not-many e (err-one (sym its ∙ is)))

pub returns-in_err-plan-clause-stops : goal.returns-in_err-plan-clause-stops
returns-in_err-plan-clause-stops g c = λ is all start begins.
    let e = c.in_err-plan.field-0.0 in
    let its : c.from_residual-in_err-plan.result ≡ Err (of_plan e) = search rules in
    absurd (plan-not-many e (err-one (sym its ∙ is)))

pub returns-in_err-is_finished-clause-stops : goal.returns-in_err-is_finished-clause-stops
returns-in_err-is_finished-clause-stops g c = λ is all start begins.
    let p = err_from_is_err_and c.from_residual-in_err-is_finished.result c.from_residual-in_err-is_finished.ensures.1 in
    let its : c.from_residual-in_err-is_finished.result ≡ Err c.in_err-is_finished.field-0.0 = p.1 ∙ ap (λ (w : BuildError). Err w) p.2 in
    absurd (store-not-many c.in_err-is_finished.field-0.0 c.in_err-is_finished.ensures.only (err-one (sym its ∙ is)))

pub returns-in_err-sync-clause-stops : goal.returns-in_err-sync-clause-stops
returns-in_err-sync-clause-stops g c = λ is all start begins.
    let p = err_from_is_err_and c.from_residual-in_err-sync.result c.from_residual-in_err-sync.ensures.1 in
    let its : c.from_residual-in_err-sync.result ≡ Err (of_put c.in_err-sync.field-0.0) = p.1 ∙ ap (λ (w : BuildError). Err w) p.2 in
    absurd (put-not-many c.in_err-sync.field-0.0 (err-one (sym its ∙ is)))

pub returns-clause-stops : goal.returns-clause-stops
returns-clause-stops g c = λ is all start begins.
    let cur = told_some (HasCurrent c.in_ok-saved.saved.current) (g.T.Store.files c.args.store.now) start begins.told c.in_ok-saved.ensures.current in
    let at_two = stepped SameFiles (g.T.Store.files c.args.store.now) (g.T.Store.files c.is_finished.new.store) start begins.told (same_twice g.T.Store.files g.T.Store.may_leave g.T.Store.moment g.T.Store.image_since c.args.store.now c.open.new.store c.is_finished.new.store c.open.ensures.any_moment c.is_finished.ensures.any_moment).reads in
    let told : g.H.Shelf.files c.make_plan.new.shelf ≡ Some all = c.in_ok-plan.ensures.files ∙ begins.shelf_told in
    let stands = same-stands g.T.Store.files g.T.Store.may_leave g.T.Store.moment g.T.Store.image_since c.in_ok-saved.saved c.open.new.store c.is_finished.new.store c.is_finished.ensures.any_moment (c.in_ok-saved.ensures.stands start begins.told begins.settled) in
    let starts = starts-again c.sound_steps_law.ensures.same all start at_two.0 c.args.config.now c.in_ok-saved.saved c.in_ok-plan.plan cur begins.sound at_two.2 g.T.Store.files g.T.Store.may_leave g.T.Store.moment g.T.Store.image_since c.args.store.now c.is_finished.new.store begins.told begins.settled at_two.1 (same_twice g.T.Store.files g.T.Store.may_leave g.T.Store.moment g.T.Store.image_since c.args.store.now c.open.new.store c.is_finished.new.store c.open.ensures.any_moment c.is_finished.ensures.any_moment) g.M.File.SpillFile.held begins.spills stands (tells-some _ (g.H.Shelf.files c.args.shelf.now) all begins.shelf_told c.in_ok-plan.ensures.scan) in
    let begins_at = subst (λ (v : View). Starts g.M.File.SpillFile.held all c.args.config.now v c.in_ok-plan.plan at_two.0 (g.T.Store.files c.is_finished.new.store) (g.T.Store.may_leave c.is_finished.new.store)) (sym c.in_ok-at.ensures.saved) starts in
    let its = (c.built-forest.ensures.ends all at_two.0 told begins_at).stopped is in
    (its.0, stops-from all c.args.config.now start at_two.0 at_two.2 g.T.Store.files g.T.Store.may_leave g.T.Store.moment g.T.Store.image_since c.args.store.now c.is_finished.new.store c.built-forest.new.store (same_twice g.T.Store.files g.T.Store.may_leave g.T.Store.moment g.T.Store.image_since c.args.store.now c.open.new.store c.is_finished.new.store c.open.ensures.any_moment c.is_finished.ensures.any_moment) its.1)

pub returns-in_err-saved-clause-asked : goal.returns-in_err-saved-clause-asked
returns-in_err-saved-clause-asked g c = λ start current told has. asked-none (g.H.Shelf.files c.args.shelf.now) c.args.config.now start current (g.H.Shelf.asked c.args.shelf.now)

pub returns-in_err-plan-clause-asked : goal.returns-in_err-plan-clause-asked
returns-in_err-plan-clause-asked g c = λ start current told has.
    let cur = told_some (HasCurrent c.in_ok-saved.saved.current) (g.T.Store.files c.args.store.now) start told c.in_ok-saved.ensures.current in
    let same : current ≡ c.in_ok-saved.saved.current = c.sound_law.ensures.one start current c.in_ok-saved.saved.current has cur in
    subst (λ (w : Current). AsksInOrder (g.H.Shelf.files c.args.shelf.now) c.args.config.now start w (g.H.Shelf.asked c.args.shelf.now) (g.H.Shelf.asked c.make_plan.new.shelf)) (sym same)
    (asked-scan (g.H.Shelf.files c.args.shelf.now) c.args.config.now start c.in_ok-saved.saved.current (g.H.Shelf.asked c.args.shelf.now) (g.H.Shelf.asked c.make_plan.new.shelf) (opens-front (new_paths c.args.config.now c.in_ok-saved.saved.current) c.make_plan.result (g.H.Shelf.asked c.args.shelf.now) (g.H.Shelf.asked c.make_plan.new.shelf) c.make_plan.ensures.asked))

pub returns-in_err-is_finished-clause-asked : goal.returns-in_err-is_finished-clause-asked
returns-in_err-is_finished-clause-asked g c = λ start current told has.
    let cur = told_some (HasCurrent c.in_ok-saved.saved.current) (g.T.Store.files c.args.store.now) start told c.in_ok-saved.ensures.current in
    let same : current ≡ c.in_ok-saved.saved.current = c.sound_law.ensures.one start current c.in_ok-saved.saved.current has cur in
    subst (λ (w : Current). AsksInOrder (g.H.Shelf.files c.args.shelf.now) c.args.config.now start w (g.H.Shelf.asked c.args.shelf.now) (g.H.Shelf.asked c.make_plan.new.shelf)) (sym same)
    (asked-scan (g.H.Shelf.files c.args.shelf.now) c.args.config.now start c.in_ok-saved.saved.current (g.H.Shelf.asked c.args.shelf.now) (g.H.Shelf.asked c.make_plan.new.shelf) (opens-front (new_paths c.args.config.now c.in_ok-saved.saved.current) c.make_plan.result (g.H.Shelf.asked c.args.shelf.now) (g.H.Shelf.asked c.make_plan.new.shelf) c.make_plan.ensures.asked))

pub returns-in_err-sync-clause-asked : goal.returns-in_err-sync-clause-asked
returns-in_err-sync-clause-asked g c = λ start current told has.
    let cur = told_some (HasCurrent c.in_ok-saved.saved.current) (g.T.Store.files c.args.store.now) start told c.in_ok-saved.ensures.current in
    let same : current ≡ c.in_ok-saved.saved.current = c.sound_law.ensures.one start current c.in_ok-saved.saved.current has cur in
    subst (λ (w : Current). AsksInOrder (g.H.Shelf.files c.args.shelf.now) c.args.config.now start w (g.H.Shelf.asked c.args.shelf.now) (g.H.Shelf.asked c.make_plan.new.shelf)) (sym same)
    (asked-scan (g.H.Shelf.files c.args.shelf.now) c.args.config.now start c.in_ok-saved.saved.current (g.H.Shelf.asked c.args.shelf.now) (g.H.Shelf.asked c.make_plan.new.shelf) (opens-front (new_paths c.args.config.now c.in_ok-saved.saved.current) c.make_plan.result (g.H.Shelf.asked c.args.shelf.now) (g.H.Shelf.asked c.make_plan.new.shelf) c.make_plan.ensures.asked))

pub returns-then-branch-clause-asked : goal.returns-then-branch-clause-asked
returns-then-branch-clause-asked g c = λ start current told has.
    let cur = told_some (HasCurrent c.in_ok-saved.saved.current) (g.T.Store.files c.args.store.now) start told c.in_ok-saved.ensures.current in
    let same : current ≡ c.in_ok-saved.saved.current = c.sound_law.ensures.one start current c.in_ok-saved.saved.current has cur in
    subst (λ (w : Current). AsksInOrder (g.H.Shelf.files c.args.shelf.now) c.args.config.now start w (g.H.Shelf.asked c.args.shelf.now) (g.H.Shelf.asked c.make_plan.new.shelf)) (sym same)
    (asked-scan (g.H.Shelf.files c.args.shelf.now) c.args.config.now start c.in_ok-saved.saved.current (g.H.Shelf.asked c.args.shelf.now) (g.H.Shelf.asked c.make_plan.new.shelf) (opens-front (new_paths c.args.config.now c.in_ok-saved.saved.current) c.make_plan.result (g.H.Shelf.asked c.args.shelf.now) (g.H.Shelf.asked c.make_plan.new.shelf) c.make_plan.ensures.asked))

pub returns-clause-asked : goal.returns-clause-asked
returns-clause-asked g c = λ start current told has.
    let cur = told_some (HasCurrent c.in_ok-saved.saved.current) (g.T.Store.files c.args.store.now) start told c.in_ok-saved.ensures.current in
    let same : current ≡ c.in_ok-saved.saved.current = c.sound_law.ensures.one start current c.in_ok-saved.saved.current has cur in
    subst (λ (w : Current). AsksInOrder (g.H.Shelf.files c.args.shelf.now) c.args.config.now start w (g.H.Shelf.asked c.args.shelf.now) (g.H.Shelf.asked c.built-forest.new.shelf)) (sym same)
    (asked-read (g.H.Shelf.files c.args.shelf.now) c.args.config.now start c.in_ok-saved.saved.current c.in_ok-plan.plan c.in_ok-plan.ensures.plan
    (λ all shelf_told sound. has-counts all start c.args.config.now c.in_ok-saved.saved.current c.in_ok-plan.plan (tells-some _ (g.H.Shelf.files c.args.shelf.now) all shelf_told c.in_ok-plan.ensures.scan) cur sound)
    (g.H.Shelf.asked c.args.shelf.now) (g.H.Shelf.asked c.make_plan.new.shelf) (g.H.Shelf.asked c.built-forest.new.shelf) c.in_ok-plan.ensures.asked c.built-forest.ensures.asked)

pub returns-in_err-saved-clause-damaged : goal.returns-in_err-saved-clause-damaged
returns-in_err-saved-clause-damaged g c = λ key is start told settled.
    let e = c.in_err-saved.field-0.0 in
    let its : c.from_residual.result ≡ Err (of_save e) = search rules in
    absurd (c.in_err-saved.ensures.no_tile key (saved-damaged e key (err-one (sym its ∙ is))))

pub returns-in_err-saved-clause-damaged_first : goal.returns-in_err-saved-clause-damaged_first
returns-in_err-saved-clause-damaged_first g c = λ start current key other told has damaged is.
    let e = c.in_err-saved.field-0.0 in
    let its : c.from_residual.result ≡ Err (of_save e) = search rules in
    absurd (c.in_err-saved.ensures.no_tile other (saved-damaged e other (err-one (sym its ∙ is))))

pub returns-in_err-saved-clause-damaged_comes : goal.returns-in_err-saved-clause-damaged_comes
returns-in_err-saved-clause-damaged_comes g c = λ all start current shelf_told told has comes.
    let e = c.in_err-saved.field-0.0 in
    let its : c.from_residual.result ≡ Err (of_save e) = search rules in
    inr (opening-fails c.from_residual.result e its (c.in_err-saved.ensures.none_bad current start told has))

pub returns-in_err-plan-clause-damaged : goal.returns-in_err-plan-clause-damaged
returns-in_err-plan-clause-damaged g c = λ key is start told settled.
    let e = c.in_err-plan.field-0.0 in
    let its : c.from_residual-in_err-plan.result ≡ Err (of_plan e) = search rules in
    absurd (plan-no-tile e key (err-one (sym its ∙ is)))

pub returns-in_err-plan-clause-damaged_first : goal.returns-in_err-plan-clause-damaged_first
returns-in_err-plan-clause-damaged_first g c = λ start current key other told has damaged is.
    let e = c.in_err-plan.field-0.0 in
    let its : c.from_residual-in_err-plan.result ≡ Err (of_plan e) = search rules in
    absurd (plan-no-tile e other (err-one (sym its ∙ is)))

pub returns-in_err-plan-clause-damaged_comes : goal.returns-in_err-plan-clause-damaged_comes
returns-in_err-plan-clause-damaged_comes g c = λ all start current shelf_told told has comes.
    let cur = told_some (HasCurrent c.in_ok-saved.saved.current) (g.T.Store.files c.args.store.now) start told c.in_ok-saved.ensures.current in
    let same : current ≡ c.in_ok-saved.saved.current = c.sound_law.ensures.one start current c.in_ok-saved.saved.current has cur in
    let e = c.in_err-plan.field-0.0 in
    let its : c.from_residual-in_err-plan.result ≡ Err (of_plan e) = search rules in
    let accepted = tells-some _ (g.H.Shelf.files c.args.shelf.now) all shelf_told c.in_err-plan.ensures.accepted in
    inr (plan-only c.from_residual-in_err-plan.result e its
    (accepted comes.points comes.done (subst (λ (w : Current). GoesOn c.args.config.now w) same comes.goes_on)
    (subst (λ (w : Current). IsScan all c.args.config.now.scale (limits_by c.args.config.now.bounds w) c.args.config.now.inputs 0 comes.points comes.done) same comes.scan)))

pub returns-in_err-is_finished-clause-damaged : goal.returns-in_err-is_finished-clause-damaged
returns-in_err-is_finished-clause-damaged g c = λ key is start told settled.
    let p = err_from_is_err_and c.from_residual-in_err-is_finished.result c.from_residual-in_err-is_finished.ensures.1 in
    let its : c.from_residual-in_err-is_finished.result ≡ Err c.in_err-is_finished.field-0.0 = p.1 ∙ ap (λ (w : BuildError). Err w) p.2 in
    absurd (store-no-tile c.in_err-is_finished.field-0.0 key c.in_err-is_finished.ensures.only (err-one (sym its ∙ is)))

pub returns-in_err-is_finished-clause-damaged_first : goal.returns-in_err-is_finished-clause-damaged_first
returns-in_err-is_finished-clause-damaged_first g c = λ start current key other told has damaged is.
    let p = err_from_is_err_and c.from_residual-in_err-is_finished.result c.from_residual-in_err-is_finished.ensures.1 in
    let its : c.from_residual-in_err-is_finished.result ≡ Err c.in_err-is_finished.field-0.0 = p.1 ∙ ap (λ (w : BuildError). Err w) p.2 in
    absurd (store-no-tile c.in_err-is_finished.field-0.0 other c.in_err-is_finished.ensures.only (err-one (sym its ∙ is)))

pub returns-in_err-is_finished-clause-damaged_comes : goal.returns-in_err-is_finished-clause-damaged_comes
returns-in_err-is_finished-clause-damaged_comes g c = λ all start current shelf_told told has comes.
    let p = err_from_is_err_and c.from_residual-in_err-is_finished.result c.from_residual-in_err-is_finished.ensures.1 in
    let its : c.from_residual-in_err-is_finished.result ≡ Err c.in_err-is_finished.field-0.0 = p.1 ∙ ap (λ (w : BuildError). Err w) p.2 in
    inr (stores-fails c.from_residual-in_err-is_finished.result c.in_err-is_finished.field-0.0 its c.in_err-is_finished.ensures.only)

pub returns-in_err-sync-clause-damaged : goal.returns-in_err-sync-clause-damaged
returns-in_err-sync-clause-damaged g c = λ key is start told settled.
    let p = err_from_is_err_and c.from_residual-in_err-sync.result c.from_residual-in_err-sync.ensures.1 in
    let its : c.from_residual-in_err-sync.result ≡ Err (of_put c.in_err-sync.field-0.0) = p.1 ∙ ap (λ (w : BuildError). Err w) p.2 in
    absurd (put-no-tile c.in_err-sync.field-0.0 key (err-one (sym its ∙ is)))

pub returns-in_err-sync-clause-damaged_first : goal.returns-in_err-sync-clause-damaged_first
returns-in_err-sync-clause-damaged_first g c = λ start current key other told has damaged is.
    let p = err_from_is_err_and c.from_residual-in_err-sync.result c.from_residual-in_err-sync.ensures.1 in
    let its : c.from_residual-in_err-sync.result ≡ Err (of_put c.in_err-sync.field-0.0) = p.1 ∙ ap (λ (w : BuildError). Err w) p.2 in
    absurd (put-no-tile c.in_err-sync.field-0.0 other (err-one (sym its ∙ is)))

pub returns-in_err-sync-clause-damaged_comes : goal.returns-in_err-sync-clause-damaged_comes
returns-in_err-sync-clause-damaged_comes g c = λ all start current shelf_told told has comes.
    let p = err_from_is_err_and c.from_residual-in_err-sync.result c.from_residual-in_err-sync.ensures.1 in
    let its : c.from_residual-in_err-sync.result ≡ Err (of_put c.in_err-sync.field-0.0) = p.1 ∙ ap (λ (w : BuildError). Err w) p.2 in
    inr (stores-fails c.from_residual-in_err-sync.result (of_put c.in_err-sync.field-0.0) its (put-store c.in_err-sync.field-0.0))

pub returns-then-branch-clause-damaged_comes : goal.returns-then-branch-clause-damaged_comes
returns-then-branch-clause-damaged_comes g c = λ all start current shelf_told told has comes.
    let cur = told_some (HasCurrent c.in_ok-saved.saved.current) (g.T.Store.files c.args.store.now) start told c.in_ok-saved.ensures.current in
    let same : current ≡ c.in_ok-saved.saved.current = c.sound_law.ensures.one start current c.in_ok-saved.saved.current has cur in
    let finished = c.in_ok-is_finished.ensures.finished (ap (λ (b : Bool). Ok b) c.if-branch.true) in
    let at_one = stepped SameFiles (g.T.Store.files c.args.store.now) (g.T.Store.files c.open.new.store) start told c.open.ensures.any_moment.reads in
    let opened = told_some IsDone (g.T.Store.files c.open.new.store) at_one.0 at_one.1 finished.1 in
    nothing-left c.args.config.now start current comes.left (sym (at_one.2 done_name) ∙ opened) (ap inputs_by same ∙ (finished.0.inputs ∙ ap (λ (w : List Input). length w) c.in_ok-plan.ensures.plan.kept_is.inputs_is))

pub returns-clause-damaged : goal.returns-clause-damaged
returns-clause-damaged g c = λ key is start told settled.
    c.built-forest.ensures.damaged key is (subst (λ (v : View). StandsFor v (g.T.Store.files c.is_finished.new.store) (g.T.Store.may_leave c.is_finished.new.store)) (sym c.in_ok-at.ensures.saved) (same-stands g.T.Store.files g.T.Store.may_leave g.T.Store.moment g.T.Store.image_since c.in_ok-saved.saved c.open.new.store c.is_finished.new.store c.is_finished.ensures.any_moment (c.in_ok-saved.ensures.stands start told settled)))

pub returns-clause-damaged_comes : goal.returns-clause-damaged_comes
returns-clause-damaged_comes g c = λ all start current shelf_told told has comes.
    let cur = told_some (HasCurrent c.in_ok-saved.saved.current) (g.T.Store.files c.args.store.now) start told c.in_ok-saved.ensures.current in
    let same : current ≡ c.in_ok-saved.saved.current = c.sound_law.ensures.one start current c.in_ok-saved.saved.current has cur in
    let at_two = stepped SameFiles (g.T.Store.files c.args.store.now) (g.T.Store.files c.is_finished.new.store) start told (same_twice g.T.Store.files g.T.Store.may_leave g.T.Store.moment g.T.Store.image_since c.args.store.now c.open.new.store c.is_finished.new.store c.open.ensures.any_moment c.is_finished.ensures.any_moment).reads in
    let mine : current ≡ c.in_ok-at.at.saved.current = same ∙ ap (λ (v : View). v.current) (sym c.in_ok-at.ensures.saved) in
    (c.built-forest.ensures.damage at_two.0 at_two.1).comes comes.key (subst (λ (w : Current). HasSlot w c.args.config.now.max_nodes comes.key) mine comes.slot)
    (damaged-same c.in_ok-at.at.saved.current comes.key at_two.0 start (λ name. sym (at_two.2 name)) (subst (λ (w : Current). IsDamaged w comes.key start) mine comes.damaged))

pub returns-clause-damaged_first : goal.returns-clause-damaged_first
returns-clause-damaged_first g c = λ start current key other told has damaged is.
    let cur = told_some (HasCurrent c.in_ok-saved.saved.current) (g.T.Store.files c.args.store.now) start told c.in_ok-saved.ensures.current in
    let same : current ≡ c.in_ok-saved.saved.current = c.sound_law.ensures.one start current c.in_ok-saved.saved.current has cur in
    let two = same_twice g.T.Store.files g.T.Store.may_leave g.T.Store.moment g.T.Store.image_since c.args.store.now c.open.new.store c.is_finished.new.store c.open.ensures.any_moment c.is_finished.ensures.any_moment in
    let at_two = stepped SameFiles (g.T.Store.files c.args.store.now) (g.T.Store.files c.is_finished.new.store) start told two.reads in
    let mine : current ≡ c.in_ok-at.at.saved.current = same ∙ ap (λ (v : View). v.current) (sym c.in_ok-at.ensures.saved) in
    let bad = damaged-same c.in_ok-at.at.saved.current key at_two.0 start (λ name. sym (at_two.2 name)) (subst (λ (w : Current). IsDamaged w key start) mine damaged) in
    let first = (c.built-forest.ensures.damage at_two.0 at_two.1).first key other bad is in (
      subst (λ (w : Current). IsFirstDamaged w c.args.config.now.max_nodes other start) (sym mine) (first-same c.in_ok-at.at.saved.current c.args.config.now.max_nodes other start at_two.0 at_two.2 first.0),
      same_twice g.T.Store.files g.T.Store.may_leave g.T.Store.moment g.T.Store.image_since c.args.store.now c.is_finished.new.store c.built-forest.new.store two first.1,
    )

pub returns-in_err-at-clause-sound : goal.returns-in_err-at-clause-sound
returns-in_err-at-clause-sound g c = λ all start begins.
    early-moves c.sound_steps_law.ensures.same c.sound_law.ensures.published c.sound_steps_law.ensures.guarding all c.args.config.now start g.T.Store.files g.T.Store.may_leave g.T.Store.moment g.T.Store.image_since c.args.store.now c.is_finished.new.store begins.told begins.settled begins.sound (same_twice g.T.Store.files g.T.Store.may_leave g.T.Store.moment g.T.Store.image_since c.args.store.now c.open.new.store c.is_finished.new.store c.open.ensures.any_moment c.is_finished.ensures.any_moment)

pub returns-in_err-at-clause-done_already : goal.returns-in_err-at-clause-done_already
returns-in_err-at-clause-done_already g c = λ all start begins done.
    (same_twice g.T.Store.files g.T.Store.may_leave g.T.Store.moment g.T.Store.image_since c.args.store.now c.open.new.store c.is_finished.new.store c.open.ensures.any_moment c.is_finished.ensures.any_moment)

pub returns-in_err-at-clause-done_comes : goal.returns-in_err-at-clause-done_comes
returns-in_err-at-clause-done_comes g c = λ all start begins done.
    let cur = told_some (HasCurrent c.in_ok-saved.saved.current) (g.T.Store.files c.args.store.now) start begins.told c.in_ok-saved.ensures.current in
    let has = done-all c.sound_law.ensures.one c.sound_law.ensures.published all start c.args.config.now c.in_ok-saved.saved.current c.in_ok-plan.plan c.in_ok-plan.ensures.plan cur begins.sound done in
    let at_one = stepped SameFiles (g.T.Store.files c.args.store.now) (g.T.Store.files c.open.new.store) start begins.told c.open.ensures.any_moment.reads in
    let undone = told_some (λ f. ¬ IsDone f) (g.T.Store.files c.open.new.store) at_one.0 at_one.1 (c.in_ok-is_finished.ensures.not (ap (λ (b : Bool). Ok b) c.if-branch.false) has.0 has.1) in
    absurd (undone (at_one.2 done_name ∙ done.done))

pub returns-in_err-at-clause-early : goal.returns-in_err-at-clause-early
returns-in_err-at-clause-early g c =
    let p = err_from_is_err_and c.from_residual-in_err-at.result c.from_residual-in_err-at.ensures.1 in
    let is : c.from_residual-in_err-at.result ≡ Err c.in_err-at.field-0.0 = p.1 ∙ ap (λ (w : BuildError). Err w) p.2 in
    subst (λ (r : Result Summary BuildError). IfErr r (λ f. IsEarly f → Moves g.T.Store.files g.T.Store.may_leave g.T.Store.moment g.T.Store.image_since SameFiles c.args.store.now c.is_finished.new.store)) (sym is) (λ early. (same_twice g.T.Store.files g.T.Store.may_leave g.T.Store.moment g.T.Store.image_since c.args.store.now c.open.new.store c.is_finished.new.store c.open.ensures.any_moment c.is_finished.ensures.any_moment))

pub returns-in_err-at-clause-refused : goal.returns-in_err-at-clause-refused
returns-in_err-at-clause-refused g c = λ all start begins.
    let cur = told_some (HasCurrent c.in_ok-saved.saved.current) (g.T.Store.files c.args.store.now) start begins.told c.in_ok-saved.ensures.current in
    let p = err_from_is_err_and c.from_residual-in_err-at.result c.from_residual-in_err-at.ensures.1 in
    let is : c.from_residual-in_err-at.result ≡ Err c.in_err-at.field-0.0 = p.1 ∙ ap (λ (w : BuildError). Err w) p.2 in
    subst (λ (r : Result Summary BuildError). IfErr r (IsRefused all c.args.config.now start)) (sym is)
    (record { current = c.in_ok-saved.saved.current; has_current = cur; because = room-refused all c.args.config.now c.in_ok-saved.saved.current c.in_err-at.field-0.0 c.in_err-at.ensures.only })

pub returns-in_err-at-clause-accepted : goal.returns-in_err-at-clause-accepted
returns-in_err-at-clause-accepted g c = λ all start begins acc.
    let p = err_from_is_err_and c.from_residual-in_err-at.result c.from_residual-in_err-at.ensures.1 in
    let is : c.from_residual-in_err-at.result ≡ Err c.in_err-at.field-0.0 = p.1 ∙ ap (λ (w : BuildError). Err w) p.2 in
    inr (room-fails c.from_residual-in_err-at.result c.in_err-at.field-0.0 is c.in_err-at.ensures.only)

pub returns-in_err-at-clause-too_many_comes : goal.returns-in_err-at-clause-too_many_comes
returns-in_err-at-clause-too_many_comes g c = λ all start begins current has on not_done many.
    let p = err_from_is_err_and c.from_residual-in_err-at.result c.from_residual-in_err-at.ensures.1 in
    let is : c.from_residual-in_err-at.result ≡ Err c.in_err-at.field-0.0 = p.1 ∙ ap (λ (w : BuildError). Err w) p.2 in
    inr (room-fails c.from_residual-in_err-at.result c.in_err-at.field-0.0 is c.in_err-at.ensures.only)

pub returns-in_err-at-clause-stops : goal.returns-in_err-at-clause-stops
returns-in_err-at-clause-stops g c = λ is all start begins.
    let p = err_from_is_err_and c.from_residual-in_err-at.result c.from_residual-in_err-at.ensures.1 in
    let its : c.from_residual-in_err-at.result ≡ Err c.in_err-at.field-0.0 = p.1 ∙ ap (λ (w : BuildError). Err w) p.2 in
    absurd (room-not-many c.in_err-at.field-0.0 c.in_err-at.ensures.only (err-one (sym its ∙ is)))

pub returns-in_err-at-clause-asked : goal.returns-in_err-at-clause-asked
returns-in_err-at-clause-asked g c = λ start current told has.
    let cur = told_some (HasCurrent c.in_ok-saved.saved.current) (g.T.Store.files c.args.store.now) start told c.in_ok-saved.ensures.current in
    let same : current ≡ c.in_ok-saved.saved.current = c.sound_law.ensures.one start current c.in_ok-saved.saved.current has cur in
    subst (λ (w : Current). AsksInOrder (g.H.Shelf.files c.args.shelf.now) c.args.config.now start w (g.H.Shelf.asked c.args.shelf.now) (g.H.Shelf.asked c.make_plan.new.shelf)) (sym same)
    (asked-scan (g.H.Shelf.files c.args.shelf.now) c.args.config.now start c.in_ok-saved.saved.current (g.H.Shelf.asked c.args.shelf.now) (g.H.Shelf.asked c.make_plan.new.shelf) (opens-front (new_paths c.args.config.now c.in_ok-saved.saved.current) c.make_plan.result (g.H.Shelf.asked c.args.shelf.now) (g.H.Shelf.asked c.make_plan.new.shelf) c.make_plan.ensures.asked))

pub returns-in_err-at-clause-damaged : goal.returns-in_err-at-clause-damaged
returns-in_err-at-clause-damaged g c = λ key is start told settled.
    let p = err_from_is_err_and c.from_residual-in_err-at.result c.from_residual-in_err-at.ensures.1 in
    let its : c.from_residual-in_err-at.result ≡ Err c.in_err-at.field-0.0 = p.1 ∙ ap (λ (w : BuildError). Err w) p.2 in
    absurd (room-no-tile c.in_err-at.field-0.0 key c.in_err-at.ensures.only (err-one (sym its ∙ is)))

pub returns-in_err-at-clause-damaged_first : goal.returns-in_err-at-clause-damaged_first
returns-in_err-at-clause-damaged_first g c = λ start current key other told has damaged is.
    let p = err_from_is_err_and c.from_residual-in_err-at.result c.from_residual-in_err-at.ensures.1 in
    let its : c.from_residual-in_err-at.result ≡ Err c.in_err-at.field-0.0 = p.1 ∙ ap (λ (w : BuildError). Err w) p.2 in
    absurd (room-no-tile c.in_err-at.field-0.0 other c.in_err-at.ensures.only (err-one (sym its ∙ is)))

pub returns-in_err-at-clause-damaged_comes : goal.returns-in_err-at-clause-damaged_comes
returns-in_err-at-clause-damaged_comes g c = λ all start current shelf_told told has comes.
    let p = err_from_is_err_and c.from_residual-in_err-at.result c.from_residual-in_err-at.ensures.1 in
    let its : c.from_residual-in_err-at.result ≡ Err c.in_err-at.field-0.0 = p.1 ∙ ap (λ (w : BuildError). Err w) p.2 in
    inr (room-fails c.from_residual-in_err-at.result c.in_err-at.field-0.0 its c.in_err-at.ensures.only)

pub returns-in_err-sync-clause-spills : goal.returns-in_err-sync-clause-spills
returns-in_err-sync-clause-spills g c =
    let p = err_from_is_err_and c.from_residual-in_err-sync.result c.from_residual-in_err-sync.ensures.1 in
    let its : c.from_residual-in_err-sync.result ≡ Err (of_put c.in_err-sync.field-0.0) = p.1 ∙ ap (λ (w : BuildError). Err w) p.2 in
    record { later = omega arith; failed = λ is. absurd (put-no-spill c.in_err-sync.field-0.0 (err-one (sym its ∙ is))) }

pub returns-then-branch-clause-bad_comes : goal.returns-then-branch-clause-bad_comes
returns-then-branch-clause-bad_comes g c = λ letter start told bad.
    absurd (opened-not-bad c.in_ok-saved.saved (save.BadCheckpoint letter) (c.in_ok-saved.ensures.refusal_comes letter start told bad))

pub returns-clause-bad_comes : goal.returns-clause-bad_comes
returns-clause-bad_comes g c = λ letter start told bad.
    absurd (opened-not-bad c.in_ok-saved.saved (save.BadCheckpoint letter) (c.in_ok-saved.ensures.refusal_comes letter start told bad))

pub returns-clause-early : goal.returns-clause-early
returns-clause-early g c =
    IfErr-weaker c.built-forest.result.1 IsPhaseFault _ (λ e only early. absurd (phase-not-early e only early)) c.built-forest.ensures.only

pub returns-clause-refusal_comes : goal.returns-clause-refusal_comes
returns-clause-refusal_comes g c = λ all start begins current e has definite refused.
    let cur = told_some (HasCurrent c.in_ok-saved.saved.current) (g.T.Store.files c.args.store.now) start begins.told c.in_ok-saved.ensures.current in
    let same : current ≡ c.in_ok-saved.saved.current = c.sound_law.ensures.one start current c.in_ok-saved.saved.current has cur in
    let comes = tells-some _ (g.H.Shelf.files c.args.shelf.now) all begins.shelf_told c.in_ok-plan.ensures.refusal_comes in
    absurd (plan-is-ok c.in_ok-plan.plan (plan.Scan e) (comes e (subst (λ (w : Current). GoesOn c.args.config.now w) same refused.0) definite (subst (λ (w : Current). AreRefused all c.args.config.now w e) same refused.1)))

pub returns-clause-differs_comes : goal.returns-clause-differs_comes
returns-clause-differs_comes g c = λ start current told has not_on.
    let cur = told_some (HasCurrent c.in_ok-saved.saved.current) (g.T.Store.files c.args.store.now) start told c.in_ok-saved.ensures.current in
    let same : c.in_ok-saved.saved.current ≡ current = c.sound_law.ensures.one start c.in_ok-saved.saved.current current cur has in
    absurd (not_on (subst (λ (w : Current). GoesOn c.args.config.now w) same c.in_ok-plan.ensures.plan.goes_on))

-- ---- the devices

pub returns-clause-sources : goal.returns-clause-sources
returns-clause-sources g c =
    record {
      later = omega (arith, c.make_plan.ensures.cause.later, c.built-forest.ensures.sources.later);
      failed = λ is. omega (arith, c.make_plan.ensures.cause.later, c.built-forest.ensures.sources.failed is);
    }

pub returns-clause-stores : goal.returns-clause-stores
returns-clause-stores g c =
    record {
      later = omega (arith, c.open.ensures.cause.later, c.is_finished.ensures.stores.later, c.built-forest.ensures.stores.later);
      failed = λ is. omega (arith, c.open.ensures.cause.later, c.is_finished.ensures.stores.later, c.built-forest.ensures.stores.failed is);
    }

-- the room takes back a file that failed
pub returns-clause-spills : goal.returns-clause-spills
returns-clause-spills g c =
    record {
      later = omega (arith, c.start.ensures.spills.later, c.retire_all.ensures.later);
      failed = λ is. omega (arith, c.start.ensures.spills.later, c.retire_all.ensures.failed (c.built-forest.ensures.spill is));
    }

-- ---- what is kept in spill files

pub returns-then-branch-clause-kept : goal.returns-then-branch-clause-kept
returns-then-branch-clause-kept g c = λ start told not_done.
    let cur = told_some (HasCurrent c.in_ok-saved.saved.current) (g.T.Store.files c.args.store.now) start told c.in_ok-saved.ensures.current in
    let finished = c.in_ok-is_finished.ensures.finished (ap (λ (b : Bool). Ok b) c.if-branch.true) in
    let at_one = stepped SameFiles (g.T.Store.files c.args.store.now) (g.T.Store.files c.open.new.store) start told c.open.ensures.any_moment.reads in
    let opened = told_some IsDone (g.T.Store.files c.open.new.store) at_one.0 at_one.1 finished.1 in
    absurd (not_done (already-done c.args.config.now start c.in_ok-saved.saved.current c.in_ok-plan.plan c.in_ok-plan.ensures.plan cur finished.0 (sym (at_one.2 done_name) ∙ opened) finished.2))

pub returns-clause-kept : goal.returns-clause-kept
returns-clause-kept g c = λ start told not_done.
    let kept = kept_by g.M.File.SpillFile.keeps (nodes_of c.built-forest.result.0) in
    let same : slots.told (g.M.Room.keeps c.retire_all.new.room) ≡ counts_on (g.M.Room.keeps c.args.room.now) kept = c.retire_all.ensures.counted ∙ ap (λ (n : ℕ). counts_on n kept) c.in_ok-at.ensures.counted in
    IfOk-weaker c.built-forest.result.1 _ _ (λ summary few. kept-but c.args.config.now.cache summary.nodes kept (g.M.Room.keeps c.args.room.now) (g.M.Room.keeps c.retire_all.new.room) (omega (arith, few, c.in_ok-at.ensures.cache)) same) c.built-forest.ensures.kept
