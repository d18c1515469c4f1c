use Rattle.std.proofs.Common.{rules, ◌≡◌, ◌∙◌, sym, subst, arith}
use Rattle.std.specs.Prelude.{Result, Err}
use Rattle.ept_base.specs.Moves.{Moves}
use Rattle.ept_meta.specs.Output.{names_of}
use Rattle.ept_octree.specs.Octree.{most_of}
use Rattle.ept_save.specs.Done.{IsDone}
use Rattle.ept_save.specs.Opening.{lines_of}
use Rattle.ept_save.specs.View.{View, StandsFor}
use Rattle.ept_save.proofs.Standing.{told_some}
use Rattle.ept_build.specs.declared.error.BuildError.{BuildError}
use Rattle.ept_build.specs.Phases.{IsStartFault, IsSoundAt, IsSoundTaken, Renews, TakesUp}
use Rattle.ept_build.specs.Starting.{FindsCause}
use Rattle.ept_build.proofs.Caused.{renew-start, renew-no-spill, cause-ok, cause-renewed}
use Rattle.ept_build.proofs.Causes.{if-refused}
use Rattle.ept_build.proofs.Judging.{err-one}
use Rattle.ept_build.proofs.Moved.{moves-then}
use Rattle.ept_build.proofs.Renewed.{load-at, load-taken, renew-moves, renew-images}
use Rattle.ept_build.proofs.TakenUp.{taken-first, taken-names}
use Rattle.ept_build.proofs.starting.take_up.Goals as goal

pub renew-requires : goal.renew-requires
renew-requires g c =
    record { fresh = subst (λ (v : View). v.lines ≡ lines_of v.current) (sym c.load.ensures.saved) c.requires.begun.fresh }

-- ---- the nodes are not loaded

pub returns-in_err-load-clause-sound : goal.returns-in_err-load-clause-sound
returns-in_err-load-clause-sound g c = λ shelf start starts.
    load-taken shelf c.args.at.now.saved.current g.T.Store.files g.T.Store.may_leave g.T.Store.moment g.T.Store.image_since c.args.store.now c.load.new.store (c.load.ensures.sound shelf start starts)

pub returns-in_err-load-clause-only : goal.returns-in_err-load-clause-only
returns-in_err-load-clause-only g c =
    let e = c.in_err-load.field-0.0 in
    let its : c.from_residual.result ≡ Err e = search rules in
    if-refused IsStartFault c.from_residual.result e its c.in_err-load.ensures.only

pub returns-in_err-load-clause-refused : goal.returns-in_err-load-clause-refused
returns-in_err-load-clause-refused g c =
    let e = c.in_err-load.field-0.0 in
    let its : c.from_residual.result ≡ Err e = search rules in
    subst (λ (r : Result (Unit {0}) BuildError). FindsCause g.T.Store.files g.T.Store.may_leave g.T.Store.moment g.T.Store.image_since c.args.at.now.saved (most_of c.args.at.now.octree) r c.args.store.now c.load.new.store) (sym its) c.in_err-load.ensures.refused

pub returns-in_err-load-clause-spill : goal.returns-in_err-load-clause-spill
returns-in_err-load-clause-spill g c = λ is.
    let e = c.in_err-load.field-0.0 in
    let its : c.from_residual.result ≡ Err e = search rules in
    c.in_err-load.ensures.spill (sym its ∙ is)

-- ---- the checkpoint is not migrated

pub returns-in_err-renew-clause-sound : goal.returns-in_err-renew-clause-sound
returns-in_err-renew-clause-sound g c = λ shelf start starts.
    let from = c.args.at.now.saved.current in
    let stands : StandsFor c.args.at.now.saved (g.T.Store.files c.load.new.store) (g.T.Store.may_leave c.load.new.store) = c.in_ok-load.ensures.stands starts.stands in
    let at : IsSoundAt shelf from stands.all = load-at shelf from g.T.Store.files g.T.Store.may_leave g.T.Store.moment g.T.Store.image_since c.args.store.now c.load.new.store (c.load.ensures.sound shelf start starts) stands.all stands.told in
    let undone : ¬ IsDone stands.all = told_some (λ all. ¬ IsDone all) (g.T.Store.files c.load.new.store) stands.all stands.told c.in_ok-load.ensures.shut in
    let renews = subst (λ (v : View). (s : StandsFor v (g.T.Store.files c.load.new.store) (g.T.Store.may_leave c.load.new.store)) → Moves g.T.Store.files g.T.Store.may_leave g.T.Store.moment g.T.Store.image_since (Renews v.current s.all) c.load.new.store c.renew.new.store) c.load.ensures.saved c.renew.ensures.renews stands in
    moves-then g.T.Store.files g.T.Store.may_leave g.T.Store.moment g.T.Store.image_since (IsSoundTaken shelf from) c.args.store.now c.load.new.store c.renew.new.store
    (load-taken shelf from g.T.Store.files g.T.Store.may_leave g.T.Store.moment g.T.Store.image_since c.args.store.now c.load.new.store (c.load.ensures.sound shelf start starts))
    (renew-moves c.sound_steps_law.ensures.same c.sound_steps_law.ensures.migrating shelf stands.all from g.T.Store.files g.T.Store.may_leave g.T.Store.moment g.T.Store.image_since c.load.new.store c.renew.new.store stands.told c.in_ok-load.ensures.settled at undone renews)

pub returns-in_err-renew-clause-refused : goal.returns-in_err-renew-clause-refused
returns-in_err-renew-clause-refused g c =
    let e = c.in_err-renew.field-0.0 in
    let its : c.from_residual-in_err-renew.result ≡ Err e = search rules in
    subst (λ (r : Result (Unit {0}) BuildError). FindsCause g.T.Store.files g.T.Store.may_leave g.T.Store.moment g.T.Store.image_since c.args.at.now.saved (most_of c.args.at.now.octree) r c.args.store.now c.renew.new.store) (sym its)
    (cause-renewed g.T.Store.files g.T.Store.may_leave g.T.Store.moment g.T.Store.image_since c.args.at.now.saved (most_of c.args.at.now.octree) c.args.store.now c.load.new.store c.renew.new.store c.load.new.at.saved e c.load.ensures.saved c.in_err-renew.ensures.only c.in_err-renew.ensures.undamaged c.in_ok-load.ensures.nodes c.in_ok-load.ensures.gate c.in_ok-load.ensures.stands)

pub returns-in_err-renew-clause-only : goal.returns-in_err-renew-clause-only
returns-in_err-renew-clause-only g c =
    let e = c.in_err-renew.field-0.0 in
    let its : c.from_residual-in_err-renew.result ≡ Err e = search rules in
    if-refused IsStartFault c.from_residual-in_err-renew.result e its (renew-start e c.in_err-renew.ensures.only)

pub returns-in_err-renew-clause-spill : goal.returns-in_err-renew-clause-spill
returns-in_err-renew-clause-spill g c = λ is.
    let e = c.in_err-renew.field-0.0 in
    let its : c.from_residual-in_err-renew.result ≡ Err e = search rules in
    absurd (renew-no-spill e c.in_err-renew.ensures.only (err-one (sym its ∙ is)))

pub returns-in_err-renew-clause-stores : goal.returns-in_err-renew-clause-stores
returns-in_err-renew-clause-stores g c =
    let e = c.in_err-renew.field-0.0 in
    let its : c.from_residual-in_err-renew.result ≡ Err e = search rules in
    record {
      later = omega (arith, c.load.ensures.stores.later, c.renew.ensures.stores.later);
      failed = λ is. omega (arith, c.load.ensures.stores.later, c.in_err-renew.ensures.stores.failed (sym its ∙ is));
    }

-- ---- it is taken up

pub returns-clause-sound : goal.returns-clause-sound
returns-clause-sound g c = λ shelf start starts.
    let from = c.args.at.now.saved.current in
    let stands : StandsFor c.args.at.now.saved (g.T.Store.files c.load.new.store) (g.T.Store.may_leave c.load.new.store) = c.in_ok-load.ensures.stands starts.stands in
    let at : IsSoundAt shelf from stands.all = load-at shelf from g.T.Store.files g.T.Store.may_leave g.T.Store.moment g.T.Store.image_since c.args.store.now c.load.new.store (c.load.ensures.sound shelf start starts) stands.all stands.told in
    let undone : ¬ IsDone stands.all = told_some (λ all. ¬ IsDone all) (g.T.Store.files c.load.new.store) stands.all stands.told c.in_ok-load.ensures.shut in
    let renews = subst (λ (v : View). (s : StandsFor v (g.T.Store.files c.load.new.store) (g.T.Store.may_leave c.load.new.store)) → Moves g.T.Store.files g.T.Store.may_leave g.T.Store.moment g.T.Store.image_since (Renews v.current s.all) c.load.new.store c.renew.new.store) c.load.ensures.saved c.renew.ensures.renews stands in
    moves-then g.T.Store.files g.T.Store.may_leave g.T.Store.moment g.T.Store.image_since (IsSoundTaken shelf from) c.args.store.now c.load.new.store c.renew.new.store
    (load-taken shelf from g.T.Store.files g.T.Store.may_leave g.T.Store.moment g.T.Store.image_since c.args.store.now c.load.new.store (c.load.ensures.sound shelf start starts))
    (renew-moves c.sound_steps_law.ensures.same c.sound_steps_law.ensures.migrating shelf stands.all from g.T.Store.files g.T.Store.may_leave g.T.Store.moment g.T.Store.image_since c.load.new.store c.renew.new.store stands.told c.in_ok-load.ensures.settled at undone renews)

pub returns-clause-on_way : goal.returns-clause-on_way
returns-clause-on_way g c = λ shelf start points output starts first names.
    let from = c.args.at.now.saved.current in
    let stands : StandsFor c.args.at.now.saved (g.T.Store.files c.load.new.store) (g.T.Store.may_leave c.load.new.store) = c.in_ok-load.ensures.stands starts.stands in
    let at : IsSoundAt shelf from stands.all = load-at shelf from g.T.Store.files g.T.Store.may_leave g.T.Store.moment g.T.Store.image_since c.args.store.now c.load.new.store (c.load.ensures.sound shelf start starts) stands.all stands.told in
    let undone : ¬ IsDone stands.all = told_some (λ all. ¬ IsDone all) (g.T.Store.files c.load.new.store) stands.all stands.told c.in_ok-load.ensures.shut in
    let renews = subst (λ (v : View). (s : StandsFor v (g.T.Store.files c.load.new.store) (g.T.Store.may_leave c.load.new.store)) → Moves g.T.Store.files g.T.Store.may_leave g.T.Store.moment g.T.Store.image_since (Renews v.current s.all) c.load.new.store c.renew.new.store) c.load.ensures.saved c.renew.ensures.renews stands in
    let takes : TakesUp c.args.at.now.saved c.renew.new.saved = subst (λ (v : View). TakesUp v c.renew.new.saved) c.load.ensures.saved c.in_ok-renew.ensures.taken_up in
    record {
      first = taken-first shelf points from c.renew.new.saved.current takes.taken first;
      names = taken-names shelf (names_of output) from c.renew.new.saved.current takes.taken names;
      stands = c.in_ok-renew.ensures.stands (subst (λ (v : View). StandsFor v (g.T.Store.files c.load.new.store) (g.T.Store.may_leave c.load.new.store)) (sym c.load.ensures.saved) stands);
      sound = renew-images c.sound_steps_law.ensures.same c.sound_steps_law.ensures.migrating shelf stands.all from g.T.Store.files g.T.Store.may_leave g.T.Store.moment g.T.Store.image_since c.load.new.store c.renew.new.store stands.told c.in_ok-load.ensures.settled at undone renews;
    }

pub returns-clause-refused : goal.returns-clause-refused
returns-clause-refused g c =
    cause-ok g.T.Store.files g.T.Store.may_leave g.T.Store.moment g.T.Store.image_since c.args.at.now.saved (most_of c.args.at.now.octree) c.args.store.now c.renew.new.store

pub returns-clause-taken_up : goal.returns-clause-taken_up
returns-clause-taken_up g c =
    subst (λ (v : View). TakesUp v c.renew.new.saved) c.load.ensures.saved c.in_ok-renew.ensures.taken_up

pub returns-clause-tree : goal.returns-clause-tree
returns-clause-tree g c =
    c.in_ok-load.ensures.tree c.renew.new.saved (subst (λ (v : View). TakesUp v c.renew.new.saved) c.load.ensures.saved c.in_ok-renew.ensures.taken_up) c.in_ok-renew.ensures.newest

pub returns-clause-stands : goal.returns-clause-stands
returns-clause-stands g c = λ stands.
    c.in_ok-renew.ensures.stands (subst (λ (v : View). StandsFor v (g.T.Store.files c.load.new.store) (g.T.Store.may_leave c.load.new.store)) (sym c.load.ensures.saved) (c.in_ok-load.ensures.stands stands))

pub returns-clause-settled : goal.returns-clause-settled
returns-clause-settled g c = c.in_ok-renew.ensures.settled c.in_ok-load.ensures.settled

pub returns-clause-loaded : goal.returns-clause-loaded
returns-clause-loaded g c = λ telling. c.in_ok-load.ensures.loaded telling

pub returns-clause-damaged_comes : goal.returns-clause-damaged_comes
returns-clause-damaged_comes g c = c.in_ok-load.ensures.damaged_comes

pub returns-clause-stores : goal.returns-clause-stores
returns-clause-stores g c =
    record { later = omega (arith, c.load.ensures.stores.later, c.renew.ensures.stores.later); failed = λ is. absurd (cc) }
