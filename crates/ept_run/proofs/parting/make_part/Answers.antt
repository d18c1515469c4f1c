use Rattle.std.proofs.Common.{◌≡◌, refl, ap, sym, subst, ◌∙◌, rules}
use Rattle.std.specs.Prelude.{Err}
use Rattle.std.proofs.lemmas.Result.{err_from_is_err_and}
use Rattle.ept_base.specs.Causes.{Rose}
use Rattle.ept_base.specs.Moves.{IsSettled}
use Rattle.ept_command.specs.declared.refusal.PartRefusal.{PartRefusal}
use Rattle.ept_run.specs.Parts.{Outcome, ComesToPart}
use Rattle.ept_run.proofs.Parted.{told, unread, unread_named, carried_from, rose_after, never_usage, never_spilled, never_configured, stays_folder, stays_own}
use Rattle.ept_run.proofs.parting.make_part.Goals as goal

-- ---- the configuration can't be read

pub returns-in_err-config-clause-comes_to : goal.returns-in_err-config-clause-comes_to
returns-in_err-config-clause-comes_to g c =
    let p = err_from_is_err_and c.from_residual.result c.from_residual.ensures.1 in
    rw (p.1, p.2) (unread c.args.path.now c.args.octants (g.T.Store.files c.args.store.now) (IsSettled (g.T.Store.files c.args.store.now) (g.T.Store.may_leave c.args.store.now)) (c.args.store.now ≡ c.args.store.now) (Rose (g.H.Shelf.faults c.args.shelf.now) (g.H.Shelf.faults c.read_configuration.new.shelf)) (Rose (g.T.Store.faults c.args.store.now) (g.T.Store.faults c.args.store.now)) (g.H.Shelf.files c.args.shelf.now) c.in_err-config.field-0.0
    c.in_err-config.ensures.causes c.in_err-config.ensures.refused refl (λ is. c.read_configuration.ensures.cause.failed (c.in_err-config.was ∙ ap Err is)))

pub returns-in_err-config-clause-named : goal.returns-in_err-config-clause-named
returns-in_err-config-clause-named g c =
    let p = err_from_is_err_and c.from_residual.result c.from_residual.ensures.1 in
    rw (p.1, p.2) (unread_named c.in_err-config.field-0.0 c.in_err-config.ensures.causes)

pub returns-in_err-config-clause-folder : goal.returns-in_err-config-clause-folder
returns-in_err-config-clause-folder g c = stays_folder g.T.Store.files g.T.Store.may_leave g.T.Store.moment g.T.Store.image_since c.args.octants c.args.store.now

pub returns-in_err-config-clause-own : goal.returns-in_err-config-clause-own
returns-in_err-config-clause-own g c = λ all start shelf stored settled sound. stays_own g.T.Store.files g.T.Store.may_leave g.T.Store.moment g.T.Store.image_since c.args.octants c.args.store.now c.part_law.ensures.own all start stored settled sound

pub returns-in_err-config-clause-given : goal.returns-in_err-config-clause-given
returns-in_err-config-clause-given g c = λ error is. c.read_configuration.ensures.given

-- ---- the part is made

pub returns-in-Ok-clause-comes_to : goal.returns-in-Ok-clause-comes_to
returns-in-Ok-clause-comes_to g c =
    subst (λ (o : Outcome). ComesToPart c.args.path.now c.args.octants o (g.H.Shelf.files c.args.shelf.now) (g.T.Store.files c.part.new.store) (IsSettled (g.T.Store.files c.part.new.store) (g.T.Store.may_leave c.part.new.store)) (c.part.new.store ≡ c.args.store.now) (Rose (g.H.Shelf.faults c.args.shelf.now) (g.H.Shelf.faults c.part.new.shelf)) (Rose (g.T.Store.faults c.args.store.now) (g.T.Store.faults c.part.new.store))) (ap told c.in-Ok.is)
    (carried_from c.args.path.now c.args.octants (g.T.Store.files c.part.new.store) (IsSettled (g.T.Store.files c.part.new.store) (g.T.Store.may_leave c.part.new.store)) (c.part.new.store ≡ c.args.store.now) (Rose (g.H.Shelf.faults c.args.shelf.now) (g.H.Shelf.faults c.part.new.shelf)) (Rose (g.T.Store.faults c.args.store.now) (g.T.Store.faults c.part.new.store)) (g.H.Shelf.files c.args.shelf.now) (g.H.Shelf.files c.read_configuration.new.shelf) c.read_configuration.ensures.files c.in_ok-config.config c.in_ok-config.ensures.ok c.part.result
    c.part.ensures.made c.part.ensures.settled c.part.ensures.refused c.part.ensures.comes c.part.ensures.accepted c.part.ensures.early
    (λ is. rose_after (g.H.Shelf.faults c.args.shelf.now) (g.H.Shelf.faults c.read_configuration.new.shelf) (g.H.Shelf.faults c.part.new.shelf) c.read_configuration.ensures.cause.later (c.part.ensures.sources.failed is)) c.part.ensures.stores.failed)

pub returns-in-Ok-clause-own : goal.returns-in-Ok-clause-own
returns-in-Ok-clause-own g c = λ all start shelf stored settled sound. c.part.ensures.own all start (c.read_configuration.ensures.files ∙ shelf) stored settled sound

-- ---- it is refused

pub returns-clause-comes_to : goal.returns-clause-comes_to
returns-clause-comes_to g c =
    subst (λ (o : Outcome). ComesToPart c.args.path.now c.args.octants o (g.H.Shelf.files c.args.shelf.now) (g.T.Store.files c.part.new.store) (IsSettled (g.T.Store.files c.part.new.store) (g.T.Store.may_leave c.part.new.store)) (c.part.new.store ≡ c.args.store.now) (Rose (g.H.Shelf.faults c.args.shelf.now) (g.H.Shelf.faults c.part.new.shelf)) (Rose (g.T.Store.faults c.args.store.now) (g.T.Store.faults c.part.new.store))) (ap told c.in-Err.is ∙ ap (λ (r : PartRefusal). Err r) (sym c.part_refusal_of.ensures))
    (carried_from c.args.path.now c.args.octants (g.T.Store.files c.part.new.store) (IsSettled (g.T.Store.files c.part.new.store) (g.T.Store.may_leave c.part.new.store)) (c.part.new.store ≡ c.args.store.now) (Rose (g.H.Shelf.faults c.args.shelf.now) (g.H.Shelf.faults c.part.new.shelf)) (Rose (g.T.Store.faults c.args.store.now) (g.T.Store.faults c.part.new.store)) (g.H.Shelf.files c.args.shelf.now) (g.H.Shelf.files c.read_configuration.new.shelf) c.read_configuration.ensures.files c.in_ok-config.config c.in_ok-config.ensures.ok c.part.result
    c.part.ensures.made c.part.ensures.settled c.part.ensures.refused c.part.ensures.comes c.part.ensures.accepted c.part.ensures.early
    (λ is. rose_after (g.H.Shelf.faults c.args.shelf.now) (g.H.Shelf.faults c.read_configuration.new.shelf) (g.H.Shelf.faults c.part.new.shelf) c.read_configuration.ensures.cause.later (c.part.ensures.sources.failed is)) c.part.ensures.stores.failed)

pub returns-clause-named : goal.returns-clause-named
returns-clause-named g c = (λ is. never_usage c.in-Err.error (sym c.part_refusal_of.ensures ∙ is), λ is. never_spilled c.in-Err.error (sym c.part_refusal_of.ensures ∙ is))

pub returns-clause-own : goal.returns-clause-own
returns-clause-own g c = λ all start shelf stored settled sound. c.part.ensures.own all start (c.read_configuration.ensures.files ∙ shelf) stored settled sound

pub returns-clause-given : goal.returns-clause-given
returns-clause-given g c = λ error is. absurd (never_configured c.in-Err.error error (search (rules, is)))
