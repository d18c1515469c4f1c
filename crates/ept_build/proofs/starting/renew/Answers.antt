use Rattle.std.proofs.Common.{rules, ◌≡◌}
use Rattle.std.specs.Prelude.{Err}
use Rattle.ept_build.specs.Errors.{of_save}
use Rattle.ept_build.proofs.Caused.{save-renew}
use Rattle.ept_build.proofs.Causes.{if-refused}
use Rattle.ept_build.specs.Phases.{IsRenewFault, IsStoreFault}
use Rattle.ept_build.proofs.Renewed.{renews-none, renews-migrated, migrated-newest, save-stores}
use Rattle.ept_build.proofs.TakenUp.{takes-same, takes-migrated}
use Rattle.ept_build.proofs.starting.renew.Goals as goal

pub migrate-requires : goal.migrate-requires
migrate-requires g c =
    record { old = c.is_old.ensures.0 (let not = c.if-not-is_old.false in cc); fresh = c.requires.fresh }

-- ---- there is nothing to migrate

pub returns-then-not-is_old-clause-taken_up : goal.returns-then-not-is_old-clause-taken_up
returns-then-not-is_old-clause-taken_up g c =
    takes-same c.args.saved.now (λ old. let yes = c.is_old.ensures.1 old in let not = c.if-not-is_old.true in cc)

pub returns-then-not-is_old-clause-newest : goal.returns-then-not-is_old-clause-newest
returns-then-not-is_old-clause-newest g c = λ old. let yes = c.is_old.ensures.1 old in let not = c.if-not-is_old.true in cc

pub returns-then-not-is_old-clause-renews : goal.returns-then-not-is_old-clause-renews
returns-then-not-is_old-clause-renews g c = λ stands.
    renews-none g.T.Store.files g.T.Store.may_leave g.T.Store.moment g.T.Store.image_since c.args.saved.now.current stands.all c.args.store.now

-- ---- the checkpoint is migrated, or not

pub returns-in_err-migrate-clause-renews : goal.returns-in_err-migrate-clause-renews
returns-in_err-migrate-clause-renews g c = λ stands.
    renews-migrated g.T.Store.files g.T.Store.may_leave g.T.Store.moment g.T.Store.image_since c.args.saved.now.current stands.all c.args.store.now c.migrate.new.store (c.is_old.ensures.0 (let not = c.if-not-is_old.false in cc)) (λ letter cp next is turn. c.migrate.ensures.migrates letter cp next is turn stands)

pub returns-in_err-migrate-clause-only : goal.returns-in_err-migrate-clause-only
returns-in_err-migrate-clause-only g c =
    let e = c.in_err-migrate.field-0.0 in
    let its : c.from_residual.result ≡ Err (of_save e) = search rules in
    if-refused IsRenewFault c.from_residual.result (of_save e) its (save-renew e c.in_err-migrate.ensures.only)

pub returns-in_err-migrate-clause-undamaged : goal.returns-in_err-migrate-clause-undamaged
returns-in_err-migrate-clause-undamaged g c = λ all told whole.
    let e = c.in_err-migrate.field-0.0 in
    let its : c.from_residual.result ≡ Err (of_save e) = search rules in
    if-refused IsStoreFault c.from_residual.result (of_save e) its (save-stores e (c.in_err-migrate.ensures.undamaged all told whole))

pub returns-clause-taken_up : goal.returns-clause-taken_up
returns-clause-taken_up g c =
    takes-migrated c.args.saved.now c.migrate.new.saved (c.is_old.ensures.0 (let not = c.if-not-is_old.false in cc)) c.in_ok-migrate.ensures.migrated

pub returns-clause-newest : goal.returns-clause-newest
returns-clause-newest g c =
    migrated-newest c.args.saved.now c.migrate.new.saved c.in_ok-migrate.ensures.migrated

pub returns-clause-renews : goal.returns-clause-renews
returns-clause-renews g c = λ stands.
    renews-migrated g.T.Store.files g.T.Store.may_leave g.T.Store.moment g.T.Store.image_since c.args.saved.now.current stands.all c.args.store.now c.migrate.new.store (c.is_old.ensures.0 (let not = c.if-not-is_old.false in cc)) (λ letter cp next is turn. c.migrate.ensures.migrates letter cp next is turn stands)

pub returns-clause-stands : goal.returns-clause-stands
returns-clause-stands g c = c.in_ok-migrate.ensures.stands

pub returns-clause-settled : goal.returns-clause-settled
returns-clause-settled g c = λ settled. c.in_ok-migrate.ensures.settled
