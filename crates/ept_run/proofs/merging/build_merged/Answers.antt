use Rattle.std.proofs.Common.{◌∙◌, ◌⊎◌, ap, sym, subst, Err}
use Rattle.std.specs.Prelude.{IsOk}
use Rattle.ept_base.specs.Files.{Files}
use Rattle.ept_base.proofs.Moving.{moves_weaker}
use Rattle.ept_save.specs.Sound.{IsSound}
use Rattle.ept_build.specs.Building.{IsUnderWay}
use Rattle.ept_command.specs.declared.refusal.MergeRefusal.{MergeRefusal}
use Rattle.ept_run.specs.Merges.{Outcome, as_build, FailsMerge}
use Rattle.ept_run.proofs.Ready.{built_as, building_comes}
use Rattle.ept_run.proofs.merging.build_merged.Goals as goal

pub returns-in-Ok-clause-sound : goal.returns-in-Ok-clause-sound
returns-in-Ok-clause-sound g c = λ all start begins.
    moves_weaker g.T.Store.files g.T.Store.may_leave g.T.Store.moment g.T.Store.image_since (λ (a b : Files). IsUnderWay all c.args.config.now start b) (λ (a b : Files). IsSound all b) (λ a b under. under.sound) c.args.store.now c.build.new.store (c.build.ensures.sound all start begins)

pub returns-in-Err-clause-sound : goal.returns-in-Err-clause-sound
returns-in-Err-clause-sound g c = λ all start begins.
    moves_weaker g.T.Store.files g.T.Store.may_leave g.T.Store.moment g.T.Store.image_since (λ (a b : Files). IsUnderWay all c.args.config.now start b) (λ (a b : Files). IsSound all b) (λ a b under. under.sound) c.args.store.now c.build.new.store (c.build.ensures.sound all start begins)

pub returns-in-Err-clause-refused : goal.returns-in-Err-clause-refused
returns-in-Err-clause-refused g c = (c.in-Err.error, c.from.ensures ∙ ap as_build c.refusal_of.ensures, c.in-Err.ensures.refused)

pub returns-in-Ok-clause-accepted : goal.returns-in-Ok-clause-accepted
returns-in-Ok-clause-accepted g c = λ all start begins accepted.
    subst (λ (o : Outcome). IsOk o ⊎ FailsMerge o) (ap built_as c.in-Ok.is) (building_comes c.build.result (c.build.ensures.accepted all start begins accepted))

pub returns-in-Err-clause-accepted : goal.returns-in-Err-clause-accepted
returns-in-Err-clause-accepted g c = λ all start begins accepted.
    subst (λ (o : Outcome). IsOk o ⊎ FailsMerge o) (ap built_as c.in-Err.is ∙ ap (λ (r : MergeRefusal). Err r) (sym (c.from.ensures ∙ ap as_build c.refusal_of.ensures)))
    (building_comes c.build.result (c.build.ensures.accepted all start begins accepted))
