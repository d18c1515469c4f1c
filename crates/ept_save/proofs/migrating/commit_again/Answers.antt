use Rattle.std.proofs.Common.{◌≡◌, subst}
use Rattle.std.proofs.lemmas.Result.{on_ok_weaker}
use Rattle.ept_base.specs.Moves.{Moves}
use Rattle.ept_ckpt.specs.declared.checkpoint.Checkpoint.{Checkpoint}
use Rattle.ept_save.specs.Names.{other}
use Rattle.ept_save.specs.Current.{Current, Commits}
use Rattle.ept_save.specs.Migrating.{IsTurnOf}
use Rattle.ept_save.specs.View.{next_letter}
use Rattle.ept_save.proofs.Turning.{the-old, old-current, same-turn, turn-newer, migrated-view}
use Rattle.ept_save.proofs.migrating.commit_again.Goals as goal
use Rattle.std.specs.Prelude.{Some}

pub commit_checkpoint-requires : goal.commit_checkpoint-requires
commit_checkpoint-requires g c =
    let at = the-old c.args.saved.now.current c.requires.old in
    let turn : IsTurnOf at.0.1 c.in_ok-checkpoint.checkpoint = c.in_ok-checkpoint.ensures at.0.0 at.0.1 at.1 in
    record { begun = c.requires.begun; newer = turn-newer c.args.saved.now.current at.0 at.1 c.in_ok-checkpoint.checkpoint turn }

pub returns-clause-migrated : goal.returns-clause-migrated
returns-clause-migrated g c =
    let at = the-old c.args.saved.now.current c.requires.old in
    let turn : IsTurnOf at.0.1 c.in_ok-checkpoint.checkpoint = c.in_ok-checkpoint.ensures at.0.0 at.0.1 at.1 in
    on_ok_weaker c.commit_checkpoint.result (λ now. migrated-view c.args.saved.now c.commit_checkpoint.new.saved at.0 at.1 c.in_ok-checkpoint.checkpoint turn c.requires.turned now) c.commit_checkpoint.ensures.current

pub returns-clause-commits : goal.returns-clause-commits
returns-clause-commits g c = λ letter d next is turn stands.
    let current : Current = c.args.saved.now.current in
    let checkpoint : Checkpoint = c.in_ok-checkpoint.checkpoint in
    let its : IsTurnOf d checkpoint = c.in_ok-checkpoint.ensures letter d is in
    let same : checkpoint ≡ next = same-turn d (old-current current (letter, d) is c.requires.old) checkpoint next its turn in
    subst (λ (n : Checkpoint). Moves g.T.Store.files g.T.Store.may_leave g.T.Store.moment g.T.Store.image_since (Commits (Some (letter, d)) (other letter) n stands.all) c.args.store.now c.commit_checkpoint.new.store) same
    (subst (λ (w : Current). Moves g.T.Store.files g.T.Store.may_leave g.T.Store.moment g.T.Store.image_since (Commits w (next_letter w) checkpoint stands.all) c.args.store.now c.commit_checkpoint.new.store) is (c.commit_checkpoint.ensures.commits stands))
