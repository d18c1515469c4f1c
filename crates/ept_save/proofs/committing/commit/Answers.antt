use Rattle.std.proofs.Common.{◌≡◌, ◌∙◌, sym, subst}
use Rattle.std.proofs.lemmas.Result.{on_ok_weaker}
use Rattle.ept_base.specs.Moves.{Moves}
use Rattle.ept_ckpt.specs.declared.checkpoint.Checkpoint.{Checkpoint}
use Rattle.ept_ckpt.proofs.FactsTell.{checkpoint_same}
use Rattle.ept_save.specs.Current.{Commits}
use Rattle.ept_save.specs.View.{View, next_letter}
use Rattle.ept_save.proofs.Next.{is-newer}
use Rattle.ept_save.proofs.Standing.{in-images}
use Rattle.ept_save.proofs.committing.commit.Goals as goal

pub commit_checkpoint-requires : goal.commit_checkpoint-requires
commit_checkpoint-requires g c = record {
  begun = c.requires.begun;
  newer = is-newer c.args.saved.now c.args.kept.now c.args.counts.now c.args.inserted c.in_ok-checkpoint.checkpoint c.in_ok-checkpoint.ensures;
}

pub returns-clause-current : goal.returns-clause-current
returns-clause-current g c = on_ok_weaker c.commit_checkpoint.result (λ now. (c.in_ok-checkpoint.checkpoint, c.in_ok-checkpoint.ensures, now)) c.commit_checkpoint.ensures.current

pub returns-clause-commits : goal.returns-clause-commits
returns-clause-commits g c = λ next is stands.
    let view : View = c.args.saved.now in
    let same : c.in_ok-checkpoint.checkpoint ≡ next = checkpoint_same c.in_ok-checkpoint.checkpoint next (c.in_ok-checkpoint.ensures ∙ sym is) in
    subst (λ (n : Checkpoint). Moves g.T.Store.files g.T.Store.may_leave g.T.Store.moment g.T.Store.image_since (Commits view.current (next_letter view.current) n stands.all) c.args.store.now c.commit_checkpoint.new.store) same
    (c.commit_checkpoint.ensures.commits stands)

pub returns-clause-each_image : goal.returns-clause-each_image
returns-clause-each_image g c =
    on_ok_weaker c.commit_checkpoint.result (λ then stands. (in-images _ (g.T.Store.files c.commit_checkpoint.new.store) (g.T.Store.may_leave c.commit_checkpoint.new.store) (then stands)).current) c.commit_checkpoint.ensures.stands
