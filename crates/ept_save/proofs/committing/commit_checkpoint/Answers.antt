use Rattle.std.proofs.Common.{◌≡◌, ◌≢◌, ◌∙◌, ℕ, List, map, Some, false, sym, ap, subst}
use Rattle.ept_base.specs.Files.{Files}
use Rattle.ept_base.specs.Moves.{Moves}
use Rattle.ept_ckpt.specs.declared.letter.Letter.{Letter}
use Rattle.ept_save.specs.Names.{gate_name, body_name}
use Rattle.ept_save.specs.Stored.{line_of}
use Rattle.ept_save.specs.View.{View, StandsFor, next_letter}
use Rattle.ept_save.proofs.committing.commit_checkpoint.Goals as goal

pub returns-in_err-put_checkpoint-clause-names : goal.returns-in_err-put_checkpoint-clause-names
returns-in_err-put_checkpoint-clause-names g c =
    subst (λ (l : Letter). Moves g.T.Store.files g.T.Store.may_leave g.T.Store.moment g.T.Store.image_since (λ (a : Files) (b : Files). (name : List ℕ) → name ≢ body_name l → name ≢ gate_name l → b name ≡ a name) c.args.store.now c.put_checkpoint.new.store)
    c.next_letter-letter.ensures c.put_checkpoint.ensures.names

pub returns-in_err-put_checkpoint-clause-commits : goal.returns-in_err-put_checkpoint-clause-commits
returns-in_err-put_checkpoint-clause-commits g c = λ stands.
    c.put_checkpoint.ensures.commits c.args.saved.now c.requires.begun c.next_letter-letter.ensures c.requires.newer stands

pub returns-clause-current : goal.returns-clause-current
returns-clause-current g c =
    ap (λ (l : Letter). let v : View = record { current = Some (l, c.args.checkpoint); lines = map line_of c.saved.inside.lines.entries; begun = false } in v) c.next_letter-letter.ensures
    ∙ ap (λ (w : View). let v : View = record { current = Some (next_letter c.args.saved.now.current, c.args.checkpoint); lines = w.lines; begun = false } in v) c.saved.view_is

pub returns-clause-names : goal.returns-clause-names
returns-clause-names g c =
    subst (λ (l : Letter). Moves g.T.Store.files g.T.Store.may_leave g.T.Store.moment g.T.Store.image_since (λ (a : Files) (b : Files). (name : List ℕ) → name ≢ body_name l → name ≢ gate_name l → b name ≡ a name) c.args.store.now c.put_checkpoint.new.store)
    c.next_letter-letter.ensures c.put_checkpoint.ensures.names

pub returns-clause-commits : goal.returns-clause-commits
returns-clause-commits g c = λ stands.
    c.put_checkpoint.ensures.commits c.args.saved.now c.requires.begun c.next_letter-letter.ensures c.requires.newer stands

pub returns-clause-stands : goal.returns-clause-stands
returns-clause-stands g c = λ stands.
    let then : StandsFor (record c.args.saved.now { current = Some (c.next_letter-letter.result, c.args.checkpoint); begun = false }) (g.T.Store.files c.put_checkpoint.new.store) (g.T.Store.may_leave c.put_checkpoint.new.store) =
    c.in_ok-put_checkpoint.ensures.stands c.args.saved.now c.requires.begun c.next_letter-letter.ensures c.requires.newer stands in
    subst (λ (v : View). StandsFor (record v { current = Some (c.next_letter-letter.result, c.args.checkpoint); begun = false }) (g.T.Store.files c.put_checkpoint.new.store) (g.T.Store.may_leave c.put_checkpoint.new.store)) (sym c.saved.view_is) then
