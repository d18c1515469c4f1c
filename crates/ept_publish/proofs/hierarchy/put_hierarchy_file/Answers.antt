use Rattle.std.proofs.Common.{◌∙◌, List, ℕ, subst}
use Rattle.ept_base.specs.Files.{SameBut}
use Rattle.ept_base.specs.Moves.{Moves}
use Rattle.ept_publish.proofs.Naming.{put-once}
use Rattle.ept_publish.proofs.hierarchy.put_hierarchy_file.Goals as goal

pub returns-clause-any_moment : goal.returns-clause-any_moment
returns-clause-any_moment g c =
    subst (λ (w : List ℕ). Moves g.T.Store.files g.T.Store.may_leave g.T.Store.moment g.T.Store.image_since (SameBut w) c.args.store.now c.put.new.self) (c.as_str.ensures.value ∙ c.in-Ok.ensures)
    (put-once g.T.Store.files g.T.Store.may_leave g.T.Store.moment g.T.Store.image_since c.as_str.result.now c.args.store.now c.put.new.self c.put.ensures.reads c.put.ensures.images c.put.ensures.time)
