use Rattle.std.proofs.Common.{ℕ, List, [], ◌∷◌, Option, sym, subst}
use Rattle.ept_scan.specs.Asking.{AsksFor}
use Rattle.ept_run.proofs.files.read_head.Goals as goal

pub returns-in-Ok-clause-asked : goal.returns-in-Ok-clause-asked
returns-in-Ok-clause-asked g c = (1, subst (λ (w : Option (List (List ℕ))). AsksFor (c.args.path.now ∷ []) (g.H.Shelf.asked c.args.shelf.now) w) (sym c.retire.ensures.asked) c.in_ok-source.ensures.asked)

pub returns-in-Err-clause-asked : goal.returns-in-Err-clause-asked
returns-in-Err-clause-asked g c = (1, subst (λ (w : Option (List (List ℕ))). AsksFor (c.args.path.now ∷ []) (g.H.Shelf.asked c.args.shelf.now) w) (sym c.retire.ensures.asked) c.in_ok-source.ensures.asked)
