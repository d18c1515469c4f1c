use Rattle.std.proofs.Common.{ℕ, List, [], ◌∷◌, Option, sym, subst}
use Rattle.ept_scan.specs.Asking.{AsksFor}
use Rattle.ept_command.proofs.files.read_front.Goals as goal

pub returns-clause-asked : goal.returns-clause-asked
returns-clause-asked g c = (1, subst (λ (w : Option (List (List ℕ))). AsksFor (c.args.path.now ∷ []) (g.H.Shelf.asked c.args.shelf.now) w) (sym c.retire.ensures.asked) c.in_ok-source.ensures.asked)
