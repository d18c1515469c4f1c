use Rattle.ept_table.proofs.GoingOn.{landed-goes-on}
use Rattle.ept_table.proofs.laws.go_on_law.Goals as goal

pub returns : goal.returns
returns c =
    λ told used items old new end h at drawn sound fits. landed-goes-on told used items old new end h at drawn sound fits
