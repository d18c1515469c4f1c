use Rattle.ept_table.proofs.Moves.{take-keeps, return-keeps, wish-keeps, broken-keeps, abandon-keeps}
use Rattle.ept_table.proofs.Merging.{merge-keeps}
use Rattle.ept_table.proofs.laws.move_law.Goals as goal

pub returns-clause-take : goal.returns-clause-take
returns-clause-take c =
    λ told drawn items views i v k x h at free. take-keeps told drawn items views i v h at k x free

pub returns-clause-give_back : goal.returns-clause-give_back
returns-clause-give_back c =
    λ told drawn items views i v k x y h at there stays none. return-keeps told drawn items views i v h at k x y there stays none

pub returns-clause-wish : goal.returns-clause-wish
returns-clause-wish c = λ told drawn items views i v o h at. wish-keeps told drawn items views i v h at o

pub returns-clause-broken : goal.returns-clause-broken
returns-clause-broken c =
    λ told drawn items views i v fault h at. broken-keeps told drawn items views i v h at fault

pub returns-clause-abandon : goal.returns-clause-abandon
returns-clause-abandon c =
    λ told drawn items views i v h at some free. abandon-keeps told drawn items views i v h at some free

pub returns-clause-merge : goal.returns-clause-merge
returns-clause-merge c =
    λ told drawn items views i v h at some free together. merge-keeps told drawn items views i v h at some free together
