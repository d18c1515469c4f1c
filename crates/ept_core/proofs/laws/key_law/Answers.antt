use Rattle.ept_core.proofs.CoreLaws.{run-keeps, held-node, open-node}
use Rattle.ept_core.proofs.laws.key_law.Goals as goal

pub returns-clause-held : goal.returns-clause-held
returns-clause-held c =
    λ rules points first between rest old new events key p law run h e f. held-node rules points first between rest new (run-keeps rules points old events new law run) e f key p h

pub returns-clause-opened : goal.returns-clause-opened
returns-clause-opened c =
    λ rules points first between rest s key o law low opened e f. open-node rules points first between rest s law e f key o low opened
