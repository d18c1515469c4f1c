use Rattle.ept_core.proofs.CoreLaws.{distinct-flight}
use Rattle.ept_core.proofs.Regrouping.{order-free, flights-free}
use Rattle.ept_core.proofs.laws.flight_law.Goals as goal

pub returns-clause-order : goal.returns-clause-order
returns-clause-order c = order-free

pub returns-clause-flights : goal.returns-clause-flights
returns-clause-flights c = flights-free

pub returns-clause-distinct : goal.returns-clause-distinct
returns-clause-distinct c = distinct-flight
