use Rattle.ept_residency.proofs.Placed.{places-free, goes, comes-back, flights-arrive, flights-bring-back}
use Rattle.ept_residency.proofs.laws.place_law.Goals as goal

pub returns-clause-free : goal.returns-clause-free
returns-clause-free c = places-free

pub returns-clause-goes : goal.returns-clause-goes
returns-clause-goes c = λ rules points s here key law has is. goes rules points s here key law has is

pub returns-clause-comes_back : goal.returns-clause-comes_back
returns-clause-comes_back c = λ rules points s here key law has is. comes-back rules points s here key law has is

pub returns-clause-arrives : goal.returns-clause-arrives
returns-clause-arrives c = flights-arrive

pub returns-clause-brings_back : goal.returns-clause-brings_back
returns-clause-brings_back c = flights-bring-back
