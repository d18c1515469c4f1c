use Rattle.futures.specs.Task.{Keeps}
use Rattle.ept_listen.proofs.single.Serving.accept_all.Given as given

-- what held of the poll still holds
abbrev pub invariant-loop : given.invariant-loop
invariant-loop g l = Keeps l.fn.cx l.cx
