use Rattle.futures.specs.Task.{Keeps}
use Rattle.ept_listen.proofs.single.Serving.close_ended.Given as given

-- what held of the poll still holds
abbrev pub invariant-loop : given.invariant-loop
invariant-loop g l = Keeps l.fn.cx l.cx
