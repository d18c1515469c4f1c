use Rattle.futures.specs.Task.{Keeps}
use Rattle.ept_tokio.proofs.link.TokioLink.poll_rest.Given as given

-- what held of the poll still holds
abbrev pub invariant-loop : given.invariant-loop
invariant-loop g l = Keeps l.fn.cx l.cx
