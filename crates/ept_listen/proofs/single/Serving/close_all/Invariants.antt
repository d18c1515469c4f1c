use Rattle.futures.specs.Poll.{OnPending}
use Rattle.futures.specs.Task.{IsArmed, Keeps}
use Rattle.ept_listen.proofs.single.Serving.close_all.Given as given

-- what held of the poll still holds, and its task is registered if a connection waits
abbrev pub invariant-loop-link : given.invariant-loop-link
invariant-loop-link g l = record {
  can : (given.iterator-loop-link g).can_next l.link-iterator;
  finite : (given.iterator-loop-link g).is_finite l.link-iterator;
  kept : Keeps l.fn.cx l.cx;
  armed : OnPending l.waits (IsArmed l.cx);
}
