use Rattle.std.proofs.Common.{◌≡◌, ◌≤◌, length}
use Rattle.futures.specs.Task.{Keeps}
use Rattle.ept_crowd.specs.Shown.{shown}
use Rattle.ept_crowd.proofs.Turning.{HasGone}
use Rattle.ept_crowd.proofs.crowd.Crowd.turn_all.Given as given

-- this number of connections have had their turn
abbrev pub invariant-loop : given.invariant-loop
invariant-loop g l = record {
  gone : HasGone g.L.PollLink g.T.Store (shown l.fn.self) (shown l.self) l.fn.cx l.cx l.counter l.place;
  end_is : l.end ≡ length l.fn.self.live.items;
  within : l.counter ≤ l.end;
  kept : Keeps l.fn.cx l.cx;
}
