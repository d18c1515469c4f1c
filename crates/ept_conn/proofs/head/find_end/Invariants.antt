use Rattle.std.proofs.Common.{◌≡◌, ◌+◌, drop}
use Rattle.std.specs.Option.{option_map}
use Rattle.ept_conn.specs.HeadEnd.{head_end}
use Rattle.ept_conn.proofs.head.find_end.Given as goal

-- the first end is the first one from here on
abbrev pub invariant-loop-at : goal.invariant-loop-at
invariant-loop-at l = head_end l.bytes ≡ option_map (λ n. n + l.at) (head_end (drop l.at l.bytes))
