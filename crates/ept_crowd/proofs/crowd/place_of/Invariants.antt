use Rattle.std.proofs.Common.{◌≢◌, ◌<◌, ℕ, slice_index_or}
use Rattle.ept_crowd.specs.declared.member.Live.{Live}
use Rattle.ept_crowd.proofs.crowd.place_of.Given as given

-- no connection before this place has the number
abbrev pub invariant-loop-place : given.invariant-loop-place
invariant-loop-place g l =
    (k : ℕ) (d : Live g.row.L.Denot g.row.T.Denot) → k < l.place → (slice_index_or l.live k d).number ≢ l.number
