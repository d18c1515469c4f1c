-- What is seen of a crowd.
use Rattle.std.specs.Prelude.{ℕ, List, []}
use Rattle.ept_crowd.specs.declared.crowd.Crowd.{Crowd}
use Rattle.ept_crowd.specs.declared.member.Live.{Live}
use Rattle.ept_crowd.specs.declared.member.Finished.{Finished}

-- `live` is the connections that have not ended, by number. `ended` is those that have ended and were not taken yet, in
-- the order of their ends. `added` is the number of those that were added.
pub record Shown (L T : Type 0) : Type 0 where
  pub live : List (Live L T)
  pub ended : List (Finished L T)
  pub added : ℕ

abbrev pub shown : {L T : Type 0} → Crowd L T → Shown L T
shown crowd = record { live = crowd.live.items; ended = crowd.ended.items; added = crowd.added }

-- no connection was added
abbrev pub nothing : {L T : Type 0} → Shown L T
nothing = record { live = []; ended = []; added = 0 }
