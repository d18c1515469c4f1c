-- Polls, list after list.
use Rattle.std.proofs.Common.{ℕ, List, [], ◌∷◌, sym, subst}
use Rattle.ept_conn.specs.SessionCalls.{SessionCall}
use Rattle.ept_poll.specs.Units.{Seen}
use Rattle.ept_poll.specs.Polls.{Stands}
use Rattle.ept_poll.specs.Runs.{IsNew, HavePolled}
use Rattle.ept_poll.proofs.Standing.{start-stands, as-stands, units-stand}

polled-stands : (first : ℕ) (polls : List (List SessionCall)) (old now : Seen) → Stands first old → HavePolled old polls now → Stands first now
polled-stands first [] old now s polled = subst (Stands first) (sym polled) s
polled-stands first (calls ∷ polls) old now s polled =
    polled-stands first polls polled.1 now (as-stands first polled.0 polled.1 polled.3 (units-stand first calls old polled.0 polled.2 s)) polled.4

pub new-stands : (polls : List (List SessionCall)) (old now : Seen) → IsNew old → HavePolled old polls now → Stands old.store_faults now
new-stands polls old now is polled =
    polled-stands old.store_faults polls old now (start-stands old is.fresh is.unused) polled
