use Rattle.std.proofs.Common.{◌≡◌, ℕ, ◌<◌, ◌||◌, false, get_or, length}
use Rattle.ept_sample.specs.Arrivals.{has_too_many}
use Rattle.ept_sample.proofs.arrivals.opening.Given as goal

abbrev pub invariant-loop-which : goal.invariant-loop-which
invariant-loop-which l =
    (length l.opened ≡ 8) × ((o : ℕ) → o < l.which → get_or l.opened o false ≡ (get_or l.was o false || has_too_many l.rules l.key.depth l.losers o))
