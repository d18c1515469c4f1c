-- The lengths of the formats' records.
use Rattle.std.proofs.Common.{ℕ, ◌≤◌, arith}
use Rattle.std.proofs.lemmas.Bool.Decides.{nat_tests}
use Rattle.ept_las.specs.Format.{record_length}

-- the shortest record has 20 bytes
pub least_length : (format : ℕ) → 20 ≤ record_length format
unfolding record_length
least_length format = grind (arith, nat_tests)

-- the shortest record of formats 6 and 7 has 30 bytes
pub least_extended : (format : ℕ) → 6 ≤ format → 30 ≤ record_length format
unfolding record_length
least_extended format h = grind (arith, nat_tests)
