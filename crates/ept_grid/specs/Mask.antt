-- Sets of octants as the bits of a number.
use Rattle.std.specs.Prelude.{ℕ, Bool, ◌==◌}
use Rattle.std.specs.Int.{bit_at}

-- the octant is open: its bit is set
unfoldable pub opened : ℕ → ℕ → Bool
opened mask o = bit_at mask o == 1
