-- The flights of the points that leave a node, if it is known which of its octants are open afterwards.
use Rattle.std.specs.Prelude.{ℕ, zero, suc, Bool, false, ◌==◌, List, [], ◌++◌, filter, slice_index_or, if◌then◌else◌}
use Rattle.ept_point.specs.declared.point.Point.{Point}
use Rattle.ept_space.specs.declared.cube.Rules.{Rules}
use Rattle.ept_space.specs.VoxelKey.{VoxelKey, child}
use Rattle.ept_sample.specs.Arrivals.{octant}
use Rattle.ept_core.specs.declared.flight.Flight.{Flight}
use Rattle.ept_core.specs.Steps.{flight_of}

-- the losers of an octant, if it is open
abbrev pub part_of : Rules → ℕ → List Point → Bool → ℕ → List Point
part_of rules depth losers is_open o = if is_open then filter (λ p. octant rules depth p == o) losers else []

-- the flights of the losers of the octants below a number
unfoldable pub flights_below : ℕ → Rules → VoxelKey → List Point → List Bool → ℕ → List Flight
flights_below actor rules key losers opened zero = []
flights_below actor rules key losers opened (suc o) =
    flights_below actor rules key losers opened o ++ flight_of actor (child key o) (part_of rules key.depth losers (slice_index_or opened o false) o)
