-- What points do to the node that they are given to: which lose, which octants open, which points leave and which stay.
--
-- `given` are the points that a node of a depth was given so far: those that it has, and those that arrive. `was_open`
-- says which of its octants were open before.
use Rattle.std.specs.Prelude.{ℕ, Bool, false, ◌&&◌, ◌||◌, not, ◌==◌, nat_lt, List, [], ◌∷◌, length, filter, count_by, slice_index_or}
use Rattle.std.specs.List.{list_any, flat_map}
use Rattle.ept_point.specs.declared.point.Point.{Point}
use Rattle.ept_space.specs.declared.cube.Rules.{Rules}
use Rattle.ept_space.specs.OctreeCube.{octant_at}
use Rattle.ept_sample.specs.Place.{place}
use Rattle.ept_sample.specs.Rank.{beats}

-- a point loses among the given points: one of them beats it
unfoldable pub loses : Rules → ℕ → List Point → Point → Bool
loses rules depth given p = list_any (λ q. beats rules depth q p) given

-- the octant that a point lies in, of the box of that depth
abbrev pub octant : Rules → ℕ → Point → ℕ
octant rules depth p = octant_at rules.cube depth (place p)

-- the losers of an octant
unfoldable pub losers : Rules → ℕ → List Point → ℕ → List Point
losers rules depth given o = filter (λ p. loses rules depth given p && (octant rules depth p == o)) given

-- an octant overflows: the depth is not the greatest, and its losers are more than the threshold
unfoldable pub overflows : Rules → ℕ → List Point → ℕ → Bool
overflows rules depth given o =
    nat_lt depth rules.cube.depth && nat_lt rules.threshold (length (losers rules depth given o))

-- an octant is open afterwards: it was, or it overflows
unfoldable pub is_open : Rules → ℕ → (ℕ → Bool) → List Point → ℕ → Bool
is_open rules depth was_open given o = was_open o || overflows rules depth given o

-- a point leaves: it loses, and its octant is open
unfoldable pub leaves : Rules → ℕ → (ℕ → Bool) → List Point → Point → Bool
leaves rules depth was_open given p =
    loses rules depth given p && is_open rules depth was_open given (octant rules depth p)

-- the points that stay in the node
unfoldable pub kept : Rules → ℕ → (ℕ → Bool) → List Point → List Point
kept rules depth was_open given = filter (λ p. not (leaves rules depth was_open given p)) given

-- the points that leave it for the child of an octant
unfoldable pub sent : Rules → ℕ → (ℕ → Bool) → List Point → ℕ → List Point
sent rules depth was_open given o =
    filter (λ p. leaves rules depth was_open given p && (octant rules depth p == o)) given

-- no octant was open
abbrev pub none_open : ℕ → Bool
none_open o = false

-- the octants of a box
abbrev pub all_octants : List ℕ
all_octants = 0 ∷ 1 ∷ 2 ∷ 3 ∷ 4 ∷ 5 ∷ 6 ∷ 7 ∷ []

-- the points that leave the node, octant by octant
abbrev pub all_sent : Rules → ℕ → (ℕ → Bool) → List Point → List Point
all_sent rules depth was_open given = flat_map (sent rules depth was_open given) all_octants

-- ---- the same from a list of losers and a list of octants, as the functions have them

-- above the greatest depth, an octant has more of the points that lose than the threshold
abbrev pub has_too_many : Rules → ℕ → List Point → ℕ → Bool
has_too_many rules depth losing o =
    nat_lt depth rules.cube.depth && nat_lt rules.threshold (count_by (λ p. octant rules depth p == o) losing)

-- a given point loses, and its octant is open
abbrev pub goes : Rules → ℕ → List Point → List Bool → Point → Bool
goes rules depth given opened p = slice_index_or opened (octant rules depth p) false && loses rules depth given p
