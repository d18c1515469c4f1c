-- Parts of the points: each has the points of some octants of the root's box.
use Rattle.std.specs.Prelude.{◌≡◌, ◌<◌, ℕ, Bool, List, filter, count_by}
use Rattle.ept_point.specs.declared.point.Point.{Point}
use Rattle.ept_space.specs.declared.cube.Rules.{Rules}
use Rattle.ept_sample.specs.Arrivals.{octant}

-- some of the eight octants
abbrev pub Octants : Type 0
Octants = ℕ → Bool

-- the points that lie in these octants of the root's box
unfoldable pub part_of : Rules → Octants → List Point → List Point
part_of rules octants points = filter (λ p. octants (octant rules 0 p)) points

-- the number of the parts that an octant is in
abbrev pub parts_with : ℕ → List Octants → ℕ
parts_with o parts = count_by (λ (octants : Octants). octants o) parts

-- each octant is in exactly one of the parts
abbrev pub AreAllOctants : List Octants → Type 0
AreAllOctants parts = (o : ℕ) → o < 8 → parts_with o parts ≡ 1
