-- The ids of points, and the order of points by them.
use Rattle.std.specs.Prelude.{◌≤◌, ℕ, Bool, ◌&&◌, ◌||◌, ◌==◌, nat_lt, List, [], ◌∷◌, if◌then◌else◌, count_by}
use Rattle.ept_point.specs.declared.point.Point.{Point}

-- the two points have the same id: one scan, and one number there
abbrev pub same_id : Point → Point → Bool
same_id p q = (p.origin == q.origin) && (p.number == q.number)

-- the first scan and number come first: by the scan, then by the number
abbrev pub is_first : ℕ → ℕ → ℕ → ℕ → Bool
is_first origin number origin' number' = nat_lt origin origin' || ((origin == origin') && nat_lt number number')

-- the id of the first point comes first
abbrev pub comes_before : Point → Point → Bool
comes_before p q = is_first p.origin p.number q.origin q.number

-- no id occurs twice
unfoldable pub HasDistinctIds : List Point → Type 0
HasDistinctIds points = (p : Point) → count_by (same_id p) points ≤ 1

-- a point inserted before the first that comes after it
abbrev pub placed_by_id : Point → List Point → List Point
placed_by_id p [] = p ∷ []
placed_by_id p (q ∷ points) = if comes_before p q then p ∷ q ∷ points else q ∷ placed_by_id p points

-- the points in id order
unfoldable pub in_id_order : List Point → List Point
in_id_order [] = []
in_id_order (p ∷ points) = placed_by_id p (in_id_order points)
