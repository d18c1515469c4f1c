-- What holds of the order by ids. Each statement is a clause of a function of `laws`.
use Rattle.std.specs.Prelude.{◌≡◌, ◌↔◌, IsTrue, List, IsPermutation}
use Rattle.ept_point.specs.declared.point.Point.{Point}
use Rattle.ept_point.specs.Order.{id, IsBefore, IsAscending}
use Rattle.ept_sample.specs.Ids.{same_id, comes_before, HasDistinctIds, in_id_order}

-- the tests are those of ids as they are ordered
abbrev pub TestsAreOfIds : Type 0
TestsAreOfIds =
    (p q : Point) → (IsTrue (same_id p q) ↔ (id p ≡ id q)) × (IsTrue (comes_before p q) ↔ IsBefore (id p) (id q))

-- points in id order are the same points
abbrev pub OrderKeepsPoints : Type 0
OrderKeepsPoints = (points : List Point) → IsPermutation points (in_id_order points)

-- their ids ascend, if no id occurs twice
abbrev pub OrderAscends : Type 0
OrderAscends = (points : List Point) → HasDistinctIds points → IsAscending (in_id_order points)

-- points whose ids ascend have distinct ids, and are in id order
abbrev pub AscendingIsOrdered : Type 0
AscendingIsOrdered = (points : List Point) → IsAscending points → HasDistinctIds points × (in_id_order points ≡ points)
