-- What an arrival does to a tree.
use Rattle.std.specs.Prelude.{◌≡◌, ◌+◌, List, ◌∷◌, ◌++◌, Bool, count_by}
use Rattle.ept_point.specs.declared.point.Point.{Point}
use Rattle.ept_space.specs.declared.cube.Rules.{Rules}
use Rattle.ept_grid.specs.Outgoing.{Leaving, all_points}
use Rattle.ept_tree.specs.declared.arrival.Arrival.{Arrival}
use Rattle.ept_tree.specs.Sending.{sending}
use Rattle.ept_table.specs.Octree.{Branch, points_in}
use Rattle.ept_tree.specs.Tree.{Becomes, ArePlaced, GoDown, AreAtDepth, on_the_way}
use Rattle.ept_tree.specs.Whole.{StaysWhole}

-- A point has arrived at its node, and the points that leave it continue from there.
pub record HasLanded (rules : Rules) (a : Arrival) (old new : List Branch) (leaving : List Leaving) : Type 0 where
  pub becomes : (others : List Arrival) → Becomes rules (a ∷ others) old (others ++ sending a.key leaving) new
  pub together : (test : Point → Bool) → count_by test (points_in new) + count_by test (all_points leaving) ≡ count_by test (a.point ∷ points_in old)
  pub down : GoDown rules a.key leaving
  pub whole : (others : List Arrival) → StaysWhole (a ∷ others) old (others ++ sending a.key leaving) new

-- A point has arrived at its node, and the points that left it are on their way, one depth below.
pub record HasArrived (rules : Rules) (a : Arrival) (old new : List Branch) (before after : List Arrival) : Type 0 where
  pub sent : List Arrival
  pub grows : after ≡ before ++ sent
  pub deeper : AreAtDepth (a.key.depth + 1) sent
  pub placed : ArePlaced rules sent
  pub together : (test : Point → Bool) → count_by test (points_in new) + count_by test (on_the_way sent) ≡ count_by test (a.point ∷ points_in old)
  pub becomes : (others : List Arrival) → Becomes rules (a ∷ others) old (others ++ sent) new
  pub whole : (others : List Arrival) → StaysWhole (a ∷ others) old (others ++ sent) new
