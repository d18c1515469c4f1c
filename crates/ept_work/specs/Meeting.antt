-- What a flight does to the node that it meets.
use Rattle.std.specs.Prelude.{◌≡◌, ℕ, ◌+◌, ◌<◌, Bool, List, [], ◌++◌, count_by}
use Rattle.ept_point.specs.declared.point.Point.{Point}
use Rattle.ept_sample.specs.Ids.{HasDistinctIds}
use Rattle.ept_sample.specs.Arrivals.{is_open}
use Rattle.ept_grid.specs.Outgoing.{Leaving, points_at, all_points}
use Rattle.ept_grid.specs.Node.{Node, is_open_in, SendsOn}
use Rattle.ept_node.specs.Batch.{given_all, Arrives}

-- Points arrived at a node, and these points leave it.
pub record Meets (old new : Node) (points : List Point) (out : List Leaving) : Type 0 where
  pub key : new.key ≡ old.key
  pub rules : new.rules ≡ old.rules
  pub together : (test : Point → Bool) → count_by test new.points + count_by test (all_points out) ≡ count_by test points + count_by test old.points
  pub sends : (o : ℕ) → o < 8 → SendsOn old new o [] (points_at out o)
  pub opens : HasDistinctIds (points ++ old.points) → (o : ℕ) → o < 8 → is_open_in new o ≡ is_open old.rules old.key.depth (is_open_in old) (given_all old points) o
  pub arrives : HasDistinctIds (points ++ old.points) → Arrives old new points out
