-- Points that meet a node.
use Rattle.std.proofs.Common.{◌≡◌, ℕ, ◌<◌, Bool, List, [], ◌∷◌, length, ap, arith}
use Rattle.std.specs.List.{count_by}
use Rattle.ept_point.specs.declared.point.Point.{Point}
use Rattle.ept_sample.specs.Arrivals.{is_open}
use Rattle.ept_grid.specs.Outgoing.{Leaving, points_at, all_points}
use Rattle.ept_grid.specs.Node.{Node, is_open_in}
use Rattle.ept_grid.proofs.Leavings.{all-none}
use Rattle.ept_node.specs.Batch.{given_all, HasTaken}

-- once points have arrived, the octants that are open are those that the sampling opens
pub taken-opens : (old new : Node) (points : List Point) (before after : List Leaving) → HasTaken old new points before after → 0 < length points → (o : ℕ) → o < 8 → is_open_in new o ≡ is_open old.rules old.key.depth (is_open_in old) (given_all old points) o
taken-opens old new [] before after has some = absurd (omega (arith, some))
taken-opens old new (p ∷ points) before after has some = has.opens

pub none-leaves : (out : List Leaving) → ((o : ℕ) → points_at out o ≡ []) → (test : Point → Bool) → count_by test (all_points out) ≡ 0
none-leaves out empty test = ap (λ (w : List Point). count_by test w) (all-none out (λ o low. empty o))
