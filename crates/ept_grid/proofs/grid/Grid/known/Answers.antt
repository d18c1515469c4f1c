use Rattle.std.proofs.Common.{subst, vec_capacity}
use Rattle.std.specs.List.{All}
use Rattle.ept_point.specs.Order.{IsAscending}
use Rattle.ept_space.specs.OctreeCube.{InBox}
use Rattle.ept_sample.specs.Place.{place}
use Rattle.ept_sample.specs.Ids.{HasDistinctIds}
use Rattle.ept_grid.specs.Node.{Node}
use Rattle.ept_grid.specs.Settling.{winners}
use Rattle.ept_grid.specs.Contents.{contents}
use Rattle.ept_grid.specs.Tile.{IsTile}
use Rattle.ept_grid.proofs.Filled.{node-tile}
use Rattle.ept_grid.proofs.InOrder.{inside-in_order, ascend-in_order}
use Rattle.ept_grid.proofs.grid.Grid.known.Goals as goal

pub returns-clause-inside : goal.returns-clause-inside
returns-clause-inside c =
    subst (λ (n : Node). All (λ q. InBox n.rules.cube n.key (place q)) n.points) c.self.view_is (inside-in_order c.self.inside.rules.cube c.self.inside.key (contents (winners c.self.inside.cells.items) c.self.inside.losers) c.self.invariant.inside)

pub returns-clause-ascend : goal.returns-clause-ascend
returns-clause-ascend c =
    subst (λ (n : Node). HasDistinctIds n.points → IsAscending n.points) c.self.view_is (ascend-in_order (contents (winners c.self.inside.cells.items) c.self.inside.losers))

pub returns-clause-tile : goal.returns-clause-tile
returns-clause-tile c =
    subst (λ (n : Node). HasDistinctIds n.points → IsTile n.key n.rules n.mask n.points) c.self.view_is (node-tile c.self.inside.key c.self.inside.rules c.self.inside.heads.items c.self.inside.cells.items (vec_capacity c.self.inside.cells) c.self.inside.losers c.self.inside.mask c.self.invariant)
