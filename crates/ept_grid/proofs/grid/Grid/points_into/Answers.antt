use Rattle.std.proofs.Common.{subst}
use Rattle.ept_point.specs.Order.{IsAscending}
use Rattle.ept_sample.specs.Ids.{HasDistinctIds}
use Rattle.ept_grid.specs.Node.{Node, IsInIdOrder}
use Rattle.ept_grid.specs.Settling.{winners}
use Rattle.ept_grid.specs.Contents.{contents}
use Rattle.ept_grid.proofs.InOrder.{ascend-in_order, order-in_order}
use Rattle.ept_grid.proofs.grid.Grid.points_into.Goals as goal

pub returns-clause-ascend : goal.returns-clause-ascend
returns-clause-ascend c =
    subst (λ (n : Node). HasDistinctIds n.points → IsAscending n.points) c.self.view_is (ascend-in_order (contents (winners c.self.inside.cells.items) c.self.inside.losers))

pub returns-clause-in_order : goal.returns-clause-in_order
returns-clause-in_order c =
    subst (λ (n : Node). IsInIdOrder n.points) c.self.view_is (order-in_order (contents (winners c.self.inside.cells.items) c.self.inside.losers))
