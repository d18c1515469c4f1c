use Rattle.std.proofs.Common.{◌∙◌, ap, length}
use Rattle.ept_grid.specs.Node.{Node}
use Rattle.ept_grid.proofs.InOrder.{count-node}
use Rattle.ept_grid.proofs.grid.Grid.count.Goals as goal

pub returns : goal.returns
returns c =
    count-node c.self.inside.cells.items c.as_slice.result.now c.self.inside.losers c.count.result c.count.ensures.count c.as_slice.ensures.value ∙ ap (λ (n : Node). length n.points) c.self.view_is
