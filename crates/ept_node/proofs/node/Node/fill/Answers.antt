use Rattle.std.proofs.Common.{◌∙◌, ap}
use Rattle.ept_grid.specs.Node.{Node}
use Rattle.ept_node.specs.Shown.{bare, node_of}
use Rattle.ept_node.proofs.Bridges.{filled-resumed}
use Rattle.ept_node.proofs.node.Node.fill.Goals as goal

pub returns-clause-resumed : goal.returns-clause-resumed
returns-clause-resumed g c = λ all same opens. (
    let old = node_of g.F.SpillFile.held c.args.self.now in
    let of = c.in_ok-grid.ensures.node in
    let kept = c.in_ok-boxed.ensures in
    filled-resumed old.rules all old.key c.args.mask c.args.points.now (bare c.in_ok-boxed.field-0.value) (record {
      key = ap (λ (w : Node). w.key) kept ∙ (of.key ∙ c.key.ensures);
      rules = ap (λ (w : Node). w.rules) kept ∙ (of.rules ∙ c.rules-rules.ensures.rules);
      points = ap (λ (w : Node). w.points) kept ∙ of.points;
      mask = ap (λ (w : Node). w.mask) kept ∙ of.mask;
    }) same opens)
