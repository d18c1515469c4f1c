use Rattle.std.proofs.Common.{◌≤◌, ◌-◌, ◌∙◌, ap, List, ℕ, length, drop, arith, length-take, length-drop}
use Rattle.ept_scan.proofs.Windows.{let_go}
use Rattle.ept_scan.proofs.window.Window.consume.Goals as goal

pub returns : goal.returns
returns c =
    let w = c.self.inside in
    let fits : c.args.count ≤ w.end - w.start = omega (arith, ap length c.self.view_is, length-take (w.end - w.start) (drop w.start w.buffer.items), length-drop w.start w.buffer.items) in
    let_go w.buffer.items w.start w.end c.args.count c.self.invariant.0 fits ∙ ap (λ (l : List ℕ). drop c.args.count l) c.self.view_is
