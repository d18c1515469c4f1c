use Rattle.std.proofs.Common.{List, subst, arith}
use Rattle.ept_point.specs.declared.point.Point.{Point}
use Rattle.ept_grid.specs.Outgoing.{points_at}
use Rattle.ept_grid.specs.Node.{SendsOn}
use Rattle.ept_node.specs.Shown.{node_of}
use Rattle.ept_work.proofs.Meeting.{taken-opens, none-leaves}
use Rattle.ept_work.proofs.visit.arrived.Goals as goal

pub returns-in-Ok-clause-ok : goal.returns-in-Ok-clause-ok
returns-in-Ok-clause-ok g c =
    let e = c.in-Ok.ensures in
    let old = node_of g.F.SpillFile.held c.args.node in
    let new = node_of g.F.SpillFile.held c.arrive_batch.new.self in
    record {
      key = e.key;
      rules = e.rules;
      together = λ test. omega (arith, e.together test, none-leaves c.args.out.now c.requires.empty test);
      sends = λ o low. subst (λ (w : List Point). SendsOn old new o w (points_at c.arrive_batch.new.out o)) (c.requires.empty o) (e.sends_on o low);
      opens = λ different. taken-opens old new c.args.points.now c.args.out.now c.arrive_batch.new.out (e.takes_in different) c.requires.some;
      arrives = λ different. e.arrives different c.requires.some (λ o low. c.requires.empty o);
    }
