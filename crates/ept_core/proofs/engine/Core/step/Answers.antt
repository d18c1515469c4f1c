use Rattle.std.proofs.Math.Logic.{∥∥₁_map}
use Rattle.ept_core.specs.Machine.{state_of}
use Rattle.ept_core.proofs.CoreLaws.{stands-on}
use Rattle.ept_core.proofs.engine.Core.step.Goals as goal

pub invariant_of-self : goal.invariant_of-self
invariant_of-self c = record {
  law = ∥∥₁_map c.args.self.now.law (λ law. stands-on c.args.self.now.machine.rules c.step.new.self.rules c.args.self.now.machine.points c.step.new.self.points (state_of c.args.self.now.machine) (state_of c.step.new.self) c.args.event c.step.result c.step.ensures.ok c.step.ensures.unchanged c.step.ensures.rules c.step.ensures.points law);
}
