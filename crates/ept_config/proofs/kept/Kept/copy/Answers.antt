use Rattle.ept_config.proofs.kept.Kept.copy.Goals as goal

pub invariant_of-result-clause-layout : goal.invariant_of-result-clause-layout
invariant_of-result-clause-layout c = rw c.in_ok-inputs.ensures c.args.self.now.layout
