use Rattle.ept_config.proofs.config.Config.kept.Goals as goal

pub invariant_of-result-clause-layout : goal.invariant_of-result-clause-layout
invariant_of-result-clause-layout c = rw c.in_ok-inputs.ensures c.args.self.now.layout
