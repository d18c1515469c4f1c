use Rattle.ept_crowd.proofs.Serving.{each-served, numbers-ascend}
use Rattle.ept_crowd.proofs.laws.crowd_law.Goals as goal

pub returns-clause-served : goal.returns-clause-served
returns-clause-served g c =
    let law = c.polls_law.ensures in
    each-served g.L.PollLink g.T.Store law.sends law.reads law.ends

pub returns-clause-numbers : goal.returns-clause-numbers
returns-clause-numbers g c = numbers-ascend g.L.PollLink g.T.Store
