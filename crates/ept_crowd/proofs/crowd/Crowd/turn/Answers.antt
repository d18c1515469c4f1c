use Rattle.std.proofs.Common.{◌∙◌, sym}
use Rattle.ept_crowd.specs.Shown.{shown}
use Rattle.ept_crowd.proofs.Turning.{turn-of}
use Rattle.ept_crowd.proofs.crowd.Crowd.turn.Goals as goal

pub returns-in-Some-clause-turned : goal.returns-in-Some-clause-turned
returns-in-Some-clause-turned g c =
    let found = c.in-Some.ensures.some in
    let live = sym c.deref.ensures.value ∙ found.3 in
    turn-of g.L.PollLink g.T.Store c.args.number found.0 found.2 found.1 (shown c.args.self.now) (shown c.turn_at.new.self) c.turn_at.new.cx c.turn_at.result found.5 (c.turn_at.ensures.turned found.0 found.1 found.2 live found.4)
