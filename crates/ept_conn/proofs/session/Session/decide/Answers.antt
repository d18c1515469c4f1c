use Rattle.std.proofs.Common.{◌∙◌, ap, sym}
use Rattle.std.proofs.lemmas.Bool.{false≢true}
use Rattle.ept_conn.specs.Held.{has_turn}
use Rattle.ept_conn.specs.State.{State}
use Rattle.ept_conn.proofs.TurnLemmas.{next-asked}
use Rattle.ept_conn.proofs.Wanting.{idle-has-none}
use Rattle.ept_conn.proofs.session.Session.decide.Goals as goal

pub take_up-requires-clause-fit : goal.take_up-requires-clause-fit
take_up-requires-clause-fit c =
    next-asked c.self.inside.conn c.next.new.self c.in-Ok-Some.turn (rw (c.in-Ok-Some.field-0-is, c.in-Ok-Some.turn-is) at c.in-Ok-Some.ensures.some)

pub returns-in-Ok-None-clause-decides : goal.returns-in-Ok-None-clause-decides
returns-in-Ok-None-clause-decides c =
    λ going. absurd (false≢true (sym (idle-has-none c.self.inside.conn (rw c.in-Ok-None.field-0-is at c.in-Ok-None.ensures.none).0) ∙ ap (λ (s : State). has_turn s.held) c.self.view_is ∙ c.requires.due))
