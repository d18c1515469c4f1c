use Rattle.std.proofs.Common.{◌∙◌, ap, sym, subst}
use Rattle.ept_conn.specs.Held.{has_turn}
use Rattle.ept_conn.specs.State.{State}
use Rattle.ept_conn.specs.Works.{HasPlanOf}
use Rattle.ept_conn.proofs.Wanting.{work-parts}
use Rattle.ept_conn.proofs.Plans.{no-tiles-plan, tiles-plan}
use Rattle.ept_conn.proofs.session.Session.work.Goals as goal

pub decide-requires-clause-ready : goal.decide-requires-clause-ready
decide-requires-clause-ready g c =
    let parts = work-parts c.args.self.now c.requires in record {
      hand = c.replace.ensures.after;
      out = ap (λ (s : State). s.out) c.self.view_is ∙ parts.out_is;
      going = ap (λ (s : State). s.fault) c.self.view_is ∙ parts.going;
    }

pub decide-requires-clause-due : goal.decide-requires-clause-due
decide-requires-clause-due g c =
    let parts = work-parts c.args.self.now c.requires in
    ap (λ (s : State). has_turn s.held) c.self.view_is ∙ parts.due_is (sym (ap (λ (s : State). s.hand) c.self.view_is) ∙ (sym c.replace.ensures.value ∙ c.in-Empty.is))

pub get-requires-clause-ready : goal.get-requires-clause-ready
get-requires-clause-ready g c =
    let parts = work-parts c.args.self.now c.requires in record {
      hand = c.replace.ensures.after;
      out = ap (λ (s : State). s.out) c.self.view_is ∙ parts.out_is;
      going = ap (λ (s : State). s.fault) c.self.view_is ∙ parts.going;
    }

pub get_tile-requires-clause-ready : goal.get_tile-requires-clause-ready
get_tile-requires-clause-ready g c =
    let parts = work-parts c.args.self.now c.requires in record {
      hand = c.replace.ensures.after;
      out = ap (λ (s : State). s.out) c.self.view_is ∙ parts.out_is;
      going = ap (λ (s : State). s.fault) c.self.view_is ∙ parts.going;
    }

pub returns-in-Empty-clause-plans : goal.returns-in-Empty-clause-plans
returns-in-Empty-clause-plans g c = λ files told has. no-tiles-plan files c.decide.new.self.hand c.decide.ensures.no_tiles

pub returns-in-Tiles-clause-plans : goal.returns-in-Tiles-clause-plans
returns-in-Tiles-clause-plans g c = λ files told has.
    let hand = sym (ap (λ (s : State). s.hand) c.self.view_is) ∙ (sym c.replace.ensures.value ∙ c.in-Tiles.is) in
    tiles-plan files c.in-Tiles.turn c.in-Tiles.plan _ c.get_tile.new.self.hand c.get_tile.ensures.either (subst (HasPlanOf files) hand has)
