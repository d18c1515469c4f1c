use Rattle.std.proofs.Common.{◌≡◌, ◌∙◌, ◌++◌, List, ap, sym, subst, get_or}
use Rattle.std.proofs.Math.Logic.{∥∥₁_elim}
use Rattle.std.proofs.lemmas.List.{get_or_read}
use Rattle.ept_point.specs.declared.point.Point.{Point}
use Rattle.ept_sample.specs.Ids.{HasDistinctIds, in_id_order}
use Rattle.ept_sample.specs.Place.{AllInBox, AllInCube}
use Rattle.ept_core.specs.declared.flight.Flight.{Flight}
use Rattle.ept_core.specs.declared.machine.Machine.{Machine}
use Rattle.ept_core.specs.State.{node_at}
use Rattle.ept_core.specs.Steps.{gathered, node_after, flights_after}
use Rattle.ept_core.specs.Machine.{state_of, IsEffect}
use Rattle.ept_core.proofs.Arriving.{effect-ok, distinct-prop, box-prop, cube-prop, depth-prop, bottom-prop, gathered-is, distinct-arrival, box-arrival, cube-arrival, low-arrival}
use Rattle.ept_core.proofs.machine.Machine.effect_of.Goals as goal

pub gather-requires : goal.gather-requires
gather-requires c =
    let m : Machine = c.args.self.now in
    let f : Flight = c.index-flight.result.now in
    record { distinct = subst (λ (w : List Point). HasDistinctIds (w ++ c.standing.result.0.now)) (sym c.as_slice.ensures) (subst (λ (w : List Point). HasDistinctIds (f.points ++ w)) (sym c.standing.ensures.points) (∥∥₁_elim c.requires.law (distinct-prop (f.points ++ (node_at m.nodes.entries f.key).points)) (λ law. distinct-arrival m.rules m.points (state_of m) c.args.index f c.requires.index c.index-flight.ensures law))) }

pub effect_on-requires-clause-low : goal.effect_on-requires-clause-low
effect_on-requires-clause-low c =
    let m : Machine = c.args.self.now in
    let f : Flight = c.index-flight.result.now in
    ∥∥₁_elim c.requires.law (depth-prop f.key.depth m.rules.cube.depth) (λ law. low-arrival m.rules m.points (state_of m) c.args.index f c.requires.index c.index-flight.ensures law)

pub effect_on-requires-clause-inside : goal.effect_on-requires-clause-inside
effect_on-requires-clause-inside c =
    let m : Machine = c.args.self.now in
    let f : Flight = c.index-flight.result.now in
    let given : c.as_slice-2.result.now ≡ gathered m.nodes.entries f = c.as_slice-2.ensures.value ∙ (c.in_ok-given.ensures.gathered ∙ (ap (λ (w : List Point). in_id_order (w ++ c.standing.result.0.now)) c.as_slice.ensures ∙ (ap (λ (w : List Point). in_id_order (f.points ++ w)) c.standing.ensures.points ∙ gathered-is m.nodes.entries f))) in
    let M : List Point → Type 0 = λ w. AllInBox m.rules.cube f.key w in
    subst M (sym given) (∥∥₁_elim c.requires.law (box-prop m.rules.cube f.key (gathered m.nodes.entries f)) (λ law. box-arrival m.rules m.points (state_of m) c.args.index f c.requires.index c.index-flight.ensures law))

pub effect_on-requires-clause-in_cube : goal.effect_on-requires-clause-in_cube
effect_on-requires-clause-in_cube c =
    let m : Machine = c.args.self.now in
    let f : Flight = c.index-flight.result.now in
    let given : c.as_slice-2.result.now ≡ gathered m.nodes.entries f = c.as_slice-2.ensures.value ∙ (c.in_ok-given.ensures.gathered ∙ (ap (λ (w : List Point). in_id_order (w ++ c.standing.result.0.now)) c.as_slice.ensures ∙ (ap (λ (w : List Point). in_id_order (f.points ++ w)) c.standing.ensures.points ∙ gathered-is m.nodes.entries f))) in
    let M : List Point → Type 0 = λ w. AllInCube m.rules.cube w in
    subst M (sym given) (∥∥₁_elim c.requires.law (cube-prop m.rules.cube (gathered m.nodes.entries f)) (λ law. cube-arrival m.rules m.points (state_of m) c.args.index f c.requires.index c.index-flight.ensures law))

pub effect_on-requires-clause-bottom : goal.effect_on-requires-clause-bottom
effect_on-requires-clause-bottom c =
    let m : Machine = c.args.self.now in
    let f : Flight = c.index-flight.result.now in
    ∥∥₁_elim c.requires.law (bottom-prop m.rules f.key c.standing.result.1) (λ law o small e. law.bottom f.key o small (c.standing.ensures.opened o small ∙ e))

pub returns : goal.returns
returns c =
    let m : Machine = c.args.self.now in
    let f : Flight = c.index-flight.result.now in
    let given : c.as_slice-2.result.now ≡ gathered m.nodes.entries f = c.as_slice-2.ensures.value ∙ (c.in_ok-given.ensures.gathered ∙ (ap (λ (w : List Point). in_id_order (w ++ c.standing.result.0.now)) c.as_slice.ensures ∙ (ap (λ (w : List Point). in_id_order (f.points ++ w)) c.standing.ensures.points ∙ gathered-is m.nodes.entries f))) in
    record {
      effect = effect-ok c.effect_on.result _ (λ e. (g : Flight) → get_or m.flights.items c.args.index g ≡ g → IsEffect m.rules m.nodes.entries g e) (λ e h g at. (
          let same : f ≡ g = get_or_read m.flights.items c.args.index f c.requires.index c.index-flight.ensures g ∙ at in
          let made = h (node_at m.nodes.entries f.key) c.standing.ensures.opened in
          subst (λ (w : Flight). IsEffect m.rules m.nodes.entries w e) same (made.0 ∙ ap (λ (w : List Point). node_after m.rules f.key (node_at m.nodes.entries f.key) w) given, made.1 ∙ ap (λ (w : List Point). flights_after f.actor m.rules f.key (node_at m.nodes.entries f.key) w) given))) c.effect_on.ensures.effect;
    }
