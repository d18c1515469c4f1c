use Rattle.std.proofs.Common.{◌≡◌, ◌∙◌, ℕ, ◌<◌, ap, sym, false, get_or, List, Bool, filter, ◌||◌}
use Rattle.ept_point.specs.declared.point.Point.{Point}
use Rattle.ept_space.specs.VoxelKey.{VoxelKey}
use Rattle.ept_space.specs.OctreeCube.{InBox}
use Rattle.ept_sample.specs.Place.{place}
use Rattle.ept_sample.specs.Arrivals.{loses, has_too_many}
use Rattle.ept_sample.proofs.WalkLaws.{All-passed, losing-at}
use Rattle.ept_sample.proofs.Openings.{opened-above}
use Rattle.ept_core.specs.State.{has_open}
use Rattle.ept_core.specs.Effects.{flights_below}
use Rattle.ept_core.proofs.EffectLaws.{node-is, flights-are}
use Rattle.ept_core.proofs.arrival.effect_on.Goals as goal

pub opening-opened-requires : goal.opening-opened-requires
opening-opened-requires c = record {
  inside = All-passed (λ p. InBox c.args.rules.now.cube c.args.key.now (place p)) (loses c.args.rules.now c.key.inside.depth c.args.given.now) c.args.given.now c.in_ok-losers.losers.items c.as_slice.result.now c.as_slice.ensures.value c.in_ok-losers.ensures.losers c.requires.inside;
}

pub sending-requires : goal.sending-requires
sending-requires c = record {
  inside = All-passed (λ p. InBox c.args.rules.now.cube c.args.key.now (place p)) (loses c.args.rules.now c.key.inside.depth c.args.given.now) c.args.given.now c.in_ok-losers.losers.items c.as_slice-2.result.now c.as_slice-2.ensures.value c.in_ok-losers.ensures.losers c.requires.inside;
  bottom = opened-above c.args.rules.now c.args.key.now.depth c.as_slice.result.now c.opening-opened.result c.args.was.now c.requires.bottom c.opening-opened.ensures.opened;
}

pub staying-requires : goal.staying-requires
staying-requires c = record {
  low = c.requires.low;
  inside = c.requires.inside;
  in_cube = c.requires.in_cube;
  bottom = opened-above c.args.rules.now c.args.key.now.depth c.as_slice.result.now c.opening-opened.result c.args.was.now c.requires.bottom c.opening-opened.ensures.opened;
}

pub returns : goal.returns
returns c = record {
  effect = λ n agree. (
      let lost : c.as_slice.result.now ≡ filter (loses c.args.rules.now c.args.key.now.depth c.args.given.now) c.args.given.now =
      losing-at c.args.rules.now c.key.inside.depth c.args.key.now.depth c.args.given.now c.in_ok-losers.losers.items c.as_slice.result.now (ap (λ (k : VoxelKey). k.depth) c.key.view_is) c.as_slice.ensures.value c.in_ok-losers.ensures.losers in
      let are : (o : ℕ) → o < 8 → get_or c.opening-opened.result o false ≡ (has_open n o || has_too_many c.args.rules.now c.args.key.now.depth c.as_slice.result.now o) =
      λ o low. (c.opening-opened.ensures.opened o low ∙ ap (λ (b : Bool). b || has_too_many c.args.rules.now c.args.key.now.depth c.as_slice.result.now o) (sym (agree o low))) in
      let same : c.as_slice-2.result.now ≡ c.as_slice.result.now = c.as_slice-2.ensures.value ∙ sym c.as_slice.ensures.value in (
        node-is c.args.rules.now c.args.key.now n c.args.given.now c.as_slice.result.now c.opening-opened.result lost c.opening-opened.ensures.eight are c.of-points.result (c.of-points.ensures ∙ c.in_ok-staying.ensures.kept),
        c.in_ok-flights.ensures.sent ∙ (ap (λ (w : List Point). flights_below c.args.actor c.args.rules.now c.args.key.now w c.opening-opened.result 8) same ∙ flights-are c.args.rules.now c.args.key.now n c.args.given.now c.as_slice.result.now c.opening-opened.result lost c.opening-opened.ensures.eight are c.args.actor),
      ));
}
