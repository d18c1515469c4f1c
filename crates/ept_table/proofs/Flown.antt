-- How many points are on their way.
use Rattle.std.proofs.Common.{◌≡◌, ◌∙◌, ℕ, suc, ◌+◌, List, ◌++◌, length, take, drop, set, ap, arith}
use Rattle.std.proofs.lemmas.List.{length-append}
use Rattle.std.proofs.lemmas.List.Concat.{flat_map-append}
use Rattle.std.specs.List.{flat_map}
use Rattle.ept_point.specs.declared.point.Point.{Point}
use Rattle.ept_core.specs.declared.flight.Flight.{Flight}
use Rattle.ept_core.specs.State.{flown}
use Rattle.ept_table.specs.At.{At}
use Rattle.ept_table.specs.View.{View, flights_of, all_flights}
use Rattle.ept_table.proofs.Lists.{flat-at, flat-set}

-- how many points fly
abbrev pub weight : List Flight → ℕ
weight flights = length (flown flights)

pub weight-append : (fs gs : List Flight) → weight (fs ++ gs) ≡ weight fs + weight gs
weight-append fs gs =
    ap (λ (w : List Point). length w) (flat_map-append (λ (f : Flight). f.points) fs gs) ∙ length-append (flown fs) (flown gs)

-- if one seat carries other flights
pub weight-set : {views : List View} {i : ℕ} {v : View} (w : View) → At views i v → weight (all_flights (set views i w)) + weight (flights_of v) ≡ weight (all_flights views) + weight (flights_of w)
weight-set {views} {i} {v} w a =
    let front : List Flight = flat_map flights_of (take i views) in
    let back : List Flight = flat_map flights_of (drop (suc i) views) in
    let new : weight (all_flights (set views i w)) ≡ weight front + (weight (flights_of w) + weight back) = ap weight (flat-set flights_of w a) ∙ (weight-append front (flights_of w ++ back) ∙ ap (λ (n : ℕ). weight front + n) (weight-append (flights_of w) back)) in
    let old : weight (all_flights views) ≡ weight front + (weight (flights_of v) + weight back) = ap weight (flat-at flights_of a) ∙ (weight-append front (flights_of v ++ back) ∙ ap (λ (n : ℕ). weight front + n) (weight-append (flights_of v) back)) in
    omega (arith, new, old)
