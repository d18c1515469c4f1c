-- What is computed for an arrival is what the step states.
use Rattle.std.proofs.Common.{◌≡◌, ◌∙◌, ℕ, zero, suc, ◌+◌, ◌≤◌, ◌<◌, Bool, true, false, cond, not, ◌||◌, ◌==◌, List, [], ◌∷◌, ◌++◌, map, refl, sym, ap, arith, filter, length, get_or}
use Rattle.std.specs.List.{flat_map}
use Rattle.std.proofs.lemmas.List.{append-nil, ext_get_or}
use Rattle.std.proofs.lemmas.List.Concat.{flat_map-append}
use Rattle.ept_point.specs.declared.point.Point.{Point}
use Rattle.ept_space.specs.declared.cube.Rules.{Rules}
use Rattle.ept_space.specs.VoxelKey.{VoxelKey, child}
use Rattle.ept_sample.specs.Arrivals.{loses, octant, losers, is_open, sent, all_octants, has_too_many, goes}
use Rattle.ept_sample.proofs.ArrivalLaws.{sent-open}
use Rattle.ept_sample.proofs.Parts.{numbers_below}
use Rattle.ept_sample.proofs.WalkLaws.{losers-steps}
use Rattle.ept_sample.proofs.Openings.{opened-is, kept-is}
use Rattle.ept_core.specs.declared.flight.Flight.{Flight}
use Rattle.ept_core.specs.declared.node.Node.{Node}
use Rattle.ept_core.specs.State.{has_open}
use Rattle.ept_core.specs.Steps.{flight_of, node_after, flights_after}
use Rattle.ept_core.proofs.Leaving.{open-at}
use Rattle.ept_core.specs.Effects.{part_of, flights_below}

-- ---- flights, octant by octant

pub flights_below-none : (actor : ℕ) (rules : Rules) (key : VoxelKey) (losers : List Point) (opened : List Bool) → flights_below actor rules key losers opened 0 ≡ []
unfolding flights_below
flights_below-none actor rules key losers opened = refl

pub flights_below-suc : (actor : ℕ) (rules : Rules) (key : VoxelKey) (losers : List Point) (opened : List Bool) (o : ℕ) → flights_below actor rules key losers opened (suc o) ≡ flights_below actor rules key losers opened o ++ flight_of actor (child key o) (part_of rules key.depth losers (get_or opened o false) o)
unfolding flights_below
flights_below-suc actor rules key losers opened o = refl

pub flights_below-more : (actor : ℕ) (rules : Rules) (key : VoxelKey) (losers : List Point) (opened : List Bool) (o : ℕ) (before more : List Flight) → before ≡ flights_below actor rules key losers opened o → more ≡ flight_of actor (child key o) (part_of rules key.depth losers (get_or opened o false) o) → before ++ more ≡ flights_below actor rules key losers opened (o + 1)
flights_below-more actor rules key losers opened o before more e f =
    ap (λ (w : List Flight). w ++ more) e
    ∙ (ap (λ (w : List Flight). flights_below actor rules key losers opened o ++ w) f
    ∙ (sym (flights_below-suc actor rules key losers opened o) ∙ ap (λ (n : ℕ). flights_below actor rules key losers opened n) (let e : suc o ≡ o + 1 = omega arith in e)))

-- ---- what is open, what stays, what is sent

module _ (rules : Rules) (key : VoxelKey) (n : Node) (given losing : List Point) (opened : List Bool) (lost : losing ≡ filter (loses rules key.depth given) given) (eight : length opened ≡ 8) (open_are : (o : ℕ) → o < 8 → get_or opened o false ≡ (has_open n o || has_too_many rules key.depth losing o)) where
  all_opened : opened ≡ map (is_open rules key.depth (has_open n) given) all_octants
  all_opened =
      ext_get_or false opened (map (is_open rules key.depth (has_open n) given) all_octants) eight (λ i low. (
      let small : i < 8 = omega (arith, low, eight) in
      opened-is rules key.depth (has_open n) given losing opened lost open_are i small ∙ sym (open-at (is_open rules key.depth (has_open n) given) i small)))

  -- the node afterwards
  pub node-is : (points : List Point) → points ≡ filter (λ p. not (goes rules key.depth given opened p)) given → (let m : Node = record { points = points; opened = opened; is_resident = true } in m) ≡ node_after rules key n given
  unfolding node_after
  node-is points e = λ i. record { points = (e ∙ kept-is rules key.depth (has_open n) given losing opened lost open_are) i; opened = all_opened i; is_resident = true }

  part_is : (o : ℕ) → o < 8 → part_of rules key.depth losing (get_or opened o false) o ≡ sent rules key.depth (has_open n) given o
  part_is o low =
      ap (λ (b : Bool). cond b (filter (λ p. octant rules key.depth p == o) losing) []) (opened-is rules key.depth (has_open n) given losing opened lost open_are o low)
      ∙ (ap (λ (w : List Point). cond (is_open rules key.depth (has_open n) given o) w []) (ap (λ (w : List Point). filter (λ p. octant rules key.depth p == o) w) lost ∙ losers-steps rules key.depth given o)
      ∙ sym (sent-open rules key.depth (has_open n) given o))

  below_sum : (actor : ℕ) (most : ℕ) → most ≤ 8 → flights_below actor rules key losing opened most ≡ flat_map (λ o. flight_of actor (child key o) (sent rules key.depth (has_open n) given o)) (numbers_below most)
  below_sum actor zero low = flights_below-none actor rules key losing opened
  below_sum actor (suc o) low =
      flights_below-suc actor rules key losing opened o
      ∙ (ap (λ (w : List Flight). w ++ flight_of actor (child key o) (part_of rules key.depth losing (get_or opened o false) o)) (below_sum actor o (omega (arith, low)))
      ∙ (ap (λ (w : List Point). flat_map (λ k. flight_of actor (child key k) (sent rules key.depth (has_open n) given k)) (numbers_below o) ++ flight_of actor (child key o) w) (part_is o (omega (arith, low)))
      ∙ (ap (λ (w : List Flight). flat_map (λ k. flight_of actor (child key k) (sent rules key.depth (has_open n) given k)) (numbers_below o) ++ w) (sym (append-nil (flight_of actor (child key o) (sent rules key.depth (has_open n) given o))))
      ∙ sym (flat_map-append (λ k. flight_of actor (child key k) (sent rules key.depth (has_open n) given k)) (numbers_below o) (o ∷ [])))))

  as_flights : (actor : ℕ) → flat_map (λ o. flight_of actor (child key o) (sent rules key.depth (has_open n) given o)) all_octants ≡ flights_after actor rules key n given
  unfolding flights_after
  as_flights actor = refl

  -- the flights that leave
  pub flights-are : (actor : ℕ) → flights_below actor rules key losing opened 8 ≡ flights_after actor rules key n given
  flights-are actor = below_sum actor 8 (omega arith) ∙ as_flights actor
