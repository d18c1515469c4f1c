-- Flights in which the same points fly to the same nodes, in any order and in any grouping.
use Rattle.std.proofs.Common.{◌≡◌, ◌∙◌, ℕ, suc, ◌+◌, ◌≤◌, ◌⊎◌, inl, inr, Bool, List, [], ◌∷◌, ◌++◌, length, take, drop, set, count_by, refl, sym, ap, subst, arith}
use Rattle.std.specs.List.{flat_map, sum_by}
use Rattle.std.specs.List.Sorted.{IsPermutation}
use Rattle.std.proofs.lemmas.List.{append-nil}
use Rattle.std.proofs.lemmas.List.Concat.{flat_map-append}
use Rattle.std.proofs.lemmas.List.Sums.{sum_by-cons}
use Rattle.std.proofs.lemmas.List.Sorted.{IsPermutation-sym, sum_by-IsPermutation}
use Rattle.ept_point.specs.declared.point.Point.{Point}
use Rattle.ept_space.specs.VoxelKey.{VoxelKey}
use Rattle.ept_space.specs.OctreeCube.{InBox}
use Rattle.ept_sample.specs.Place.{place}
use Rattle.ept_sample.specs.Members.{IsMember}
use Rattle.ept_sample.proofs.Members.{IsMember-left, IsMember-right, IsMember-append, all-member, All-members}
use Rattle.ept_sample.proofs.IdLaws.{IsMember-IsPermutation, count_by-append}
use Rattle.ept_core.specs.declared.flight.Flight.{Flight}
use Rattle.ept_core.specs.State.{State, Entry, IsFlying, flown}
use Rattle.ept_core.specs.Law.{HasPoint, KeepsLaw}
use Rattle.ept_core.specs.Flying.{HasEmptyFlight}
use Rattle.ept_core.proofs.Regrouping.{flights-free}
use Rattle.ept_table.specs.declared.note.Told.{Told}
use Rattle.ept_table.specs.At.{At}
use Rattle.ept_table.specs.View.{View, flights_of, all_flights}
use Rattle.ept_table.specs.Shown.{IsSoundFlight}
use Rattle.ept_table.proofs.Lists.{flat-at, flat-set}
use Rattle.ept_table.proofs.Flown.{weight, weight-append}

abbrev state_of : List Point → List Entry → List Flight → State
state_of left nodes flights = record { left = left; flights = flights; nodes = nodes }

-- The same points fly to the same nodes, each as often, and the same number in all. Some flight is empty in both or in
-- neither.
pub record FlyAlike (xs ys : List Flight) : Type 0 where
  pub there : (key : VoxelKey) (p : Point) → IsFlying xs key p → IsFlying ys key p
  pub back : (key : VoxelKey) (p : Point) → IsFlying ys key p → IsFlying xs key p
  pub as_often : (test : Point → Bool) → count_by test (flown xs) ≡ count_by test (flown ys)
  pub as_many : weight ys ≡ weight xs
  pub empty_there : HasEmptyFlight xs → HasEmptyFlight ys
  pub empty_back : HasEmptyFlight ys → HasEmptyFlight xs

-- ---- flights in another order

counted : (test : Point → Bool) (flights : List Flight) → count_by test (flown flights) ≡ sum_by (λ (f : Flight). count_by test f.points) flights
counted test [] = refl
counted test (f ∷ flights) =
    omega (arith, count_by-append test f.points (flown flights), counted test flights, sum_by-cons (λ (g : Flight). count_by test g.points) f flights)

weighed : (flights : List Flight) → weight flights ≡ sum_by (λ (f : Flight). length f.points) flights
weighed [] = refl
weighed (f ∷ flights) =
    omega (arith, weight-append (f ∷ []) flights, weight_one f, weighed flights, sum_by-cons (λ (g : Flight). length g.points) f flights)
  where
    weight_one : (f : Flight) → weight (f ∷ []) ≡ length f.points
    weight_one f = ap (λ (ps : List Point). length ps) (append-nil f.points)

pub permuted-alike : (xs ys : List Flight) → IsPermutation xs ys → FlyAlike xs ys
permuted-alike xs ys same = record {
  there = λ key p (f, m, at, q). (f, IsMember-IsPermutation f xs ys same m, at, q);
  back = λ key p (f, m, at, q). (f, IsMember-IsPermutation f ys xs (IsPermutation-sym xs ys same) m, at, q);
  as_often = λ test. counted test xs ∙ (sym (sum_by-IsPermutation (λ (f : Flight). count_by test f.points) xs ys same) ∙ sym (counted test ys));
  as_many = weighed ys ∙ (sum_by-IsPermutation (λ (f : Flight). length f.points) xs ys same ∙ sym (weighed xs));
  empty_there = λ (f, m, none). (f, IsMember-IsPermutation f xs ys same m, none);
  empty_back = λ (f, m, none). (f, IsMember-IsPermutation f ys xs (IsPermutation-sym xs ys same) m, none);
}

-- ---- in a list with others

-- if these flights may be replaced, they may be replaced in a list with others
among : (P : Flight → Type 0) (front xs ys back : List Flight) → (((f : Flight) × IsMember f xs × P f) → (f : Flight) × IsMember f ys × P f) → ((f : Flight) × IsMember f (front ++ (xs ++ back)) × P f) → (f : Flight) × IsMember f (front ++ (ys ++ back)) × P f
among P front xs ys back change (f, m, is) =
    elim (IsMember-append f front (xs ++ back) m) [
      | inl first ↦ (f, IsMember-left f front (ys ++ back) first, is)
      | inr more ↦ elim (IsMember-append f xs back more) [
        | inl here ↦ (let r = change (f, here, is) in (r.0, IsMember-right r.0 front (ys ++ back) (IsMember-left r.0 ys back r.1), r.2))
        | inr last ↦ (f, IsMember-right f front (ys ++ back) (IsMember-right f ys back last), is)
      ]
    ]

flying_among : (key : VoxelKey) (p : Point) (front xs ys back : List Flight) → (IsFlying xs key p → IsFlying ys key p) → IsFlying (front ++ (xs ++ back)) key p → IsFlying (front ++ (ys ++ back)) key p
flying_among key p front xs ys back change (f, m, at, q) =
    let r = among (λ (g : Flight). (g.key ≡ key) × IsMember p g.points) front xs ys back (λ (g, n, is). (let s = change (g, n, is.0, is.1) in (s.0, s.1, (s.2, s.3)))) (f, m, (at, q)) in
    (r.0, r.1, r.2.0, r.2.1)

flown_parts : (front xs back : List Flight) → flown (front ++ (xs ++ back)) ≡ flown front ++ (flown xs ++ flown back)
flown_parts front xs back =
    flat_map-append (λ (f : Flight). f.points) front (xs ++ back) ∙ ap (λ (ps : List Point). flown front ++ ps) (flat_map-append (λ (f : Flight). f.points) xs back)

counted_parts : (test : Point → Bool) (front xs back : List Flight) → count_by test (flown (front ++ (xs ++ back))) ≡ count_by test (flown front) + (count_by test (flown xs) + count_by test (flown back))
counted_parts test front xs back =
    let parts = ap (λ (ps : List Point). count_by test ps) (flown_parts front xs back) in
    omega (arith, parts, count_by-append test (flown front) (flown xs ++ flown back), count_by-append test (flown xs) (flown back))

pub amid-alike : (front xs ys back : List Flight) → FlyAlike xs ys → FlyAlike (front ++ (xs ++ back)) (front ++ (ys ++ back))
amid-alike front xs ys back alike = record {
  there = λ key p. flying_among key p front xs ys back (alike.there key p);
  back = λ key p. flying_among key p front ys xs back (alike.back key p);
  as_often = λ test. omega (arith, counted_parts test front xs back, counted_parts test front ys back, alike.as_often test);
  as_many = omega (arith, weight-append front (xs ++ back), weight-append xs back, weight-append front (ys ++ back), weight-append ys back, alike.as_many);
  empty_there = among (λ f. f.points ≡ []) front xs ys back alike.empty_there;
  empty_back = among (λ f. f.points ≡ []) front ys xs back alike.empty_back;
}

-- if one seat has other flights
pub seats-alike : {views : List View} {i : ℕ} {v : View} (w : View) → At views i v → FlyAlike (flights_of v) (flights_of w) → FlyAlike (all_flights views) (all_flights (set views i w))
seats-alike {views} {i} {v} w at alike =
    let front : List Flight = flat_map flights_of (take i views) in
    let back : List Flight = flat_map flights_of (drop (suc i) views) in
    subst (λ (fs : List Flight). FlyAlike fs (all_flights (set views i w))) (sym (flat-at flights_of at))
    (subst (λ (gs : List Flight). FlyAlike (front ++ (flights_of v ++ back)) gs) (sym (flat-set flights_of w at)) (amid-alike front (flights_of v) (flights_of w) back alike))

-- ---- what the rule states of flights

some_or_none : (points : List Point) → HasPoint points ⊎ (points ≡ [])
some_or_none [] = inr refl
some_or_none (p ∷ points) = inl (p, inl refl)

none_there : (points : List Point) → HasPoint points → points ≡ [] → ⊥
none_there points some none = subst (λ (ps : List Point). IsMember some.0 ps) none some.1

module _ (told : Told) (xs ys : List Flight) (alike : FlyAlike xs ys) (sound : (f : Flight) → IsMember f xs → IsSoundFlight told f) where
  pub sound-alike : (g : Flight) → IsMember g ys → IsSoundFlight told g
  sound-alike g m = record { some = some; low = low; inside = All-members (λ p. InBox told.rules.cube g.key (place p)) g.points inside }
    where
      some : HasPoint g.points
      some = elim (some_or_none g.points) [
        | inl is ↦ is
        | inr none ↦ (let e = alike.empty_back (g, m, none) in absurd (none_there e.0.points (sound e.0 e.1).some e.2))
      ]

      low : g.key.depth ≤ told.rules.cube.depth
      low =
          let f = alike.back g.key some.0 (g, m, refl, some.1) in
          subst (λ (key : VoxelKey). key.depth ≤ told.rules.cube.depth) f.2 (sound f.0 f.1).low

      inside : (p : Point) → IsMember p g.points → InBox told.rules.cube g.key (place p)
      inside p q =
          let f = alike.back g.key p (g, m, refl, q) in
          subst (λ (key : VoxelKey). InBox told.rules.cube key (place p)) f.2 (all-member (λ r. InBox told.rules.cube f.0.key (place r)) p f.0.points (sound f.0 f.1).inside f.3)

  -- if a flight goes there, one of the other flights does
  pub flies-there : (key : VoxelKey) → ((f : Flight) × IsMember f xs × (f.key ≡ key)) → (g : Flight) × IsMember g ys × (g.key ≡ key)
  flies-there key (f, m, at) =
      let p = (sound f m).some in let g = alike.there key p.0 (f, m, at, p.1) in (g.0, g.1, g.2)

pub law-alike : (told : Told) (xs ys : List Flight) → FlyAlike xs ys → (points left : List Point) (nodes : List Entry) → KeepsLaw told.rules points (state_of left nodes xs) → KeepsLaw told.rules points (state_of left nodes ys)
law-alike told xs ys alike points left nodes =
    (flights-free told.rules points (state_of left nodes xs) (state_of left nodes ys) (record {
      left = refl;
      nodes = refl;
      to_nodes = λ key p. (alike.there key p, alike.back key p);
      as_often = alike.as_often;
      empty = (alike.empty_there, alike.empty_back);
    })).0
