-- The law does not depend on the flights in which points fly to their nodes, nor on their order.
use Rattle.std.proofs.Common.{◌≡◌, ◌∙◌, Bool, ◌⊎◌, inl, inr, List, [], ◌∷◌, ◌++◌, refl, sym, ap, subst, arith, length, count_by}
use Rattle.std.specs.List.{sum_by}
use Rattle.std.specs.List.Sorted.{IsPermutation}
use Rattle.std.proofs.lemmas.List.Sums.{sum_by-cons}
use Rattle.std.proofs.lemmas.List.Sorted.{IsPermutation-sym, IsPermutation-trans, IsPermutation-append_right, sum_by-IsPermutation, length_permutation}
use Rattle.ept_point.specs.declared.point.Point.{Point}
use Rattle.ept_space.specs.declared.cube.Rules.{Rules}
use Rattle.ept_space.specs.VoxelKey.{VoxelKey, child}
use Rattle.ept_sample.specs.Ids.{same_id, HasDistinctIds}
use Rattle.ept_sample.specs.Members.{IsMember}
use Rattle.ept_sample.proofs.Members.{IsMember-flat_map, member-flat_map}
use Rattle.ept_sample.proofs.IdLaws.{IsMember-IsPermutation, IsPermutation-members, count_by-append, count_by-IsPermutation}
use Rattle.ept_core.specs.declared.flight.Flight.{Flight}
use Rattle.ept_core.specs.State.{State, Entry, IsFlying, IsHeld, IsHeldWithin, flown, held}
use Rattle.ept_core.specs.Law.{KeepsLaw, HoldsMore, HasPoint}
use Rattle.ept_core.specs.Flying.{IsReordered, EachIsReordered, FliesReordered, HasEmptyFlight, FliesAlike}
use Rattle.ept_core.proofs.NodeMap.{points_of}
use Rattle.ept_core.proofs.Held.{distinct-held}

-- ---- flights that carry the same

-- two lists of flights carry the same points to the same nodes, and none of the second is empty
pub record CarryTheSame (xs ys : List Flight) : Type 0 where
  pub there : (key : VoxelKey) (p : Point) → IsFlying xs key p → IsFlying ys key p
  pub back : (key : VoxelKey) (p : Point) → IsFlying ys key p → IsFlying xs key p
  pub carried : IsPermutation (flown xs) (flown ys)
  pub flying : (f : Flight) → IsMember f ys → HasPoint f.points

module _ (rules : Rules) (points left : List Point) (nodes : List Entry) (xs ys : List Flight) (same : CarryTheSame xs ys) where
  abbrev state_with : List Flight → State
  state_with flights = record { left = left; flights = flights; nodes = nodes }

  held_there : (key : VoxelKey) (p : Point) → IsHeld (state_with xs) key p → IsHeld (state_with ys) key p
  held_there key p (inl m) = inl m
  held_there key p (inr f) = inr (same.there key p f)

  held_back : (key : VoxelKey) (p : Point) → IsHeld (state_with ys) key p → IsHeld (state_with xs) key p
  held_back key p (inl m) = inl m
  held_back key p (inr f) = inr (same.back key p f)

  within_there : (top : VoxelKey) (p : Point) → IsHeldWithin (state_with xs) top p → IsHeldWithin (state_with ys) top p
  within_there top p (key, within, h) = (key, within, held_there key p h)

  more_there : (top : VoxelKey) → HoldsMore rules (state_with xs) top → HoldsMore rules (state_with ys) top
  more_there top (some, distinct, all, more) = (some, distinct, λ p m. within_there top p (all p m), more)

  pub regrouped : KeepsLaw rules points (state_with xs) → KeepsLaw rules points (state_with ys)
  regrouped law = record {
    points_law = law.points_law;
    same_points = (
      law.same_points.0,
      record {
        suffix = law.same_points.1.suffix;
        held_once = IsPermutation-trans law.same_points.0 (held (state_with xs)) (held (state_with ys)) law.same_points.1.held_once (IsPermutation-append_right (points_of nodes) (flown xs) (flown ys) same.carried);
      },
    );
    placed = record {
      in_box = λ key p h. law.placed.in_box key p (held_back key p h);
      shallow = λ key p h. law.placed.shallow key p (held_back key p h);
    };
    passed = record {
      through_open = λ top key p h. law.passed.through_open top key p (held_back key p h);
      lost_above = λ top key p h. law.passed.lost_above top key p (held_back key p h);
    };
    settled = record {
      open_without_losers = law.settled.open_without_losers;
      open_holds_more = λ key o low is. more_there (child key o) (law.settled.open_holds_more key o low is);
      closed_has_few = law.settled.closed_has_few;
    };
    bottom = law.bottom;
    rooted = record { has_root = law.rooted.has_root; flying = same.flying };
    tidy = record { has_points = law.tidy.has_points; in_order = law.tidy.in_order; points_in_order = law.tidy.points_in_order };
  }

-- ---- states that fly alike

-- a flight has points, or none
some_or_none : (points : List Point) → HasPoint points ⊎ (points ≡ [])
some_or_none [] = inr refl
some_or_none (p ∷ points) = inl (p, inl refl)

none_of_none : (points : List Point) → HasPoint points → points ≡ [] → ⊥
none_of_none points some none = subst (λ (w : List Point). IsMember some.0 w) none some.1

flown-IsFlying : (flights : List Flight) (p : Point) → IsMember p (flown flights) → (key : VoxelKey) × IsFlying flights key p
flown-IsFlying flights p m =
    let f = member-flat_map (λ (g : Flight). g.points) p flights m in (f.0.key, (f.0, f.1, refl, f.2))

IsFlying-flown : (flights : List Flight) (key : VoxelKey) (p : Point) → IsFlying flights key p → IsMember p (flown flights)
IsFlying-flown flights key p (f, m, at, q) = IsMember-flat_map (λ (g : Flight). g.points) f p flights m q

distinct_right : (xs ys : List Point) → HasDistinctIds (xs ++ ys) → HasDistinctIds ys
unfolding HasDistinctIds
distinct_right xs ys once p = omega (arith, once p, count_by-append (same_id p) xs ys)

distinct_counts : (xs ys : List Point) → ((test : Point → Bool) → count_by test xs ≡ count_by test ys) → HasDistinctIds xs → HasDistinctIds ys
unfolding HasDistinctIds
distinct_counts xs ys same once p = omega (arith, once p, same (same_id p))

alike-sym : (one other : State) → FliesAlike one other → FliesAlike other one
alike-sym one other alike = record {
  left = sym alike.left;
  nodes = sym alike.nodes;
  to_nodes = λ key p. ((alike.to_nodes key p).1, (alike.to_nodes key p).0);
  as_often = λ test. sym (alike.as_often test);
  empty = (alike.empty.1, alike.empty.0);
}

alike-keeps : (rules : Rules) (points : List Point) (one other : State) → FliesAlike one other → KeepsLaw rules points one → KeepsLaw rules points other
alike-keeps rules points one other alike law =
    subst (λ (w : List Point). KeepsLaw rules points (record { left = w; flights = other.flights; nodes = other.nodes })) alike.left
    (subst (λ (w : List Entry). KeepsLaw rules points (record { left = one.left; flights = other.flights; nodes = w })) alike.nodes (regrouped rules points one.left one.nodes one.flights other.flights same law))
  where
    full : (f : Flight) → IsMember f other.flights → HasPoint f.points
    full f m =
        elim (some_or_none f.points) [
          | inl some ↦ some
          | inr none ↦ let e = alike.empty.1 (f, m, none) in absurd (none_of_none e.0.points (law.rooted.flying e.0 e.1) e.2)
        ]

    once : HasDistinctIds (flown one.flights)
    once = distinct_right (points_of one.nodes) (flown one.flights) (distinct-held rules points one law)

    there : (p : Point) → IsMember p (flown one.flights) → IsMember p (flown other.flights)
    there p m =
        let f = flown-IsFlying one.flights p m in IsFlying-flown other.flights f.0 p ((alike.to_nodes f.0 p).0 f.1)

    back : (p : Point) → IsMember p (flown other.flights) → IsMember p (flown one.flights)
    back p m =
        let f = flown-IsFlying other.flights p m in IsFlying-flown one.flights f.0 p ((alike.to_nodes f.0 p).1 f.1)

    same : CarryTheSame one.flights other.flights
    same = record {
      there = λ key p. (alike.to_nodes key p).0;
      back = λ key p. (alike.to_nodes key p).1;
      carried = IsPermutation-members (flown one.flights) (flown other.flights) once (distinct_counts (flown one.flights) (flown other.flights) alike.as_often once) there back;
      flying = full;
    }

-- if two states fly alike, both keep the law or neither does
pub flights-free : (rules : Rules) (points : List Point) (one other : State) → FliesAlike one other → (KeepsLaw rules points one → KeepsLaw rules points other) × (KeepsLaw rules points other → KeepsLaw rules points one)
flights-free rules points one other alike =
    (alike-keeps rules points one other alike, alike-keeps rules points other one (alike-sym one other alike))

-- ---- flights and points in another order

-- each flight has its counterpart
like_there : (fs gs : List Flight) → EachIsReordered fs gs → (f : Flight) → IsMember f fs → (g : Flight) × IsMember g gs × IsReordered f g
like_there [] gs each f m = absurd m
like_there (h ∷ fs) [] each f m = absurd each
like_there (h ∷ fs) (g ∷ gs) each f (inl is) = (g, inl refl, subst (λ (w : Flight). IsReordered w g) is each.0)
like_there (h ∷ fs) (g ∷ gs) each f (inr m) = let r = like_there fs gs each.1 f m in (r.0, inr r.1, r.2)

like_back : (fs gs : List Flight) → EachIsReordered fs gs → (g : Flight) → IsMember g gs → (f : Flight) × IsMember f fs × IsReordered f g
like_back [] [] each g m = absurd m
like_back [] (h ∷ gs) each g m = absurd each
like_back (f ∷ fs) [] each g m = absurd m
like_back (f ∷ fs) (h ∷ gs) each g (inl is) = (f, inl refl, subst (λ (w : Flight). IsReordered f w) is each.0)
like_back (f ∷ fs) (h ∷ gs) each g (inr m) = let r = like_back fs gs each.1 g m in (r.0, inr r.1, r.2)

counted : (test : Point → Bool) (flights : List Flight) → count_by test (flown flights) ≡ sum_by (λ (f : Flight). count_by test f.points) flights
counted test [] = refl
counted test (f ∷ flights) =
    omega (arith, count_by-append test f.points (flown flights), counted test flights, sum_by-cons (λ (g : Flight). count_by test g.points) f flights)

counted_alike : (test : Point → Bool) (fs gs : List Flight) → EachIsReordered fs gs → count_by test (flown fs) ≡ count_by test (flown gs)
counted_alike test [] [] each = refl
counted_alike test [] (g ∷ gs) each = absurd each
counted_alike test (f ∷ fs) [] each = absurd each
counted_alike test (f ∷ fs) (g ∷ gs) each =
    omega (arith, count_by-append test f.points (flown fs), count_by-append test g.points (flown gs), counted_alike test fs gs each.1, count_by-IsPermutation test f.points g.points each.0.points)

empty_like : (xs ys : List Point) → IsPermutation xs ys → xs ≡ [] → ys ≡ []
empty_like xs [] same none = refl
empty_like xs (y ∷ ys) same none =
    let long : length xs ≡ 0 = ap (λ (w : List Point). length w) none in absurd (omega (arith, long, length_permutation xs (y ∷ ys) same))

reordered-alike : (one other : State) → FliesReordered one other → FliesAlike one other
reordered-alike one other same = record {
  left = same.left;
  nodes = same.nodes;
  to_nodes = λ key p. (there key p, back key p);
  as_often = often;
  empty = (empty_there, empty_back);
}
  where
    first : IsPermutation one.flights same.flights.0
    first = same.flights.1

    first_back : IsPermutation same.flights.0 one.flights
    first_back = IsPermutation-sym one.flights same.flights.0 first

    each : EachIsReordered same.flights.0 other.flights
    each = same.flights.2

    there : (key : VoxelKey) (p : Point) → IsFlying one.flights key p → IsFlying other.flights key p
    there key p (f, m, at, q) =
        let r = like_there same.flights.0 other.flights each f (IsMember-IsPermutation f one.flights same.flights.0 first m) in
        (r.0, r.1, sym r.2.key ∙ at, IsMember-IsPermutation p f.points r.0.points r.2.points q)

    back : (key : VoxelKey) (p : Point) → IsFlying other.flights key p → IsFlying one.flights key p
    back key p (g, m, at, q) =
        let r = like_back same.flights.0 other.flights each g m in
        (r.0, IsMember-IsPermutation r.0 same.flights.0 one.flights first_back r.1, r.2.key ∙ at, IsMember-IsPermutation p g.points r.0.points (IsPermutation-sym r.0.points g.points r.2.points) q)

    often : (test : Point → Bool) → count_by test (flown one.flights) ≡ count_by test (flown other.flights)
    often test =
        counted test one.flights
        ∙ (sym (sum_by-IsPermutation (λ (f : Flight). count_by test f.points) one.flights same.flights.0 first)
        ∙ (sym (counted test same.flights.0) ∙ counted_alike test same.flights.0 other.flights each))

    empty_there : HasEmptyFlight one.flights → HasEmptyFlight other.flights
    empty_there (f, m, none) =
        let r = like_there same.flights.0 other.flights each f (IsMember-IsPermutation f one.flights same.flights.0 first m) in
        (r.0, r.1, empty_like f.points r.0.points r.2.points none)

    empty_back : HasEmptyFlight other.flights → HasEmptyFlight one.flights
    empty_back (g, m, none) =
        let r = like_back same.flights.0 other.flights each g m in
        (r.0, IsMember-IsPermutation r.0 same.flights.0 one.flights first_back r.1, empty_like g.points r.0.points (IsPermutation-sym r.0.points g.points r.2.points) none)

-- Two states may differ in the order of the flights and of the points in each. Then both keep the law or neither does.
pub order-free : (rules : Rules) (points : List Point) (one other : State) → FliesReordered one other → (KeepsLaw rules points one → KeepsLaw rules points other) × (KeepsLaw rules points other → KeepsLaw rules points one)
order-free rules points one other same = flights-free rules points one other (reordered-alike one other same)
