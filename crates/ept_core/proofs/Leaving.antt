-- What points that arrive at a node do to it, and the flights that leave it.
use Rattle.std.proofs.Common.{◌≡◌, ◌∙◌, ℕ, zero, suc, ◌≤◌, ◌<◌, Bool, true, false, cond, not, ◌&&◌, ◌||◌, ◌==◌, nat_lt, ◌⊎◌, inl, inr, List, [], ◌∷◌, ◌++◌, map, refl, sym, ap, subst, arith, filter, length, get_or, eq-eqb}
use Rattle.std.specs.List.{flat_map}
use Rattle.std.proofs.lemmas.Bool.{lt-ltb}
use Rattle.std.proofs.lemmas.Bool.Decides.{nat_tests}
use Rattle.std.proofs.lemmas.List.{append-nil}
use Rattle.std.proofs.lemmas.List.Concat.{flat_map-append}
use Rattle.std.proofs.lemmas.List.Elements.{filter_agree}
use Rattle.ept_point.specs.declared.point.Point.{Point}
use Rattle.ept_space.specs.declared.cube.Rules.{Rules}
use Rattle.ept_space.specs.VoxelKey.{VoxelKey, child}
use Rattle.ept_space.proofs.PlaceKeys.{octant_at-below}
use Rattle.ept_sample.specs.Place.{place}
use Rattle.ept_sample.specs.Ids.{HasDistinctIds}
use Rattle.ept_sample.specs.Arrivals.{loses, octant, losers, overflows, is_open, leaves, kept, sent, all_octants, all_sent}
use Rattle.ept_sample.specs.Members.{IsMember}
use Rattle.ept_sample.proofs.Members.{IsMember-filter, IsMember-kept, IsMember-flat_map, member-flat_map}
use Rattle.ept_sample.proofs.Choices.{and_left, and_right, and_both, or_cases, or_false, or_right}
use Rattle.ept_sample.proofs.Octants.{octant-IsMember}
use Rattle.ept_sample.proofs.IdLaws.{HasDistinctIds-filter}
use Rattle.ept_sample.proofs.ArrivalLaws.{loses-beaten, beaten-loses, sent-IsMember, loses-kept, same_number}
use Rattle.ept_core.specs.declared.flight.Flight.{Flight}
use Rattle.ept_core.specs.declared.node.Node.{Node}
use Rattle.ept_core.specs.State.{has_open, IsFlying}
use Rattle.ept_core.specs.Law.{HasPoint}
use Rattle.ept_core.specs.Steps.{flight_of, node_after, flights_after}
use Rattle.ept_core.proofs.Held.{flown}

-- ---- what opens

pub was-open : (rules : Rules) (depth : ℕ) (was : ℕ → Bool) (given : List Point) (o : ℕ) → was o ≡ true → is_open rules depth was given o ≡ true
unfolding is_open
was-open rules depth was given o e = ap (λ (b : Bool). b || overflows rules depth given o) e

pub open-cases : (rules : Rules) (depth : ℕ) (was : ℕ → Bool) (given : List Point) (o : ℕ) → is_open rules depth was given o ≡ true → (was o ≡ true) ⊎ (overflows rules depth given o ≡ true)
unfolding is_open
open-cases rules depth was given o e = or_cases (was o) (overflows rules depth given o) e

pub closed-fits : (rules : Rules) (depth : ℕ) (was : ℕ → Bool) (given : List Point) (o : ℕ) → is_open rules depth was given o ≡ false → overflows rules depth given o ≡ false
unfolding is_open
closed-fits rules depth was given o e = (or_false (was o) (overflows rules depth given o) e).1

-- an octant above the greatest depth that does not overflow has few losers
pub fits-few : (rules : Rules) (depth : ℕ) (given : List Point) (o : ℕ) → depth < rules.cube.depth → overflows rules depth given o ≡ false → length (losers rules depth given o) ≤ rules.threshold
unfolding overflows
fits-few rules depth given o above e = few depth rules.cube.depth rules.threshold (length (losers rules depth given o)) above e
  where
    few : (d m t n : ℕ) → d < m → (nat_lt d m && nat_lt t n) ≡ false → n ≤ t
    few d m t n above e = grind (arith, nat_tests)

length_filter_step : (test keep : Point → Bool) (p : Point) (xs : List Point) (a b : Bool) → keep p ≡ a → test p ≡ b → length (filter test (filter keep xs)) ≤ length (filter test xs) → length (filter test (cond a (p ∷ filter keep xs) (filter keep xs))) ≤ length (cond b (p ∷ filter test xs) (filter test xs))
length_filter_step test keep p xs true true e f more =
    subst (λ (c : Bool). length (cond c (p ∷ filter test (filter keep xs)) (filter test (filter keep xs))) ≤ suc (length (filter test xs))) (sym f) (omega (arith, more))
length_filter_step test keep p xs true false e f more =
    subst (λ (c : Bool). length (cond c (p ∷ filter test (filter keep xs)) (filter test (filter keep xs))) ≤ length (filter test xs)) (sym f) more
length_filter_step test keep p xs false true e f more = omega (arith, more)
length_filter_step test keep p xs false false e f more = more

length-filter_filter : (test keep : Point → Bool) (xs : List Point) → length (filter test (filter keep xs)) ≤ length (filter test xs)
length-filter_filter test keep [] = omega arith
length-filter_filter test keep (p ∷ xs) =
    length_filter_step test keep p xs (keep p) (test p) refl refl (length-filter_filter test keep xs)

-- the number of losers in an octant is no greater among the points that stay
pub losers-kept : (rules : Rules) (depth : ℕ) (was : ℕ → Bool) (given : List Point) (o : ℕ) → length (losers rules depth (kept rules depth was given) o) ≤ length (losers rules depth given o)
unfolding losers kept
losers-kept rules depth was given o =
    let stays : Point → Bool = λ p. not (leaves rules depth was given p) in
    let test : Point → Bool = λ p. loses rules depth given p && (octant rules depth p == o) in
    subst (λ (w : List Point). length w ≤ length (filter test given)) (sym (filter_agree (λ p. loses rules depth (filter stays given) p && (octant rules depth p == o)) test (λ p. ap (λ (b : Bool). b && (octant rules depth p == o)) (loses-stays rules depth was given p)) (filter stays given))) (length-filter_filter test stays given)
  where
    loses-stays : (rules : Rules) (depth : ℕ) (was : ℕ → Bool) (given : List Point) (p : Point) → loses rules depth (filter (λ q. not (leaves rules depth was given q)) given) p ≡ loses rules depth given p
    loses-stays rules depth was given p = loses-kept rules depth was given p

-- a point that loses among some points loses among more
pub loses-more : (rules : Rules) (depth : ℕ) (xs ys : List Point) (p : Point) → ((q : Point) → IsMember q xs → IsMember q ys) → loses rules depth xs p ≡ true → loses rules depth ys p ≡ true
loses-more rules depth xs ys p among lost =
    let b = beaten-loses rules depth xs p lost in loses-beaten rules depth ys b.0 p (among b.0 b.1) b.2

pub IsMember-losers : (rules : Rules) (depth : ℕ) (given : List Point) (o : ℕ) (p : Point) → IsMember p (losers rules depth given o) → IsMember p given × (loses rules depth given p ≡ true) × (octant rules depth p ≡ o)
unfolding losers
IsMember-losers rules depth given o p m =
    let h = IsMember-filter (λ q. loses rules depth given q && (octant rules depth q == o)) p given m in
    (h.0, and_left _ _ h.1, same_number (octant rules depth p) o (and_right (loses rules depth given p) (octant rules depth p == o) h.1))

pub losers-IsMember : (rules : Rules) (depth : ℕ) (given : List Point) (p : Point) → IsMember p given → loses rules depth given p ≡ true → IsMember p (losers rules depth given (octant rules depth p))
unfolding losers
losers-IsMember rules depth given p m e =
    IsMember-kept (λ q. loses rules depth given q && (octant rules depth q == octant rules depth p)) p given (and_both _ _ e (eq-eqb (octant rules depth p) (octant rules depth p) refl)) m

-- an octant above the greatest depth with more losers than the threshold overflows
pub overflows-from : (rules : Rules) (depth : ℕ) (given : List Point) (o : ℕ) → depth < rules.cube.depth → rules.threshold < length (losers rules depth given o) → overflows rules depth given o ≡ true
unfolding overflows
overflows-from rules depth given o above more =
    and_both _ _ (lt-ltb depth rules.cube.depth above) (lt-ltb rules.threshold (length (losers rules depth given o)) more)

pub over-open : (rules : Rules) (depth : ℕ) (was : ℕ → Bool) (given : List Point) (o : ℕ) → overflows rules depth given o ≡ true → is_open rules depth was given o ≡ true
unfolding is_open
over-open rules depth was given o e = or_right (was o) (overflows rules depth given o) e

pub distinct-losers : (rules : Rules) (depth : ℕ) (given : List Point) (o : ℕ) → HasDistinctIds given → HasDistinctIds (losers rules depth given o)
unfolding losers
distinct-losers rules depth given o once =
    HasDistinctIds-filter (λ q. loses rules depth given q && (octant rules depth q == o)) given once

-- ---- the node and the flights afterwards

pub open-at : (f : ℕ → Bool) (o : ℕ) → o < 8 → get_or (map f all_octants) o false ≡ f o
open-at f zero small = refl
open-at f (suc zero) small = refl
open-at f (suc (suc zero)) small = refl
open-at f (suc (suc (suc zero))) small = refl
open-at f (suc (suc (suc (suc zero)))) small = refl
open-at f (suc (suc (suc (suc (suc zero))))) small = refl
open-at f (suc (suc (suc (suc (suc (suc zero)))))) small = refl
open-at f (suc (suc (suc (suc (suc (suc (suc zero))))))) small = refl
open-at f (suc (suc (suc (suc (suc (suc (suc (suc o)))))))) small = absurd (omega (arith, small))

pub node_after-points : (rules : Rules) (key : VoxelKey) (n : Node) (given : List Point) → (node_after rules key n given).points ≡ kept rules key.depth (has_open n) given
unfolding node_after
node_after-points rules key n given = refl

pub node_after-open : (rules : Rules) (key : VoxelKey) (n : Node) (given : List Point) (o : ℕ) → o < 8 → has_open (node_after rules key n given) o ≡ is_open rules key.depth (has_open n) given o
unfolding node_after has_open
node_after-open rules key n given o small = open-at (is_open rules key.depth (has_open n) given) o small

-- a flight of points is one flight, of those points to that key
pub IsMember-flight : (actor : ℕ) (key : VoxelKey) (points : List Point) (g : Flight) → IsMember g (flight_of actor key points) → (g.key ≡ key) × (g.points ≡ points) × HasPoint points
IsMember-flight actor key [] g m = absurd m
IsMember-flight actor key (p ∷ points) g (inl is) = (sym (ap (λ (w : Flight). w.key) is), sym (ap (λ (w : Flight). w.points) is), (p, inl refl))
IsMember-flight actor key (p ∷ points) g (inr m) = absurd m

pub flying-there : (actor : ℕ) (key : VoxelKey) (points : List Point) (p : Point) → IsMember p points → IsFlying (flight_of actor key points) key p
flying-there actor key [] p m = absurd m
flying-there actor key (q ∷ points) p m = (record { actor = actor; key = key; points = q ∷ points }, inl refl, refl, m)

pub flown-flight : (actor : ℕ) (key : VoxelKey) (points : List Point) → flown (flight_of actor key points) ≡ points
flown-flight actor key [] = refl
flown-flight actor key (p ∷ points) = append-nil (p ∷ points)

abbrev flights_to : ℕ → VoxelKey → (ℕ → List Point) → List ℕ → List Flight
flights_to actor key part os = flat_map (λ o. flight_of actor (child key o) (part o)) os

flown-flights : (actor : ℕ) (key : VoxelKey) (part : ℕ → List Point) (os : List ℕ) → flown (flights_to actor key part os) ≡ flat_map part os
flown-flights actor key part [] = refl
flown-flights actor key part (o ∷ os) =
    flat_map-append (λ (f : Flight). f.points) (flight_of actor (child key o) (part o)) (flights_to actor key part os)
    ∙ (ap (λ (w : List Point). w ++ flown (flights_to actor key part os)) (flown-flight actor (child key o) (part o))
    ∙ ap (λ (w : List Point). part o ++ w) (flown-flights actor key part os))

-- the flights that leave carry what is sent, octant by octant
pub flights-flown : (actor : ℕ) (rules : Rules) (key : VoxelKey) (n : Node) (given : List Point) → flown (flights_after actor rules key n given) ≡ all_sent rules key.depth (has_open n) given
unfolding flights_after
flights-flown actor rules key n given = flown-flights actor key (sent rules key.depth (has_open n) given) all_octants

-- a flight that leaves goes to the child of its points' octant
pub IsMember-flights : (actor : ℕ) (rules : Rules) (key : VoxelKey) (n : Node) (given : List Point) (g : Flight) → IsMember g (flights_after actor rules key n given) → (o : ℕ) × (g.key ≡ child key o) × (g.points ≡ sent rules key.depth (has_open n) given o) × HasPoint g.points
unfolding flights_after
IsMember-flights actor rules key n given g m =
    let r = member-flat_map (λ (o : ℕ). flight_of actor (child key o) (sent rules key.depth (has_open n) given o)) g all_octants m in
    let h = IsMember-flight actor (child key r.0) (sent rules key.depth (has_open n) given r.0) g r.2 in
    (r.0, h.0, h.1, subst (λ (w : List Point). HasPoint w) (sym h.1) h.2)

-- a point that leaves flies to that child
pub sent-flies : (actor : ℕ) (rules : Rules) (key : VoxelKey) (n : Node) (given : List Point) (p : Point) → IsMember p given → leaves rules key.depth (has_open n) given p ≡ true → IsFlying (flights_after actor rules key n given) (child key (octant rules key.depth p)) p
unfolding flights_after
sent-flies actor rules key n given p m e =
    let o : ℕ = octant rules key.depth p in
    let small : octant rules key.depth p < 8 = octant_at-below rules.cube key.depth (place p) in
    let h = flying-there actor (child key (octant rules key.depth p)) (sent rules key.depth (has_open n) given (octant rules key.depth p)) p (sent-IsMember rules key.depth (has_open n) given p m e) in
    (h.0, IsMember-flat_map (λ (w : ℕ). flight_of actor (child key w) (sent rules key.depth (has_open n) given w)) (octant rules key.depth p) h.0 all_octants (octant-IsMember (octant rules key.depth p) small) h.1, h.2, h.3)
