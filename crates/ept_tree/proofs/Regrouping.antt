-- A flight split into its points.
use Rattle.std.proofs.Common.{◌≡◌, ◌∙◌, ℕ, ◌⊎◌, inl, inr, List, [], ◌∷◌, ◌++◌, map, refl, sym, ap, subst}
use Rattle.std.specs.List.{flat_map}
use Rattle.std.specs.List.Sorted.{IsPermutation}
use Rattle.std.proofs.lemmas.List.Concat.{flat_map-append}
use Rattle.std.proofs.lemmas.List.Sorted.{IsPermutation-refl, IsPermutation-append_right}
use Rattle.ept_point.specs.declared.point.Point.{Point}
use Rattle.ept_space.specs.VoxelKey.{VoxelKey, child}
use Rattle.ept_sample.specs.Members.{IsMember}
use Rattle.ept_sample.proofs.Members.{IsMember-left, IsMember-right, IsMember-append, IsMember-map, member-map, IsMember-flat_map, member-flat_map}
use Rattle.ept_core.specs.declared.flight.Flight.{Flight}
use Rattle.ept_core.specs.State.{IsFlying}
use Rattle.ept_core.specs.Law.{HasPoint}
use Rattle.ept_core.proofs.Held.{flown}
use Rattle.ept_core.proofs.Regrouping.{CarryTheSame}
use Rattle.ept_core.specs.Steps as core
use Rattle.ept_core.proofs.Leaving.{IsMember-flight, flying-there, flown-flight}
use Rattle.ept_tree.specs.declared.arrival.Arrival.{Arrival}
use Rattle.ept_tree.specs.Sending.{arrivals_to}
use Rattle.ept_tree.specs.Tree.{flight_of}

-- ---- flights of some points, and of one point each

flying-left : (xs ys : List Flight) (key : VoxelKey) (p : Point) → IsFlying xs key p → IsFlying (xs ++ ys) key p
flying-left xs ys key p (f, m, at, q) = (f, IsMember-left f xs ys m, at, q)

flying-right : (xs ys : List Flight) (key : VoxelKey) (p : Point) → IsFlying ys key p → IsFlying (xs ++ ys) key p
flying-right xs ys key p (f, m, at, q) = (f, IsMember-right f xs ys m, at, q)

flying-append : (xs ys : List Flight) (key : VoxelKey) (p : Point) → IsFlying (xs ++ ys) key p → IsFlying xs key p ⊎ IsFlying ys key p
flying-append xs ys key p (f, m, at, q) =
    elim (IsMember-append f xs ys m) [ inl l ↦ inl (f, l, at, q) | inr r ↦ inr (f, r, at, q) ]

-- other flights before them change nothing
pub behind-others : (others xs ys : List Flight) → ((f : Flight) → IsMember f others → HasPoint f.points) → CarryTheSame xs ys → CarryTheSame (others ++ xs) (others ++ ys)
behind-others others xs ys full same = record {
  there = λ key p f. elim (flying-append others xs key p f) [
    | inl l ↦ flying-left others ys key p l
    | inr r ↦ flying-right others ys key p (same.there key p r)
  ];
  back = λ key p f. elim (flying-append others ys key p f) [
    | inl l ↦ flying-left others xs key p l
    | inr r ↦ flying-right others xs key p (same.back key p r)
  ];
  carried = subst (λ (w : List Point). IsPermutation w (flown (others ++ ys))) (sym (flat_map-append (λ (f : Flight). f.points) others xs)) (subst (λ (w : List Point). IsPermutation (flown others ++ flown xs) w) (sym (flat_map-append (λ (f : Flight). f.points) others ys)) (IsPermutation-append_right (flown others) (flown xs) (flown ys) same.carried));
  flying = λ f m. elim (IsMember-append f others ys m) [ inl l ↦ full f l | inr r ↦ same.flying f r ];
}

-- points on their way are flights that are not empty
pub one-each : (arrivals : List Arrival) (f : Flight) → IsMember f (map flight_of arrivals) → HasPoint f.points
one-each arrivals f m =
    let r = member-map flight_of f arrivals m in
    (r.0.point, subst (λ (w : Flight). IsMember r.0.point w.points) r.2 (inl refl))

module _ (key : VoxelKey) (part : ℕ → List Point) (os : List ℕ) where
  abbrev pub whole : List Flight
  whole = flat_map (λ o. core.flight_of 0 (child key o) (part o)) os

  abbrev pub split : List Arrival
  split = flat_map (λ o. arrivals_to (child key o) (part o)) os

  abbrev to : ℕ → Point → Arrival
  to o p = record { key = child key o; point = p }

  split_there : (k : VoxelKey) (p : Point) → IsFlying whole k p → IsFlying (map flight_of split) k p
  split_there k p (f, m, at, q) =
      let r = member-flat_map (λ (o : ℕ). core.flight_of 0 (child key o) (part o)) f os m in
      let h = IsMember-flight 0 (child key r.0) (part r.0) f r.2 in
      let mine : IsMember p (part r.0) = subst (λ (w : List Point). IsMember p w) h.1 q in
      let sent : IsMember (to r.0 p) (arrivals_to (child key r.0) (part r.0)) = IsMember-map (to r.0) p (part r.0) mine in
      let among : IsMember (to r.0 p) split = IsMember-flat_map (λ (o : ℕ). arrivals_to (child key o) (part o)) r.0 (to r.0 p) os r.1 sent in
      (flight_of (to r.0 p), IsMember-map flight_of (to r.0 p) split among, sym h.0 ∙ at, inl refl)

  split_back : (k : VoxelKey) (p : Point) → IsFlying (map flight_of split) k p → IsFlying whole k p
  split_back k p (f, m, at, q) =
      let a = member-map flight_of f split m in
      let r = member-flat_map (λ (o : ℕ). arrivals_to (child key o) (part o)) a.0 os a.1 in
      let s = member-map (to r.0) a.0 (part r.0) r.2 in
      let one : IsMember p (s.0 ∷ []) = subst (λ (w : Flight). IsMember p w.points) (sym (ap flight_of s.2 ∙ a.2)) q in
      let same : s.0 ≡ p = elim one [ inl is ↦ is | inr none ↦ absurd none ] in
      let at_child : child key r.0 ≡ k = ap (λ (w : Flight). w.key) (ap flight_of s.2 ∙ a.2) ∙ at in
      let h = flying-there 0 (child key r.0) (part r.0) p (subst (λ (w : Point). IsMember w (part r.0)) same s.1) in
      (h.0, IsMember-flat_map (λ (o : ℕ). core.flight_of 0 (child key o) (part o)) r.0 h.0 os r.1 h.1, h.2 ∙ at_child, h.3)

flown-one : (k : VoxelKey) (xs : List Point) → flown (map flight_of (arrivals_to k xs)) ≡ xs
flown-one k [] = refl
flown-one k (p ∷ xs) = ap (λ (w : List Point). p ∷ w) (flown-one k xs)

map-both : (xs ys : List Arrival) → map flight_of (xs ++ ys) ≡ map flight_of xs ++ map flight_of ys
map-both [] ys = refl
map-both (x ∷ xs) ys = ap (λ (w : List Flight). flight_of x ∷ w) (map-both xs ys)

pub flights-append : (xs ys : List Arrival) → map flight_of (xs ++ ys) ≡ map flight_of xs ++ map flight_of ys
flights-append = map-both

flown-both : (key : VoxelKey) (part : ℕ → List Point) (os : List ℕ) → flown (whole key part os) ≡ flown (map flight_of (split key part os))
flown-both key part [] = refl
flown-both key part (o ∷ os) =
    flat_map-append (λ (f : Flight). f.points) (core.flight_of 0 (child key o) (part o)) (whole key part os)
    ∙ (ap (λ (w : List Point). w ++ flown (whole key part os)) (flown-flight 0 (child key o) (part o) ∙ sym (flown-one (child key o) (part o)))
    ∙ (ap (λ (w : List Point). flown (map flight_of (arrivals_to (child key o) (part o))) ++ w) (flown-both key part os)
    ∙ (sym (flat_map-append (λ (f : Flight). f.points) (map flight_of (arrivals_to (child key o) (part o))) (map flight_of (split key part os)))
    ∙ ap flown (sym (map-both (arrivals_to (child key o) (part o)) (split key part os))))))

-- flights to the octants of a key, and their points one by one
pub split-same : (key : VoxelKey) (part : ℕ → List Point) (os : List ℕ) → CarryTheSame (whole key part os) (map flight_of (split key part os))
split-same key part os = record {
  there = split_there key part os;
  back = split_back key part os;
  carried = subst (λ (w : List Point). IsPermutation (flown (whole key part os)) w) (flown-both key part os) (IsPermutation-refl (flown (whole key part os)));
  flying = one-each (split key part os);
}
