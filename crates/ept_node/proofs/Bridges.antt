-- A node as one of the machine of events, and what leaves it.
use Rattle.std.proofs.Common.{◌≡◌, ◌∙◌, ◌⊎◌, ℕ, zero, suc, ◌+◌, ◌<◌, Bool, true, false, not, ◌&&◌, nat_lt, inl, inr, List, [], ◌∷◌, ◌++◌, map, refl, sym, ap, subst, arith, length}
use Rattle.std.specs.Prelude.{All}
use Rattle.std.specs.List.{flat_map}
use Rattle.std.specs.List.Sorted.{IsPermutation}
use Rattle.std.proofs.lemmas.List.{append-nil, append_assoc, length-append}
use Rattle.std.proofs.lemmas.Bool.{false≢true}
use Rattle.std.proofs.lemmas.Bool.Decides.{nat_tests}
use Rattle.std.proofs.lemmas.List.Elements.{All-nil, All-append}
use Rattle.std.proofs.lemmas.List.Sorted.{length_permutation}
use Rattle.ept_point.specs.declared.point.Point.{Point}
use Rattle.ept_space.specs.declared.cube.Rules.{Rules}
use Rattle.ept_space.specs.VoxelKey.{VoxelKey, child}
use Rattle.ept_sample.specs.Members.{IsMember}
use Rattle.ept_sample.specs.Place.{place}
use Rattle.ept_space.specs.OctreeCube.{InBox}
use Rattle.ept_sample.specs.Arrivals.{octant, losers, overflows, sent, is_open, all_octants}
use Rattle.ept_sample.specs.Sampling.{sampling, is_node}
use Rattle.ept_sample.proofs.Choices.{either}
use Rattle.ept_sample.proofs.Octants.{IsMember-octant}
use Rattle.ept_grid.specs.Mask.{opened}
use Rattle.ept_grid.specs.Outgoing.{Leaving, points_at}
use Rattle.ept_grid.specs.Node.{Node, is_open_in, SendsOn, IsNodeOf, IsInIdOrder}
use Rattle.ept_core.specs.declared.node.Node as core
use Rattle.ept_core.specs.declared.flight.Flight.{Flight}
use Rattle.ept_core.specs.State.{blank, has_open}
use Rattle.ept_core.specs.Steps.{flight_of, node_after, flights_after, resumed_node}
use Rattle.ept_core.specs.Flying.{EachIsReordered}
use Rattle.ept_core.proofs.Leaving.{open-at}
use Rattle.ept_grid.specs.Tile.{IsTile, is_overfull}
use Rattle.ept_node.specs.Shown.{bare, empty_node}
use Rattle.ept_node.specs.Batch.{given_all, TakesInAll, HasTaken, StandsFor, seen, flights_of, Arrives}
use Rattle.ept_node.proofs.Batches.{open-alike, kept-alike, sent-alike}

-- ---- no octant is open

closed : (o : ℕ) → o < 8 → has_open blank o ≡ opened 0 o
unfolding has_open opened
closed zero low = refl
closed (suc zero) low = refl
closed (suc (suc zero)) low = refl
closed (suc (suc (suc zero))) low = refl
closed (suc (suc (suc (suc zero)))) low = refl
closed (suc (suc (suc (suc (suc zero))))) low = refl
closed (suc (suc (suc (suc (suc (suc zero)))))) low = refl
closed (suc (suc (suc (suc (suc (suc (suc zero))))))) low = refl
closed (suc (suc (suc (suc (suc (suc (suc (suc o)))))))) low = absurd (omega (arith, low))

shut : (o : ℕ) → has_open blank o ≡ false
unfolding has_open
shut o = refl

-- if a key is no node, the machine has what a node without points represents
pub absent-stands : (key : VoxelKey) (rules : Rules) → StandsFor blank (empty_node key rules)
absent-stands key rules = record { points = refl; opens = closed }

pub seen-stands : (g : Node) → StandsFor (seen g) g
unfolding has_open
seen-stands g = record { points = refl; opens = λ o low. open-at (opened g.mask) o low }

-- ---- what leaves

still_sends : (old : Node) → (old.key.depth ≡ old.rules.cube.depth → old.mask ≡ 0) → old.key.depth < old.rules.cube.depth + 1 → (o : ℕ) → o < 8 → opened old.mask o ≡ true → old.key.depth < old.rules.cube.depth
still_sends old deepest low o small is =
    above (λ e. false≢true (sym (shut o) ∙ (closed o small ∙ (ap (λ (m : ℕ). opened m o) (sym (deepest e)) ∙ is))))
  where
    above : (old.key.depth ≡ old.rules.cube.depth → ⊥) → old.key.depth < old.rules.cube.depth
    above apart = omega (arith, low, apart)

-- while nothing has arrived nothing leaves
pub sends-none : (old mid : Node) (before between : List Point) → mid.key ≡ old.key → mid.rules ≡ old.rules → mid.mask ≡ old.mask → between ≡ before → (old.key.depth ≡ old.rules.cube.depth → old.mask ≡ 0) → old.key.depth < old.rules.cube.depth + 1 → (o : ℕ) → o < 8 → SendsOn (bare old) (bare mid) o before between
sends-none old mid before between key rules mask same deepest low o small = record {
  added = [];
  grows = same ∙ sym (append-nil before);
  in_octant = All-nil (λ q. octant old.rules old.key.depth q ≡ o);
  stays_open = λ is. ap (λ (m : ℕ). opened m o) mask ∙ is;
  if_open = λ some. absurd (omega (arith, some));
  if_opens = λ isn't is. absurd (false≢true (sym isn't ∙ (ap (λ (m : ℕ). opened m o) (sym mask) ∙ is)));
  above = λ is. still_sends old deepest low o small (ap (λ (m : ℕ). opened m o) (sym mask) ∙ is);
}

module _ (old mid new : Node) (key : mid.key ≡ old.key) (rules : mid.rules ≡ old.rules) (o : ℕ) (before between after : List Point) (first : SendsOn (bare old) (bare mid) o before between) (second : SendsOn mid new o between after) where
  either_open : (opened mid.mask o ≡ true) ⊎ (opened mid.mask o ≡ false) → opened old.mask o ≡ false → opened new.mask o ≡ true → 0 < length (first.added ++ second.added)
  either_open (inl is) was now = omega (arith, first.if_opens was is, length-append first.added second.added)
  either_open (inr isn't) was now = omega (arith, second.if_opens isn't now, length-append first.added second.added)

  open_if : (n : ℕ) → length first.added ≡ n → 0 < length (first.added ++ second.added) → opened new.mask o ≡ true
  open_if zero none some = second.if_open (omega (arith, none, some, length-append first.added second.added))
  open_if (suc n) more some = second.stays_open (first.if_open (omega (arith, more)))

  -- what leaves with one more point
  pub sends-more : SendsOn (bare old) (bare new) o before after
  sends-more = record {
    added = first.added ++ second.added;
    grows = second.grows ∙ (ap (λ (w : List Point). w ++ second.added) first.grows ∙ append_assoc before first.added second.added);
    in_octant = All-append (λ q. octant old.rules old.key.depth q ≡ o) first.added second.added first.in_octant
        (subst (λ (r : Rules). All (λ q. octant r old.key.depth q ≡ o) second.added) rules (subst (λ (k : VoxelKey). All (λ q. octant mid.rules k.depth q ≡ o) second.added) key second.in_octant));
    stays_open = λ is. second.stays_open (first.stays_open is);
    if_open = λ some. open_if (length first.added) refl some;
    if_opens = λ was now. either_open (either (opened mid.mask o)) was now;
    above = λ is. subst (λ (r : Rules). old.key.depth < r.cube.depth) rules (subst (λ (k : VoxelKey). k.depth < mid.rules.cube.depth) key (second.above is));
  }

-- ---- the machine's arrival

map_alike : {X : Type 0} (f g : ℕ → X) (os : List ℕ) → ((o : ℕ) → IsMember o os → f o ≡ g o) → map f os ≡ map g os
map_alike f g [] same = refl
map_alike {X} f g (o ∷ os) same =
    ap (λ (x : X). x ∷ map f os) (same o (inl refl)) ∙ ap (λ (w : List X). g o ∷ w) (map_alike f g os (λ k m. same k (inr m)))

flight_same : (actor : ℕ) (key : VoxelKey) (xs ys : List Point) → IsPermutation xs ys → EachIsReordered (flight_of actor key xs) (flight_of actor key ys)
flight_same actor key [] [] same = tt
flight_same actor key [] (y ∷ ys) same = absurd (omega (arith, length_permutation [] (y ∷ ys) same))
flight_same actor key (x ∷ xs) [] same = absurd (omega (arith, length_permutation (x ∷ xs) [] same))
flight_same actor key (x ∷ xs) (y ∷ ys) same = (record { actor = refl; key = refl; points = same }, tt)

each_append : (fs gs hs ks : List Flight) → EachIsReordered fs gs → EachIsReordered hs ks → EachIsReordered (fs ++ hs) (gs ++ ks)
each_append [] [] hs ks first second = second
each_append [] (g ∷ gs) hs ks first second = absurd first
each_append (f ∷ fs) [] hs ks first second = absurd first
each_append (f ∷ fs) (g ∷ gs) hs ks first second = (first.0, each_append fs gs hs ks first.1 second)

each_octant : (f g : ℕ → List Flight) (os : List ℕ) → ((o : ℕ) → IsMember o os → EachIsReordered (f o) (g o)) → EachIsReordered (flat_map f os) (flat_map g os)
each_octant f g [] same = tt
each_octant f g (o ∷ os) same =
    each_append (f o) (g o) (flat_map f os) (flat_map g os) (same o (inl refl)) (each_octant f g os (λ k m. same k (inr m)))

module _ (old new : Node) (arriving : List Point) (before after : List Leaving) (taken : TakesInAll old new arriving before after) where
  abbrev given : List Point
  given = given_all old arriving

  node_is : (n : core.Node) → StandsFor n old → seen new ≡ node_after old.rules old.key n given
  unfolding node_after
  node_is n stands = λ i. record {
    points = (taken.points ∙ sym (kept-alike old.rules old.key.depth (has_open n) (is_open_in old) stands.opens given)) i;
    opened = map_alike (opened new.mask) (is_open old.rules old.key.depth (has_open n) given) all_octants (λ o m. taken.opens o (IsMember-octant o m) ∙ sym (open-alike old.rules old.key.depth (has_open n) (is_open_in old) stands.opens given o (IsMember-octant o m))) i;
    is_resident = true;
  }

  module _ (empty : (o : ℕ) → o < 8 → points_at before o ≡ []) where
    sent_is : (n : core.Node) → StandsFor n old → (o : ℕ) → o < 8 → IsPermutation (sent old.rules old.key.depth (has_open n) given o) (points_at after o)
    sent_is n stands o low =
        subst (λ (w : List Point). IsPermutation w (points_at after o)) (ap (λ (w : List Point). w ++ sent old.rules old.key.depth (is_open_in old) given o) (empty o low) ∙ sym (sent-alike old.rules old.key.depth (has_open n) (is_open_in old) stands.opens given o)) (taken.leave o low)

    flights_are : (n : core.Node) (actor : ℕ) → StandsFor n old → EachIsReordered (flights_after actor old.rules old.key n given) (flights_of actor old.key after)
    unfolding flights_after
    flights_are n actor stands =
        each_octant (λ o. flight_of actor (child old.key o) (sent old.rules old.key.depth (has_open n) given o)) (λ o. flight_of actor (child old.key o) (points_at after o)) all_octants
        (λ o m. flight_same actor (child old.key o) (sent old.rules old.key.depth (has_open n) given o) (points_at after o) (sent_is n stands o (IsMember-octant o m)))

    pub taken-arrives : Arrives old new arriving after
    taken-arrives = record { node = node_is; flights = flights_are }

-- the node of a sampling at its key
pub filled-resumed : (rules : Rules) (all : List Point) (key : VoxelKey) (mask : ℕ) (points : List Point) (node : Node) → IsNodeOf key rules mask points node → points ≡ sampling rules all key → ((o : ℕ) → o < 8 → opened mask o ≡ is_node rules all (child key o)) → seen node ≡ resumed_node rules all true key
unfolding resumed_node
filled-resumed rules all key mask points node of same open_so = λ i. record {
  points = (of.points ∙ same) i;
  opened = map_alike (opened node.mask) (λ o. is_node rules all (child key o)) all_octants (λ o m. ap (λ (n : ℕ). opened n o) of.mask ∙ open_so o (IsMember-octant o m)) i;
  is_resident = true;
}

pub arrives-from : (old new : Node) (points : List Point) (before after : List Leaving) → HasTaken old new points before after → 0 < length points → ((o : ℕ) → o < 8 → points_at before o ≡ []) → Arrives old new points after
arrives-from old new [] before after taken some empty = absurd (omega (arith, some))
arrives-from old new (p ∷ points) before after taken some empty = taken-arrives old new (p ∷ points) before after taken empty

-- a list without points is in id order
pub none-in-order : IsInIdOrder []
unfolding IsInIdOrder
none-in-order = tt

shut_and : (a b c : Bool) → c ≡ false → (b && (a && c)) ≡ false
shut_and true true c is = is
shut_and true false c is = refl
shut_and false true c is = refl
shut_and false false c is = refl

none_more : (threshold : ℕ) → nat_lt threshold 0 ≡ false
none_more threshold = grind (arith, nat_tests)

none_overfull : (key : VoxelKey) (rules : Rules) (o : ℕ) → is_overfull rules key.depth 0 [] o ≡ false
unfolding overflows losers
none_overfull key rules o =
    shut_and (nat_lt key.depth rules.cube.depth) (not (opened 0 o)) (nat_lt rules.threshold 0) (none_more rules.threshold)

no_tile : (key : VoxelKey) (rules : Rules) → IsTile key rules 0 []
no_tile key rules = record {
  inside = All-nil (λ q. InBox rules.cube key (place q));
  no_open_loser = refl;
  none_overfull = λ o low. none_overfull key rules o;
  not_deep = λ e. refl;
}

-- no points are the tile of a node with no octant open
pub empty-tile : (g : Node) → g.points ≡ [] → g.mask ≡ 0 → IsTile g.key g.rules g.mask g.points
empty-tile g none shut =
    subst (λ (w : List Point). IsTile g.key g.rules g.mask w) (sym none) (subst (λ (m : ℕ). IsTile g.key g.rules m []) (sym shut) (no_tile g.key g.rules))
