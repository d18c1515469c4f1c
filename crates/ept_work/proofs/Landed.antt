-- A flight has arrived at the node that was taken up, and the flights that leave it are made.
use Rattle.std.proofs.Common.{◌≡◌, ◌∙◌, ℕ, zero, suc, ◌+◌, ◌<◌, ◌≤◌, Bool, true, false, inl, inr, List, [], ◌∷◌, ◌++◌, map, length, refl, sym, ap, subst, arith, slice_index}
use Rattle.std.specs.List.{flat_map, count_by}
use Rattle.std.proofs.lemmas.List.{length-append, map-append}
use Rattle.ept_point.specs.declared.point.Point.{Point}
use Rattle.ept_space.specs.declared.cube.Rules.{Rules}
use Rattle.ept_space.specs.VoxelKey.{VoxelKey, child}
use Rattle.ept_space.specs.OctreeCube.{IsCube}
use Rattle.ept_space.proofs.Family.{depth-child}
use Rattle.ept_sample.specs.Place.{AllInBox}
use Rattle.ept_sample.specs.Ids.{HasDistinctIds, in_id_order}
use Rattle.ept_sample.specs.Arrivals.{all_octants}
use Rattle.ept_sample.specs.Members.{IsMember}
use Rattle.ept_sample.proofs.Members.{member-flat_map, IsMember-flat_map}
use Rattle.ept_sample.proofs.Octants.{IsMember-octant}
use Rattle.ept_sample.proofs.IdLaws.{count_by-cons}
use Rattle.ept_core.specs.declared.flight.Flight.{Flight}
use Rattle.ept_core.specs.State.{flown}
use Rattle.ept_core.specs.Law.{HasPoint}
use Rattle.ept_core.specs.Steps.{flight_of, node_after, flights_after}
use Rattle.ept_core.specs.Flying.{EachIsReordered}
use Rattle.ept_grid.specs.Outgoing.{Leaving, points_at, all_points}
use Rattle.ept_grid.specs.Node.{Node, is_open_in}
use Rattle.ept_node.specs.Batch.{StandsFor, flights_of, given_all}
use Rattle.ept_table.specs.declared.note.Told.{Told}
use Rattle.ept_table.specs.declared.note.Carried.{Carried}
use Rattle.ept_table.specs.declared.taken.Cell.{Cell}
use Rattle.ept_table.specs.declared.taken.Taken.{Taken}
use Rattle.ept_table.specs.Taken.{points_of, is_open_at, as_node}
use Rattle.ept_table.specs.Shown.{IsSound, IsSoundFlight}
use Rattle.ept_table.specs.Steps.{carried_to, HasChild, GoesBelow, IsArrival, HasArrived}
use Rattle.ept_table.specs.View.{View}
use Rattle.ept_work.specs.Meeting.{Meets}
use Rattle.ept_work.specs.Opening.{taken_by, HasOpened}
use Rattle.ept_work.specs.Sending.{sent_to, sent_on}
use Rattle.ept_work.proofs.Inside.{leaving-inside}

pub octant-member : (o : ℕ) → o < 8 → IsMember o all_octants
octant-member zero low = inl refl
octant-member (suc zero) low = inr (inl refl)
octant-member (suc (suc zero)) low = inr (inr (inl refl))
octant-member (suc (suc (suc zero))) low = inr (inr (inr (inl refl)))
octant-member (suc (suc (suc (suc zero)))) low = inr (inr (inr (inr (inl refl))))
octant-member (suc (suc (suc (suc (suc zero))))) low = inr (inr (inr (inr (inr (inl refl)))))
octant-member (suc (suc (suc (suc (suc (suc zero)))))) low = inr (inr (inr (inr (inr (inr (inl refl))))))
octant-member (suc (suc (suc (suc (suc (suc (suc zero))))))) low = inr (inr (inr (inr (inr (inr (inr (inl refl)))))))
octant-member (suc (suc (suc (suc (suc (suc (suc (suc o)))))))) low = absurd (omega (arith, low))

pub some-points : (ps : List Point) → HasPoint ps → 0 < length ps
some-points [] some = absurd some.1
some-points (p ∷ ps) some = omega arith

count_all : (ps : List Point) → count_by (λ p. true) ps ≡ length ps
count_all [] = refl
count_all (p ∷ ps) = omega (arith, count_by-cons (λ q. true) p ps, count_all ps)

-- ---- flights that are made of points

record IsOf (actor slot : ℕ) (key : VoxelKey) (ps : List Point) (g : Carried) : Type 0 where
  slot_is : g.slot ≡ slot
  key_is : g.flight.key ≡ key
  points : g.flight.points ≡ ps
  some : HasPoint ps

carried_is : (actor slot : ℕ) (key : VoxelKey) (ps : List Point) (g : Carried) → IsMember g (carried_to actor slot key ps) → IsOf actor slot key ps g
carried_is actor slot key [] g m = absurd m
carried_is actor slot key (p ∷ ps) g (inl is) = record {
  slot_is = ap (λ (c : Carried). c.slot) (sym is);
  key_is = ap (λ (c : Carried). c.flight.key) (sym is);
  points = ap (λ (c : Carried). c.flight.points) (sym is);
  some = (p, inl refl);
}
carried_is actor slot key (p ∷ ps) g (inr m) = absurd m

carried_there : (actor slot : ℕ) (key : VoxelKey) (ps : List Point) → 0 < length ps → (g : Carried) × IsMember g (carried_to actor slot key ps) × (g.flight.key ≡ key)
carried_there actor slot key [] some = absurd (omega (arith, some))
carried_there actor slot key (p ∷ ps) some = (record { slot = slot; flight = record { actor = actor; key = key; points = p ∷ ps } }, inl refl, refl)

abbrev flights : List Carried → List Flight
flights fresh = map (λ (g : Carried). g.flight) fresh

carried_flight : (actor slot : ℕ) (key : VoxelKey) (ps : List Point) → flights (carried_to actor slot key ps) ≡ flight_of actor key ps
carried_flight actor slot key [] = refl
carried_flight actor slot key (p ∷ ps) = refl

sent_flights : (actor : ℕ) (c : Cell) (out : List Leaving) (os : List ℕ) → flights (flat_map (sent_to actor c out) os) ≡ flat_map (λ o. flight_of actor (child c.node.key o) (points_at out o)) os
sent_flights actor c out [] = refl
sent_flights actor c out (o ∷ os) =
    map-append (λ (g : Carried). g.flight) (sent_to actor c out o) (flat_map (sent_to actor c out) os)
    ∙ (ap (λ (w : List Flight). w ++ flights (flat_map (sent_to actor c out) os)) (carried_flight actor (slice_index c.children o) (child c.node.key o) (points_at out o))
    ∙ ap (λ (w : List Flight). flight_of actor (child c.node.key o) (points_at out o) ++ w) (sent_flights actor c out os))

flown_carried : (actor slot : ℕ) (key : VoxelKey) (ps : List Point) (rest : List Carried) → length (flown (flights (carried_to actor slot key ps ++ rest))) ≡ length ps + length (flown (flights rest))
flown_carried actor slot key [] rest = omega arith
flown_carried actor slot key (p ∷ ps) rest = length-append (p ∷ ps) (flown (flights rest))

-- how many points leave for these octants
many_of : List Leaving → List ℕ → ℕ
many_of out [] = 0
many_of out (o ∷ os) = length (points_at out o) + many_of out os

sent_many : (actor : ℕ) (c : Cell) (out : List Leaving) (os : List ℕ) → length (flown (flights (flat_map (sent_to actor c out) os))) ≡ many_of out os
unfolding many_of
sent_many actor c out [] = refl
sent_many actor c out (o ∷ os) =
    omega (arith, flown_carried actor (slice_index c.children o) (child c.node.key o) (points_at out o) (flat_map (sent_to actor c out) os), sent_many actor c out os)

all_many : (out : List Leaving) → length out ≡ 8 → length (all_points out) ≡ many_of out all_octants
unfolding many_of
all_many [] eight = absurd (omega (arith, eight))
all_many (a ∷ []) eight = absurd (omega (arith, eight))
all_many (a ∷ b ∷ []) eight = absurd (omega (arith, eight))
all_many (a ∷ b ∷ c ∷ []) eight = absurd (omega (arith, eight))
all_many (a ∷ b ∷ c ∷ d ∷ []) eight = absurd (omega (arith, eight))
all_many (a ∷ b ∷ c ∷ d ∷ e ∷ []) eight = absurd (omega (arith, eight))
all_many (a ∷ b ∷ c ∷ d ∷ e ∷ f ∷ []) eight = absurd (omega (arith, eight))
all_many (a ∷ b ∷ c ∷ d ∷ e ∷ f ∷ g ∷ []) eight = absurd (omega (arith, eight))
all_many (a ∷ b ∷ c ∷ d ∷ e ∷ f ∷ g ∷ h ∷ []) eight =
    omega (arith, length-append a.points (all_points (b ∷ c ∷ d ∷ e ∷ f ∷ g ∷ h ∷ [])), length-append b.points (all_points (c ∷ d ∷ e ∷ f ∷ g ∷ h ∷ [])), length-append c.points (all_points (d ∷ e ∷ f ∷ g ∷ h ∷ [])), length-append d.points (all_points (e ∷ f ∷ g ∷ h ∷ [])), length-append e.points (all_points (f ∷ g ∷ h ∷ [])), length-append f.points (all_points (g ∷ h ∷ [])), length-append g.points (all_points (h ∷ [])), length-append h.points (all_points []))
all_many (a ∷ b ∷ c ∷ d ∷ e ∷ f ∷ g ∷ h ∷ i ∷ out) eight = absurd (omega (arith, eight))

-- ---- the arrival

module _ (told : Told) (w : View) (x : Taken) (old : Node) (f : Flight) (c : Cell) (out : List Leaving) (full : Bool)
    (flight : IsSoundFlight told f) (old_key : old.key ≡ f.key) (old_rules : old.rules ≡ told.rules)
    (many : length (points_of x) ≡ length old.points) (points : told.tells ≡ true → points_of x ≡ old.points) (open_as : (o : ℕ) → o < 8 → is_open_at x o ≡ is_open_in old o)
    (stands : told.tells ≡ true → StandsFor (as_node x) old) (old_inside : AllInBox old.rules.cube old.key old.points)
    (new_inside : AllInBox c.node.rules.cube c.node.key c.node.points) (meets : Meets old c.node f.points out)
    (opened : HasOpened told w c 8 full) (held_is : taken_by w ≡ x) (cube : IsCube told.rules.cube) (eight : length out ≡ 8) where
  abbrev fresh : List Carried
  fresh = sent_on f.actor c out

  new_key : c.node.key ≡ f.key
  new_key = meets.key ∙ old_key

  new_rules : c.node.rules ≡ told.rules
  new_rules = meets.rules ∙ old_rules

  deeper : old.key.depth < old.rules.cube.depth → c.node.key.depth < told.rules.cube.depth
  deeper above = omega (arith, above, ap (λ (k : VoxelKey). k.depth) meets.key, ap (λ (r : Rules). r.cube.depth) old_rules)

  sound : IsSound told c
  sound = record {
    rules = new_rules;
    low = omega (arith, flight.low, ap (λ (k : VoxelKey). k.depth) new_key);
    inside = subst (λ (r : Rules). AllInBox r.cube c.node.key c.node.points) new_rules new_inside;
    deepest = λ o low is. deeper ((meets.sends o low).above is);
  }

  arriving : AllInBox old.rules.cube old.key f.points
  arriving = subst (λ (r : Rules). AllInBox r.cube old.key f.points) (sym old_rules) (subst (λ (k : VoxelKey). AllInBox told.rules.cube k f.points) (sym old_key) flight.inside)

  old_cube : IsCube old.rules.cube
  old_cube = subst (λ (r : Rules). IsCube r.cube) (sym old_rules) cube

  -- an octant for which points leave is open
  open_to : (o : ℕ) → o < 8 → HasPoint (points_at out o) → is_open_in c.node o ≡ true
  open_to o low some = (
      let s = meets.sends o low in
      s.if_open (subst (λ (n : ℕ). 0 < n) (ap length s.grows) (some-points (points_at out o) some)))

  below : (g : Carried) → IsMember g fresh → GoesBelow told c g
  below g m =
      let from = member-flat_map (sent_to f.actor c out) g all_octants m in
      let o = from.0 in
      let low : o < 8 = IsMember-octant o from.1 in
      let is = carried_is f.actor (slice_index c.children o) (child c.node.key o) (points_at out o) g from.2 in
      let opens = open_to o low is.some in
      let above = (meets.sends o low).above opens in
      let inside = leaving-inside old c.node f.points out meets old_inside arriving old_cube o low above in
      record {
        octant = o;
        low = low;
        opened = opens;
        key = is.key_is;
        slot = is.slot_is;
        sound = record {
          some = subst (λ (ps : List Point). HasPoint ps) (sym is.points) is.some;
          low = omega (arith, ap (λ (k : VoxelKey). k.depth) is.key_is, depth-child c.node.key o, deeper above);
          inside = subst (λ (ps : List Point). AllInBox told.rules.cube g.flight.key ps) (sym is.points) (subst (λ (k : VoxelKey). AllInBox told.rules.cube k (points_at out o)) (sym is.key_is) (subst (λ (k : VoxelKey). AllInBox told.rules.cube (child k o) (points_at out o)) (sym meets.key) (subst (λ (r : Rules). AllInBox r.cube (child old.key o) (points_at out o)) old_rules inside)));
        };
      }

  fills : (o : ℕ) → o < 8 → is_open_at x o ≡ false → is_open_in c.node o ≡ true → (g : Carried) × IsMember g fresh × (g.flight.key ≡ child c.node.key o)
  fills o low was is =
      let s = meets.sends o low in
      let some : 0 < length (points_at out o) = subst (λ (n : ℕ). 0 < n) (ap length (sym s.grows)) (s.if_opens (sym (open_as o low) ∙ was) is) in
      let g = carried_there f.actor (slice_index c.children o) (child c.node.key o) (points_at out o) some in
      (g.0, IsMember-flat_map (sent_to f.actor c out) o g.0 all_octants (octant-member o low) g.1, g.2)

  adds_up : length f.points + length (points_of x) ≡ length c.node.points + length (flown (flights fresh))
  adds_up = omega (arith, meets.together (λ p. true), count_all c.node.points, count_all (all_points out), count_all f.points, count_all old.points, many, sent_many f.actor c out all_octants, all_many out eight)

  exact : told.tells ≡ true → HasDistinctIds (f.points ++ points_of x) → IsArrival told x f c fresh
  exact tells different =
      let a = meets.arrives (subst (λ (ps : List Point). HasDistinctIds (f.points ++ ps)) (points tells) different) in
      let given : given_all old f.points ≡ in_id_order (f.points ++ points_of x) = ap (λ (ps : List Point). in_id_order (f.points ++ ps)) (sym (points tells)) in
      record {
        node = a.node (as_node x) (stands tells) ∙ (ap (λ (ps : List Point). node_after old.rules old.key (as_node x) ps) given ∙ (ap (λ (r : Rules). node_after r old.key (as_node x) (in_id_order (f.points ++ points_of x))) old_rules ∙ ap (λ (k : VoxelKey). node_after told.rules k (as_node x) (in_id_order (f.points ++ points_of x))) old_key));
        flights = subst (λ (gs : List Flight). EachIsReordered (flights_after f.actor told.rules f.key (as_node x) (in_id_order (f.points ++ points_of x))) gs)
            (sym (sent_flights f.actor c out all_octants ∙ ap (λ (k : VoxelKey). flat_map (λ o. flight_of f.actor (child k o) (points_at out o)) all_octants) meets.key))
            (subst (λ (k : VoxelKey). EachIsReordered (flights_after f.actor told.rules k (as_node x) (in_id_order (f.points ++ points_of x))) (flights_of f.actor old.key out)) old_key
            (subst (λ (r : Rules). EachIsReordered (flights_after f.actor r old.key (as_node x) (in_id_order (f.points ++ points_of x))) (flights_of f.actor old.key out)) old_rules
            (subst (λ (ps : List Point). EachIsReordered (flights_after f.actor old.rules old.key (as_node x) ps) (flights_of f.actor old.key out)) given (a.flights (as_node x) f.actor (stands tells)))));
      }

  pub has-arrived : HasArrived told w x f c fresh
  has-arrived = record {
    key = new_key;
    sound = sound;
    stays_open = λ o low was. (meets.sends o low).stays_open (sym (open_as o low) ∙ was);
    children = λ o low. subst (λ (y : Taken). HasChild w y c o) held_is (opened.children o low);
    uses_draws = λ d m. (let r = opened.draws d m in (r.1, r.2));
    goes_below = below;
    fills = fills;
    adds_up = adds_up;
    exact = exact;
  }

  -- they go to slots of the table
  pub fresh-within : (g : Carried) → IsMember g fresh → g.slot ≤ told.most
  fresh-within g m =
      let from = member-flat_map (sent_to f.actor c out) g all_octants m in
      let is = carried_is f.actor (slice_index c.children from.0) (child c.node.key from.0) (points_at out from.0) g from.2 in
      omega (arith, is.slot_is, opened.within from.0 (IsMember-octant from.0 from.1))
