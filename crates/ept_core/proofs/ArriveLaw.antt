-- A flight that arrives keeps the law.
use Rattle.std.proofs.Common.{◌≡◌, ◌∙◌, ℕ, ◌≤◌, ◌<◌, Bool, true, false, ◌⊎◌, inl, inr, List, ◌∷◌, ◌++◌, refl, sym, ap, subst, arith, length, append_assoc}
use Rattle.std.specs.List.Sorted.{IsPermutation}
use Rattle.std.proofs.lemmas.List.Concat.{flat_map-append}
use Rattle.std.proofs.lemmas.List.Sorted.{IsPermutation-sym, IsPermutation-trans, IsPermutation-append_comm, IsPermutation-append_left, IsPermutation-append_right}
use Rattle.ept_point.specs.declared.point.Point.{Point}
use Rattle.ept_point.specs.Order.{IsAscending}
use Rattle.ept_space.specs.declared.cube.Rules.{Rules}
use Rattle.ept_space.specs.VoxelKey.{VoxelKey, root, same_key, child, is_within, is_below}
use Rattle.ept_space.specs.OctreeCube.{InBox}
use Rattle.ept_space.proofs.Family.{parent-child, depth-child}
use Rattle.ept_space.proofs.Within.{same_key-true, is_within-self, is_within-trans, is_within-child, depth-within, is_within-level, is_below-from, is_within-above}
use Rattle.ept_space.proofs.PlaceKeys.{octant_at-below, InBox-child}
use Rattle.ept_sample.specs.Place.{place}
use Rattle.ept_sample.specs.Ids.{comes_before, HasDistinctIds}
use Rattle.ept_sample.specs.Arrivals.{loses, octant, losers, overflows, is_open, leaves, kept, all_sent}
use Rattle.ept_sample.specs.Members.{IsMember}
use Rattle.ept_sample.proofs.Members.{IsMember-left, IsMember-right, IsMember-append}
use Rattle.ept_sample.proofs.Choices.{either, not_both}
use Rattle.ept_sample.proofs.Ascending.{IsRising}
use Rattle.ept_sample.proofs.KeyOrder.{AllPairs-IsRising}
use Rattle.ept_sample.proofs.IdLaws.{HasDistinctIds-IsPermutation, IsMember-in_id_order, in_id_order-IsMember, IsPermutation-in_id_order, IsRising-in_id_order, IsAscending-IsRising}
use Rattle.ept_sample.proofs.ArrivalLaws.{best, leaves-loses, leaves-open, leaves-from, IsMember-sent, IsMember-stays, stays-IsMember, loses-kept, overflows-depth, overflows-more, IsRising-kept}
use Rattle.ept_sample.proofs.SamplingLaws.{depth-side, below_or_at}
use Rattle.ept_sample.proofs.Parts.{IsPermutation-parts}
use Rattle.ept_core.specs.declared.flight.Flight.{Flight}
use Rattle.ept_core.specs.declared.node.Node.{Node}
use Rattle.ept_core.specs.State.{State, Entry, node_at, has_open, keys_of, held, IsHeld, IsHeldWithin, IsFlying}
use Rattle.ept_core.specs.Law.{IsPlaced, HasPassed, HoldsMore, IsSettled, HasBottom, HasPoint, IsRooted, IsTidy, KeepsLaw}
use Rattle.ept_core.specs.Steps.{gathered, node_after, flights_after, arrived}
use Rattle.ept_core.proofs.NodeMap.{points_of, without, IsPermutation-past, points_of-split, points_of-with, node_at-here, node_at-other, same_key-self, rising-with, has_node-with, IsMember-with}
use Rattle.ept_core.proofs.Held.{flown, HasDistinctIds-left, distinct-held, keys-rise}
use Rattle.ept_core.proofs.Leaving.{was-open, open-cases, closed-fits, fits-few, losers-kept, loses-more, IsMember-losers, distinct-losers, node_after-points, node_after-open, flights-flown, IsMember-flights, sent-flies}

-- ---- joined lists in another order

-- the flight's points, moved to the start together with the node's
brought : (N W A F B : List Point) → IsPermutation ((N ++ W) ++ (A ++ (F ++ B))) ((F ++ N) ++ (W ++ (A ++ B)))
brought N W A F B =
    let P : List Point → List Point → Type 0 = λ a b. IsPermutation a b in
    let one : IsPermutation (W ++ (A ++ (F ++ B))) (F ++ (W ++ (A ++ B))) =
    IsPermutation-trans (W ++ (A ++ (F ++ B))) (W ++ (F ++ (A ++ B))) (F ++ (W ++ (A ++ B))) (IsPermutation-append_right W (A ++ (F ++ B)) (F ++ (A ++ B)) (IsPermutation-past A F B)) (IsPermutation-past W F (A ++ B)) in
    let two : IsPermutation (N ++ (W ++ (A ++ (F ++ B)))) (F ++ (N ++ (W ++ (A ++ B)))) =
    IsPermutation-trans (N ++ (W ++ (A ++ (F ++ B)))) (N ++ (F ++ (W ++ (A ++ B)))) (F ++ (N ++ (W ++ (A ++ B)))) (IsPermutation-append_right N (W ++ (A ++ (F ++ B))) (F ++ (W ++ (A ++ B))) one) (IsPermutation-past N F (W ++ (A ++ B))) in
    subst (λ (w : List Point). P w ((F ++ N) ++ (W ++ (A ++ B)))) (sym (append_assoc N W (A ++ (F ++ B)))) (subst (λ (w : List Point). P (N ++ (W ++ (A ++ (F ++ B)))) w) (sym (append_assoc F N (W ++ (A ++ B)))) two)

-- what stays and what is sent, taken apart
parted : (K W A B S : List Point) → IsPermutation ((K ++ S) ++ (W ++ (A ++ B))) ((K ++ W) ++ ((A ++ B) ++ S))
parted K W A B S =
    let P : List Point → List Point → Type 0 = λ a b. IsPermutation a b in
    let one : IsPermutation (S ++ (W ++ (A ++ B))) (W ++ ((A ++ B) ++ S)) =
    IsPermutation-trans (S ++ (W ++ (A ++ B))) (W ++ (S ++ (A ++ B))) (W ++ ((A ++ B) ++ S)) (IsPermutation-past S W (A ++ B)) (IsPermutation-append_right W (S ++ (A ++ B)) ((A ++ B) ++ S) (IsPermutation-append_comm S (A ++ B))) in
    let two : IsPermutation (K ++ (S ++ (W ++ (A ++ B)))) (K ++ (W ++ ((A ++ B) ++ S))) =
    IsPermutation-append_right K (S ++ (W ++ (A ++ B))) (W ++ ((A ++ B) ++ S)) one in
    subst (λ (w : List Point). P w ((K ++ W) ++ ((A ++ B) ++ S))) (sym (append_assoc K S (W ++ (A ++ B)))) (subst (λ (w : List Point). P (K ++ (S ++ (W ++ (A ++ B)))) w) (sym (append_assoc K W ((A ++ B) ++ S))) two)

module _ (rules : Rules) (points : List Point) (s : State) (front : List Flight) (f : Flight) (back : List Flight) (law : KeepsLaw rules points s) (stands : s.flights ≡ front ++ f ∷ back) where
  abbrev here : Node
  here = node_at s.nodes f.key

  abbrev given : List Point
  given = gathered s.nodes f

  abbrev was : ℕ → Bool
  was = has_open (node_at s.nodes f.key)

  abbrev put : Node
  put = node_after rules f.key (node_at s.nodes f.key) (gathered s.nodes f)

  abbrev after : State
  after = arrived rules f (front ++ back) s

  -- ---- what is given

  pub from_given : (p : Point) → IsMember p given → IsHeld s f.key p
  unfolding gathered
  from_given p m =
      elim (IsMember-append p f.points here.points (in_id_order-IsMember p (f.points ++ here.points) m)) [
        | inl l ↦ inr (f, subst (λ (w : List Flight). IsMember f w) (sym stands) (IsMember-right f front (f ∷ back) (inl refl)), refl, l)
        | inr r ↦ inl r
      ]

  node_given : (p : Point) → IsMember p here.points → IsMember p given
  unfolding gathered
  node_given p m = IsMember-in_id_order p (f.points ++ here.points) (IsMember-right p f.points here.points m)

  flight_given : (p : Point) → IsMember p f.points → IsMember p given
  unfolding gathered
  flight_given p m = IsMember-in_id_order p (f.points ++ here.points) (IsMember-left p f.points here.points m)

  -- the points that are held neither in the node nor in the flight
  abbrev others : List Point
  others = points_of (without s.nodes f.key) ++ (flown front ++ flown back)

  flown_before : flown s.flights ≡ flown front ++ (f.points ++ flown back)
  flown_before =
      ap (λ (w : List Flight). flown w) stands ∙ flat_map-append (λ (g : Flight). g.points) front (f ∷ back)

  held_before : IsPermutation (held s) ((f.points ++ here.points) ++ others)
  held_before =
      let W : List Point = points_of (without s.nodes f.key) in
      let node : IsPermutation (points_of s.nodes ++ flown s.flights) ((here.points ++ points_of (without s.nodes f.key)) ++ flown s.flights) =
      IsPermutation-append_left (flown s.flights) (points_of s.nodes) (here.points ++ points_of (without s.nodes f.key)) (points_of-split s.nodes f.key) in
      IsPermutation-trans (held s) ((here.points ++ points_of (without s.nodes f.key)) ++ flown s.flights) ((f.points ++ here.points) ++ others) node (subst (λ (w : List Point). IsPermutation ((here.points ++ points_of (without s.nodes f.key)) ++ w) ((f.points ++ here.points) ++ others)) (sym flown_before) (brought here.points (points_of (without s.nodes f.key)) (flown front) f.points (flown back)))

  gathered_parts : IsPermutation (f.points ++ here.points) given
  unfolding gathered
  gathered_parts = IsPermutation-in_id_order (f.points ++ here.points)

  pub distinct_gathered : HasDistinctIds (f.points ++ here.points)
  distinct_gathered =
      HasDistinctIds-left (f.points ++ here.points) others (HasDistinctIds-IsPermutation (held s) ((f.points ++ here.points) ++ others) held_before (distinct-held rules points s law))

  distinct_given : HasDistinctIds given
  distinct_given = HasDistinctIds-IsPermutation (f.points ++ here.points) given gathered_parts distinct_gathered

  -- ---- the nodes afterwards

  at_key : (j : VoxelKey) → same_key f.key j ≡ true → node_at after.nodes j ≡ put
  at_key j same =
      ap (λ (w : VoxelKey). node_at after.nodes w) (sym (same_key-true f.key j same)) ∙ node_at-here s.nodes f.key put

  elsewhere : (j : VoxelKey) → same_key f.key j ≡ false → node_at after.nodes j ≡ node_at s.nodes j
  elsewhere j apart = node_at-other s.nodes f.key put j apart

  put_points : put.points ≡ kept rules f.key.depth was given
  put_points = node_after-points rules f.key here given

  put_open : (o : ℕ) → o < 8 → has_open put o ≡ is_open rules f.key.depth was given o
  put_open o small = node_after-open rules f.key here given o small

  small : (depth : ℕ) (p : Point) → octant rules depth p < 8
  small depth p = octant_at-below rules.cube depth (place p)

  -- an octant opens only above the greatest depth
  opens_above : (o : ℕ) → o < 8 → is_open rules f.key.depth was given o ≡ true → f.key.depth < rules.cube.depth
  opens_above o low e =
      elim (open-cases rules f.key.depth was given o e) [
        | inl old ↦ law.bottom f.key o low old
        | inr over ↦ overflows-depth rules f.key.depth given o over
      ]

  -- ---- where points are held afterwards

  -- the point was given to the node, and leaves it for this key
  abbrev IsSentTo : VoxelKey → Point → Type 0
  IsSentTo j p =
      (j ≡ child f.key (octant rules f.key.depth p)) × IsMember p given × (leaves rules f.key.depth was given p ≡ true)

  came_flying : (j : VoxelKey) (p : Point) → IsFlying after.flights j p → IsHeld s j p ⊎ IsSentTo j p
  came_flying j p (g, m, at, q) =
      elim (IsMember-append g (front ++ back) (flights_after f.actor rules f.key here given) m) [
        | inl old ↦ inl (inr (g, subst (λ (w : List Flight). IsMember g w) (sym stands) (elim (IsMember-append g front back old) [ inl l ↦ IsMember-left g front (f ∷ back) l | inr r ↦ IsMember-right g front (f ∷ back) (inr r) ]), at, q))
        | inr new ↦
            let h = IsMember-flights f.actor rules f.key here given g new in
            let t = IsMember-sent rules f.key.depth was given h.0 p (subst (λ (w : List Point). IsMember p w) h.2 q) in
            inr (sym at ∙ (h.1 ∙ ap (λ (o : ℕ). child f.key o) (sym t.2)), t.0, t.1)
      ]

  -- a point that is held was held there, or was sent there
  came : (j : VoxelKey) (p : Point) → IsHeld after j p → IsHeld s j p ⊎ IsSentTo j p
  came j p (inl m) =
      elim (either (same_key f.key j)) [
        | inl same ↦
            let stays : IsMember p (kept rules f.key.depth was given) = subst (λ (w : List Point). IsMember p w) put_points (subst (λ (n : Node). IsMember p n.points) (at_key j same) m) in
            inl (subst (λ (w : VoxelKey). IsHeld s w p) (same_key-true f.key j same) (from_given p (IsMember-stays rules f.key.depth was given p stays).0))
        | inr apart ↦ inl (inl (subst (λ (n : Node). IsMember p n.points) (elsewhere j apart) m))
      ]
  came j p (inr h) = came_flying j p h

  -- a given point is held at the key or below it
  goes_given : (p : Point) → IsMember p given → IsHeldWithin after f.key p
  goes_given p m =
      elim (either (leaves rules f.key.depth was given p)) [
        | inl goes ↦
            let h = sent-flies f.actor rules f.key here given p m goes in
            (child f.key (octant rules f.key.depth p), is_within-child f.key (octant rules f.key.depth p), inr (h.0, IsMember-right h.0 (front ++ back) (flights_after f.actor rules f.key here given) h.1, h.2, h.3))
        | inr stays ↦
            (f.key, is_within-self f.key, inl (subst (λ (n : Node). IsMember p n.points) (sym (at_key f.key (same_key-self f.key))) (subst (λ (w : List Point). IsMember p w) (sym put_points) (stays-IsMember rules f.key.depth was given p m stays))))
      ]

  given_at_key : (j : VoxelKey) (p : Point) → f.key ≡ j → IsMember p given → IsHeldWithin after j p
  given_at_key j p at m = subst (λ (w : VoxelKey). IsHeldWithin after w p) at (goes_given p m)

  goes_flying : (j : VoxelKey) (p : Point) → IsFlying s.flights j p → IsHeldWithin after j p
  goes_flying j p (g, m, at, q) =
      elim (IsMember-append g front (f ∷ back) (subst (λ (w : List Flight). IsMember g w) stands m)) [
        | inl l ↦ (j, is_within-self j, inr (g, IsMember-left g (front ++ back) (flights_after f.actor rules f.key here given) (IsMember-left g front back l), at, q))
        | inr r ↦ behind r
      ]
    where
      behind : (f ≡ g) ⊎ IsMember g back → IsHeldWithin after j p
      behind (inl is) =
          given_at_key j p (ap (λ (w : Flight). w.key) is ∙ at) (flight_given p (subst (λ (w : Flight). IsMember p w.points) (sym is) q))
      behind (inr r) =
          (j, is_within-self j, inr (g, IsMember-left g (front ++ back) (flights_after f.actor rules f.key here given) (IsMember-right g front back r), at, q))

  -- a point that was held at a key is held there or below
  goes : (j : VoxelKey) (p : Point) → IsHeld s j p → IsHeldWithin after j p
  goes j p (inl m) =
      elim (either (same_key f.key j)) [
        | inl same ↦
            let at : f.key ≡ j = same_key-true f.key j same in
            given_at_key j p at (node_given p (subst (λ (w : VoxelKey). IsMember p (node_at s.nodes w).points) (sym at) m))
        | inr apart ↦ (j, is_within-self j, inl (subst (λ (n : Node). IsMember p n.points) (sym (elsewhere j apart)) m))
      ]
  goes j p (inr h) = goes_flying j p h

  goes_within : (top : VoxelKey) (p : Point) → IsHeldWithin s top p → IsHeldWithin after top p
  goes_within top p (j, w, h) =
      let r = goes j p h in (r.0, is_within-trans top j r.0 w r.1, r.2)

  -- ---- the parts of the law

  -- points that leave do so above the greatest depth
  leaves_above : (p : Point) → leaves rules f.key.depth was given p ≡ true → f.key.depth < rules.cube.depth
  leaves_above p e =
      opens_above (octant rules f.key.depth p) (small f.key.depth p) (leaves-open rules f.key.depth was given p e)

  placed_after : IsPlaced rules after
  placed_after = record { in_box = box; shallow = low }
    where
      box : (j : VoxelKey) (p : Point) → IsHeld after j p → InBox rules.cube j (place p)
      box j p h =
          elim (came j p h) [
            | inl old ↦ law.placed.in_box j p old
            | inr new ↦
                let side = depth-side rules.cube law.points_law.cube in
                let above = leaves_above p new.2 in
                subst (λ (w : VoxelKey). InBox rules.cube w (place p)) (sym new.0) (InBox-child rules.cube f.key (place p) (omega (arith, side, above)) (law.placed.in_box f.key p (from_given p new.1)))
          ]

      low : (j : VoxelKey) (p : Point) → IsHeld after j p → j.depth ≤ rules.cube.depth
      low j p h =
          elim (came j p h) [
            | inl old ↦ law.placed.shallow j p old
            | inr new ↦
                let above = leaves_above p new.2 in
                omega (arith, above, ap (λ (w : VoxelKey). w.depth) new.0, depth-child f.key (octant rules f.key.depth p))
          ]

  -- a key above a child is the parent, or above it
  above_child : (top : VoxelKey) (o : ℕ) → is_below top (child f.key o) ≡ true → (top ≡ f.key) ⊎ (is_below top f.key ≡ true)
  above_child top o h =
      let w : is_within top f.key ≡ true = subst (λ (k : VoxelKey). is_within top k ≡ true) (parent-child f.key o) (is_within-above top (child f.key o) h) in
      elim (below_or_at top.depth f.key.depth (depth-within top f.key w)) [
        | inl less ↦ inr (is_below-from top f.key w less)
        | inr same ↦ inl (is_within-level top f.key w (omega (arith, same)))
      ]

  -- what a point passed, it has passed
  open_on : (top : VoxelKey) (p : Point) → has_open (node_at s.nodes top) (octant rules top.depth p) ≡ true → has_open (node_at after.nodes top) (octant rules top.depth p) ≡ true
  open_on top p e =
      elim (either (same_key f.key top)) [
        | inl same ↦
            let at : f.key ≡ top = same_key-true f.key top same in
            subst (λ (w : VoxelKey). has_open (node_at after.nodes w) (octant rules w.depth p) ≡ true) at (open_here (subst (λ (w : VoxelKey). has_open (node_at s.nodes w) (octant rules w.depth p) ≡ true) (sym at) e))
        | inr apart ↦ ap (λ (n : Node). has_open n (octant rules top.depth p)) (elsewhere top apart) ∙ e
      ]
    where
      open_here : was (octant rules f.key.depth p) ≡ true → has_open (node_at after.nodes f.key) (octant rules f.key.depth p) ≡ true
      open_here old =
          ap (λ (n : Node). has_open n (octant rules f.key.depth p)) (at_key f.key (same_key-self f.key))
          ∙ (put_open (octant rules f.key.depth p) (small f.key.depth p) ∙ was-open rules f.key.depth was given (octant rules f.key.depth p) old)

  loses_here : (p : Point) → loses rules f.key.depth given p ≡ true → loses rules f.key.depth (node_at after.nodes f.key).points p ≡ true
  loses_here p e =
      ap (λ (n : Node). loses rules f.key.depth n.points p) (at_key f.key (same_key-self f.key))
      ∙ (ap (λ (w : List Point). loses rules f.key.depth w p) put_points ∙ (loses-kept rules f.key.depth was given p ∙ e))

  loses_on : (top : VoxelKey) (p : Point) → loses rules top.depth (node_at s.nodes top).points p ≡ true → loses rules top.depth (node_at after.nodes top).points p ≡ true
  loses_on top p e =
      elim (either (same_key f.key top)) [
        | inl same ↦
            let at : f.key ≡ top = same_key-true f.key top same in
            subst (λ (w : VoxelKey). loses rules w.depth (node_at after.nodes w).points p ≡ true) at (loses_here p (loses-more rules f.key.depth here.points given p (λ q m. node_given q m) (subst (λ (w : VoxelKey). loses rules w.depth (node_at s.nodes w).points p ≡ true) (sym at) e)))
        | inr apart ↦ ap (λ (n : Node). loses rules top.depth n.points p) (elsewhere top apart) ∙ e
      ]

  passed_after : HasPassed rules after
  passed_after = record { through_open = through; lost_above = lost }
    where
      through : (top j : VoxelKey) (p : Point) → IsHeld after j p → is_below top j ≡ true → has_open (node_at after.nodes top) (octant rules top.depth p) ≡ true
      through top j p h below =
          elim (came j p h) [
            | inl old ↦ open_on top p (law.passed.through_open top j p old below)
            | inr new ↦
                elim (above_child top (octant rules f.key.depth p) (subst (λ (w : VoxelKey). is_below top w ≡ true) new.0 below)) [
                  | inl at ↦
                      subst (λ (w : VoxelKey). has_open (node_at after.nodes w) (octant rules w.depth p) ≡ true) (sym at) (ap (λ (n : Node). has_open n (octant rules f.key.depth p)) (at_key f.key (same_key-self f.key))
                      ∙ (put_open (octant rules f.key.depth p) (small f.key.depth p) ∙ leaves-open rules f.key.depth was given p new.2))
                  | inr over ↦ open_on top p (law.passed.through_open top f.key p (from_given p new.1) over)
                ]
          ]

      lost : (top j : VoxelKey) (p : Point) → IsHeld after j p → is_below top j ≡ true → loses rules top.depth (node_at after.nodes top).points p ≡ true
      lost top j p h below =
          elim (came j p h) [
            | inl old ↦ loses_on top p (law.passed.lost_above top j p old below)
            | inr new ↦
                elim (above_child top (octant rules f.key.depth p) (subst (λ (w : VoxelKey). is_below top w ≡ true) new.0 below)) [
                  | inl at ↦
                      subst (λ (w : VoxelKey). loses rules w.depth (node_at after.nodes w).points p ≡ true) (sym at) (loses_here p (leaves-loses rules f.key.depth was given p new.2))
                  | inr over ↦ loses_on top p (law.passed.lost_above top f.key p (from_given p new.1) over)
                ]
          ]

  more_after : (key : VoxelKey) → HoldsMore rules s key → HoldsMore rules after key
  more_after key (xs, once, all, more) = (xs, once, λ p m. goes_within key p (all p m), more)

  -- an octant that overflows sends more points than the threshold
  more_sent : (o : ℕ) → is_open rules f.key.depth was given o ≡ true → overflows rules f.key.depth given o ≡ true → HoldsMore rules after (child f.key o)
  more_sent o opened over =
      (losers rules f.key.depth given o, distinct-losers rules f.key.depth given o distinct_given, sent_there, overflows-more rules f.key.depth given o over)
    where
      sent_there : (p : Point) → IsMember p (losers rules f.key.depth given o) → IsHeldWithin after (child f.key o) p
      sent_there p m =
          let l = IsMember-losers rules f.key.depth given o p m in
          let goes : leaves rules f.key.depth was given p ≡ true = leaves-from rules f.key.depth was given p l.1 (subst (λ (w : ℕ). is_open rules f.key.depth was given w ≡ true) (sym l.2) opened) in
          let h = sent-flies f.actor rules f.key here given p l.0 goes in
          (child f.key o, is_within-self (child f.key o), inr (h.0, IsMember-right h.0 (front ++ back) (flights_after f.actor rules f.key here given) h.1, h.2 ∙ ap (λ (w : ℕ). child f.key w) l.2, h.3))

  settled_after : IsSettled rules after
  settled_after = record { open_without_losers = none; open_holds_more = more; closed_has_few = few }
    where
      none_here : (p : Point) → IsMember p put.points → loses rules f.key.depth put.points p ≡ true → has_open put (octant rules f.key.depth p) ≡ false
      none_here p m lost =
          let stays = IsMember-stays rules f.key.depth was given p (subst (λ (w : List Point). IsMember p w) put_points m) in
          let loser : loses rules f.key.depth given p ≡ true = sym (loses-kept rules f.key.depth was given p) ∙ (ap (λ (w : List Point). loses rules f.key.depth w p) (sym put_points) ∙ lost) in
          put_open (octant rules f.key.depth p) (small f.key.depth p)
          ∙ elim (either (is_open rules f.key.depth was given (octant rules f.key.depth p))) [
            | inl opened ↦ absurd (not_both (leaves rules f.key.depth was given p) (leaves-from rules f.key.depth was given p loser opened) stays.1)
            | inr closed ↦ closed
          ]

      none : (key : VoxelKey) (p : Point) → IsMember p (node_at after.nodes key).points → loses rules key.depth (node_at after.nodes key).points p ≡ true → has_open (node_at after.nodes key) (octant rules key.depth p) ≡ false
      none key p m lost =
          elim (either (same_key f.key key)) [
            | inl same ↦
                let at : f.key ≡ key = same_key-true f.key key same in
                let new : node_at after.nodes key ≡ put = at_key key same in
                let h : loses rules f.key.depth put.points p ≡ true = subst (λ (n : Node). loses rules f.key.depth n.points p ≡ true) new (subst (λ (w : VoxelKey). loses rules w.depth (node_at after.nodes key).points p ≡ true) (sym at) lost) in
                subst (λ (n : Node). has_open n (octant rules key.depth p) ≡ false) (sym new) (subst (λ (w : VoxelKey). has_open put (octant rules w.depth p) ≡ false) at (none_here p (subst (λ (n : Node). IsMember p n.points) new m) h))
            | inr apart ↦
                let old : node_at after.nodes key ≡ node_at s.nodes key = elsewhere key apart in
                subst (λ (n : Node). has_open n (octant rules key.depth p) ≡ false) (sym old) (law.settled.open_without_losers key p (subst (λ (n : Node). IsMember p n.points) old m) (subst (λ (n : Node). loses rules key.depth n.points p ≡ true) old lost))
          ]

      more_here : (o : ℕ) → o < 8 → has_open put o ≡ true → HoldsMore rules after (child f.key o)
      more_here o low e =
          let opened : is_open rules f.key.depth was given o ≡ true = sym (put_open o low) ∙ e in
          elim (open-cases rules f.key.depth was given o opened) [
            | inl old ↦ more_after (child f.key o) (law.settled.open_holds_more f.key o low old)
            | inr over ↦ more_sent o opened over
          ]

      more : (key : VoxelKey) (o : ℕ) → o < 8 → has_open (node_at after.nodes key) o ≡ true → HoldsMore rules after (child key o)
      more key o low e =
          elim (either (same_key f.key key)) [
            | inl same ↦
                subst (λ (w : VoxelKey). HoldsMore rules after (child w o)) (same_key-true f.key key same) (more_here o low (subst (λ (n : Node). has_open n o ≡ true) (at_key key same) e))
            | inr apart ↦ more_after (child key o) (law.settled.open_holds_more key o low (subst (λ (n : Node). has_open n o ≡ true) (elsewhere key apart) e))
          ]

      few_here : (o : ℕ) → o < 8 → f.key.depth < rules.cube.depth → has_open put o ≡ false → length (losers rules f.key.depth put.points o) ≤ rules.threshold
      few_here o low above e =
          let fits : overflows rules f.key.depth given o ≡ false = closed-fits rules f.key.depth was given o (sym (put_open o low) ∙ e) in
          subst (λ (w : List Point). length (losers rules f.key.depth w o) ≤ rules.threshold) (sym put_points) (omega (arith, losers-kept rules f.key.depth was given o, fits-few rules f.key.depth given o above fits))

      few : (key : VoxelKey) (o : ℕ) → o < 8 → key.depth < rules.cube.depth → has_open (node_at after.nodes key) o ≡ false → length (losers rules key.depth (node_at after.nodes key).points o) ≤ rules.threshold
      few key o low above e =
          elim (either (same_key f.key key)) [
            | inl same ↦
                let at : f.key ≡ key = same_key-true f.key key same in
                let new : node_at after.nodes key ≡ put = at_key key same in
                subst (λ (n : Node). length (losers rules key.depth n.points o) ≤ rules.threshold) (sym new) (subst (λ (w : VoxelKey). length (losers rules w.depth put.points o) ≤ rules.threshold) at (few_here o low (subst (λ (w : VoxelKey). w.depth < rules.cube.depth) (sym at) above) (subst (λ (n : Node). has_open n o ≡ false) new e)))
            | inr apart ↦
                let old : node_at after.nodes key ≡ node_at s.nodes key = elsewhere key apart in
                subst (λ (n : Node). length (losers rules key.depth n.points o) ≤ rules.threshold) (sym old) (law.settled.closed_has_few key o low above (subst (λ (n : Node). has_open n o ≡ false) old e))
          ]

  bottom_after : HasBottom rules after
  bottom_after key o low e =
      elim (either (same_key f.key key)) [
        | inl same ↦
            subst (λ (w : VoxelKey). w.depth < rules.cube.depth) (same_key-true f.key key same) (opens_above o low (sym (put_open o low) ∙ subst (λ (n : Node). has_open n o ≡ true) (at_key key same) e))
        | inr apart ↦ law.bottom key o low (subst (λ (n : Node). has_open n o ≡ true) (elsewhere key apart) e)
      ]

  rooted_after : IsRooted after
  rooted_after = record {
    has_root = has_node-with s.nodes f.key put root law.rooted.has_root;
    flying = λ g m. flying g m;
  }
    where
      flying : (g : Flight) → IsMember g after.flights → HasPoint g.points
      flying g m =
          elim (IsMember-append g (front ++ back) (flights_after f.actor rules f.key here given) m) [
            | inl old ↦ law.rooted.flying g (subst (λ (w : List Flight). IsMember g w) (sym stands) (elim (IsMember-append g front back old) [ inl l ↦ IsMember-left g front (f ∷ back) l | inr r ↦ IsMember-right g front (f ∷ back) (inr r) ]))
            | inr new ↦ (IsMember-flights f.actor rules f.key here given g new).3
          ]

  -- a point stays in the node
  put_point : HasPoint put.points
  put_point =
      let q = law.rooted.flying f (subst (λ (w : List Flight). IsMember f w) (sym stands) (IsMember-right f front (f ∷ back) (inl refl))) in
      subst (λ (w : List Point). HasPoint w) (sym put_points) (stayer q.0 (flight_given q.0 q.1))
    where
      stays_by : (p : Point) → IsMember p given → loses rules f.key.depth given p ≡ false → HasPoint (kept rules f.key.depth was given)
      stays_by p m wins = (
        p,
        stays-IsMember rules f.key.depth was given p m (elim (either (leaves rules f.key.depth was given p)) [
          | inl goes ↦ absurd (not_both (loses rules f.key.depth given p) (leaves-loses rules f.key.depth was given p goes) wins)
          | inr fine ↦ fine
        ]),
      )

      stayer : (p : Point) → IsMember p given → HasPoint (kept rules f.key.depth was given)
      stayer p m =
          elim (either (loses rules f.key.depth given p)) [
            | inl lost ↦ let b = best rules f.key.depth given p lost in stays_by b.0 b.1 b.3
            | inr wins ↦ stays_by p m wins
          ]

  rising_given : IsRising comes_before given
  unfolding gathered
  rising_given = IsRising-in_id_order (f.points ++ here.points) distinct_gathered

  ordered_here : IsAscending put.points
  ordered_here =
      subst (λ (w : List Point). IsAscending w) (sym put_points) (IsAscending-IsRising (kept rules f.key.depth was given) (IsRising-kept rules f.key.depth was given rising_given))

  tidy_after : IsTidy after
  tidy_after = record {
    has_points = some;
    in_order = AllPairs-IsRising (keys_of after.nodes) (rising-with s.nodes f.key put (keys-rise rules points s law));
    points_in_order = ordered;
  }
    where
      some : (e : Entry) → IsMember e after.nodes → (e.0 ≡ root) ⊎ HasPoint e.1.points
      some e m =
          elim (IsMember-with e f.key put s.nodes m) [
            | inl new ↦ inr (subst (λ (w : Entry). HasPoint w.1.points) new put_point)
            | inr old ↦ law.tidy.has_points e old
          ]

      ordered : (key : VoxelKey) → IsAscending (node_at after.nodes key).points
      ordered key =
          elim (either (same_key f.key key)) [
            | inl same ↦ subst (λ (n : Node). IsAscending n.points) (sym (at_key key same)) ordered_here
            | inr apart ↦ subst (λ (n : Node). IsAscending n.points) (sym (elsewhere key apart)) (law.tidy.points_in_order key)
          ]

  flown_after : flown after.flights ≡ (flown front ++ flown back) ++ all_sent rules f.key.depth was given
  flown_after =
      flat_map-append (λ (g : Flight). g.points) (front ++ back) (flights_after f.actor rules f.key here given)
      ∙ (ap (λ (w : List Point). w ++ flown (flights_after f.actor rules f.key here given)) (flat_map-append (λ (g : Flight). g.points) front back)
      ∙ ap (λ (w : List Point). (flown front ++ flown back) ++ w) (flights-flown f.actor rules f.key here given))

  -- the same points are held
  same_held : IsPermutation (held s) (held after)
  same_held =
      let W : List Point = points_of (without s.nodes f.key) in
      let K : List Point = kept rules f.key.depth was given in
      let S : List Point = all_sent rules f.key.depth was given in
      let parts : IsPermutation (f.points ++ here.points) (K ++ S) =
      IsPermutation-trans (f.points ++ here.points) given (K ++ S) gathered_parts (IsPermutation-parts rules f.key.depth was given) in
      let node : IsPermutation (points_of after.nodes) (K ++ W) =
      subst (λ (w : List Point). IsPermutation (points_of after.nodes) (w ++ W)) put_points (points_of-with s.nodes f.key put (keys-rise rules points s law)) in
      let last : IsPermutation ((K ++ W) ++ ((flown front ++ flown back) ++ S)) (held after) =
      subst (λ (w : List Point). IsPermutation ((K ++ W) ++ w) (held after)) flown_after (IsPermutation-append_left (flown after.flights) (K ++ W) (points_of after.nodes) (IsPermutation-sym (points_of after.nodes) (K ++ W) node)) in
      IsPermutation-trans (held s) ((f.points ++ here.points) ++ others) (held after) held_before (IsPermutation-trans ((f.points ++ here.points) ++ others) ((K ++ S) ++ others) (held after) (IsPermutation-append_left others (f.points ++ here.points) (K ++ S) parts) (IsPermutation-trans ((K ++ S) ++ others) ((K ++ W) ++ ((flown front ++ flown back) ++ S)) (held after) (parted K W (flown front) (flown back) S) last))

  -- a flight that arrives keeps the law
  pub arrive-keeps : KeepsLaw rules points (arrived rules f (front ++ back) s)
  arrive-keeps = record {
    points_law = law.points_law;
    same_points = (law.same_points.0, record { suffix = law.same_points.1.suffix; held_once = IsPermutation-trans law.same_points.0 (held s) (held after) law.same_points.1.held_once same_held });
    placed = placed_after;
    passed = passed_after;
    settled = settled_after;
    bottom = bottom_after;
    rooted = rooted_after;
    tidy = tidy_after;
  }
