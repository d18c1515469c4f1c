-- The laws of the core.
use Rattle.std.proofs.Common.{◌≡◌, ◌∙◌, ◌<◌, ℕ, Bool, true, false, inl, inr, List, [], ◌∷◌, ◌++◌, map, refl, sym, ap, subst, arith, append_assoc, Result, Ok, Err, OnOk, OnErr}
use Rattle.std.proofs.lemmas.List.{append_cancel_right, append-nil}
use Rattle.ept_point.specs.declared.point.Point.{Point}
use Rattle.ept_space.specs.declared.cube.Rules.{Rules}
use Rattle.ept_space.specs.VoxelKey.{VoxelKey, root, child}
use Rattle.ept_space.specs.OctreeCube.{InCube}
use Rattle.ept_space.proofs.Family.{depth-child}
use Rattle.ept_sample.specs.Place.{place}
use Rattle.ept_sample.specs.Ids.{HasDistinctIds}
use Rattle.ept_sample.specs.Arrivals.{none_open, all_octants}
use Rattle.ept_sample.specs.Sampling.{sampling, is_node}
use Rattle.ept_sample.specs.SamplingLaws.{CanBeSampled}
use Rattle.ept_sample.specs.Nodes.{node_keys, sampled}
use Rattle.ept_sample.specs.Members.{IsMember}
use Rattle.ept_sample.proofs.Members.{IsMember-left, All-members}
use Rattle.ept_sample.proofs.Choices.{either}
use Rattle.ept_sample.proofs.SamplingLaws.{given-IsMember, is_node-root, node-cases, node-given, IsMember-sampling}
use Rattle.ept_sample.proofs.NodeLaws.{node_keys-is}
use Rattle.ept_core.specs.declared.flight.Flight.{Flight}
use Rattle.ept_core.specs.declared.event.Event.{Event}
use Rattle.ept_core.specs.declared.event.Event.TheVariants.{Draw, Arrive, Evict, Reload}
use Rattle.ept_core.specs.declared.node.Node.{Node}
use Rattle.ept_core.specs.declared.error.StepError.{StepError}
use Rattle.ept_core.specs.State.{State, Entry, node_at, has_open, IsHeld, tile_of}
use Rattle.ept_core.specs.Law.{KeepsLaw}
use Rattle.ept_core.specs.Steps.{Step, Run, resumed_node, resumed, begun}
use Rattle.ept_core.proofs.ArriveLaw.{distinct_gathered, arrive-keeps}
use Rattle.ept_core.proofs.OtherSteps.{draw-keeps, move-keeps}
use Rattle.ept_core.proofs.Held.{HasDistinctIds-left}
use Rattle.ept_core.proofs.Sampled.{open_overflows, given-below, held-is_node}
use Rattle.ept_core.proofs.Landed.{nodes-sampled, opens-to-node}
use Rattle.ept_core.proofs.Resumed.{child-is_node, resumed-keeps}

-- each step keeps the law
pub step-keeps : (rules : Rules) (points : List Point) (old : State) (event : Event) (new : State) → KeepsLaw rules points old → Step rules old event new → KeepsLaw rules points new
step-keeps rules points old (Draw actor count) new law step =
    subst (λ (w : State). KeepsLaw rules points w) (sym step) (draw-keeps rules points old actor count law)
step-keeps rules points old (Arrive actor number) new law (front, f, back, flight, resident, is) =
    subst (λ (w : State). KeepsLaw rules points w) (sym is) (arrive-keeps rules points old front f back law flight.stands)
step-keeps rules points old (Evict key) new law (there, resident, is) =
    subst (λ (w : State). KeepsLaw rules points w) (sym is) (move-keeps rules points old key false law there)
step-keeps rules points old (Reload key) new law (there, resident, is) =
    subst (λ (w : State). KeepsLaw rules points w) (sym is) (move-keeps rules points old key true law there)

-- and so does each list of events
pub run-keeps : (rules : Rules) (points : List Point) (old : State) (events : List Event) (new : State) → KeepsLaw rules points old → Run rules old events new → KeepsLaw rules points new
run-keeps rules points old [] new law run = subst (λ (w : State). KeepsLaw rules points w) (sym run) law
run-keeps rules points old (event ∷ events) new law (mid, step, run) =
    run-keeps rules points mid events new (step-keeps rules points old event mid law step) run

-- ---- the beginning

no_points : (rules : Rules) (k : VoxelKey) (p : Point) → IsMember p (sampling rules [] k) → ⊥
no_points rules k p m = given-IsMember rules [] k p (IsMember-sampling rules [] k p m).0

none_sampled : (rules : Rules) (k : VoxelKey) (xs : List Point) → sampling rules [] k ≡ xs → [] ≡ xs
none_sampled rules k [] e = refl
none_sampled rules k (x ∷ xs) e =
    absurd (no_points rules k x (subst (λ (w : List Point). IsMember x w) (sym e) (inl refl)))

no_child : (rules : Rules) (o : ℕ) → is_node rules [] (child root o) ≡ false
no_child rules o =
    elim (either (is_node rules [] (child root o))) [
      | inl some ↦
          let deep = depth-child root o in
          let p = node-given rules [] (child root o) (omega (arith, deep)) some in
          absurd (given-IsMember rules [] (child root o) p.0 p.1)
      | inr none ↦ none
    ]

all_closed : (rules : Rules) (os : List ℕ) → map none_open os ≡ map (λ o. is_node rules [] (child root o)) os
all_closed rules [] = refl
all_closed rules (o ∷ os) =
    ap (λ (b : Bool). b ∷ map none_open os) (sym (no_child rules o))
    ∙ ap (λ (bs : List Bool). is_node rules [] (child root o) ∷ bs) (all_closed rules os)

root_alone : (rules : Rules) (points : List Point) → CanBeSampled rules points → root ∷ [] ≡ node_keys rules []
root_alone rules points can =
    node_keys-is rules [] (root ∷ []) can.cube (All-members (λ (p : Point). InCube rules.cube (place p)) [] (λ p m. absurd m)) (λ k m. absurd m, tt) there back
  where
    there : (k : VoxelKey) → IsMember k (root ∷ []) → is_node rules [] k ≡ true
    there k (inl is) = subst (λ (w : VoxelKey). is_node rules [] w ≡ true) is (is_node-root rules [])
    there k (inr m) = absurd m

    back : (k : VoxelKey) → is_node rules [] k ≡ true → IsMember k (root ∷ [])
    back k e =
        elim (node-cases rules [] k e) [ inl top ↦ inl (sym top) | inr some ↦ absurd (given-IsMember rules [] k some.0 some.1) ]

empty_root : (rules : Rules) → (let n : Node = record { points = []; opened = map none_open all_octants; is_resident = true } in n) ≡ resumed_node rules [] true root
unfolding resumed_node
empty_root rules = λ i. record {
  points = none_sampled rules root (sampling rules [] root) refl i;
  opened = all_closed rules all_octants i;
  is_resident = true;
}

begun-resumed : (rules : Rules) (points : List Point) → CanBeSampled rules points → begun points ≡ resumed rules [] points (λ key. true)
begun-resumed rules points can =
    ap (λ (n : Node). let s : State = record { left = points; flights = []; nodes = (root, n) ∷ [] } in s) (empty_root rules)
    ∙ ap (λ (keys : List VoxelKey). let s : State = record { left = points; flights = []; nodes = map (λ key. (let e : Entry = (key, resumed_node rules [] true key) in e)) keys } in s) (root_alone rules points can)

pub begun-keeps : (rules : Rules) (points : List Point) → CanBeSampled rules points → KeepsLaw rules points (begun points)
begun-keeps rules points can =
    subst (λ (w : State). KeepsLaw rules points w) (sym (begun-resumed rules points can)) (resumed-keeps rules points [] points (λ key. true) can refl)

-- ---- if nothing flies, and which keys hold points

-- a flight comes between others
member-split : (f : Flight) (flights : List Flight) → IsMember f flights → (front : List Flight) × (back : List Flight) × (flights ≡ front ++ f ∷ back)
member-split f [] m = absurd m
member-split f (g ∷ flights) (inl is) = ([], flights, ap (λ (w : Flight). w ∷ flights) is)
member-split f (g ∷ flights) (inr m) =
    let r = member-split f flights m in (g ∷ r.0, r.1, ap (λ (w : List Flight). g ∷ w) r.2)

pub landed-sampled : (rules : Rules) (points first : List Point) (s : State) → KeepsLaw rules points s → s.flights ≡ [] → points ≡ first ++ s.left → map tile_of s.nodes ≡ sampled rules first
landed-sampled rules points first s law landed e =
    let same : law.same_points.0 ≡ first = append_cancel_right law.same_points.0 first s.left (sym law.same_points.1.suffix ∙ e) in
    subst (λ (w : List Point). map tile_of s.nodes ≡ sampled rules w) same (nodes-sampled rules points s law landed)

pub landed-opens : (rules : Rules) (points first : List Point) (s : State) (key : VoxelKey) (o : ℕ) → KeepsLaw rules points s → s.flights ≡ [] → points ≡ first ++ s.left → o < 8 → has_open (node_at s.nodes key) o ≡ is_node rules first (child key o)
landed-opens rules points first s key o law landed e low =
    let same : law.same_points.0 ≡ first = append_cancel_right law.same_points.0 first s.left (sym law.same_points.1.suffix ∙ e) in
    subst (λ (w : List Point). has_open (node_at s.nodes key) o ≡ is_node rules w (child key o)) same (opens-to-node rules points s law landed key o low)

module _ (rules : Rules) (points first between rest : List Point) (s : State) (law : KeepsLaw rules points s) (e : points ≡ first ++ rest) (f : s.left ≡ between ++ rest) where
  all_drawn : law.same_points.0 ++ between ≡ first
  all_drawn =
      let all : (law.same_points.0 ++ between) ++ rest ≡ first ++ rest = append_assoc law.same_points.0 between rest ∙ (ap (λ (w : List Point). law.same_points.0 ++ w) (sym f) ∙ (sym law.same_points.1.suffix ∙ e)) in
      append_cancel_right (law.same_points.0 ++ between) first rest all

  first_once : HasDistinctIds first
  first_once = HasDistinctIds-left first rest (subst (λ (w : List Point). HasDistinctIds w) e law.points_law.distinct)

  drawn_among : (q : Point) → IsMember q law.same_points.0 → IsMember q first
  drawn_among q m = subst (λ (w : List Point). IsMember q w) all_drawn (IsMember-left q law.same_points.0 between m)

  pub held-node : (key : VoxelKey) (p : Point) → IsHeld s key p → is_node rules first key ≡ true
  held-node key p h = held-is_node rules points s law first first_once drawn_among key p h

  pub open-node : (key : VoxelKey) (o : ℕ) → o < 8 → has_open (node_at s.nodes key) o ≡ true → is_node rules first (child key o) ≡ true
  open-node key o low opened =
      child-is_node rules first key o low (open_overflows rules points s law first first_once drawn_among key o (given-below rules points s law first first_once drawn_among key) low opened)

pub distinct-flight : (rules : Rules) (points : List Point) (s : State) (f : Flight) → KeepsLaw rules points s → IsMember f s.flights → HasDistinctIds (f.points ++ (node_at s.nodes f.key).points)
distinct-flight rules points s f law m =
    let at = member-split f s.flights m in distinct_gathered rules points s at.0 f at.1 law at.2

-- ---- the law of a core

-- it holds when a core begins
pub begins : (rules : Rules) (points ps : List Point) (s : State) → CanBeSampled rules points → ps ≡ points → s ≡ begun points → KeepsLaw rules ps s
begins rules points ps s can e f =
    subst (λ (w : List Point). KeepsLaw rules w s) (sym e) (subst (λ (w : State). KeepsLaw rules points w) (sym f) (begun-keeps rules points can))

-- and after an event, whether it happened or was refused
pub stands-on : (rules rules' : Rules) (points points' : List Point) (old new : State) (event : Event) (r : Result (Unit {0}) StepError) → OnOk r (Step rules old event new) → OnErr r (new ≡ old) → rules' ≡ rules → points' ≡ points → KeepsLaw rules points old → KeepsLaw rules' points' new
stands-on rules rules' points points' old new event (Ok u) step same e f law =
    subst (λ (w : Rules). KeepsLaw w points' new) (sym e) (subst (λ (w : List Point). KeepsLaw rules w new) (sym f) (step-keeps rules points old event new law step))
stands-on rules rules' points points' old new event (Err x) step same e f law =
    subst (λ (w : Rules). KeepsLaw w points' new) (sym e) (subst (λ (w : List Point). KeepsLaw rules w new) (sym f) (subst (λ (w : State). KeepsLaw rules points w) (sym same) law))

-- ---- a core that is finished

-- if nothing is left and nothing flies, the nodes are the sampling of all points
pub all-sampled : (rules : Rules) (points : List Point) (s : State) → KeepsLaw rules points s → s.left ≡ [] → s.flights ≡ [] → map tile_of s.nodes ≡ sampled rules points
all-sampled rules points s law none landed =
    landed-sampled rules points points s law landed (sym (ap (λ (w : List Point). points ++ w) none ∙ append-nil points))
