-- If all slots are drawn and one more is needed, the sampling has more nodes.
use Rattle.std.proofs.Common.{◌≡◌, ◌∙◌, ℕ, suc, ◌+◌, ◌-◌, ◌<◌, ◌≤◌, Bool, true, false, ◌||◌, inl, inr, List, [], ◌∷◌, ◌++◌, map, length, take, drop, refl, sym, ap, subst, arith, Some}
use Rattle.std.proofs.lemmas.List.{take-append-drop, length-append, drop-drop}
use Rattle.ept_point.specs.declared.point.Point.{Point}
use Rattle.ept_space.specs.VoxelKey.{VoxelKey, root, child}
use Rattle.ept_space.specs.OctreeCube.{InCube}
use Rattle.ept_sample.specs.Place.{place}
use Rattle.ept_sample.specs.Ids.{in_id_order}
use Rattle.ept_sample.specs.Arrivals.{is_open, overflows}
use Rattle.ept_sample.specs.Sampling.{is_node}
use Rattle.ept_sample.specs.Nodes.{node_keys}
use Rattle.ept_sample.specs.Members.{IsMember}
use Rattle.ept_sample.proofs.Members.{IsMember-left, IsMember-flat_map, IsMember-map, all-member, All-members}
use Rattle.ept_sample.proofs.SamplingLaws.{is_node-root}
use Rattle.ept_sample.proofs.NodeLaws.{node_keys-IsMember}
use Rattle.ept_core.specs.declared.flight.Flight.{Flight}
use Rattle.ept_core.specs.declared.node.Node as core
use Rattle.ept_core.specs.State.{State, Entry, blank, node_at, has_node, has_open}
use Rattle.ept_core.specs.Steps as steps
use Rattle.ept_core.proofs.NodeMap.{node_at-here, node_at-absent, key-has_node, same_key-apart}
use Rattle.ept_core.proofs.Leaving.{node_after-open}
use Rattle.ept_core.proofs.ArriveLaw.{arrive-keeps}
use Rattle.ept_core.proofs.CoreLaws.{open-node}
use Rattle.ept_grid.specs.Node.{is_open_in}
use Rattle.ept_node.specs.Batch.{seen}
use Rattle.ept_node.proofs.Bridges.{seen-stands}
use Rattle.ept_table.specs.declared.note.Told.{Told}
use Rattle.ept_table.specs.declared.note.Carried.{Carried}
use Rattle.ept_table.specs.declared.taken.Cell.{Cell}
use Rattle.ept_table.specs.declared.taken.Taken.{Taken}
use Rattle.ept_table.specs.declared.taken.Taken.TheVariants.{Blank, Standing, Reading}
use Rattle.ept_table.specs.At.{At}
use Rattle.ept_table.specs.Taken.{points_of, is_open_at, as_node}
use Rattle.ept_table.specs.View.{View, flights_of, all_flights}
use Rattle.ept_table.specs.Shown.{KeyOf, OpensOctant, Drew, IsDrawn, IsDraw, shown, Shows, Holds, AreLocked}
use Rattle.ept_table.specs.Steps.{MayDraw}
use Rattle.ept_table.proofs.Lists.{at-same, at-member, member-at}
use Rattle.ept_table.proofs.Keys.{no_key, key-same, key-low, key-cases}
use Rattle.ept_table.proofs.Counting.{AreDifferent, member-cut, no-more}
use Rattle.ept_table.proofs.SlotDrawn.{held-key, no-slot-yet}

-- ---- nodes as the machine has them

blank_open : (o : ℕ) → has_open blank o ≡ false
unfolding has_open
blank_open o = refl

open_same : (told : Told) (depth : ℕ) (was now : ℕ → Bool) (given : List Point) (o : ℕ) → was o ≡ now o → is_open told.rules depth was given o ≡ is_open told.rules depth now given o
unfolding is_open
open_same told depth was now given o e = ap (λ (b : Bool). b || overflows told.rules depth given o) e

pub opens-as : (x : Taken) (o : ℕ) → o < 8 → has_open (as_node x) o ≡ is_open_at x o
opens-as Blank o low = blank_open o
opens-as (Standing c) o low = (seen-stands c.node).opens o low
opens-as (Reading r) o low = blank_open o

pub points-as : (x : Taken) → (as_node x).points ≡ points_of x
points-as Blank = refl
points-as (Standing c) = refl
points-as (Reading r) = refl

module _ (told : Told) (drawn : ℕ) (items : List Taken) (views : List View) (h : Holds told drawn items views) (s : Shows told h.reader items views) where
  abbrev state : State
  state = shown told h.reader s.nodes views

  -- a slot's node is the node of its key
  pub node-taken : (k : ℕ) (x : Taken) (key : VoxelKey) → At items k x → KeyOf h.keys k key → node_at s.nodes key ≡ as_node x
  node-taken k (Standing c) key a is =
      let same : c.node.key ≡ key = key-same h.keys k c.node.key key (h.base.keyed k c a) is in
      subst (λ (j : VoxelKey). node_at s.nodes j ≡ seen c.node) same (s.standing k c a).1
  node-taken k (Reading r) key a is =
      let zero : k ≡ 0 = h.base.one_reader k r a in absurd (no_key h.keys key (subst (λ (n : ℕ). KeyOf h.keys n key) zero is))
  node-taken k Blank key a is = node_at-absent s.nodes key (λ e m. same_key-apart e.0 key (λ same. absent (subst (λ (j : VoxelKey). has_node s.nodes j ≡ true) same (key-has_node s.nodes e.0 (IsMember-map (λ (w : Entry). w.0) e s.nodes m)))))
    where
      absent : has_node s.nodes key ≡ true → ⊥
      absent there =
          let r = s.in_slot key there in
          let same : r.0 ≡ k = h.tree.distinct r.0 k key (subst (λ (j : VoxelKey). KeyOf h.keys r.0 j) r.3 (h.base.keyed r.0 r.1 r.2)) is in
          let e : Blank ≡ Standing r.1 = at-same a (subst (λ (n : ℕ). At items n (Standing r.1)) same r.2) in
          absurd (cc)

  -- ---- the points up to the end of the allowance

  abbrev pub first : List Point
  first = take told.end told.points

  abbrev rest : List Point
  rest = drop told.end told.points

  all_points : told.points ≡ first ++ rest
  all_points = sym (take-append-drop told.end told.points)

  low_end : h.reader.drawn ≤ told.end
  low_end = let e : h.reader.drawn + h.reader.allowed ≡ told.end = h.base.fits.end in omega (arith, e)

  abbrev between : List Point
  between = take (told.end - h.reader.drawn) (drop h.reader.drawn told.points)

  left_points : drop h.reader.drawn told.points ≡ between ++ rest
  left_points =
      let e : h.reader.drawn + (told.end - h.reader.drawn) ≡ told.end = omega (arith, low_end) in
      let f : drop (told.end - h.reader.drawn) (drop h.reader.drawn told.points) ≡ rest = drop-drop (told.end - h.reader.drawn) h.reader.drawn told.points ∙ ap (λ (n : ℕ). drop n told.points) e in
      sym (take-append-drop (told.end - h.reader.drawn) (drop h.reader.drawn told.points)) ∙ ap (λ (w : List Point). between ++ w) f

  pub open-is_node : (k : ℕ) (c : Cell) (o : ℕ) → At items k (Standing c) → o < 8 → is_open_in c.node o ≡ true → is_node told.rules first (child c.node.key o) ≡ true
  open-is_node k c o a low opened =
      let there : node_at s.nodes c.node.key ≡ seen c.node = (s.standing k c a).1 in
      let e : has_open (node_at s.nodes c.node.key) o ≡ true = ap (λ (n : core.Node). has_open n o) there ∙ ((seen-stands c.node).opens o low ∙ opened) in
      open-node told.rules told.points first between rest state s.law all_points left_points c.node.key o low e

  -- ---- the child that a flight opens

  module _ (i : ℕ) (v : View) (at : At views i v) (k : ℕ) (x : Taken) (a : At items k x) (o : ℕ) (low : o < 8) (opens : OpensOctant told v.note.flights k x o) (is : KeyOf h.keys k opens.carried.flight.key) where
    abbrev f : Flight
    f = opens.carried.flight

    among : IsMember f (all_flights views)
    among =
        IsMember-flat_map flights_of v f views (at-member views i v at) (IsMember-left f (map (λ (c : Carried). c.flight) v.note.flights) v.note.gone (IsMember-map (λ (c : Carried). c.flight) opens.carried v.note.flights opens.among))

    cut : (front : List Flight) × (back : List Flight) × (all_flights views ≡ front ++ f ∷ back)
    cut = member-cut f (all_flights views) among

    abbrev after : State
    after = steps.arrived told.rules f (cut.0 ++ cut.1) state

    here : node_at s.nodes f.key ≡ as_node x
    here = node-taken k x f.key a is

    same_given : steps.gathered s.nodes f ≡ in_id_order (f.points ++ points_of x)
    unfolding steps.gathered
    same_given =
        ap (λ (n : core.Node). in_id_order (f.points ++ n.points)) here ∙ ap (λ (ps : List Point). in_id_order (f.points ++ ps)) (points-as x)

    opened_then : has_open (node_at after.nodes f.key) o ≡ true
    opened_then =
        ap (λ (n : core.Node). has_open n o) (node_at-here s.nodes f.key (steps.node_after told.rules f.key (node_at s.nodes f.key) (steps.gathered s.nodes f)))
        ∙ (node_after-open told.rules f.key (node_at s.nodes f.key) (steps.gathered s.nodes f) o low
        ∙ (ap (λ (ps : List Point). is_open told.rules f.key.depth (has_open (node_at s.nodes f.key)) ps o) same_given
        ∙ (open_same told f.key.depth (has_open (node_at s.nodes f.key)) (is_open_at x) (in_id_order (f.points ++ points_of x)) o (ap (λ (n : core.Node). has_open n o) here ∙ opens-as x o low)
        ∙ opens.opens)))

    pub opened-is_node : is_node told.rules first (child f.key o) ≡ true
    opened-is_node =
        open-node told.rules told.points first between rest after (arrive-keeps told.rules told.points state cut.0 f cut.1 s.law cut.2) all_points left_points f.key o low opened_then

  -- ---- each drawn slot is the slot of a node

  module _ (locks : AreLocked items views) (tells : told.tells ≡ true) where
    drawn_is_node : (k : ℕ) (key : VoxelKey) → IsDrawn h.keys views k key → is_node told.rules first key ≡ true
    drawn_is_node k key d =
        let r : Drew views d.held d.taken d.draw = d.drew in
        let is : IsDraw told h.keys items r.view.note.flights d.held d.taken d.draw = h.tree.draws r.seat r.view d.held d.taken d.draw r.at r.hold r.noted in
        let opens : OpensOctant told r.view.note.flights d.held d.taken d.draw.octant = is.opens tells in
        let here : KeyOf h.keys d.held opens.carried.flight.key = carried_key r.seat r.view r.at d.held d.parent d.held_is opens.carried opens.among opens.goes_there in
        let same : opens.carried.flight.key ≡ d.parent = key-same h.keys d.held opens.carried.flight.key d.parent here d.held_is in
        let node : is_node told.rules first (child opens.carried.flight.key d.draw.octant) ≡ true = opened-is_node r.seat r.view r.at d.held d.taken (locks.as_taken r.seat r.view d.held d.taken r.at r.hold) d.draw.octant is.low opens here in
        ap (λ (j : VoxelKey). is_node told.rules first j) (sym d.key_is ∙ ap (λ (j : VoxelKey). child j d.draw.octant) (sym same)) ∙ node
      where
        carried_key : (i : ℕ) (v : View) → At views i v → (held : ℕ) (parent : VoxelKey) → KeyOf h.keys held parent → (c : Carried) → IsMember c v.note.flights → c.slot ≡ held → KeyOf h.keys held c.flight.key
        carried_key i v at held parent some c m same =
            elim (h.tree.carried i v c at m) [
              | inl none ↦ (
                  let low = key-low h.keys held parent some in
                  absurd (omega (arith, low.0, same, none.0)))
              | inr is ↦ subst (λ (n : ℕ). KeyOf h.keys n c.flight.key) same is
            ]

    pub key-is_node : (k : ℕ) (key : VoxelKey) → KeyOf h.keys k key → is_node told.rules first key ≡ true
    key-is_node k key is =
        elim (h.tree.born k key is) [
          | inl top ↦
              let same : key ≡ root = key-same h.keys 1 key root (subst (λ (n : ℕ). KeyOf h.keys n key) top is) (h.tree.first 0 root h.is_told.top) in
              ap (λ (j : VoxelKey). is_node told.rules first j) same ∙ is_node-root told.rules first
          | inr more ↦ elim more [
            | inl c ↦ ap (λ (j : VoxelKey). is_node told.rules first j) (sym c.key_is) ∙ open-is_node c.parent c.cell c.octant c.at c.low c.opened
            | inr d ↦ drawn_is_node k key d
          ]
        ]

    -- ---- the refused draw

    module _ (i : ℕ) (v : View) (at : At views i v) (held : ℕ) (x : Taken) (holds : v.hold ≡ Some (held, x)) (o : ℕ) (may : MayDraw told v held x o) (all_drawn : told.most ≤ drawn) where
      abbrev opens : OpensOctant told v.note.flights held x o
      opens = may.opens tells

      abbrev wanted : VoxelKey
      wanted = child may.goes_there.0.flight.key o

      mine : KeyOf h.keys held may.goes_there.0.flight.key
      mine = held-key told drawn items views i v held x h locks at holds o may

      also : KeyOf h.keys held opens.carried.flight.key
      also =
          elim (h.tree.carried i v opens.carried at opens.among) [
            | inl none ↦ (let low : 0 < held = may.is_node in let there : opens.carried.slot ≡ held = opens.goes_there in absurd (omega (arith, low, there, none.0)))
            | inr is ↦ subst (λ (n : ℕ). KeyOf h.keys n opens.carried.flight.key) opens.goes_there is
          ]

      wanted_is_node : is_node told.rules first wanted ≡ true
      wanted_is_node =
          let same : opens.carried.flight.key ≡ may.goes_there.0.flight.key = key-same h.keys held opens.carried.flight.key may.goes_there.0.flight.key also mine in
          ap (λ (j : VoxelKey). is_node told.rules first (child j o)) (sym same)
          ∙ opened-is_node i v at held x (locks.as_taken i v held x at holds) o may.low opens also

      abbrev all_keys : List VoxelKey
      all_keys = h.keys ++ wanted ∷ []

      place_key : (j : ℕ) (key : VoxelKey) → At all_keys j key → KeyOf all_keys (suc j) key
      unfolding KeyOf
      place_key j key a = a

      fresh : (k : ℕ) → KeyOf h.keys k wanted → ⊥
      fresh = no-slot-yet told drawn items views i v held x h locks at holds o may

      different : AreDifferent all_keys
      different j k key a b =
          elim (key-cases h.keys wanted (suc j) key (place_key j key a)) [
            | inl old ↦ elim (key-cases h.keys wanted (suc k) key (place_key k key b)) [
              | inl too ↦ (let e : suc j ≡ suc k = h.tree.distinct (suc j) (suc k) key old too in omega (arith, e))
              | inr new ↦ absurd (fresh (suc j) (subst (λ (n : VoxelKey). KeyOf h.keys (suc j) n) (sym new.1) old))
            ]
            | inr new ↦ elim (key-cases h.keys wanted (suc k) key (place_key k key b)) [
              | inl old ↦ absurd (fresh (suc k) (subst (λ (n : VoxelKey). KeyOf h.keys (suc k) n) (sym new.1) old))
              | inr too ↦ omega (arith, new.0, too.0)
            ]
          ]

      each_is_node : (k : ℕ) (key : VoxelKey) → KeyOf all_keys k key → is_node told.rules first key ≡ true
      each_is_node k key is =
          elim (key-cases h.keys wanted k key is) [
            | inl old ↦ key-is_node k key old
            | inr new ↦ ap (λ (j : VoxelKey). is_node told.rules first j) (sym new.1) ∙ wanted_is_node
          ]

      first_inside : (p : Point) → IsMember p first → InCube told.rules.cube (place p)
      first_inside p m =
          all-member (λ (q : Point). InCube told.rules.cube (place q)) p told.points s.law.points_law.inside (subst (λ (w : List Point). IsMember p w) (sym all_points) (IsMember-left p first rest m))

      among_nodes : (key : VoxelKey) → IsMember key all_keys → IsMember key (node_keys told.rules first)
      among_nodes key m =
          let a = member-at all_keys key m in
          node_keys-IsMember told.rules first key s.law.points_law.cube (All-members (λ (q : Point). InCube told.rules.cube (place q)) first first_inside) (each_is_node (suc a.0) key (place_key a.0 key a.1))

      pub too-many : told.most < length (node_keys told.rules first)
      too-many =
          let fewer : length all_keys ≤ length (node_keys told.rules first) = no-more all_keys (node_keys told.rules first) different among_nodes in
          let n : length all_keys ≡ length h.keys + 1 = length-append h.keys (wanted ∷ []) in
          omega (arith, fewer, n, h.tree.counted, all_drawn)
