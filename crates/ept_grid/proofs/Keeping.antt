-- A node stays a node when it takes in a point.
use Rattle.std.proofs.Common.{◌≡◌, ◌∙◌, ℕ, ◌*◌, ◌^◌, ◌<◌, ◌≤◌, ◌⊎◌, inl, inr, Bool, true, false, ◌&&◌, nat_lt, List, [], ◌∷◌, ◌++◌, length, length-append, refl, ap, sym, subst, arith}
use Rattle.std.specs.Prelude.{◌==◌, if◌then◌else◌}
use Rattle.std.proofs.lemmas.Bool.{eq-eqb}
use Rattle.std.proofs.lemmas.List.Sorted.{IsPermutation-sym}
use Rattle.std.proofs.lemmas.List.{length-map}
use Rattle.ept_point.specs.declared.point.Point.{Point}
use Rattle.ept_space.specs.declared.cube.Rules.{Rules}
use Rattle.ept_space.specs.VoxelKey.{VoxelKey}
use Rattle.ept_space.specs.OctreeCube.{InBox, OctreeCube}
use Rattle.ept_space.proofs.PlaceKeys.{octant_at-below}
use Rattle.ept_space.proofs.Cells.{octant_at-same_cell}
use Rattle.ept_sample.specs.Place.{place, AllInBox}
use Rattle.ept_sample.specs.Members.{IsMember}
use Rattle.ept_sample.specs.Arrivals.{octant}
use Rattle.ept_sample.proofs.Members.{all-member, All-members, IsMember-left, IsMember-right, IsMember-append}
use Rattle.ept_sample.proofs.IdLaws.{IsMember-IsPermutation}
use Rattle.ept_grid.specs.declared.pool.Cell.{Cell}
use Rattle.ept_grid.specs.Outgoing.{Leaving, leaving_at, points_at, all_points}
use Rattle.ept_grid.specs.Settling.{winners, AreApart, HasItsCell, HasContended}
use Rattle.ept_grid.specs.Columns.{spots_of, nexts_of, IsChained}
use Rattle.ept_grid.specs.Contents.{contents, IsSettled, AreFew, HasSent, HasTaken, joined, IsNode, IsBehind, IsLaneAfter, cell_room, opens_with}
use Rattle.ept_grid.proofs.Lanes.{member-at, at-member, joined-there, joined-other}
use Rattle.ept_grid.proofs.Leaving.{same_or}
use Rattle.ept_grid.proofs.Contest.{own-cell, contended}
use Rattle.ept_grid.proofs.Sent.{stayed, settled-sent, few-sent}
use Rattle.ept_grid.proofs.Leaving.{none-lost}
use Rattle.ept_grid.proofs.Leavings.{all-same}
use Rattle.std.proofs.lemmas.Bool.Decides.{nat_tests}

-- ---- what is taken

-- a list of losers as it is
same-lane : (l : Leaving) (more : ℕ) → IsLaneAfter more l l
same-lane l more = record { grows = omega arith; room = omega arith }

-- a point that loses lies in the octant of the point that has come
pub loser-octant : (rules : Rules) (depth : ℕ) (p : Point) (ws ws' : List Point) (loser : Point) → 1 ≤ rules.cube.s → HasContended rules depth p ws ws' loser → octant rules depth loser ≡ octant rules depth p
loser-octant rules depth p ws ws' loser span h = elim h.outcome [
  | inl r ↦ ap (λ (q : Point). octant rules depth q) r.2 ∙ octant_at-same_cell rules.cube depth depth (place h.winner) (place p) span (omega arith) h.one_cell
  | inr r ↦ ap (λ (q : Point). octant rules depth q) r.2
]

-- the lists of losers with one more, in that of its octant
joined-lane : (rules : Rules) (depth : ℕ) (p loser : Point) (losers : List Leaving) (o : ℕ) → length losers ≡ 8 → o < 8 → octant rules depth loser ≡ octant rules depth p → IsLaneAfter (if octant rules depth p == o then 1 else 0) (leaving_at losers o) (leaving_at (joined losers (octant rules depth loser) loser) o)
joined-lane rules depth p loser losers o eight h same = elim (same_or o (octant rules depth loser)) [
  | inl is ↦
      let here : (octant rules depth p == o) ≡ true = eq-eqb (octant rules depth p) o (sym same ∙ sym is) in
      let k : ℕ = octant rules depth loser in
      let there = joined-there losers k loser (omega (arith, eight, h, is)) in
      rw here (subst (λ (n : ℕ). IsLaneAfter 1 (leaving_at losers n) (leaving_at (joined losers k loser) n)) (sym is) (record {
        grows = omega (arith, ap (λ (w : List Point). length w) there.0, length-append (points_at losers k) (loser ∷ []));
        room = omega (arith, there.1);
      }))
  | inr isn't ↦ subst (λ (l : Leaving). IsLaneAfter (if octant rules depth p == o then 1 else 0) (leaving_at losers o) l) (sym (joined-other losers (octant rules depth loser) o loser isn't)) (same-lane (leaving_at losers o) _)
]

pub taken-own : (rules : Rules) (depth mask : ℕ) (p : Point) (ws ws' : List Point) (losers out : List Leaving) → length losers ≡ 8 → length out ≡ 8 → IsSettled rules depth ws losers → AreFew rules depth mask losers → AreApart rules depth ws' → HasItsCell rules depth p ws ws' → HasTaken rules depth mask mask p ws ws' losers losers out out
taken-own rules depth mask p ws ws' losers out e f s few apart h =
    let now = own-cell rules depth p ws ws' losers s apart h in record {
      mid = losers;
      settled = now.settled;
      together = now.together;
      lanes = λ o m. same-lane (leaving_at losers o) _;
      sent = none-lost rules depth mask losers out e f few;
    }

pub taken-lost : (rules : Rules) (depth mask mask' : ℕ) (p : Point) (ws ws' : List Point) (losers losers' before after : List Leaving) (loser : Point) → 1 ≤ rules.cube.s → length losers ≡ 8 → IsSettled rules depth ws losers → AreApart rules depth ws' → HasContended rules depth p ws ws' loser → HasSent rules depth mask mask' (joined losers (octant rules depth loser) loser) losers' before after → HasTaken rules depth mask mask' p ws ws' losers losers' before after
taken-lost rules depth mask mask' p ws ws' losers losers' before after loser span e s apart h sent =
    let now = contended rules depth p ws ws' losers loser (octant rules depth loser) (omega (arith, e, octant_at-below rules.cube depth (place loser))) refl s apart h in record {
      mid = joined losers (octant rules depth loser) loser;
      settled = now.settled;
      together = now.together;
      lanes = λ o m. joined-lane rules depth p loser losers o e m (loser-octant rules depth p ws ws' loser span h);
      sent = sent;
    }

-- ---- where the points lie

pub loser-in-box : (rules : Rules) (depth : ℕ) (key : VoxelKey) (p : Point) (ws ws' : List Point) (loser : Point) → AllInBox rules.cube key ws → InBox rules.cube key (place p) → HasContended rules depth p ws ws' loser → InBox rules.cube key (place loser)
loser-in-box rules depth key p ws ws' loser all here h =
    elim h.outcome [
      | inl r ↦ subst (λ (x : Point). InBox rules.cube key (place x)) (sym r.2) (all-member (λ q. InBox rules.cube key (place q)) h.winner ws all (subst (λ (w : List Point). IsMember h.winner w) (sym h.stood) (IsMember-right h.winner h.front (h.winner ∷ h.back) (inl refl))))
      | inr r ↦ subst (λ (x : Point). InBox rules.cube key (place x)) (sym r.2) here
    ]

pub winners-inside : (cube : OctreeCube) (key : VoxelKey) (ws : List Point) (losers : List Leaving) → AllInBox cube key (contents ws losers) → AllInBox cube key ws
winners-inside cube key ws losers all =
    All-members (λ q. InBox cube key (place q)) ws (λ q m. all-member (λ q. InBox cube key (place q)) q (contents ws losers) all (IsMember-left q ws (all_points losers) m))

pub taken-member : (rules : Rules) (depth mask mask' : ℕ) (p : Point) (ws ws' : List Point) (losers losers' before after : List Leaving) → HasTaken rules depth mask mask' p ws ws' losers losers' before after → (q : Point) → IsMember q (contents ws' losers') → IsMember q (p ∷ contents ws losers)
taken-member rules depth mask mask' p ws ws' losers losers' before after t q m =
    IsMember-IsPermutation q (contents ws' t.mid) (p ∷ contents ws losers) (IsPermutation-sym (p ∷ contents ws losers) (contents ws' t.mid) t.together) (elim (IsMember-append q ws' (all_points losers') m) [
      | inl w ↦ IsMember-left q ws' (all_points t.mid) w
      | inr l ↦ let at = member-at losers' q l in IsMember-right q ws' (all_points t.mid) (at-member t.mid at.0 q (stayed rules depth mask mask' t.mid losers' before after t.sent at.0 q at.2))
    ])

taken_inside : (key : VoxelKey) (rules : Rules) (depth mask mask' : ℕ) (p : Point) (ws ws' : List Point) (losers losers' before after : List Leaving) → HasTaken rules depth mask mask' p ws ws' losers losers' before after → AllInBox rules.cube key (contents ws losers) → InBox rules.cube key (place p) → AllInBox rules.cube key (contents ws' losers')
taken_inside key rules depth mask mask' p ws ws' losers losers' before after t all here =
    All-members (λ q. InBox rules.cube key (place q)) (contents ws' losers') (λ q m. elim (taken-member rules depth mask mask' p ws ws' losers losers' before after t q m) [
      | inl is ↦ subst (λ (x : Point). InBox rules.cube key (place x)) is here
      | inr old ↦ all-member (λ q. InBox rules.cube key (place q)) q (contents ws losers) all old
    ])

-- ---- the node

pub node-taken : (key : VoxelKey) (rules : Rules) (mask mask' : ℕ) (p : Point) (heads heads' : List ℕ) (cells cells' : List Cell) (capacity capacity' : ℕ) (losers losers' before after : List Leaving) → IsNode key rules heads cells capacity losers mask → InBox rules.cube key (place p) → length heads' ≡ length heads → capacity' ≡ capacity → IsChained heads' (nexts_of cells') (spots_of rules key.depth cells') → HasTaken rules key.depth mask mask' p (winners cells) (winners cells') losers losers' before after → (rules.cube.depth ≤ key.depth → mask' ≡ mask) → IsNode key rules heads' cells' capacity' losers' mask'
node-taken key rules mask mask' p heads heads' cells cells' capacity capacity' losers losers' before after node here e f chained t deepest = record {
  low = node.low;
  table = elim node.table [ inl none ↦ inl (e ∙ none) | inr all ↦ inr (e ∙ all) ];
  some = λ h. omega (arith, e, node.some (omega (arith, f, h)));
  chained = chained;
  inside = taken_inside key rules key.depth mask mask' p (winners cells) (winners cells') losers losers' before after t node.inside here;
  settled = settled-sent rules key.depth mask mask' (winners cells') t.mid losers' before after t.settled t.sent;
  eight = t.sent.stay_eight;
  few = few-sent rules key.depth mask mask' t.mid losers' before after t.sent;
  deepest = λ h. deepest (omega (arith, h)) ∙ node.deepest h;
}

-- the table of heads, if there is room for a cell
pub all-heads : (key : VoxelKey) (rules : Rules) (mask : ℕ) (heads : List ℕ) (cells : List Cell) (capacity : ℕ) (losers : List Leaving) → IsNode key rules heads cells capacity losers mask → 0 < capacity → length heads ≡ 2 ^ (2 * rules.cube.s)
all-heads key rules mask heads cells capacity losers node h =
    elim node.table [ inl none ↦ absurd (omega (arith, none, node.some h)) | inr all ↦ all ]

-- ---- how many winners there are

pub contended-length : (rules : Rules) (depth : ℕ) (p : Point) (ws ws' : List Point) (loser : Point) → HasContended rules depth p ws ws' loser → length ws' ≡ length ws
contended-length rules depth p ws ws' loser h =
    elim h.outcome [
      | inl r ↦ omega (arith, ap (λ (w : List Point). length w) h.stood, ap (λ (w : List Point). length w) r.1, length-append h.front (p ∷ h.back), length-append h.front (h.winner ∷ h.back))
      | inr r ↦ ap (λ (w : List Point). length w) r.1
    ]

pub same-cells : (cells cells' : List Cell) → length (winners cells') ≡ length (winners cells) → length cells' ≡ length cells
same-cells cells cells' e = omega (arith, e, length-map cells (λ (c : Cell). c.point), length-map cells' (λ (c : Cell). c.point))

-- ---- room

pub room-cell : (capacity count : ℕ) → 0 < cell_room capacity count → (count < capacity) × (count < 4294967295)
room-cell capacity count h = (omega (arith, h), omega (arith, h))

-- a node without points
pub node-none : (key : VoxelKey) (rules : Rules) (heads : List ℕ) (cells : List Cell) (capacity : ℕ) (losers : List Leaving) → key.depth ≤ rules.cube.depth → heads ≡ [] → cells ≡ [] → capacity ≡ 0 → length losers ≡ 8 → ((o : ℕ) → points_at losers o ≡ []) → IsNode key rules heads cells capacity losers 0
node-none key rules heads cells capacity losers low e f g eight none = record {
  low = low;
  table = inl (ap (λ (w : List ℕ). length w) e);
  some = λ h. absurd (omega (arith, g, h));
  chained = subst (λ (w : List ℕ). IsChained w (nexts_of cells) (spots_of rules key.depth cells)) (sym e) (subst (λ (w : List Cell). IsChained [] (nexts_of w) (spots_of rules key.depth w)) (sym f) (record {
    each = refl;
    first = λ c h. absurd (omega (arith, h));
    next = λ k h. absurd (omega (arith, h));
    apart = λ i j h. absurd (omega (arith, h));
  }));
  inside = All-members (λ q. InBox rules.cube key (place q)) (contents (winners cells) losers) (λ q m. absurd (nobody q m));
  settled = record {
    apart = λ a b m. absurd (subst (λ (w : List Cell). IsMember a (winners w)) f m);
    behind = λ o q m. absurd (subst (λ (w : List Point). IsMember q w) (none o) m);
  };
  eight = eight;
  few = record {
    shut = λ o h isn't. ap (λ (w : List Point). opens_with rules key.depth (length w)) (none o) ∙ never rules.threshold (nat_lt key.depth rules.cube.depth);
    gone = λ o h is. none o;
  };
  deepest = λ _. refl;
}
  where
    nobody : (q : Point) → IsMember q (contents (winners cells) losers) → ⊥
    nobody q m =
        elim (IsMember-append q (winners cells) (all_points losers) m) [
          | inl w ↦ subst (λ (v : List Cell). IsMember q (winners v)) f w
          | inr l ↦ let at = member-at losers q l in subst (λ (v : List Point). IsMember q v) (none at.0) at.2
        ]

    never : (n : ℕ) (b : Bool) → (b && nat_lt n 0) ≡ false
    never n true = grind (arith, nat_tests)
    never n false = refl

-- only the room is different
pub node-made : (key : VoxelKey) (rules : Rules) (mask : ℕ) (heads heads' : List ℕ) (cells cells' : List Cell) (capacity capacity' : ℕ) (losers losers' : List Leaving) → IsNode key rules heads cells capacity losers mask → (length heads' ≡ 0) ⊎ (length heads' ≡ 2 ^ (2 * rules.cube.s)) → (0 < capacity' → 0 < length heads') → cells' ≡ cells → length losers' ≡ length losers → ((o : ℕ) → points_at losers' o ≡ points_at losers o) → (IsChained heads (nexts_of cells) (spots_of rules key.depth cells) → IsChained heads' (nexts_of cells') (spots_of rules key.depth cells')) → IsNode key rules heads' cells' capacity' losers' mask
node-made key rules mask heads heads' cells cells' capacity capacity' losers losers' node table some same len each chained = record {
  low = node.low;
  table = table;
  some = some;
  chained = chained node.chained;
  inside = subst (λ (w : List Cell). AllInBox rules.cube key (contents (winners w) losers')) (sym same) (subst (λ (w : List Point). AllInBox rules.cube key (winners cells ++ w)) (sym (all-same losers losers' len each)) node.inside);
  settled = record {
    apart = subst (λ (w : List Cell). AreApart rules key.depth (winners w)) (sym same) node.settled.apart;
    behind = λ o q m. subst (λ (w : List Cell). IsBehind rules key.depth (winners w) o q) (sym same) (node.settled.behind o q (subst (λ (w : List Point). IsMember q w) (each o) m));
  };
  eight = len ∙ node.eight;
  few = record {
    shut = λ o h isn't. ap (λ (w : List Point). opens_with rules key.depth (length w)) (each o) ∙ node.few.shut o h isn't;
    gone = λ o h is. each o ∙ node.few.gone o h is;
  };
  deepest = node.deepest;
}
