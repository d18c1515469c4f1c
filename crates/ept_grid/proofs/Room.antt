-- Room for arrivals.
use Rattle.std.proofs.Common.{◌≡◌, ◌∙◌, ℕ, zero, suc, ◌+◌, ◌≤◌, ◌<◌, Bool, true, false, cond, inl, inr, List, [], ◌∷◌, length, map, refl, sym, ap, subst, arith}
use Rattle.std.specs.Prelude.{Result, Ok, Err, OnOk, ◌==◌, if◌then◌else◌, slice_index}
use Rattle.std.proofs.lemmas.Bool.{eq-eqb, false≢true}
use Rattle.std.proofs.lemmas.List.Sorted.{length_permutation}
use Rattle.ept_point.specs.declared.point.Point.{Point}
use Rattle.ept_space.specs.declared.cube.Rules.{Rules}
use Rattle.ept_space.proofs.PlaceKeys.{octant_at-below}
use Rattle.ept_sample.specs.Place.{place}
use Rattle.ept_sample.specs.Arrivals.{octant}
use Rattle.ept_sample.proofs.Choices.{either, or_left}
use Rattle.ept_sample.proofs.IdLaws.{count_by-cons}
use Rattle.ept_grid.specs.Mask.{opened}
use Rattle.ept_grid.specs.Outgoing.{Leaving, leaving_at, points_at}
use Rattle.ept_grid.specs.Node.{Node, Lane, lane_at, count_in, lane_spare, HasRoomFor}
use Rattle.ept_grid.specs.Contents.{AreFew, HasSentAt, IsLaneAfter, HasTaken, HasLaneRoom, lane_of, opens_with}
use Rattle.ept_grid.proofs.Sent.{none-added}

-- the count and the room of an octant's losers
pub lane-of : (losers : List Leaving) (o : ℕ) → lane_at (map lane_of losers) o ≡ lane_of (leaving_at losers o)
lane-of [] o = refl
lane-of (l ∷ losers) zero = refl
lane-of (l ∷ losers) (suc o) = lane-of losers o

-- ---- an arrival

-- what is left of the room of an octant
lane-after : (rules : Rules) (depth mask mask' o more : ℕ) (losers mid stay before after : Leaving) → (opened mask o ≡ true → losers.points ≡ []) → IsLaneAfter more losers mid → HasSentAt rules depth mask mask' o mid stay before after → lane_spare (opened mask o) (lane_of losers) before.room ≤ lane_spare (opened mask' o) (lane_of stay) after.room + more
lane-after rules depth mask mask' o more losers mid stay before after gone lane at =
    elim (either (opened mask o)) [
      | inl was ↦
          let now : opened mask' o ≡ true = at.opens ∙ or_left (opened mask o) (opens_with rules depth (length mid.points)) was in
          rw (was, now) (omega (arith, at.places, lane.grows, ap (λ (w : List Point). length w) (gone was), length_permutation mid.points at.added (at.leave now)))
      | inr was ↦
          elim (either (opened mask' o)) [
            | inl now ↦ rw (was, now) (omega (arith, at.places, lane.grows, length_permutation mid.points at.added (at.leave now)))
            | inr now ↦ rw (was, now) (omega (arith, at.places, at.room now, lane.grows, lane.room, ap (λ (w : List Point). length w) (at.shut now).0, none-added rules depth mask mask' o mid stay before after at now))
          ]
    ]

-- if there is room for a point and others, there is room for the others once it has arrived
pub room-after : (old new : Node) (p : Point) (ws ws' : List Point) (losers losers' before after : List Leaving) → new.rules ≡ old.rules → new.key ≡ old.key → old.room.lanes ≡ map lane_of losers → new.room.lanes ≡ map lane_of losers' → old.room.cells ≤ new.room.cells + 1 → AreFew old.rules old.key.depth old.mask losers → HasTaken old.rules old.key.depth old.mask new.mask p ws ws' losers losers' before after
    → (later : List Point) → HasRoomFor old before (p ∷ later) → HasRoomFor new after later
room-after old new p ws ws' losers losers' before after rules key lanes lanes' fewer few t later room = record {
  cells = omega (arith, room.cells, fewer);
  places = λ o h.
      let one : ℕ = if octant old.rules old.key.depth p == o then 1 else 0 in
      let was : lane_at old.room.lanes o ≡ lane_of (leaving_at losers o) = ap (λ (w : List Lane). lane_at w o) lanes ∙ lane-of losers o in
      let is : lane_at new.room.lanes o ≡ lane_of (leaving_at losers' o) = ap (λ (w : List Lane). lane_at w o) lanes' ∙ lane-of losers' o in
      let all : count_in old.rules old.key.depth o (p ∷ later) ≤ lane_spare (opened old.mask o) (lane_of (leaving_at losers o)) (leaving_at before o).room =
      subst (λ (l : Lane). count_in old.rules old.key.depth o (p ∷ later) ≤ lane_spare (opened old.mask o) l (leaving_at before o).room) was (room.places o h) in
      let counted : count_in old.rules old.key.depth o (p ∷ later) ≡ one + count_in old.rules old.key.depth o later = count_by-cons (λ q. octant old.rules old.key.depth q == o) p later in
      let left = lane-after old.rules old.key.depth old.mask new.mask o one (leaving_at losers o) (leaving_at t.mid o) (leaving_at losers' o) (leaving_at before o) (leaving_at after o) (few.gone o h) (t.lanes o h) (t.sent.each o h) in
      let same : count_in new.rules new.key.depth o later ≡ count_in old.rules old.key.depth o later = λ i. count_in (rules i) (key i).depth o later in
      subst (λ (l : Lane). count_in new.rules new.key.depth o later ≤ lane_spare (opened new.mask o) l (leaving_at after o).room) (sym is) (omega (arith, all, counted, left, same));
}

-- if there is room for a point, there is a place for it in its octant
pub one-place : (rules : Rules) (depth mask : ℕ) (p : Point) (lanes : List Lane) (losers out : List Leaving) → lanes ≡ map lane_of losers → AreFew rules depth mask losers
    → count_in rules depth (octant rules depth p) (p ∷ []) ≤ lane_spare (opened mask (octant rules depth p)) (lane_at lanes (octant rules depth p)) (leaving_at out (octant rules depth p)).room
    → (opened mask (octant rules depth p) ≡ false → 0 < (leaving_at losers (octant rules depth p)).room) × (length (points_at losers (octant rules depth p)) + 1 ≤ (leaving_at out (octant rules depth p)).room)
one-place rules depth mask p lanes losers out are few enough =
    let o : ℕ = octant rules depth p in
    let itself : (o == o) ≡ true = eq-eqb o o refl in
    let one : count_in rules depth o (p ∷ []) ≡ 1 = count_by-cons (λ q. octant rules depth q == o) p [] ∙ ap (λ (b : Bool). cond b 1 0 + 0) itself in
    let at : count_in rules depth o (p ∷ []) ≤ lane_spare (opened mask o) (lane_of (leaving_at losers o)) (leaving_at out o).room =
    subst (λ (l : Lane). count_in rules depth o (p ∷ []) ≤ lane_spare (opened mask o) l (leaving_at out o).room) (ap (λ (w : List Lane). lane_at w o) are ∙ lane-of losers o) enough in
    elim (either (opened mask o)) [
      | inl is ↦
          let here = rw is at at in
          (λ isn't. absurd (false≢true (sym isn't ∙ is)), omega (arith, here, one, ap (λ (w : List Point). length w) (few.gone o (octant_at-below rules.cube depth (place p)) is)))
      | inr isn't ↦ let here = rw isn't at at in (λ _. omega (arith, here, one), omega (arith, here, one))
    ]

-- ---- room that is made

-- room in an octant's lists is room for the count of its points
lane-made : (mask o count : ℕ) (losers out : List Leaving) → HasLaneRoom mask o count losers out → count ≤ lane_spare (opened mask o) (lane_of (leaving_at losers o)) (leaving_at out o).room
lane-made mask o count losers out room =
    elim (either (opened mask o)) [
      | inl is ↦ rw is (omega (arith, room.leave))
      | inr isn't ↦ rw isn't (omega (arith, room.leave, room.stay isn't))
    ]

-- room for each point, and in the lists of its octant, is room for all
pub room-made : {A B : Type 0} (r : Result A B) (node : Node) (losers out : List Leaving) (points : List Point) → node.room.lanes ≡ map lane_of losers → OnOk r (length points ≤ node.room.cells) → OnOk r ((o : ℕ) → o < 8 → HasLaneRoom node.mask o (count_in node.rules node.key.depth o points) losers out) → OnOk r (HasRoomFor node out points)
room-made (Ok v) node losers out points lanes cells each = record {
  cells = cells;
  places = λ o h.
      subst (λ (l : Lane). count_in node.rules node.key.depth o points ≤ lane_spare (opened node.mask o) l (leaving_at out o).room) (sym (ap (λ (w : List Lane). lane_at w o) lanes ∙ lane-of losers o)) (lane-made node.mask o _ losers out (each o h));
}
room-made (Err e) node losers out points lanes cells each = cells

-- what a result says of each octant, said of equal counts
pub same-counts : {A B : Type 0} (r : Result A B) (mask : ℕ) (counts : ℕ → ℕ) (losers out : List Leaving) (numbers : List ℕ) → ((o : ℕ) → o < 8 → slice_index numbers o ≡ counts o) → OnOk r ((o : ℕ) → o < 8 → HasLaneRoom mask o (slice_index numbers o) losers out) → OnOk r ((o : ℕ) → o < 8 → HasLaneRoom mask o (counts o) losers out)
same-counts (Ok v) mask counts losers out numbers same each = λ o h. subst (λ (n : ℕ). HasLaneRoom mask o n losers out) (same o h) (each o h)
same-counts (Err e) mask counts losers out numbers same each = each

-- more room to leave is no less room
more-spare : (was_open : Bool) (lane : Lane) (less more : ℕ) → less ≤ more → lane_spare was_open lane less ≤ lane_spare was_open lane more
more-spare true lane less more h = h
more-spare false lane less more h = omega (arith, h)

pub room-more : (node : Node) (before after : List Leaving) (points : List Point) → ((o : ℕ) → (leaving_at before o).room ≤ (leaving_at after o).room) → HasRoomFor node before points → HasRoomFor node after points
room-more node before after points more room = record {
  cells = room.cells;
  places = λ o h. omega (arith, room.places o h, more-spare (opened node.mask o) (lane_at node.room.lanes o) _ _ (more o));
}
