-- The points of a tile, settled one by one.
use Rattle.std.proofs.Common.{◌≡◌, ◌≢◌, ◌∙◌, ℕ, suc, ◌+◌, ◌*◌, ◌^◌, ◌<◌, ◌≤◌, ◌⊎◌, inl, inr, Bool, true, false, cond, ◌&&◌, ◌==◌, not, nat_lt, List, [], ◌∷◌, ◌++◌, length, length-append, take, drop, get_or, refl, ap, sym, subst, arith}
use Rattle.std.specs.Prelude.{position, MatchOption, Option, Some, None}
use Rattle.std.specs.List.{position_or_len}
use Rattle.std.specs.List.Sorted.{IsPermutation}
use Rattle.std.proofs.lemmas.Bool.Decides.{nat_tests}
use Rattle.std.proofs.lemmas.List.{length-map, length-take, take_more, take-append-drop}
use Rattle.std.proofs.lemmas.List.Sorted.{IsPermutation-refl, IsPermutation-sym, IsPermutation-trans, IsPermutation-cons, IsPermutation-to_front, length_permutation}
use Rattle.ept_point.specs.declared.point.Point.{Point}
use Rattle.ept_point.specs.Order.{IsAscending}
use Rattle.ept_space.specs.declared.cube.Rules.{Rules}
use Rattle.ept_space.specs.VoxelKey.{VoxelKey, IsKey}
use Rattle.ept_space.specs.OctreeCube.{InBox, InCube, IsCube}
use Rattle.ept_space.proofs.PlaceKeys.{InCube-box}
use Rattle.ept_sample.specs.Place.{place, AllInBox, AllInCube}
use Rattle.ept_sample.specs.Ids.{HasDistinctIds, in_id_order}
use Rattle.ept_sample.specs.Members.{IsMember}
use Rattle.ept_sample.specs.Arrivals.{octant, loses, overflows}
use Rattle.ept_sample.proofs.Choices.{either, not_both, is_false, and_left, and_right, and_both}
use Rattle.ept_sample.proofs.Members.{all-member, All-members, IsMember-left, IsMember-right, IsMember-append}
use Rattle.ept_sample.proofs.IdLaws.{IsMember-IsPermutation, HasDistinctIds-IsAscending, HasDistinctIds-IsPermutation, IsPermutation-in_id_order}
use Rattle.ept_grid.specs.declared.pool.Cell.{Cell}
use Rattle.ept_grid.specs.Mask.{opened}
use Rattle.ept_grid.specs.Outgoing.{Leaving, points_at, all_points}
use Rattle.ept_grid.specs.Settling.{winners, AreApart, HasItsCell, HasContended}
use Rattle.ept_grid.specs.Columns.{spots_of, nexts_of, IsChained}
use Rattle.ept_grid.specs.Contents.{contents, joined, opens_with, IsFilled, IsNode, IsSettled}
use Rattle.ept_grid.specs.Tile.{is_open_loser, is_overfull, IsTile}
use Rattle.ept_grid.proofs.Lanes.{member-at, at-member, joined-there, joined-other, length-joined}
use Rattle.ept_grid.proofs.Leavings.{all-same}
use Rattle.ept_grid.proofs.Settled.{overflows-lane, loses-lane, wins-given}
use Rattle.ept_grid.proofs.Contest.{own-cell, contended}
use Rattle.ept_grid.proofs.InOrder.{inside-in_order, ascending-order}

-- ---- one more point

pushed : {X : Type 0} (ps : List X) (p : X) (all mid : List X) → IsPermutation ps all → IsPermutation (p ∷ all) mid → IsPermutation (ps ++ p ∷ []) mid
pushed ps p all mid h g =
    IsPermutation-trans (ps ++ p ∷ []) (p ∷ ps) mid (IsPermutation-to_front ps p) (IsPermutation-trans (p ∷ ps) (p ∷ all) mid (IsPermutation-cons p ps all h) g)

took : (points : List Point) (at : ℕ) (p : Point) → at < length points → p ≡ get_or points at p → take at points ++ p ∷ [] ≡ take (at + 1) points
took points at p h is = ap (λ (q : Point). take at points ++ q ∷ []) is ∙ sym (take_more points at p h)

pub filled-own : (key : VoxelKey) (rules : Rules) (heads heads' : List ℕ) (cells cells' : List Cell) (capacity capacity' : ℕ) (losers : List Leaving) (points : List Point) (at : ℕ) (p : Point) → IsFilled key rules heads cells capacity losers (take at points) → at < length points → p ≡ get_or points at p → length heads' ≡ length heads → capacity' ≡ capacity → IsChained heads' (nexts_of cells') (spots_of rules key.depth cells') → AreApart rules key.depth (winners cells') → HasItsCell rules key.depth p (winners cells) (winners cells') → IsFilled key rules heads' cells' capacity' losers (take (at + 1) points)
filled-own key rules heads heads' cells cells' capacity capacity' losers points at p f h is e g chained apart own =
    let now = own-cell rules key.depth p (winners cells) (winners cells') losers f.settled apart own in record {
      table = elim f.table [ inl none ↦ inl (e ∙ none) | inr all ↦ inr (e ∙ all) ];
      some = λ m. omega (arith, e, f.some (omega (arith, g, m)));
      chained = chained;
      settled = now.settled;
      eight = f.eight;
      all = subst (λ (w : List Point). IsPermutation w (contents (winners cells') losers)) (took points at p h is) (pushed (take at points) p (contents (winners cells) losers) (contents (winners cells') losers) f.all now.together);
    }

same_points : (losers losers' : List Leaving) (k : ℕ) (q : Point) → k < length losers → points_at losers' k ≡ points_at losers k ++ q ∷ [] → ((o : ℕ) → o ≢ k → points_at losers' o ≡ points_at losers o) → (o : ℕ) → points_at losers' o ≡ points_at (joined losers k q) o
same_points losers losers' k q h added others o =
    elim (either (o == k)) [
      | inl is ↦ let same : o ≡ k = grind (arith, nat_tests) in subst (λ (n : ℕ). points_at losers' n ≡ points_at (joined losers k q) n) (sym same) (added ∙ sym (joined-there losers k q h).0)
      | inr isn't ↦ let apart : o ≢ k = (λ e. grind (arith, nat_tests)) in others o apart ∙ ap (λ (l : Leaving). l.points) (sym (joined-other losers k o q apart))
    ]

pub filled-lost : (key : VoxelKey) (rules : Rules) (heads heads' : List ℕ) (cells cells' : List Cell) (capacity capacity' : ℕ) (losers losers' : List Leaving) (points : List Point) (at : ℕ) (p loser : Point) (o : ℕ) → IsFilled key rules heads cells capacity losers (take at points) → at < length points → p ≡ get_or points at p → length heads' ≡ length heads → capacity' ≡ capacity → IsChained heads' (nexts_of cells') (spots_of rules key.depth cells') → AreApart rules key.depth (winners cells') → HasContended rules key.depth p (winners cells) (winners cells') loser → octant rules key.depth loser ≡ o → o < 8 → length losers' ≡ length losers → points_at losers' o ≡ points_at losers o ++ loser ∷ [] → ((k : ℕ) → k ≢ o → points_at losers' k ≡ points_at losers k) → IsFilled key rules heads' cells' capacity' losers' (take (at + 1) points)
filled-lost key rules heads heads' cells cells' capacity capacity' losers losers' points at p loser o f h is e g chained apart lost here small len added others =
    let now = contended rules key.depth p (winners cells) (winners cells') losers loser o (omega (arith, small, f.eight)) here f.settled apart lost in
    let same = same_points losers losers' o loser (omega (arith, small, f.eight)) added others in
    let all : all_points losers' ≡ all_points (joined losers o loser) = all-same (joined losers o loser) losers' (len ∙ sym (length-joined losers o loser)) same in
    record {
      table = elim f.table [ inl none ↦ inl (e ∙ none) | inr all ↦ inr (e ∙ all) ];
      some = λ m. omega (arith, e, f.some (omega (arith, g, m)));
      chained = chained;
      settled = record { apart = now.settled.apart; behind = λ k q m. now.settled.behind k q (subst (λ (w : List Point). IsMember q w) (same k) m) };
      eight = len ∙ f.eight;
      all = subst (λ (w : List Point). IsPermutation w (contents (winners cells') losers')) (took points at p h is) (subst (λ (w : List Point). IsPermutation (take at points ++ p ∷ []) (winners cells' ++ w)) (sym all) (pushed (take at points) p (contents (winners cells) losers) (contents (winners cells') (joined losers o loser)) f.all now.together));
    }

-- ---- while points are settled

taken_member : (n : ℕ) (points : List Point) (q : Point) → IsMember q (take n points) → IsMember q points
taken_member n points q m =
    subst (λ (w : List Point). IsMember q w) (take-append-drop n points) (IsMember-left q (take n points) (drop n points) m)

pub filled-inside : (key : VoxelKey) (rules : Rules) (heads : List ℕ) (cells : List Cell) (capacity : ℕ) (losers : List Leaving) (points : List Point) (at : ℕ) → IsFilled key rules heads cells capacity losers (take at points) → AllInBox rules.cube key points → AllInBox rules.cube key (winners cells)
filled-inside key rules heads cells capacity losers points at f all =
    All-members (λ q. InBox rules.cube key (place q)) (winners cells) (λ q m. all-member (λ q. InBox rules.cube key (place q)) q points all (taken_member at points q (IsMember-IsPermutation q (contents (winners cells) losers) (take at points) (IsPermutation-sym (take at points) (contents (winners cells) losers) f.all) (IsMember-left q (winners cells) (all_points losers) m))))

pub filled-few : (key : VoxelKey) (rules : Rules) (heads : List ℕ) (cells : List Cell) (capacity : ℕ) (losers : List Leaving) (points : List Point) (at : ℕ) → IsFilled key rules heads cells capacity losers (take at points) → length cells ≤ at
filled-few key rules heads cells capacity losers points at f =
    omega (arith, length_permutation (take at points) (contents (winners cells) losers) f.all, length-append (winners cells) (all_points losers), length-map cells (λ (c : Cell). c.point), length-take at points)

-- the same cells, with heads and room for more of them
pub filled-wider : (key : VoxelKey) (rules : Rules) (heads heads' : List ℕ) (cells cells' : List Cell) (capacity capacity' : ℕ) (losers : List Leaving) (points : List Point) → (length heads' ≡ 0) ⊎ (length heads' ≡ 2 ^ (2 * rules.cube.s)) → (0 < capacity' → 0 < length heads') → (IsChained heads (nexts_of cells) (spots_of rules key.depth cells) → IsChained heads' (nexts_of cells') (spots_of rules key.depth cells')) → cells' ≡ cells → IsFilled key rules heads cells capacity losers points → IsFilled key rules heads' cells' capacity' losers points
filled-wider key rules heads heads' cells cells' capacity capacity' losers points table some chained same f = record {
  table = table;
  some = some;
  chained = chained f.chained;
  settled = subst (λ (w : List Cell). IsSettled rules key.depth (winners w) losers) (sym same) f.settled;
  eight = f.eight;
  all = subst (λ (w : List Cell). IsPermutation points (contents (winners w) losers)) (sym same) f.all;
}

pub filled-table : (key : VoxelKey) (rules : Rules) (heads : List ℕ) (cells : List Cell) (capacity : ℕ) (losers : List Leaving) (points : List Point) → IsFilled key rules heads cells capacity losers points → 0 < capacity → length heads ≡ 2 ^ (2 * rules.cube.s)
filled-table key rules heads cells capacity losers points f h =
    elim f.table [ inl none ↦ absurd (omega (arith, none, f.some h)) | inr all ↦ all ]

pub chained-none : (rules : Rules) (depth : ℕ) (heads : List ℕ) (cells : List Cell) → heads ≡ [] → cells ≡ [] → IsChained heads (nexts_of cells) (spots_of rules depth cells)
chained-none rules depth heads cells e f =
    subst (λ (w : List ℕ). IsChained w (nexts_of cells) (spots_of rules depth cells)) (sym e) (subst (λ (w : List Cell). IsChained [] (nexts_of w) (spots_of rules depth w)) (sym f) (record {
      each = refl;
      first = λ c h. absurd (omega (arith, h));
      next = λ k h. absurd (omega (arith, h));
      apart = λ i j h. absurd (omega (arith, h));
    }))

pub filled-none : (key : VoxelKey) (rules : Rules) (heads : List ℕ) (cells : List Cell) (capacity : ℕ) (losers : List Leaving) → (length heads ≡ 0) ⊎ (length heads ≡ 2 ^ (2 * rules.cube.s)) → (0 < capacity → 0 < length heads) → IsChained heads (nexts_of cells) (spots_of rules key.depth cells) → cells ≡ [] → length losers ≡ 8 → ((o : ℕ) → points_at losers o ≡ []) → IsFilled key rules heads cells capacity losers []
filled-none key rules heads cells capacity losers table some chained e eight none = record {
  table = table;
  some = some;
  chained = chained;
  settled = record {
    apart = λ a b m. absurd (subst (λ (w : List Cell). IsMember a (winners w)) e m);
    behind = λ o q m. absurd (subst (λ (w : List Point). IsMember q w) (none o) m);
  };
  eight = eight;
  all = subst (λ (w : List Point). IsPermutation [] w) (sym (nothing (contents (winners cells) losers) nobody)) (IsPermutation-refl []);
}
  where
    nothing : (ps : List Point) → ((q : Point) → IsMember q ps → ⊥) → ps ≡ []
    nothing [] h = refl
    nothing (p ∷ ps) h = absurd (h p (inl refl))

    nobody : (q : Point) → IsMember q (contents (winners cells) losers) → ⊥
    nobody q m =
        elim (IsMember-append q (winners cells) (all_points losers) m) [
          | inl w ↦ subst (λ (v : List Cell). IsMember q (winners v)) e w
          | inr l ↦ let at = member-at losers q l in subst (λ (v : List Point). IsMember q v) (none at.0) at.2
        ]

-- ---- the first that passes a test

found_step : (b : Bool) (k n : ℕ) → k < n → cond (not b) (1 + k) 0 < suc n
found_step true k n h = omega arith
found_step false k n h = omega (arith, h)

first_step : (b : Bool) (k n : ℕ) → b ≡ true → cond (not b) (1 + k) 0 < suc n
first_step true k n e = omega arith
first_step false k n e = absurd (not_both false e refl)

found_below : (f : Point → Bool) (q : Point) (ps : List Point) → IsMember q ps → f q ≡ true → position_or_len f ps < length ps
found_below f q [] m e = absurd m
found_below f q (p ∷ ps) (inl is) e = first_step (f p) (position_or_len f ps) (length ps) (ap f is ∙ e)
found_below f q (p ∷ ps) (inr m) e = found_step (f p) (position_or_len f ps) (length ps) (found_below f q ps m e)

none_step : (b : Bool) (k n : ℕ) → b ≡ false → k ≡ n → cond (not b) (1 + k) 0 ≡ suc n
none_step true k n e h = absurd (not_both true refl e)
none_step false k n e h = omega (arith, h)

none_found : (f : Point → Bool) (ps : List Point) → ((q : Point) → IsMember q ps → f q ≡ false) → position_or_len f ps ≡ length ps
none_found f [] each = refl
none_found f (p ∷ ps) each =
    none_step (f p) (position_or_len f ps) (length ps) (each p (inl refl)) (none_found f ps (λ q m. each q (inr m)))

not_below : (k n : ℕ) → k ≡ n → nat_lt k n ≡ false
not_below k n e = grind (arith, nat_tests)

below : (k n : ℕ) → k < n → nat_lt k n ≡ true
below k n h = grind (arith, nat_tests)

pub position-none : (f : Point → Bool) (ps : List Point) → ((q : Point) → IsMember q ps → f q ≡ false) → position f ps ≡ None
position-none f ps each =
    ap (λ (b : Bool). cond b (Some (position_or_len f ps)) None) (not_below (position_or_len f ps) (length ps) (none_found f ps each))

some_none : {X : Type 0} (x : X) → Some x ≡ None → ⊥
some_none x e = cc

pub none-passes : (f : Point → Bool) (ps : List Point) → position f ps ≡ None → (q : Point) → IsMember q ps → f q ≡ false
none-passes f ps e q m =
    is_false (f q) (λ passes. some_none (position_or_len f ps) (sym (ap (λ (b : Bool). cond b (Some (position_or_len f ps)) None) (below (position_or_len f ps) (length ps) (found_below f q ps m passes))) ∙ e))

-- ---- refusals, from the lists of losers

none_in : (ps : List Point) (q : Point) → length ps ≡ 0 → IsMember q ps → ⊥
none_in [] q e m = m
none_in (p ∷ ps) q e m = omega (arith, e)

once-filled : (key : VoxelKey) (rules : Rules) (heads : List ℕ) (cells : List Cell) (capacity : ℕ) (losers : List Leaving) (points : List Point) → IsFilled key rules heads cells capacity losers points → IsAscending points → HasDistinctIds (contents (winners cells) losers)
once-filled key rules heads cells capacity losers points f up =
    HasDistinctIds-IsPermutation points (contents (winners cells) losers) f.all (HasDistinctIds-IsAscending points up)

-- no open octant has losers
pub none-open : (key : VoxelKey) (rules : Rules) (heads : List ℕ) (cells : List Cell) (capacity : ℕ) (losers : List Leaving) (points : List Point) (mask : ℕ) → IsFilled key rules heads cells capacity losers points → ((o : ℕ) → o < 8 → opened mask o ≡ true → length (points_at losers o) ≡ 0) → position (is_open_loser rules key.depth mask points) points ≡ None
none-open key rules heads cells capacity losers points mask f none =
    position-none (is_open_loser rules key.depth mask points) points (λ q m. is_false (is_open_loser rules key.depth mask points q) (λ e. at q m (and_left (loses rules key.depth points q) (opened mask (octant rules key.depth q)) e) (and_right (loses rules key.depth points q) (opened mask (octant rules key.depth q)) e)))
  where
    back : IsPermutation (contents (winners cells) losers) points
    back = IsPermutation-sym points (contents (winners cells) losers) f.all

    at : (q : Point) → IsMember q points → loses rules key.depth points q ≡ true → opened mask (octant rules key.depth q) ≡ true → ⊥
    at q m lost opened_now =
        elim (IsMember-append q (winners cells) (all_points losers) (IsMember-IsPermutation q points (contents (winners cells) losers) f.all m)) [
          | inl w ↦ not_both (loses rules key.depth points q) lost (wins-given rules key.depth (winners cells) losers points f.settled back q w)
          | inr l ↦
              let k = member-at losers q l in
              none_in (points_at losers k.0) q (none k.0 (omega (arith, k.1, f.eight)) (subst (λ (n : ℕ). opened mask n ≡ true) (f.settled.behind k.0 q k.2).in_octant opened_now)) k.2
        ]

-- if no point loses in an open octant, its list is empty
pub open-gone : (key : VoxelKey) (rules : Rules) (heads : List ℕ) (cells : List Cell) (capacity : ℕ) (losers : List Leaving) (points : List Point) (mask : ℕ) → IsFilled key rules heads cells capacity losers points → IsAscending points → position (is_open_loser rules key.depth mask points) points ≡ None → (o : ℕ) → opened mask o ≡ true → points_at losers o ≡ []
open-gone key rules heads cells capacity losers points mask f up none o opened_now = nothing (points_at losers o) nobody
  where
    back : IsPermutation (contents (winners cells) losers) points
    back = IsPermutation-sym points (contents (winners cells) losers) f.all

    nothing : (ps : List Point) → ((q : Point) → IsMember q ps → ⊥) → ps ≡ []
    nothing [] h = refl
    nothing (p ∷ ps) h = absurd (h p (inl refl))

    nobody : (q : Point) → IsMember q (points_at losers o) → ⊥
    nobody q m =
        not_both (is_open_loser rules key.depth mask points q) (and_both _ _ (loses-lane rules key.depth (winners cells) losers points f.settled (once-filled key rules heads cells capacity losers points f up) back o q m) (subst (λ (n : ℕ). opened mask n ≡ true) (sym (f.settled.behind o q m).in_octant) opened_now)) (none-passes (is_open_loser rules key.depth mask points) points none q (IsMember-IsPermutation q (contents (winners cells) losers) points back (IsMember-right q (winners cells) (all_points losers) (at-member losers o q m))))

pub overfull-lane : (key : VoxelKey) (rules : Rules) (heads : List ℕ) (cells : List Cell) (capacity : ℕ) (losers : List Leaving) (points : List Point) (mask d : ℕ) (b : Bool) (o : ℕ) → IsFilled key rules heads cells capacity losers points → IsAscending points → d ≡ key.depth → (not (opened mask o) && opens_with rules d (length (points_at losers o))) ≡ b → is_overfull rules key.depth mask points o ≡ b
overfull-lane key rules heads cells capacity losers points mask d b o f up e h =
    ap (λ (c : Bool). not (opened mask o) && c) (overflows-lane rules key.depth (winners cells) losers points f.settled (once-filled key rules heads cells capacity losers points f up) (IsPermutation-sym points (contents (winners cells) losers) f.all) o) ∙ ap (λ (n : ℕ). not (opened mask o) && opens_with rules n (length (points_at losers o))) (sym e) ∙ h

-- ---- the node

pub node-filled : (key : VoxelKey) (rules : Rules) (heads : List ℕ) (cells : List Cell) (capacity : ℕ) (losers : List Leaving) (points : List Point) (mask d : ℕ) → key.depth ≤ rules.cube.depth → IsFilled key rules heads cells capacity losers points → IsAscending points → AllInBox rules.cube key points → d ≡ key.depth → position (is_open_loser rules key.depth mask points) points ≡ None → ((o : ℕ) → o < 8 → (not (opened mask o) && opens_with rules d (length (points_at losers o))) ≡ false) → (key.depth ≡ rules.cube.depth → mask ≡ 0) → IsNode key rules heads cells capacity losers mask
node-filled key rules heads cells capacity losers points mask d low f up inside e none few deepest = record {
  low = low;
  table = f.table;
  some = f.some;
  chained = f.chained;
  inside = All-members (λ q. InBox rules.cube key (place q)) (contents (winners cells) losers) (λ q m. all-member (λ q. InBox rules.cube key (place q)) q points inside (IsMember-IsPermutation q (contents (winners cells) losers) points (IsPermutation-sym points (contents (winners cells) losers) f.all) m));
  settled = f.settled;
  eight = f.eight;
  few = record {
    shut = λ o h isn't. ap (λ (n : ℕ). opens_with rules n (length (points_at losers o))) (sym e) ∙ second (opened mask o) (opens_with rules d (length (points_at losers o))) isn't (few o h);
    gone = λ o h is. open-gone key rules heads cells capacity losers points mask f up none o is;
  };
  deepest = deepest;
}
  where
    second : (b c : Bool) → b ≡ false → (not b && c) ≡ false → c ≡ false
    second true c e h = absurd (not_both true refl e)
    second false c e h = h

pub order-filled : (key : VoxelKey) (rules : Rules) (heads : List ℕ) (cells : List Cell) (capacity : ℕ) (losers : List Leaving) (points : List Point) → IsFilled key rules heads cells capacity losers points → IsAscending points → in_id_order (contents (winners cells) losers) ≡ points
order-filled key rules heads cells capacity losers points f up =
    sym (ascending-order (contents (winners cells) losers) points (IsPermutation-sym points (contents (winners cells) losers) f.all) up)

-- ---- the points of a node whose ids are all different, as a tile

module _ (key : VoxelKey) (rules : Rules) (heads : List ℕ) (cells : List Cell) (capacity : ℕ) (losers : List Leaving) (mask : ℕ) (n : IsNode key rules heads cells capacity losers mask) where
  abbrev has : List Point
  has = contents (winners cells) losers

  in_order : IsPermutation has (in_id_order has)
  in_order = IsPermutation-in_id_order has

  no_loser : (q : Point) → IsMember q (in_id_order has) → loses rules key.depth (in_id_order has) q ≡ true → opened mask (octant rules key.depth q) ≡ true → ⊥
  no_loser q m lost opened_now =
      elim (IsMember-append q (winners cells) (all_points losers) (IsMember-IsPermutation q (in_id_order has) has (IsPermutation-sym has (in_id_order has) in_order) m)) [
        | inl w ↦ not_both (loses rules key.depth (in_id_order has) q) lost (wins-given rules key.depth (winners cells) losers (in_id_order has) n.settled in_order q w)
        | inr l ↦
            let k = member-at losers q l in
            subst (λ (ps : List Point). IsMember q ps) (n.few.gone k.0 (omega (arith, k.1, n.eight)) (subst (λ (o : ℕ). opened mask o ≡ true) (n.settled.behind k.0 q k.2).in_octant opened_now)) k.2
      ]

  few_enough : HasDistinctIds has → (o : ℕ) → o < 8 → (b : Bool) → opened mask o ≡ b → (not b && overflows rules key.depth (in_id_order has) o) ≡ false
  few_enough once o low true is = refl
  few_enough once o low false isn't =
      overflows-lane rules key.depth (winners cells) losers (in_id_order has) n.settled once in_order o ∙ n.few.shut o low isn't

  pub node-tile : HasDistinctIds (in_id_order has) → IsTile key rules mask (in_id_order has)
  node-tile once = record {
    inside = inside-in_order rules.cube key has n.inside;
    no_open_loser = position-none (is_open_loser rules key.depth mask (in_id_order has)) (in_id_order has) (λ q m. is_false (is_open_loser rules key.depth mask (in_id_order has) q) (λ e. no_loser q m (and_left (loses rules key.depth (in_id_order has) q) (opened mask (octant rules key.depth q)) e) (and_right (loses rules key.depth (in_id_order has) q) (opened mask (octant rules key.depth q)) e)));
    none_overfull = λ o low. few_enough (HasDistinctIds-IsPermutation (in_id_order has) has (IsPermutation-sym has (in_id_order has) in_order) once) o low (opened mask o) refl;
    not_deep = n.deepest;
  }

-- ---- results

pub box-in-cube : (key : VoxelKey) (rules : Rules) (points : List Point) → IsKey key → IsCube rules.cube → key.depth ≤ rules.cube.depth → AllInBox rules.cube key points → AllInCube rules.cube points
box-in-cube key rules points is_key is_cube low inside =
    All-members (λ p. InCube rules.cube (place p)) points (λ p m. InCube-box rules.cube key (place p) is_key (omega (arith, low, is_cube.cells_whole)) (all-member (λ q. InBox rules.cube key (place q)) p points inside m))

pub deep-told : (mask depth deepest : ℕ) → (not (mask == 0) && (depth == deepest)) ≡ true → (depth ≡ deepest) × (mask ≢ 0)
deep-told mask depth deepest e = (grind (arith, nat_tests), λ h. grind (arith, nat_tests))

pub shallow-told : (mask depth deepest : ℕ) → (not (mask == 0) && (depth == deepest)) ≡ false → depth ≡ deepest → mask ≡ 0
shallow-told mask depth deepest e h = grind (arith, nat_tests)

-- a result that is not `Some`
pub none-left : {X : Type 0} (r : Option X) (P : Type 0) (Q : X → Type 0) → r ≡ None → MatchOption r P Q → P
none-left None P Q e h = h
none-left (Some x) P Q e h = absurd (cc)
