-- Whether a point is a winner, by reading its cell.
use Rattle.std.proofs.Common.{◌≡◌, ◌∙◌, inl, inr, ℕ, zero, suc, ◌+◌, ◌<◌, Bool, true, false, cond, ◌&&◌, not, List, [], ◌∷◌, length, get_or, refl, ap, sym, arith}
use Rattle.std.specs.Prelude.{IsTrue, IsPermutation, Option, Some, None, nat_lt, position}
use Rattle.std.specs.List.{All, list_any, position_or_len}
use Rattle.std.proofs.lemmas.Bool.{false≢true}
use Rattle.std.proofs.lemmas.Bool.Decides.{nat_tests}
use Rattle.std.proofs.lemmas.List.Sorted.{IsPermutation-sym}
use Rattle.ept_point.specs.declared.point.Point.{Point}
use Rattle.ept_space.specs.declared.cube.Rules.{Rules}
use Rattle.ept_sample.specs.Members.{IsMember}
use Rattle.ept_sample.specs.Ids.{same_id, HasDistinctIds}
use Rattle.ept_sample.specs.Arrivals.{loses, octant}
use Rattle.ept_sample.proofs.Members.{all-member, All-members, member-any, any-member, IsMember-append, IsMember-left, contains-IsMember}
use Rattle.ept_sample.proofs.IdLaws.{same_id-self, same_id-sym, same_member, IsMember-IsPermutation, HasDistinctIds-IsPermutation}
use Rattle.ept_grid.specs.declared.pool.Cell.{Cell}
use Rattle.ept_grid.specs.Mask.{opened}
use Rattle.ept_grid.specs.Outgoing.{Leaving, all_points}
use Rattle.ept_grid.specs.Tile.{is_open_loser}
use Rattle.ept_grid.specs.Settling.{winners, is_open_stranger}
use Rattle.ept_grid.specs.Contents.{contents, IsSettled}
use Rattle.ept_grid.specs.Columns.{StandInPlace, spot, spots_of, nexts_of, IsChained, IsAlone, StandsAt}
use Rattle.ept_grid.proofs.Contending.{false_unless, one-spot, none-stands}
use Rattle.ept_grid.proofs.Lanes.{member-at, ids-apart}
use Rattle.ept_grid.proofs.Settled.{loses-lane, wins-given}

pub look-some : (rules : Rules) (depth : ℕ) (heads : List ℕ) (cells : List Cell) (p w : Point) (same : Bool) → IsChained heads (nexts_of cells) (spots_of rules depth cells) → StandInPlace rules depth (winners cells) p → StandsAt rules depth (winners cells) (spot rules depth p) w → same ≡ same_id p w → not same ≡ not (list_any (same_id p) (winners cells))
look-some rules depth heads cells p w same chained in_place at is =
    ap not (decide same is)
  where
    decide : (b : Bool) → b ≡ same_id p w → b ≡ list_any (same_id p) (winners cells)
    decide true e = sym (any-member (same_id p) w (winners cells) at.one_of_them (sym e))
    decide false e =
        sym (false_unless (list_any (same_id p) (winners cells)) (λ any. let m = member-any (same_id p) (winners cells) any in let stands = all-member (λ v. IsTrue (same_id p v) → spot rules depth v ≡ spot rules depth p) m.0 (winners cells) in_place m.1 m.2 in let one = one-spot rules depth heads cells chained m.0 w m.1 at.one_of_them (stands ∙ sym at.stands) in false≢true (e ∙ sym (ap (same_id p) one) ∙ m.2)))

pub look-none : (rules : Rules) (depth : ℕ) (cells : List Cell) (p : Point) → StandInPlace rules depth (winners cells) p → IsAlone (spots_of rules depth cells) (spot rules depth p) → true ≡ not (list_any (same_id p) (winners cells))
look-none rules depth cells p in_place alone =
    ap not (sym (false_unless (list_any (same_id p) (winners cells)) (λ any. let m = member-any (same_id p) (winners cells) any in none-stands rules depth (winners cells) (spot rules depth p) m.0 alone m.1 (all-member (λ v. IsTrue (same_id p v) → spot rules depth v ≡ spot rules depth p) m.0 (winners cells) in_place m.1 m.2))))

-- ---- the first loser in an open octant

place_of_first : (f g : Point → Bool) (points : List Point) → ((p : Point) → IsMember p points → f p ≡ g p) → position_or_len f points ≡ position_or_len g points
place_of_first f g [] same = refl
place_of_first f g (p ∷ points) same =
    ap (λ (b : Bool). cond (not b) (1 + position_or_len f points) 0) (same p (inl refl)) ∙ ap (λ (n : ℕ). cond (not (g p)) (1 + n) 0) (place_of_first f g points (λ q m. same q (inr m)))

-- tests that agree on each point find the same first point
pub position-same : (f g : Point → Bool) (points : List Point) → ((p : Point) → IsMember p points → f p ≡ g p) → position f points ≡ position g points
position-same f g points same =
    ap (λ (k : ℕ). cond (nat_lt k (length points)) (Some k) None) (place_of_first f g points same)

and-swap : (a b : Bool) → (a && b) ≡ (b && a)
and-swap true true = refl
and-swap true false = refl
and-swap false true = refl
and-swap false false = refl

-- a point that is no winner loses
pub stranger-loses : (rules : Rules) (depth : ℕ) (ws : List Point) (losers : List Leaving) (given : List Point) → IsSettled rules depth ws losers → HasDistinctIds (contents ws losers) → IsPermutation (contents ws losers) given → (p : Point) → IsMember p (contents ws losers) → not (list_any (same_id p) ws) ≡ loses rules depth given p
stranger-loses rules depth ws losers given settled once all p m =
    elim (IsMember-append p ws (all_points losers) m) [
      | inl won ↦ ap not (any-member (same_id p) p ws won (same_id-self p)) ∙ sym (wins-given rules depth ws losers given settled all p won)
      | inr lost ↦ ap not (nobody lost) ∙ sym (let at = member-at losers p lost in loses-lane rules depth ws losers given settled once all at.0 p at.2)
    ]
  where
    nobody : IsMember p (all_points losers) → list_any (same_id p) ws ≡ false
    nobody lost =
        false_unless (list_any (same_id p) ws) (λ any. let w = member-any (same_id p) ws any in false≢true (sym (ids-apart ws (all_points losers) once w.0 p w.1 lost) ∙ same_id-sym p w.0 w.2))

-- ---- the first point that passes a test

first-at : (test : Point → Bool) (points : List Point) (i : ℕ) (d : Point) → i < length points → test (get_or points i d) ≡ true → ((k : ℕ) → k < i → test (get_or points k d) ≡ false) → position_or_len test points ≡ i
first-at test [] i d within passes before = absurd (omega arith)
first-at test (p ∷ points) zero d within passes before =
    ap (λ (b : Bool). cond (not b) (1 + position_or_len test points) 0) passes
first-at test (p ∷ points) (suc i) d within passes before =
    ap (λ (b : Bool). cond (not b) (1 + position_or_len test points) 0) (before 0 (omega arith)) ∙ one_more (position_or_len test points) (first-at test points i d (omega arith) passes (λ k low. before (suc k) (omega arith)))
  where
    one_more : (n : ℕ) → n ≡ i → 1 + n ≡ suc i
    one_more n is = omega arith

first-none : (test : Point → Bool) (points : List Point) → ((p : Point) → IsMember p points → test p ≡ false) → position_or_len test points ≡ length points
first-none test [] none = refl
first-none test (p ∷ points) none =
    ap (λ (b : Bool). cond (not b) (1 + position_or_len test points) 0) (none p (inl refl)) ∙ one_more (position_or_len test points) (first-none test points (λ q m. none q (inr m)))
  where
    one_more : (n : ℕ) → n ≡ length points → 1 + n ≡ length (p ∷ points)
    one_more n is = omega arith

lt-yes : (m n : ℕ) → m < n → nat_lt m n ≡ true
lt-yes m n low = grind (arith, nat_tests)

lt-no : (n : ℕ) → nat_lt n n ≡ false
lt-no n = grind (arith, nat_tests)

pub position-at : (test : Point → Bool) (points : List Point) (i : ℕ) (d : Point) → i < length points → test (get_or points i d) ≡ true → ((k : ℕ) → k < i → test (get_or points k d) ≡ false) → Some i ≡ position test points
position-at test points i d within passes before =
    sym (ap (λ (n : ℕ). cond (nat_lt n (length points)) (Some n) None) (first-at test points i d within passes before) ∙ ap (λ (b : Bool). cond b (Some i) None) (lt-yes i (length points) within))

pub position-none : (test : Point → Bool) (points : List Point) → ((p : Point) → IsMember p points → test p ≡ false) → ◌≡◌ {A = Option ℕ} None (position test points)
position-none test points none =
    sym (ap (λ (n : ℕ). cond (nat_lt n (length points)) (Some n) None) (first-none test points none) ∙ ap (λ (b : Bool). cond b (Some (length points)) None) (lt-no (length points)))

-- what fails at each place fails for each point
pub each-fails : (test : Point → Bool) (points : List Point) (p : Point) → ((k : ℕ) (d : Point) → k < length points → test (get_or points k d) ≡ false) → IsMember p points → test p ≡ false
each-fails test points p none m =
    let i = contains-IsMember p points m in
    sym (ap test i.2) ∙ none i.0 p i.1

pub both-true : (a b : Bool) → a ≡ true → b ≡ true → (a && b) ≡ true
both-true a b is_a is_b = ap (λ (c : Bool). c && b) is_a ∙ is_b

-- ---- the points of a node that was filled with them

-- a winner with the id of a point is the point
pub in-place : (rules : Rules) (depth : ℕ) (ws : List Point) (losers : List Leaving) (points : List Point) (p w : Point) → HasDistinctIds points → IsPermutation points (contents ws losers) → IsMember p points → IsMember w ws → same_id p w ≡ true → spot rules depth w ≡ spot rules depth p
in-place rules depth ws losers points p w once all in_p in_w same =
    let there = IsMember-IsPermutation w (contents ws losers) points (IsPermutation-sym points (contents ws losers) all) (IsMember-left w ws (all_points losers) in_w) in
    ap (spot rules depth) (sym (same_member points once p w in_p there same))

at-member : (points : List Point) (k : ℕ) (d : Point) → k < length points → IsMember (get_or points k d) points
at-member [] k d within = absurd (omega arith)
at-member (p ∷ points) zero d within = inl refl
at-member (p ∷ points) (suc k) d within = inr (at-member points k d (omega arith))

pub all-in-place : (rules : Rules) (depth : ℕ) (ws : List Point) (losers : List Leaving) (points : List Point) → HasDistinctIds points → IsPermutation points (contents ws losers) → All (StandInPlace rules depth ws) points
all-in-place rules depth ws losers points once all k d within i e low same =
    in-place rules depth ws losers points (get_or points k d) (get_or ws i e) once all (at-member points k d within) (at-member ws i e low) same

-- what holds of each point holds of each winner
pub winners-hold : (P : Point → Type 0) (ws : List Point) (losers : List Leaving) (points : List Point) → IsPermutation points (contents ws losers) → All P points → All P ws
winners-hold P ws losers points all holds =
    All-members P ws (λ w m. all-member P w points holds (IsMember-IsPermutation w (contents ws losers) points (IsPermutation-sym points (contents ws losers) all) (IsMember-left w ws (all_points losers) m)))

-- the first stranger in an open octant is the first loser there
pub same-first : (rules : Rules) (depth mask : ℕ) (ws : List Point) (losers : List Leaving) (points : List Point) → IsSettled rules depth ws losers → HasDistinctIds points → IsPermutation points (contents ws losers) → position (is_open_stranger rules depth mask ws) points ≡ position (is_open_loser rules depth mask points) points
same-first rules depth mask ws losers points settled once all =
    position-same (is_open_stranger rules depth mask ws) (is_open_loser rules depth mask points) points (λ p m. ap (λ (b : Bool). opened mask (octant rules depth p) && b) (stranger-loses rules depth ws losers points settled (HasDistinctIds-IsPermutation points (contents ws losers) all once) (IsPermutation-sym points (contents ws losers) all) p (IsMember-IsPermutation p points (contents ws losers) all m)) ∙ and-swap (opened mask (octant rules depth p)) (loses rules depth points p))
