-- What becomes of a point that meets a winner, or none.
use Rattle.std.proofs.Common.{◌≡◌, ◌∙◌, inl, inr, ℕ, zero, suc, ◌+◌, ◌<◌, Bool, true, false, List, [], ◌∷◌, ◌++◌, take, drop, length, get_or, map, refl, ap, sym, subst, arith}
use Rattle.std.specs.Prelude.{IsTrue}
use Rattle.std.specs.List.{All}
use Rattle.std.proofs.lemmas.List.{length-map, map-append, set_split, take-append-drop}
use Rattle.std.proofs.Math.ListN.{set}
use Rattle.std.proofs.Math.Seq.{drop-cons, map-set_same}
use Rattle.ept_point.specs.declared.point.Point.{Point}
use Rattle.ept_space.specs.declared.cube.Rules.{Rules}
use Rattle.ept_sample.specs.Members.{IsMember}
use Rattle.ept_sample.proofs.Members.{contains-IsMember}
use Rattle.ept_grid.specs.declared.pool.Cell.{Cell}
use Rattle.ept_grid.specs.declared.spot.Spot.{Spot}
use Rattle.ept_grid.specs.Settling.{winners, share_cell, is_better_at, AreApart, HasContended}
use Rattle.ept_grid.specs.Columns.{spot, spots_of, nexts_of, nowhere, heads_with, nexts_with, IsChained, IsCut, IsAlone}
use Rattle.ept_grid.proofs.Chains.{chained-with}
use Rattle.ept_grid.proofs.Winners.{winner-of, winners-point, length-spots}
use Rattle.ept_grid.proofs.SpotLaws.{spot-share_cell}

-- the winners with the winner of a number between the rest
stands-between : (ws : List Point) (at : ℕ) (p w : Point) → at < length ws → get_or ws at p ≡ w → ws ≡ take at ws ++ w ∷ drop (suc at) ws
stands-between ws at p w there is =
    sym (take-append-drop at ws) ∙ ap (λ (rest : List Point). take at ws ++ rest) (drop-cons ws at p there ∙ ap (λ (v : Point). v ∷ drop (suc at) ws) is)

-- the point is better, and takes the place of the winner that the cell had
pub displaces : (rules : Rules) (depth : ℕ) (p w had has : Point) (cells : List Cell) (at next : ℕ) (d e : Cell) → at < length cells → w ≡ (get_or cells at d).point → had ≡ (get_or cells at e).point → has ≡ p → IsTrue (share_cell rules depth (get_or (winners cells) at p) p) → is_better_at rules depth p w ≡ true → HasContended rules depth p (winners cells) (winners (set cells at (record { point = has; next = next }))) had
displaces rules depth p w had has cells at next d e there is was put one better =
    let ws = winners cells in
    let w_is : get_or ws at p ≡ had = winner-of cells at e p there ∙ sym was in
    let same : w ≡ had = is ∙ (sym (winner-of cells at d p there) ∙ w_is) in
    let within : at < length ws = subst (λ n. at < n) (sym (length-map cells (λ (c : Cell). c.point))) there in
    record {
      front = take at ws;
      winner = had;
      back = drop (suc at) ws;
      stood = stands-between ws at p had within w_is;
      one_cell = subst (λ (v : Point). IsTrue (share_cell rules depth v p)) w_is one;
      outcome = inl (subst (λ (v : Point). is_better_at rules depth p v ≡ true) same better, ap (λ (v : Point). winners (set cells at (record { point = v; next = next }))) put ∙ (winners-point cells at next p ∙ set_split ws at p within), refl);
    }

-- the point is not better
pub loses-there : (rules : Rules) (depth : ℕ) (p w : Point) (cells : List Cell) (at : ℕ) (d : Cell) → at < length cells → w ≡ (get_or cells at d).point → IsTrue (share_cell rules depth (get_or (winners cells) at p) p) → is_better_at rules depth p w ≡ false → HasContended rules depth p (winners cells) (winners cells) p
loses-there rules depth p w cells at d there is one worse =
    let ws = winners cells in
    let w_is : get_or ws at p ≡ w = winner-of cells at d p there ∙ sym is in
    let within : at < length ws = subst (λ n. at < n) (sym (length-map cells (λ (c : Cell). c.point))) there in
    record {
      front = take at ws;
      winner = w;
      back = drop (suc at) ws;
      stood = stands-between ws at p w within w_is;
      one_cell = subst (λ (v : Point). IsTrue (share_cell rules depth v p)) w_is one;
      outcome = inr (worse, refl, refl);
    }

pub spot-of : (rules : Rules) (depth : ℕ) (ws : List Point) (k : ℕ) (d : Point) → k < length ws → get_or (map (spot rules depth) ws) k nowhere ≡ spot rules depth (get_or ws k d)
spot-of rules depth [] k d within = absurd (omega arith)
spot-of rules depth (w ∷ ws) zero d within = refl
spot-of rules depth (w ∷ ws) (suc k) d within = spot-of rules depth ws k d (omega arith)

-- cells are where they were
pub spots-point : (rules : Rules) (depth : ℕ) (cells : List Cell) (at next : ℕ) (p : Point) → get_or (spots_of rules depth cells) at nowhere ≡ spot rules depth p → at < length cells → spots_of rules depth (set cells at (record { point = p; next = next })) ≡ spots_of rules depth cells
spots-point rules depth cells at next p meets there =
    let ws = winners cells in
    let within : at < length ws = subst (λ n. at < n) (sym (length-map cells (λ (c : Cell). c.point))) there in
    ap (λ (v : List Point). map (spot rules depth) v) (winners-point cells at next p) ∙ map-set_same (spot rules depth) ws at p p (sym meets ∙ spot-of rules depth ws at p within)

-- ---- one more cell

pub false_unless : (b : Bool) → (b ≡ true → ⊥) → b ≡ false
false_unless true not = absurd (not refl)
false_unless false not = refl

-- if no winner is in the place of a point, none lies in its cell
pub alone-cell : (rules : Rules) (depth : ℕ) (p : Point) (ws : List Point) → IsAlone (map (spot rules depth) ws) (spot rules depth p) → All (λ w. share_cell rules depth w p ≡ false) ws
alone-cell rules depth p ws alone k d within =
    false_unless (share_cell rules depth (get_or ws k d) p) (λ shared. let same = spot-of rules depth ws k d within ∙ spot-share_cell rules depth (get_or ws k d) p shared in alone k (subst (λ n. k < n) (sym (length-map ws (spot rules depth))) within) (ap (λ (s : Spot). s.column) same) (ap (λ (s : Spot). s.level) same))

pub spots-added : (rules : Rules) (depth : ℕ) (cells added : List Cell) (p : Point) → winners added ≡ winners cells ++ p ∷ [] → spots_of rules depth added ≡ spots_of rules depth cells ++ spot rules depth p ∷ []
spots-added rules depth cells added p is =
    ap (λ (ws : List Point). map (spot rules depth) ws) is ∙ map-append (spot rules depth) (winners cells) (p ∷ [])

pub chained-added : (rules : Rules) (depth : ℕ) (heads new_heads : List ℕ) (cells added : List Cell) (s : Spot) (p : Point) (below above : ℕ) → IsChained heads (nexts_of cells) (spots_of rules depth cells) → s ≡ spot rules depth p → s.column < length heads → IsCut (spots_of rules depth cells) s.column s.level below above → IsAlone (spots_of rules depth cells) s → winners added ≡ winners cells ++ p ∷ [] → new_heads ≡ heads_with heads s.column below (length cells + 1) → nexts_of added ≡ nexts_with (nexts_of cells) below above (length cells + 1) → IsChained new_heads (nexts_of added) (spots_of rules depth added)
chained-added rules depth heads new_heads cells added s p below above chained is low cut alone is_winners is_heads is_nexts =
    let len : length (spots_of rules depth cells) + 1 ≡ length cells + 1 = ap (λ n. n + 1) (length-spots rules depth cells) in
    let all : IsChained (heads_with heads s.column below (length (spots_of rules depth cells) + 1)) (nexts_with (nexts_of cells) below above (length (spots_of rules depth cells) + 1)) (spots_of rules depth cells ++ s ∷ []) = chained-with heads (nexts_of cells) (spots_of rules depth cells) s below above chained low cut alone in
    let by_len : IsChained (heads_with heads s.column below (length cells + 1)) (nexts_with (nexts_of cells) below above (length cells + 1)) (spots_of rules depth cells ++ s ∷ []) = subst (λ n. IsChained (heads_with heads s.column below n) (nexts_with (nexts_of cells) below above n) (spots_of rules depth cells ++ s ∷ [])) len all in
    let by_spots : IsChained (heads_with heads s.column below (length cells + 1)) (nexts_with (nexts_of cells) below above (length cells + 1)) (spots_of rules depth added) = subst (λ (v : List Spot). IsChained (heads_with heads s.column below (length cells + 1)) (nexts_with (nexts_of cells) below above (length cells + 1)) v) (ap (λ (t : Spot). spots_of rules depth cells ++ t ∷ []) is ∙ sym (spots-added rules depth cells added p is_winners)) by_len in
    let by_heads = subst (λ (v : List ℕ). IsChained v (nexts_with (nexts_of cells) below above (length cells + 1)) (spots_of rules depth added)) (sym is_heads) by_spots in
    subst (λ (v : List ℕ). IsChained new_heads v (spots_of rules depth added)) (sym is_nexts) by_heads

-- ---- winners that share a cell are the same

same-read : (ws : List Point) (k : ℕ) (a b : Point) → k < length ws → get_or ws k a ≡ get_or ws k b
same-read [] k a b within = absurd (omega arith)
same-read (w ∷ ws) zero a b within = refl
same-read (w ∷ ws) (suc k) a b within = same-read ws k a b (omega arith)

-- winners that are in one place are the same
pub one-spot : (rules : Rules) (depth : ℕ) (heads : List ℕ) (cells : List Cell) → IsChained heads (nexts_of cells) (spots_of rules depth cells) → (a b : Point) → IsMember a (winners cells) → IsMember b (winners cells) → spot rules depth a ≡ spot rules depth b → a ≡ b
one-spot rules depth heads cells chained a b in_a in_b stands =
    let ws = winners cells in
    let i = contains-IsMember a ws in_a in
    let j = contains-IsMember b ws in_b in
    let len = length-map ws (spot rules depth) in
    let spot_i = spot-of rules depth ws i.0 a i.1 ∙ ap (spot rules depth) i.2 in
    let spot_j = spot-of rules depth ws j.0 b j.1 ∙ ap (spot rules depth) j.2 in
    let same = spot_i ∙ stands ∙ sym spot_j in
    let at : i.0 ≡ j.0 = chained.apart i.0 j.0 (subst (λ n. i.0 < n) (sym len) i.1) (subst (λ n. j.0 < n) (sym len) j.1) (ap (λ (s : Spot). s.column) same) (ap (λ (s : Spot). s.level) same) in
    sym i.2 ∙ same-read ws i.0 a b i.1 ∙ ap (λ k. get_or ws k b) at ∙ j.2

pub apart-chained : (rules : Rules) (depth : ℕ) (heads : List ℕ) (cells : List Cell) → IsChained heads (nexts_of cells) (spots_of rules depth cells) → AreApart rules depth (winners cells)
apart-chained rules depth heads cells chained a b in_a in_b shared =
    one-spot rules depth heads cells chained a b in_a in_b (spot-share_cell rules depth a b shared)

-- if no winner is in a place, none has it
pub none-stands : (rules : Rules) (depth : ℕ) (ws : List Point) (s : Spot) (w : Point) → IsAlone (map (spot rules depth) ws) s → IsMember w ws → spot rules depth w ≡ s → ⊥
none-stands rules depth ws s w alone m stands =
    let i = contains-IsMember w ws m in
    let same = spot-of rules depth ws i.0 w i.1 ∙ ap (spot rules depth) i.2 ∙ stands in
    alone i.0 (subst (λ n. i.0 < n) (sym (length-map ws (spot rules depth))) i.1) (ap (λ (t : Spot). t.column) same) (ap (λ (t : Spot). t.level) same)
