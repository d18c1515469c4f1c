-- The winners of cells.
use Rattle.std.proofs.Common.{◌≡◌, ◌∙◌, ℕ, zero, suc, ◌-◌, ◌<◌, ◌≤◌, true, false, inl, inr, List, [], ◌∷◌, ◌++◌, length, get_or, refl, ap, sym, subst, arith}
use Rattle.std.specs.List.{All}
use Rattle.std.proofs.lemmas.List.{length-map}
use Rattle.std.proofs.lemmas.List.Elements.{All-head, All-tail}
use Rattle.ept_point.specs.declared.point.Point.{Point}
use Rattle.ept_space.specs.OctreeCube.{OctreeCube, InCube}
use Rattle.ept_sample.specs.Members.{IsMember}
use Rattle.ept_sample.specs.Place.{place, AllInCube}
use Rattle.ept_grid.specs.declared.pool.Cell.{Cell}
use Rattle.std.specs.Prelude.{slice_index, nat_lt, nat_eq}
use Rattle.std.specs.Bool.{OnTrue, OnFalse}
use Rattle.std.proofs.lemmas.Bool.{OnTrue_from, OnFalse_from}
use Rattle.std.proofs.lemmas.Bool.Decides.{nat_tests}
use Rattle.std.proofs.lemmas.List.{map-set, map-append}
use Rattle.std.proofs.Math.ListN.{set}
use Rattle.std.proofs.Math.Seq.{map-set_same}
use borrow.Author.Tests.{ltb-true, ltb-false}
use Rattle.ept_grid.specs.declared.spot.Spot.{Spot}
use Rattle.ept_space.specs.declared.cube.Rules.{Rules}
use Rattle.ept_grid.specs.Settling.{winners}
use Rattle.ept_grid.specs.Columns.{spot, spots_of, nexts_of, nowhere, column_at, level_at, StandsAt, NamesBelow, NamesAt, nexts_with}

-- what holds of each winner holds of the winner of a number
pub winner-at : (P : Point → Type 0) (cells : List Cell) (k : ℕ) (d : Cell) → All P (winners cells) → k < length cells → P (get_or cells k d).point
winner-at P [] k d all within = absurd (omega arith)
winner-at P (c ∷ cells) zero d all within = All-head P c.point (winners cells) all
winner-at P (c ∷ cells) (suc k) d all within =
    winner-at P cells k d (All-tail P c.point (winners cells) all) (omega arith)

pub winner-in-cube : (cube : OctreeCube) (cells : List Cell) (k : ℕ) (d : Cell) → AllInCube cube (winners cells) → k < length cells → InCube cube (place (get_or cells k d).point)
winner-in-cube cube cells k d inside within = winner-at (λ p. InCube cube (place p)) cells k d inside within

-- the link of a cell
pub next-at : (cells : List Cell) (k : ℕ) (d : Cell) → k < length cells → slice_index (nexts_of cells) k ≡ (get_or cells k d).next
next-at [] k d within = absurd (omega arith)
next-at (c ∷ cells) zero d within = refl
next-at (c ∷ cells) (suc k) d within = next-at cells k d (omega arith)

-- where a cell is
pub spot-at : (rules : Rules) (depth : ℕ) (cells : List Cell) (k : ℕ) (d : Cell) → k < length cells → get_or (spots_of rules depth cells) k nowhere ≡ spot rules depth (get_or cells k d).point
spot-at rules depth [] k d within = absurd (omega arith)
spot-at rules depth (c ∷ cells) zero d within = refl
spot-at rules depth (c ∷ cells) (suc k) d within = spot-at rules depth cells k d (omega arith)

pub length-spots : (rules : Rules) (depth : ℕ) (cells : List Cell) → length (spots_of rules depth cells) ≡ length cells
length-spots rules depth cells = length-map (winners cells) (spot rules depth) ∙ length-map cells (λ c. c.point)

-- ---- the cell that a link names, as it is read

equal-true : (m n : ℕ) → nat_eq m n ≡ true → m ≡ n
equal-true m n same = grind (arith, nat_tests)

equal-false : (m n : ℕ) → nat_eq m n ≡ false → ¬ (m ≡ n)
equal-false m n differ same = grind (arith, nat_tests)

level-of : (rules : Rules) (depth : ℕ) (cells : List Cell) (link n : ℕ) (d : Cell) → 0 < link → link ≤ length cells → n ≡ (spot rules depth (get_or cells (link - 1) d).point).level → n ≡ level_at (spots_of rules depth cells) (link - 1)
level-of rules depth cells link n d some there is =
    is ∙ ap (λ (s : Spot). s.level) (sym (spot-at rules depth cells (link - 1) d (omega arith)))

pub below-code : (rules : Rules) (depth : ℕ) (cells : List Cell) (level link n : ℕ) (d : Cell) → 0 < link → link ≤ length cells → n ≡ (spot rules depth (get_or cells (link - 1) d).point).level → OnTrue (nat_lt n level) (NamesBelow (spots_of rules depth cells) level link)
below-code rules depth cells level link n d some there is =
    let at = level-of rules depth cells link n d some there is in
    OnTrue_from (nat_lt n level) (NamesBelow (spots_of rules depth cells) level link) (λ low. record { some = some; below = subst (λ m. m < level) at (ltb-true n level low) })

pub not_below-code : (rules : Rules) (depth : ℕ) (cells : List Cell) (level link n : ℕ) (d : Cell) → 0 < link → link ≤ length cells → n ≡ (spot rules depth (get_or cells (link - 1) d).point).level → OnFalse (nat_lt n level) (0 < link → level ≤ level_at (spots_of rules depth cells) (link - 1))
not_below-code rules depth cells level link n d some there is =
    let at = level-of rules depth cells link n d some there is in
    OnFalse_from (nat_lt n level) (0 < link → level ≤ level_at (spots_of rules depth cells) (link - 1)) (λ high _. subst (λ m. level ≤ m) at (ltb-false n level high))

pub at-code : (rules : Rules) (depth : ℕ) (cells : List Cell) (level link n : ℕ) (d : Cell) → 0 < link → link ≤ length cells → n ≡ (spot rules depth (get_or cells (link - 1) d).point).level → OnTrue (nat_eq n level) (NamesAt (spots_of rules depth cells) level link)
at-code rules depth cells level link n d some there is =
    let at = level-of rules depth cells link n d some there is in
    OnTrue_from (nat_eq n level) (NamesAt (spots_of rules depth cells) level link) (λ same. record { some = some; at = sym at ∙ equal-true n level same })

pub not_at-code : (rules : Rules) (depth : ℕ) (cells : List Cell) (level link n : ℕ) (d : Cell) → 0 < link → link ≤ length cells → n ≡ (spot rules depth (get_or cells (link - 1) d).point).level → OnFalse (nat_eq n level) (0 < link → ¬ (level_at (spots_of rules depth cells) (link - 1) ≡ level))
not_at-code rules depth cells level link n d some there is =
    let at = level-of rules depth cells link n d some there is in
    OnFalse_from (nat_eq n level) (0 < link → ¬ (level_at (spots_of rules depth cells) (link - 1) ≡ level)) (λ differ _ same. equal-false n level differ (at ∙ same))

-- ---- a cell with another point, or with another link

pub nexts-point : (cells : List Cell) (at next : ℕ) (d : Cell) (p : Point) → at < length cells → next ≡ (get_or cells at d).next → nexts_of (set cells at (record { point = p; next = next })) ≡ nexts_of cells
nexts-point cells at next d p there is =
    map-set_same (λ (c : Cell). c.next) cells at (record { point = p; next = next }) d is

pub winners-point : (cells : List Cell) (at next : ℕ) (p : Point) → winners (set cells at (record { point = p; next = next })) ≡ set (winners cells) at p
winners-point cells at next p = map-set (λ (c : Cell). c.point) cells at (record { point = p; next = next })

pub winners-link : (cells : List Cell) (at next : ℕ) (d : Cell) (p : Point) → p ≡ (get_or cells at d).point → winners (set cells at (record { point = p; next = next })) ≡ winners cells
winners-link cells at next d p is =
    map-set_same (λ (c : Cell). c.point) cells at (record { point = p; next = next }) d is

pub nexts-link : (cells : List Cell) (at next : ℕ) (p : Point) → nexts_of (set cells at (record { point = p; next = next })) ≡ set (nexts_of cells) at next
nexts-link cells at next p = map-set (λ (c : Cell). c.next) cells at (record { point = p; next = next })

pub winner-of : (cells : List Cell) (k : ℕ) (d : Cell) (p : Point) → k < length cells → get_or (winners cells) k p ≡ (get_or cells k d).point
winner-of [] k d p within = absurd (omega arith)
winner-of (c ∷ cells) zero d p within = refl
winner-of (c ∷ cells) (suc k) d p within = winner-of cells k d p (omega arith)

pub winners-push : (pushed cells : List Cell) (c : Cell) → pushed ≡ cells ++ c ∷ [] → winners pushed ≡ winners cells ++ c.point ∷ []
winners-push pushed cells c is =
    ap (λ (v : List Cell). winners v) is ∙ map-append (λ (e : Cell). e.point) cells (c ∷ [])

pub nexts-push : (pushed cells : List Cell) (c : Cell) → pushed ≡ cells ++ c ∷ [] → nexts_of pushed ≡ nexts_of cells ++ c.next ∷ []
nexts-push pushed cells c is =
    ap (λ (v : List Cell). nexts_of v) is ∙ map-append (λ (e : Cell). e.next) cells (c ∷ [])

pub nexts-behind : (nexts : List ℕ) (below above link : ℕ) → 0 < below → set (nexts ++ above ∷ []) (below - 1) link ≡ nexts_with nexts below above link
nexts-behind nexts zero above link some = absurd (omega arith)
nexts-behind nexts (suc j) above link some =
    let same : suc j - 1 ≡ j = omega arith in ap (λ k. set (nexts ++ above ∷ []) k link) same

-- ---- the cell as it was read

pub shown-next : (cells : List Cell) (link : ℕ) (cell : Cell) → 0 < link → link ≤ length cells → cell ≡ get_or cells (link - 1) cell → slice_index (nexts_of cells) (link - 1) ≡ cell.next
shown-next cells link cell some there is =
    next-at cells (link - 1) cell (omega arith) ∙ ap (λ (c : Cell). c.next) (sym is)

pub shown-spot : (rules : Rules) (depth : ℕ) (cells : List Cell) (link : ℕ) (cell : Cell) → 0 < link → link ≤ length cells → cell ≡ get_or cells (link - 1) cell → get_or (spots_of rules depth cells) (link - 1) nowhere ≡ spot rules depth cell.point
shown-spot rules depth cells link cell some there is =
    spot-at rules depth cells (link - 1) cell (omega arith) ∙ ap (λ (c : Cell). spot rules depth c.point) (sym is)

member-at : (cells : List Cell) (k : ℕ) (d : Cell) → k < length cells → IsMember (get_or cells k d).point (winners cells)
member-at [] k d within = absurd (omega arith)
member-at (c ∷ cells) zero d within = inl refl
member-at (c ∷ cells) (suc k) d within = inr (member-at cells k d (omega arith))

spot-same : (s t : Spot) → s.column ≡ t.column → s.level ≡ t.level → s ≡ t
spot-same s t columns levels =
    let at : ℕ → ℕ → Spot = λ c l. record { column = c; level = l } in
    ap (λ c. at c s.level) columns ∙ ap (λ l. at t.column l) levels

pub shown-stands : (rules : Rules) (depth : ℕ) (cells : List Cell) (link : ℕ) (cell : Cell) (s : Spot) → 0 < link → link ≤ length cells → cell ≡ get_or cells (link - 1) cell → column_at (spots_of rules depth cells) (link - 1) ≡ s.column → (spot rules depth cell.point).level ≡ s.level → StandsAt rules depth (winners cells) s cell.point
shown-stands rules depth cells link cell s some there is in_col at = record {
  one_of_them = subst (λ (p : Point). IsMember p (winners cells)) (ap (λ (c : Cell). c.point) (sym is)) (member-at cells (link - 1) cell (omega arith));
  stands = spot-same (spot rules depth cell.point) s (ap (λ (t : Spot). t.column) (sym (shown-spot rules depth cells link cell some there is)) ∙ in_col) at;
}
