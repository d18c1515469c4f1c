-- The winner of a cell is its best point, and cells with a point have winners.
use Rattle.std.proofs.Common.{◌≡◌, ◌∙◌, inl, inr, ℕ, ◌*◌, ◌^◌, ◌≤◌, true, false, List, [], ◌∷◌, sym, subst}
use Rattle.std.specs.Prelude.{IsTrue, Option, Some, None, MatchOption}
use Rattle.std.specs.List.{list_any, range_with_len}
use Rattle.std.proofs.lemmas.Bool.{false≢true}
use Rattle.ept_point.specs.declared.point.Point.{Point}
use Rattle.ept_space.specs.declared.cube.Rules.{Rules}
use Rattle.ept_space.specs.VoxelKey.{VoxelKey}
use Rattle.ept_space.proofs.Cells.{IsSameCell-from, same_cell-from, same_cell-self}
use Rattle.ept_sample.specs.Members.{IsMember}
use Rattle.ept_sample.specs.Place.{place}
use Rattle.ept_sample.specs.Ids.{in_id_order}
use Rattle.ept_sample.specs.Rank.{rank_at, is_better}
use Rattle.ept_sample.proofs.Members.{IsMember-left, IsMember-append, All-members, all-member, member-any, any-member, contains-IsMember}
use Rattle.ept_sample.proofs.IdLaws.{IsMember-in_id_order, in_id_order-IsMember}
use Rattle.ept_sample.proofs.RankLaws.{is_better-self}
use Rattle.ept_grid.specs.Outgoing.{Leaving, all_points}
use Rattle.ept_grid.specs.Settling.{share_cell, is_better_at}
use Rattle.ept_grid.specs.Contents.{contents, IsSettled}
use Rattle.ept_grid.specs.Winner.{lies_in, NoneIn, IsBestIn, WinsIn, column_cells}
use Rattle.ept_grid.proofs.Lanes.{member-at}
use Rattle.ept_grid.proofs.Contending.{false_unless}
use Rattle.ept_grid.proofs.ColumnCells.{three, three-from}
use Rattle.ept_grid.proofs.Seeks.{count-le}

-- ---- cells

-- points of one cell share it
pub share-lies : (rules : Rules) (depth : ℕ) (cell : List ℕ) (p q : Point) → lies_in rules depth cell p ≡ true → lies_in rules depth cell q ≡ true → share_cell rules depth p q ≡ true
share-lies rules depth cell p q in_p in_q =
    let a = three _ _ _ _ _ _ in_p in
    let b = three _ _ _ _ _ _ in_q in
    same_cell-from rules.cube depth (place p) (place q) (record { x = a.0 ∙ sym b.0; y = a.1 ∙ sym b.1; z = a.2 ∙ sym b.2 })

-- a point that shares the cell of a point lies in that cell
pub lies-share : (rules : Rules) (depth : ℕ) (cell : List ℕ) (w q : Point) → share_cell rules depth w q ≡ true → lies_in rules depth cell q ≡ true → lies_in rules depth cell w ≡ true
lies-share rules depth cell w q shared in_q =
    let same = IsSameCell-from rules.cube depth (place w) (place q) shared in
    let b = three _ _ _ _ _ _ in_q in
    three-from _ _ _ _ _ _ (same.x ∙ b.0) (same.y ∙ b.1) (same.z ∙ b.2)

-- ---- a cell with a point has a winner, which no point of it beats

-- a point of the contents shares the cell of a winner, and has no better rank
pub behind-some : (rules : Rules) (depth : ℕ) (ws : List Point) (losers : List Leaving) (q : Point) → IsSettled rules depth ws losers → IsMember q (contents ws losers) → (w : Point) × IsMember w ws × (share_cell rules depth w q ≡ true) × (is_better_at rules depth q w ≡ false)
behind-some rules depth ws losers q settled m =
    elim (IsMember-append q ws (all_points losers) m) [
      | inl won ↦ (q, won, same_cell-self rules.cube depth (place q), is_better-self (rank_at rules depth q))
      | inr lost ↦ let at = member-at losers q lost in let b = settled.behind at.0 q at.2 in (b.winner, b.wins, b.one_cell, b.no_better)
    ]

pub none-in : (rules : Rules) (depth : ℕ) (cell : List ℕ) (ws : List Point) (losers : List Leaving) → IsSettled rules depth ws losers → NoneIn rules depth cell ws → NoneIn rules depth cell (in_id_order (contents ws losers))
none-in rules depth cell ws losers settled none =
    All-members (λ p. lies_in rules depth cell p ≡ false) (in_id_order (contents ws losers)) (λ q m. false_unless (lies_in rules depth cell q) (λ lies. let b = behind-some rules depth ws losers q settled (in_id_order-IsMember q (contents ws losers) m) in false≢true (sym (all-member (λ p. lies_in rules depth cell p ≡ false) b.0 ws none b.1) ∙ lies-share rules depth cell b.0 q b.2 lies)))

pub best-in : (rules : Rules) (depth : ℕ) (cell : List ℕ) (ws : List Point) (losers : List Leaving) (p : Point) → IsSettled rules depth ws losers → WinsIn rules depth cell ws p → IsBestIn rules depth cell (in_id_order (contents ws losers)) p
best-in rules depth cell ws losers p settled won = record {
  one_of_them = contains-IsMember p (in_id_order (contents ws losers)) (IsMember-in_id_order p (contents ws losers) (IsMember-left p ws (all_points losers) won.one_of_them));
  in_cell = won.in_cell;
  best = All-members (λ q. IsTrue (lies_in rules depth cell q) → is_better (rank_at rules depth q) (rank_at rules depth p) ≡ false) (in_id_order (contents ws losers)) (λ q m lies. not_better q (in_id_order-IsMember q (contents ws losers) m) lies);
}
  where
    not_better : (q : Point) → IsMember q (contents ws losers) → lies_in rules depth cell q ≡ true → is_better (rank_at rules depth q) (rank_at rules depth p) ≡ false
    not_better q m lies =
        let b = behind-some rules depth ws losers q settled m in
        let is : b.0 ≡ p = settled.apart b.0 p b.1 won.one_of_them (share-lies rules depth cell b.0 p (lies-share rules depth cell b.0 q b.2 lies) won.in_cell) in
        subst (λ (w : Point). is_better (rank_at rules depth q) (rank_at rules depth w) ≡ false) is b.3

pub found-best : (rules : Rules) (depth : ℕ) (cell : List ℕ) (ws : List Point) (losers : List Leaving) (found : Option Point) → IsSettled rules depth ws losers → MatchOption found (NoneIn rules depth cell ws) (WinsIn rules depth cell ws) → MatchOption found (NoneIn rules depth cell (in_id_order (contents ws losers))) (IsBestIn rules depth cell (in_id_order (contents ws losers)))
found-best rules depth cell ws losers None settled none = none-in rules depth cell ws losers settled none
found-best rules depth cell ws losers (Some p) settled won = best-in rules depth cell ws losers p settled won

-- cells with a winner are cells with a point
pub column_cells-more : (rules : Rules) (key : VoxelKey) (ws : List Point) (losers : List Leaving) (x y : ℕ) → column_cells rules key ws x y ≤ column_cells rules key (in_id_order (contents ws losers)) x y
unfolding column_cells
column_cells-more rules key ws losers x y =
    count-le (λ z. list_any (lies_in rules key.depth (x ∷ y ∷ z ∷ [])) ws) (λ z. list_any (lies_in rules key.depth (x ∷ y ∷ z ∷ [])) (in_id_order (contents ws losers))) (range_with_len (key.z * 2 ^ rules.cube.s) (2 ^ rules.cube.s)) (λ z some. let w = member-any (lies_in rules key.depth (x ∷ y ∷ z ∷ [])) ws some in any-member (lies_in rules key.depth (x ∷ y ∷ z ∷ [])) w.0 (in_id_order (contents ws losers)) (IsMember-in_id_order w.0 (contents ws losers) (IsMember-left w.0 ws (all_points losers) w.1)) w.2)
