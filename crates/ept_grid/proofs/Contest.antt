-- A point that arrives: what it does to winners and losers, before any leaves.
use Rattle.std.proofs.Common.{◌≡◌, ◌∙◌, ℕ, ◌<◌, true, false, ◌⊎◌, inl, inr, List, [], ◌∷◌, ◌++◌, length, append_assoc, refl, ap, sym, subst}
use Rattle.std.specs.List.Sorted.{IsPermutation}
use Rattle.std.proofs.lemmas.List.Sorted.{IsPermutation-refl, IsPermutation-sym, IsPermutation-trans, IsPermutation-cons, IsPermutation-middle, IsPermutation-append_left}
use Rattle.ept_point.specs.declared.point.Point.{Point}
use Rattle.ept_space.specs.declared.cube.Rules.{Rules}
use Rattle.ept_space.proofs.Cells.{same_cell-sym, same_cell-trans}
use Rattle.ept_sample.specs.Place.{place}
use Rattle.ept_sample.specs.Rank.{rank_at}
use Rattle.ept_sample.specs.Members.{IsMember}
use Rattle.ept_sample.specs.Arrivals.{octant}
use Rattle.ept_sample.proofs.Choices.{not_both, is_false}
use Rattle.ept_sample.proofs.Members.{IsMember-left, IsMember-right, IsMember-append}
use Rattle.ept_sample.proofs.RankLaws.{is_better-self, is_better-trans}
use Rattle.ept_grid.specs.Outgoing.{Leaving, all_points}
use Rattle.ept_grid.specs.Settling.{share_cell, is_better_at, AreApart, HasItsCell, HasContended}
use Rattle.ept_grid.specs.Contents.{contents, IsBehind, IsSettled, joined}
use Rattle.ept_grid.proofs.Lanes.{joined-member, all-joined, between}

-- what settling leaves: the losers with the one that loses, if one does
pub record HasSettled (rules : Rules) (depth : ℕ) (p : Point) (ws ws' : List Point) (losers mid : List Leaving) : Type 0 where
  pub settled : IsSettled rules depth ws' mid
  pub together : IsPermutation (p ∷ contents ws losers) (contents ws' mid)

-- ---- a cell of its own

pub own-cell : (rules : Rules) (depth : ℕ) (p : Point) (ws ws' : List Point) (losers : List Leaving) → IsSettled rules depth ws losers → AreApart rules depth ws' → HasItsCell rules depth p ws ws' → HasSettled rules depth p ws ws' losers losers
own-cell rules depth p ws ws' losers s apart h = record {
  settled = record {
    apart = apart;
    behind = λ o q m. let b = s.behind o q m in record {
      in_octant = b.in_octant;
      winner = b.winner;
      wins = subst (λ (w : List Point). IsMember b.winner w) (sym h.grows) (IsMember-left b.winner ws (p ∷ []) b.wins);
      one_cell = b.one_cell;
      no_better = b.no_better;
    };
  };
  together = subst (λ (w : List Point). IsPermutation (p ∷ contents ws losers) (w ++ all_points losers)) (sym h.grows) (subst (λ (w : List Point). IsPermutation (p ∷ contents ws losers) w) (sym (append_assoc ws (p ∷ []) (all_points losers))) (between p ws (all_points losers) (p ∷ all_points losers) (IsPermutation-refl (p ∷ all_points losers))));
}

-- ---- a cell that has a winner

-- a point that is not better than a displaced winner is not better than the point that displaces it
better_yet : (rules : Rules) (depth : ℕ) (p w q : Point) → is_better_at rules depth p w ≡ true → is_better_at rules depth q w ≡ false → is_better_at rules depth q p ≡ false
better_yet rules depth p w q first behind =
    is_false (is_better_at rules depth q p) (λ e. not_both (is_better_at rules depth q w) (is_better-trans (rank_at rules depth q) (rank_at rules depth p) (rank_at rules depth w) e first) behind)

no_worse : (rules : Rules) (depth : ℕ) (p w : Point) → is_better_at rules depth p w ≡ true → is_better_at rules depth w p ≡ false
no_worse rules depth p w first = better_yet rules depth p w w first (is_better-self (rank_at rules depth w))

-- a member of a list, once one item is in another's place
replaced : (front back : List Point) (w p x : Point) → IsMember x (front ++ w ∷ back) → IsMember x (front ++ p ∷ back) ⊎ (w ≡ x)
replaced front back w p x m =
    elim (IsMember-append x front (w ∷ back) m) [
      | inl f ↦ inl (IsMember-left x front (p ∷ back) f)
      | inr r ↦ elim r [ inl is ↦ inr is | inr b ↦ inl (IsMember-right x front (p ∷ back) (inr b)) ]
    ]

newcomer : (front back : List Point) (p : Point) → IsMember p (front ++ p ∷ back)
newcomer front back p = IsMember-right p front (p ∷ back) (inl refl)

-- the old losers still have no better rank than the winners of their cells
still_behind : (rules : Rules) (depth : ℕ) (p : Point) (front back : List Point) (w : Point) (o : ℕ) (q : Point) → share_cell rules depth w p ≡ true → is_better_at rules depth p w ≡ true → IsBehind rules depth (front ++ w ∷ back) o q → IsBehind rules depth (front ++ p ∷ back) o q
still_behind rules depth p front back w o q cell first b =
    elim (replaced front back w p b.winner b.wins) [
      | inl m ↦ record { in_octant = b.in_octant; winner = b.winner; wins = m; one_cell = b.one_cell; no_better = b.no_better }
      | inr is ↦ record {
        in_octant = b.in_octant;
        winner = p;
        wins = newcomer front back p;
        one_cell = same_cell-trans rules.cube depth (place p) (place w) (place q) (same_cell-sym rules.cube depth (place w) (place p) cell) (subst (λ (x : Point). share_cell rules depth x q ≡ true) (sym is) b.one_cell);
        no_better = better_yet rules depth p w q first (subst (λ (x : Point). is_better_at rules depth q x ≡ false) (sym is) b.no_better);
      }
    ]

displaced_order : (p w : Point) (front back all mid : List Point) → IsPermutation (w ∷ all) mid → IsPermutation (p ∷ ((front ++ w ∷ back) ++ all)) ((front ++ p ∷ back) ++ mid)
displaced_order p w front back all mid h =
    let old : IsPermutation ((front ++ w ∷ back) ++ all) (w ∷ ((front ++ back) ++ all)) = IsPermutation-append_left all (front ++ w ∷ back) (w ∷ (front ++ back)) (IsPermutation-middle front w back) in
    let new : IsPermutation ((front ++ p ∷ back) ++ mid) (p ∷ ((front ++ back) ++ mid)) = IsPermutation-append_left mid (front ++ p ∷ back) (p ∷ (front ++ back)) (IsPermutation-middle front p back) in
    let both : IsPermutation ((front ++ w ∷ back) ++ all) ((front ++ back) ++ mid) = IsPermutation-trans ((front ++ w ∷ back) ++ all) (w ∷ ((front ++ back) ++ all)) ((front ++ back) ++ mid) old (between w (front ++ back) all mid h) in
    IsPermutation-trans (p ∷ ((front ++ w ∷ back) ++ all)) (p ∷ ((front ++ back) ++ mid)) ((front ++ p ∷ back) ++ mid) (IsPermutation-cons p ((front ++ w ∷ back) ++ all) ((front ++ back) ++ mid) both) (IsPermutation-sym ((front ++ p ∷ back) ++ mid) (p ∷ ((front ++ back) ++ mid)) new)

displaces : (rules : Rules) (depth : ℕ) (p : Point) (front back : List Point) (w : Point) (losers : List Leaving) (o : ℕ) → o < length losers → octant rules depth w ≡ o → IsSettled rules depth (front ++ w ∷ back) losers → AreApart rules depth (front ++ p ∷ back) → share_cell rules depth w p ≡ true → is_better_at rules depth p w ≡ true → HasSettled rules depth p (front ++ w ∷ back) (front ++ p ∷ back) losers (joined losers o w)
displaces rules depth p front back w losers o small here s apart cell first = record {
  settled = record {
    apart = apart;
    behind = λ k q m. elim (joined-member losers o k w q m) [
      | inl n ↦ still_behind rules depth p front back w k q cell first (s.behind k q n)
      | inr n ↦ record {
        in_octant = ap (λ (x : Point). octant rules depth x) (sym n.0) ∙ here ∙ sym n.1;
        winner = p;
        wins = newcomer front back p;
        one_cell = subst (λ (x : Point). share_cell rules depth p x ≡ true) n.0 (same_cell-sym rules.cube depth (place w) (place p) cell);
        no_better = subst (λ (x : Point). is_better_at rules depth x p ≡ false) n.0 (no_worse rules depth p w first);
      }
    ];
  };
  together = displaced_order p w front back (all_points losers) (all_points (joined losers o w)) (all-joined losers o w small);
}

stays_behind : (rules : Rules) (depth : ℕ) (p : Point) (ws : List Point) (w : Point) (losers : List Leaving) (o : ℕ) → o < length losers → octant rules depth p ≡ o → IsSettled rules depth ws losers → IsMember w ws → share_cell rules depth w p ≡ true → is_better_at rules depth p w ≡ false → HasSettled rules depth p ws ws losers (joined losers o p)
stays_behind rules depth p ws w losers o small here s m cell behind = record {
  settled = record {
    apart = s.apart;
    behind = λ k q n. elim (joined-member losers o k p q n) [
      | inl old ↦ s.behind k q old
      | inr new ↦ record {
        in_octant = ap (λ (x : Point). octant rules depth x) (sym new.0) ∙ here ∙ sym new.1;
        winner = w;
        wins = m;
        one_cell = subst (λ (x : Point). share_cell rules depth w x ≡ true) new.0 cell;
        no_better = subst (λ (x : Point). is_better_at rules depth x w ≡ false) new.0 behind;
      }
    ];
  };
  together = between p ws (all_points losers) (all_points (joined losers o p)) (all-joined losers o p small);
}

-- the better of the two has the cell, and the other is among the losers
pub contended : (rules : Rules) (depth : ℕ) (p : Point) (ws ws' : List Point) (losers : List Leaving) (loser : Point) (o : ℕ) → o < length losers → octant rules depth loser ≡ o → IsSettled rules depth ws losers → AreApart rules depth ws' → HasContended rules depth p ws ws' loser → HasSettled rules depth p ws ws' losers (joined losers o loser)
contended rules depth p ws ws' losers loser o small here s apart h =
    elim h.outcome [
      | inl r ↦ better r.0 r.1 r.2
      | inr r ↦ worse r.0 r.1 r.2
    ]
  where
    better : is_better_at rules depth p h.winner ≡ true → ws' ≡ h.front ++ p ∷ h.back → loser ≡ h.winner → HasSettled rules depth p ws ws' losers (joined losers o loser)
    better first new lost =
        subst (λ (x : List Point). HasSettled rules depth p x ws' losers (joined losers o loser)) (sym h.stood) (subst (λ (y : List Point). HasSettled rules depth p (h.front ++ h.winner ∷ h.back) y losers (joined losers o loser)) (sym new) (subst (λ (z : Point). HasSettled rules depth p (h.front ++ h.winner ∷ h.back) (h.front ++ p ∷ h.back) losers (joined losers o z)) (sym lost) (displaces rules depth p h.front h.back h.winner losers o small (ap (λ (x : Point). octant rules depth x) (sym lost) ∙ here) (subst (λ (x : List Point). IsSettled rules depth x losers) h.stood s) (subst (λ (y : List Point). AreApart rules depth y) new apart) h.one_cell first)))

    worse : is_better_at rules depth p h.winner ≡ false → ws' ≡ ws → loser ≡ p → HasSettled rules depth p ws ws' losers (joined losers o loser)
    worse behind new lost =
        subst (λ (y : List Point). HasSettled rules depth p ws y losers (joined losers o loser)) (sym new) (subst (λ (z : Point). HasSettled rules depth p ws ws losers (joined losers o z)) (sym lost) (stays_behind rules depth p ws h.winner losers o small (ap (λ (x : Point). octant rules depth x) (sym lost) ∙ here) s (subst (λ (x : List Point). IsMember h.winner x) (sym h.stood) (newcomer h.front h.back h.winner)) h.one_cell behind))
