-- Winners and losers of a node that is settled.
use Rattle.std.proofs.Common.{◌≡◌, ◌∙◌, ℕ, true, false, ◌&&◌, ◌==◌, nat_lt, inl, inr, List, length, ap, sym, subst, eq-eqb}
use Rattle.std.specs.List.Sorted.{IsPermutation}
use Rattle.std.proofs.lemmas.List.Sorted.{IsPermutation-sym, length_permutation}
use Rattle.ept_point.specs.declared.point.Point.{Point}
use Rattle.ept_space.specs.declared.cube.Rules.{Rules}
use Rattle.ept_space.proofs.Cells.{same_cell-trans}
use Rattle.ept_sample.specs.Place.{place}
use Rattle.ept_sample.specs.Members.{IsMember}
use Rattle.ept_sample.specs.Ids.{same_id, HasDistinctIds}
use Rattle.ept_sample.specs.Rank.{beats}
use Rattle.ept_sample.specs.Arrivals.{octant, loses, losers, overflows}
use Rattle.ept_sample.proofs.Choices.{not_both, is_false, and_left, and_right, and_both}
use Rattle.ept_sample.proofs.Members.{IsMember-left, IsMember-right, IsMember-append, IsMember-filter, IsMember-kept}
use Rattle.ept_sample.proofs.RankLaws.{beats-self, beats-cell, beats-rank, beats-total}
use Rattle.ept_sample.proofs.ArrivalLaws.{same_number, loses-beaten, beaten-loses, loses-IsPermutation}
use Rattle.ept_sample.proofs.IdLaws.{HasDistinctIds-IsPermutation, HasDistinctIds-filter, IsMember-IsPermutation, IsPermutation-members}
use Rattle.ept_grid.specs.Outgoing.{Leaving, points_at, all_points}
use Rattle.ept_grid.specs.Settling.{is_better_at}
use Rattle.ept_grid.specs.Contents.{contents, IsBehind, IsSettled, opens_with}
use Rattle.ept_grid.proofs.Lanes.{member-at, once-at, once-right, ids-apart, at-member}

-- no winner loses, whatever the ids
pub wins : (rules : Rules) (depth : ℕ) (ws : List Point) (out : List Leaving) → IsSettled rules depth ws out → (w : Point) → IsMember w ws → loses rules depth (contents ws out) w ≡ false
wins rules depth ws out s w m =
    is_false (loses rules depth (contents ws out) w) (λ lost. let b = beaten-loses rules depth (contents ws out) w lost in elim (IsMember-append b.0 ws (all_points out) b.1) [
      | inl n ↦ by_winner b.0 n b.2
      | inr n ↦ let at = member-at out b.0 n in by_loser at.0 b.0 (s.behind at.0 b.0 at.2) b.2
    ])
  where
    by_winner : (q : Point) → IsMember q ws → beats rules depth q w ≡ true → ⊥
    by_winner q n e =
        let same : q ≡ w = s.apart q w n m (beats-cell rules depth q w e) in
        not_both (beats rules depth w w) (subst (λ (x : Point). beats rules depth x w ≡ true) same e) (beats-self rules depth w)

    by_loser : (o : ℕ) (q : Point) → IsBehind rules depth ws o q → beats rules depth q w ≡ true → ⊥
    by_loser o q b e =
        let same : b.winner ≡ w = s.apart b.winner w b.wins m (same_cell-trans rules.cube depth (place b.winner) (place q) (place w) b.one_cell (beats-cell rules depth q w e)) in
        not_both (is_better_at rules depth q w) (beats-rank rules depth q w e) (subst (λ (x : Point). is_better_at rules depth q x ≡ false) same b.no_better)

-- each loser loses, if the ids are different
pub falls : (rules : Rules) (depth : ℕ) (ws : List Point) (out : List Leaving) → IsSettled rules depth ws out → HasDistinctIds (contents ws out) → (o : ℕ) (q : Point) → IsMember q (points_at out o) → loses rules depth (contents ws out) q ≡ true
falls rules depth ws out s once o q m =
    let b = s.behind o q m in
    let apart : same_id b.winner q ≡ false = ids-apart ws (all_points out) once b.winner q b.wins (at-member out o q m) in
    elim (beats-total rules depth b.winner q b.one_cell apart) [
      | inl e ↦ loses-beaten rules depth (contents ws out) b.winner q (IsMember-left b.winner ws (all_points out) b.wins) e
      | inr e ↦ absurd (not_both (is_better_at rules depth q b.winner) (beats-rank rules depth q b.winner e) b.no_better)
    ]

-- the losers of an octant are those of its list
lane_losers : (rules : Rules) (depth : ℕ) (ws : List Point) (out : List Leaving) (given : List Point) → IsSettled rules depth ws out → HasDistinctIds (contents ws out) → IsPermutation (contents ws out) given → (o : ℕ) (q : Point) → IsMember q (points_at out o) → IsMember q (losers rules depth given o)
unfolding losers
lane_losers rules depth ws out given s once all o q m =
    let lost : loses rules depth given q ≡ true = sym (loses-IsPermutation rules depth (contents ws out) given q all) ∙ falls rules depth ws out s once o q m in
    IsMember-kept (λ p. loses rules depth given p && (octant rules depth p == o)) q given (and_both _ _ lost (eq-eqb (octant rules depth q) o (s.behind o q m).in_octant)) (IsMember-IsPermutation q (contents ws out) given all (IsMember-right q ws (all_points out) (at-member out o q m)))

losers_lane : (rules : Rules) (depth : ℕ) (ws : List Point) (out : List Leaving) (given : List Point) → IsSettled rules depth ws out → IsPermutation (contents ws out) given → (o : ℕ) (q : Point) → IsMember q (losers rules depth given o) → IsMember q (points_at out o)
unfolding losers
losers_lane rules depth ws out given s all o q m =
    let found = IsMember-filter (λ p. loses rules depth given p && (octant rules depth p == o)) q given m in
    let lost : loses rules depth (contents ws out) q ≡ true = loses-IsPermutation rules depth (contents ws out) given q all ∙ and_left _ _ found.1 in
    let here : octant rules depth q ≡ o = same_number (octant rules depth q) o (and_right (loses rules depth given q) (octant rules depth q == o) found.1) in
    elim (IsMember-append q ws (all_points out) (IsMember-IsPermutation q given (contents ws out) (IsPermutation-sym (contents ws out) given all) found.0)) [
      | inl n ↦ absurd (not_both (loses rules depth (contents ws out) q) lost (wins rules depth ws out s q n))
      | inr n ↦
          let at = member-at out q n in
          subst (λ (k : ℕ). IsMember q (points_at out k)) (sym (s.behind at.0 q at.2).in_octant ∙ here) at.2
    ]

once_losers : (rules : Rules) (depth : ℕ) (given : List Point) (o : ℕ) → HasDistinctIds given → HasDistinctIds (losers rules depth given o)
unfolding losers
once_losers rules depth given o once = HasDistinctIds-filter _ given once

-- so they are its list, in any order
pub losers-lane : (rules : Rules) (depth : ℕ) (ws : List Point) (out : List Leaving) (given : List Point) → IsSettled rules depth ws out → HasDistinctIds (contents ws out) → IsPermutation (contents ws out) given → (o : ℕ) → IsPermutation (points_at out o) (losers rules depth given o)
losers-lane rules depth ws out given s once all o =
    IsPermutation-members (points_at out o) (losers rules depth given o) (once-at out o (once-right ws (all_points out) once)) (once_losers rules depth given o (HasDistinctIds-IsPermutation (contents ws out) given all once)) (lane_losers rules depth ws out given s once all o) (losers_lane rules depth ws out given s all o)

-- and whether it overflows is a matter of the list's length
pub overflows-lane : (rules : Rules) (depth : ℕ) (ws : List Point) (out : List Leaving) (given : List Point) → IsSettled rules depth ws out → HasDistinctIds (contents ws out) → IsPermutation (contents ws out) given → (o : ℕ) → overflows rules depth given o ≡ opens_with rules depth (length (points_at out o))
unfolding overflows
overflows-lane rules depth ws out given s once all o =
    ap (λ (n : ℕ). nat_lt depth rules.cube.depth && nat_lt rules.threshold n) (length_permutation (points_at out o) (losers rules depth given o) (losers-lane rules depth ws out given s once all o))

-- a loser is one in a list
pub loses-lane : (rules : Rules) (depth : ℕ) (ws : List Point) (out : List Leaving) (given : List Point) → IsSettled rules depth ws out → HasDistinctIds (contents ws out) → IsPermutation (contents ws out) given → (o : ℕ) (q : Point) → IsMember q (points_at out o) → loses rules depth given q ≡ true
loses-lane rules depth ws out given s once all o q m =
    sym (loses-IsPermutation rules depth (contents ws out) given q all) ∙ falls rules depth ws out s once o q m

pub wins-given : (rules : Rules) (depth : ℕ) (ws : List Point) (out : List Leaving) (given : List Point) → IsSettled rules depth ws out → IsPermutation (contents ws out) given → (w : Point) → IsMember w ws → loses rules depth given w ≡ false
wins-given rules depth ws out given s all w m =
    sym (loses-IsPermutation rules depth (contents ws out) given w all) ∙ wins rules depth ws out s w m
