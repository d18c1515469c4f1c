-- What the points of some octants of the root's box do at the root, among themselves and among all.
use Rattle.std.proofs.Common.{◌≡◌, ◌∙◌, ℕ, Bool, true, false, not, ◌&&◌, ◌==◌, nat_lt, inl, inr, List, refl, sym, ap, arith, filter, length}
use Rattle.std.proofs.lemmas.List.Elements.{filter_agree}
use Rattle.ept_point.specs.declared.point.Point.{Point}
use Rattle.ept_space.specs.declared.cube.Rules.{Rules}
use Rattle.ept_space.specs.OctreeCube.{IsCube}
use Rattle.ept_space.proofs.Cells.{octant_at-same_cell}
use Rattle.ept_sample.specs.Place.{place}
use Rattle.ept_sample.specs.Rank.{beats}
use Rattle.ept_sample.specs.Arrivals.{loses, octant, losers, overflows, is_open, leaves, kept, sent, none_open}
use Rattle.ept_sample.proofs.Members.{IsMember-filter, IsMember-kept, filter-filter}
use Rattle.ept_sample.proofs.ArrivalLaws.{same_number, loses-beaten, beaten-loses}
use Rattle.ept_sample.proofs.RankLaws.{beats-cell}
use Rattle.ept_sample.proofs.Choices.{either, is_false, not_both}
use Rattle.ept_parts.specs.Parts.{Octants}

-- ---- tests that agree on a part

and_false : (a : Bool) → (a && false) ≡ false
and_false true = refl
and_false false = refl

and_true : (a : Bool) → (a && true) ≡ a
and_true true = refl
and_true false = refl

-- if all that passes t is of the part, two tests that agree on the part agree together with t
agree-within : (mine a b t : Bool) → (t ≡ true → mine ≡ true) → (mine ≡ true → a ≡ b) → (mine && (a && t)) ≡ (b && t)
agree-within mine a b true within same =
    ap (λ (m : Bool). m && (a && true)) (within refl) ∙ ap (λ (c : Bool). c && true) (same (within refl))
agree-within true a b false within same = and_false a ∙ sym (and_false b)
agree-within false a b false within same = sym (and_false b)

agree-part : (mine a b : Bool) → (mine ≡ true → a ≡ b) → (mine && a) ≡ (b && mine)
agree-part true a b same = same refl ∙ sym (and_true b)
agree-part false a b same = sym (and_false b)

-- ---- losing, opening and leaving

module _ (rules : Rules) (octants : Octants) where
  -- a point is one of the part
  abbrev pub mine : Point → Bool
  mine p = octants (octant rules 0 p)

  module _ (cube : IsCube rules.cube) where
    -- a point lies in the octant of each that it beats
    beats-octant : (q p : Point) → beats rules 0 q p ≡ true → octant rules 0 q ≡ octant rules 0 p
    beats-octant q p e =
        octant_at-same_cell rules.cube 0 0 (place q) (place p) cube.span_low (omega arith) (beats-cell rules 0 q p e)

    -- so a point of the part loses among the part if and only if it loses among all
    loses-part : (given : List Point) (p : Point) → mine p ≡ true → loses rules 0 (filter mine given) p ≡ loses rules 0 given p
    loses-part given p here =
        elim (either (loses rules 0 given p)) [
          | inl lost ↦
              let q = beaten-loses rules 0 given p lost in
              let there : mine q.0 ≡ true = ap octants (beats-octant q.0 p q.2) ∙ here in
              loses-beaten rules 0 (filter mine given) q.0 p (IsMember-kept mine q.0 given there q.1) q.2 ∙ sym lost
          | inr wins ↦
              is_false (loses rules 0 (filter mine given) p) (λ lost. (
              let q = beaten-loses rules 0 (filter mine given) p lost in
              not_both (loses rules 0 given p) (loses-beaten rules 0 given q.0 p (IsMember-filter mine q.0 given q.1).0 q.2) wins)) ∙ sym wins
        ]

    -- a point of an octant of the part is of the part
    octant-mine : (o : ℕ) (p : Point) → octants o ≡ true → (octant rules 0 p == o) ≡ true → mine p ≡ true
    octant-mine o p its here = ap octants (same_number (octant rules 0 p) o here) ∙ its

    losers-part : (given : List Point) (o : ℕ) → octants o ≡ true → losers rules 0 (filter mine given) o ≡ losers rules 0 given o
    unfolding losers
    losers-part given o its =
        filter-filter mine (λ p. loses rules 0 (filter mine given) p && (octant rules 0 p == o)) given
        ∙ filter_agree (λ p. mine p && (loses rules 0 (filter mine given) p && (octant rules 0 p == o))) (λ p. loses rules 0 given p && (octant rules 0 p == o)) (λ p. agree-within (mine p) (loses rules 0 (filter mine given) p) (loses rules 0 given p) (octant rules 0 p == o) (octant-mine o p its) (loses-part given p)) given

    opens-part : (given : List Point) (o : ℕ) → octants o ≡ true → is_open rules 0 none_open (filter mine given) o ≡ is_open rules 0 none_open given o
    unfolding is_open overflows
    opens-part given o its =
        ap (λ (xs : List Point). nat_lt 0 rules.cube.depth && nat_lt rules.threshold (length xs)) (losers-part given o its)

    leaves-part : (given : List Point) (p : Point) → mine p ≡ true → leaves rules 0 none_open (filter mine given) p ≡ leaves rules 0 none_open given p
    unfolding leaves
    leaves-part given p here =
        ap (λ (b : Bool). b && is_open rules 0 none_open (filter mine given) (octant rules 0 p)) (loses-part given p here)
        ∙ ap (λ (b : Bool). loses rules 0 given p && b) (opens-part given (octant rules 0 p) here)

    -- ---- what stays, and what is sent

    -- the points that stay of the part are those of the part that stay of all
    pub kept-part : (given : List Point) → kept rules 0 none_open (filter mine given) ≡ filter mine (kept rules 0 none_open given)
    unfolding kept
    kept-part given =
        filter-filter mine (λ p. not (leaves rules 0 none_open (filter mine given) p)) given
        ∙ (filter_agree (λ p. mine p && not (leaves rules 0 none_open (filter mine given) p)) (λ p. not (leaves rules 0 none_open given p) && mine p) (λ p. agree-part (mine p) (not (leaves rules 0 none_open (filter mine given) p)) (not (leaves rules 0 none_open given p)) (λ here. ap not (leaves-part given p here))) given
        ∙ sym (filter-filter (λ p. not (leaves rules 0 none_open given p)) mine given))

    -- an octant of the part is sent what all send there
    pub sent-part : (given : List Point) (o : ℕ) → octants o ≡ true → sent rules 0 none_open (filter mine given) o ≡ sent rules 0 none_open given o
    unfolding sent
    sent-part given o its =
        filter-filter mine (λ p. leaves rules 0 none_open (filter mine given) p && (octant rules 0 p == o)) given
        ∙ filter_agree (λ p. mine p && (leaves rules 0 none_open (filter mine given) p && (octant rules 0 p == o))) (λ p. leaves rules 0 none_open given p && (octant rules 0 p == o)) (λ p. agree-within (mine p) (leaves rules 0 none_open (filter mine given) p) (leaves rules 0 none_open given p) (octant rules 0 p == o) (octant-mine o p its) (leaves-part given p)) given
