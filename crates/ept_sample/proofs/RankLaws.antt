-- The order of ranks, and beating.
use Rattle.std.proofs.Common.{◌≡◌, ◌∙◌, refl, ℕ, ◌<◌, Bool, true, false, ◌&&◌, ◌||◌, ◌==◌, nat_lt, ◌⊎◌, inl, inr, sym, arith, eq-eqb, eqb, List}
use Rattle.std.proofs.lemmas.Bool.{false≢true}
use Rattle.std.proofs.lemmas.Bool.Decides.{nat_tests, same_from_decides, Decides-like, Decides-eqb}
use Rattle.std.proofs.lemmas.Slice.Eq.{slice_eq-Decides}
use lib.Pointwise.{pointwise}
use Rattle.ept_point.specs.declared.point.Point.{Point}
use Rattle.ept_space.specs.declared.cube.Rules.{Rules}
use Rattle.ept_space.specs.OctreeCube.{OctreeCube, same_cell, cell_at, distance_at}
use Rattle.ept_space.specs.Group.{group_of, HaveNoGroups}
use Rattle.ept_space.specs.Place.{Place}
use Rattle.ept_space.proofs.Cells.{same_cell-sym, same_cell-trans, cell_at-same, same_cell-cell_at}
use Rattle.ept_sample.specs.Place.{place}
use Rattle.ept_sample.specs.Ids.{same_id, is_first}
use Rattle.ept_sample.specs.Rank.{Rank, rank_at, is_nearer, is_better, beats}
use Rattle.ept_sample.proofs.Best.{IsContest}
use Rattle.ept_sample.proofs.Choices.{either, and_left, and_right, and_both}

-- the three parts of a rank after its group, in order
lexicographic : ℕ → ℕ → ℕ → ℕ → ℕ → ℕ → Bool
lexicographic a b c x y z = nat_lt a x || ((a == x) && (nat_lt b y || ((b == y) && nat_lt c z)))

lex-self : (a b c : ℕ) → lexicographic a b c a b c ≡ false
unfolding lexicographic
lex-self a b c = grind (arith, nat_tests)

lex-trans : (a b c k l m x y z : ℕ) → lexicographic a b c k l m ≡ true → lexicographic k l m x y z ≡ true → lexicographic a b c x y z ≡ true
unfolding lexicographic
lex-trans a b c k l m x y z e f = grind (arith, nat_tests)

lex-total : (a b c x y z : ℕ) → lexicographic a b c x y z ≡ false → lexicographic x y z a b c ≡ false → (a ≡ x) × (b ≡ y) × (c ≡ z)
unfolding lexicographic
lex-total a b c x y z e f = (grind (arith, nat_tests), grind (arith, nat_tests), grind (arith, nat_tests))

-- the group, and then the other parts
grouped : ℕ → ℕ → Bool → Bool
grouped g h later = nat_lt g h || ((g == h) && later)

grouped-self : (g : ℕ) (later : Bool) → later ≡ false → grouped g g later ≡ false
unfolding grouped
grouped-self g later none = grind (arith, nat_tests)

grouped-trans : (g h k : ℕ) (first second both : Bool) → (first ≡ true → second ≡ true → both ≡ true) → grouped g h first ≡ true → grouped h k second ≡ true → grouped g k both ≡ true
unfolding grouped
grouped-trans g h k first second both on e f = grind (arith, nat_tests)

grouped-total : (g h : ℕ) (first second : Bool) → grouped g h first ≡ false → grouped h g second ≡ false → (g ≡ h) × (first ≡ false) × (second ≡ false)
unfolding grouped
grouped-total g h first second e f = (grind (arith, nat_tests), grind (arith, nat_tests), grind (arith, nat_tests))

pub is_better-self : (a : Rank) → is_better a a ≡ false
unfolding lexicographic grouped
is_better-self a = grouped-self a.group (is_nearer a a) (lex-self a.distance a.origin a.number)

pub is_better-trans : (a b c : Rank) → is_better a b ≡ true → is_better b c ≡ true → is_better a c ≡ true
unfolding lexicographic grouped
is_better-trans a b c e f =
    grouped-trans a.group b.group c.group (is_nearer a b) (is_nearer b c) (is_nearer a c) (lex-trans a.distance a.origin a.number b.distance b.origin b.number c.distance c.origin c.number) e f

-- two ranks, neither of which is better, are equal
pub is_better-total : (a b : Rank) → is_better a b ≡ false → is_better b a ≡ false → (a.group ≡ b.group) × (a.distance ≡ b.distance) × (a.origin ≡ b.origin) × (a.number ≡ b.number)
unfolding lexicographic grouped
is_better-total a b e f =
    let level = grouped-total a.group b.group (is_nearer a b) (is_nearer b a) e f in
    let later = lex-total a.distance a.origin a.number b.distance b.origin b.number level.1 level.2 in
    (level.0, later.0, later.1, later.2)

-- ---- two tests at once

-- ---- beating

-- no point beats itself
pub beats-self : (rules : Rules) (depth : ℕ) (p : Point) → beats rules depth p p ≡ false
unfolding beats
beats-self rules depth p =
    elim (either (same_cell rules.cube depth (place p) (place p) && is_better (rank_at rules depth p) (rank_at rules depth p))) [
      | inl is ↦ absurd (false≢true (sym (is_better-self (rank_at rules depth p)) ∙ and_right (same_cell rules.cube depth (place p) (place p)) (is_better (rank_at rules depth p) (rank_at rules depth p)) is))
      | inr isn't ↦ isn't
    ]

-- a point lies in the cell of each that it beats
pub beats-cell : (rules : Rules) (depth : ℕ) (q p : Point) → beats rules depth q p ≡ true → same_cell rules.cube depth (place q) (place p) ≡ true
unfolding beats
beats-cell rules depth q p e =
    and_left (same_cell rules.cube depth (place q) (place p)) (is_better (rank_at rules depth q) (rank_at rules depth p)) e

-- and has a better rank
pub beats-rank : (rules : Rules) (depth : ℕ) (q p : Point) → beats rules depth q p ≡ true → is_better (rank_at rules depth q) (rank_at rules depth p) ≡ true
unfolding beats
beats-rank rules depth q p e =
    and_right (same_cell rules.cube depth (place q) (place p)) (is_better (rank_at rules depth q) (rank_at rules depth p)) e

pub beats-from : (rules : Rules) (depth : ℕ) (q p : Point) → same_cell rules.cube depth (place q) (place p) ≡ true → is_better (rank_at rules depth q) (rank_at rules depth p) ≡ true → beats rules depth q p ≡ true
unfolding beats
beats-from rules depth q p cell rank = and_both _ _ cell rank

-- a point beats what the points that it beats beat
pub beats-trans : (rules : Rules) (depth : ℕ) (r q p : Point) → beats rules depth r q ≡ true → beats rules depth q p ≡ true → beats rules depth r p ≡ true
beats-trans rules depth r q p e f =
    beats-from rules depth r p
    (same_cell-trans rules.cube depth (place r) (place q) (place p) (beats-cell rules depth r q e) (beats-cell rules depth q p f))
    (is_better-trans (rank_at rules depth r) (rank_at rules depth q) (rank_at rules depth p) (beats-rank rules depth r q e) (beats-rank rules depth q p f))

-- if two points of one cell have different ids, one beats the other
pub beats-total : (rules : Rules) (depth : ℕ) (q p : Point) → same_cell rules.cube depth (place q) (place p) ≡ true → same_id q p ≡ false → (beats rules depth q p ≡ true) ⊎ (beats rules depth p q ≡ true)
beats-total rules depth q p cell different =
    elim (either (is_better (rank_at rules depth q) (rank_at rules depth p))) [
      | inl first ↦ inl (beats-from rules depth q p cell first)
      | inr not_first ↦
          elim (either (is_better (rank_at rules depth p) (rank_at rules depth q))) [
            | inl second ↦ inr (beats-from rules depth p q (same_cell-sym rules.cube depth (place q) (place p) cell) second)
            | inr not_second ↦
                let e = is_better-total (rank_at rules depth q) (rank_at rules depth p) not_first not_second in
                absurd (false≢true (sym different ∙ and_both _ _ (eq-eqb q.origin p.origin e.2) (eq-eqb q.number p.number e.3)))
          ]
    ]

-- by a lower group, and by a lesser distance if there are no groups
pub lower-beats : (rules : Rules) (depth : ℕ) (p q : Point) → same_cell rules.cube depth (place p) (place q) ≡ true → group_of rules p.class p.class_flags < group_of rules q.class q.class_flags → beats rules depth p q ≡ true
lower-beats rules depth p q cell lower = beats-from rules depth p q cell (grind (arith, nat_tests))

no_groups : (rules : Rules) (p : Point) → HaveNoGroups rules → group_of rules p.class p.class_flags ≡ 0
unfolding group_of
no_groups rules p none = rw (none.0, none.1) refl

by-distance : (g h d e i j k l : ℕ) → g ≡ h → d < e → (nat_lt g h || ((g == h) && (nat_lt d e || ((d == e) && is_first i j k l)))) ≡ true
by-distance g h d e i j k l same near = grind (arith, nat_tests)

pub nearest-beats : (rules : Rules) (depth : ℕ) (p q : Point) → HaveNoGroups rules → same_cell rules.cube depth (place p) (place q) ≡ true → distance_at rules.cube depth (place p) < distance_at rules.cube depth (place q) → beats rules depth p q ≡ true
nearest-beats rules depth p q none cell near =
    beats-from rules depth p q cell (by-distance _ _ _ _ p.origin p.number q.origin q.number (no_groups rules p none ∙ sym (no_groups rules q none)) near)

-- so points contest a depth
pub contest : (rules : Rules) (depth : ℕ) → IsContest (beats rules depth)
contest rules depth = record { none_itself = beats-self rules depth; goes_on = beats-trans rules depth }

-- ---- what equal cells mean

pub same_cells : (cube : OctreeCube) (depth : ℕ) (p q : Place) (r : Bool) (a b : List ℕ) → a ≡ cell_at cube depth p → b ≡ cell_at cube depth q → r ≡ pointwise eqb a b → r ≡ same_cell cube depth p q
same_cells cube depth p q r a b is is' e =
    same_from_decides {P = cell_at cube depth p ≡ cell_at cube depth q} r (same_cell cube depth p q) (Decides-like r (λ h. sym is ∙ (h ∙ is')) (λ h. is ∙ (h ∙ sym is')) (slice_eq-Decides Decides-eqb a b r e)) (cell_at-same cube depth p q, same_cell-cell_at cube depth p q)
