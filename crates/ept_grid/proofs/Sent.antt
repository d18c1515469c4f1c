-- Losers that leave a node.
use Rattle.std.proofs.Common.{◌≡◌, ◌∙◌, ℕ, suc, ◌+◌, ◌<◌, Bool, true, false, ◌||◌, nat_lt, inl, inr, List, [], ◌∷◌, ◌++◌, length, length-append, count_by, refl, ap, sym, subst, arith}
use borrow.Author.Tests.{ltb-true}
use Rattle.std.specs.List.{All}
use Rattle.std.proofs.lemmas.List.Sorted.{IsPermutation-sym, length_permutation}
use Rattle.ept_point.specs.declared.point.Point.{Point}
use Rattle.ept_space.specs.declared.cube.Rules.{Rules}
use Rattle.ept_sample.specs.Members.{IsMember}
use Rattle.ept_sample.specs.Arrivals.{octant}
use Rattle.ept_sample.proofs.Choices.{either, or_false, or_left, and_left, and_right}
use Rattle.ept_sample.proofs.Members.{All-members}
use Rattle.ept_sample.proofs.IdLaws.{count_by-append, count_by-IsPermutation, IsMember-IsPermutation}
use Rattle.ept_grid.specs.Mask.{opened}
use Rattle.ept_grid.specs.Outgoing.{Leaving, leaving_at, points_at, all_points}
use Rattle.ept_grid.specs.Contents.{IsSettled, AreFew, HasSentAt, HasSent, opens_with}
use Rattle.ept_grid.proofs.Lanes.{in-range}

-- ---- what stays

nobody : (q : Point) (ps : List Point) → ps ≡ [] → IsMember q ps → ⊥
nobody q ps none m = subst (λ (w : List Point). IsMember q w) none m

-- a point that stays among the losers was among them
pub stayed : (rules : Rules) (depth mask mask' : ℕ) (mid stay before after : List Leaving) → HasSent rules depth mask mask' mid stay before after → (o : ℕ) (q : Point) → IsMember q (points_at stay o) → IsMember q (points_at mid o)
stayed rules depth mask mask' mid stay before after sent o q m =
    let small : o < 8 = omega (arith, in-range stay o q m, sent.stay_eight) in
    elim (either (opened mask' o)) [
      | inl is ↦ absurd (nobody q (points_at stay o) ((sent.each o small).gone is) m)
      | inr isn't ↦ subst (λ (w : List Point). IsMember q w) ((sent.each o small).shut isn't).0 m
    ]

pub settled-sent : (rules : Rules) (depth mask mask' : ℕ) (ws : List Point) (mid stay before after : List Leaving) → IsSettled rules depth ws mid → HasSent rules depth mask mask' mid stay before after → IsSettled rules depth ws stay
settled-sent rules depth mask mask' ws mid stay before after s sent = record {
  apart = s.apart;
  behind = λ o q m. s.behind o q (stayed rules depth mask mask' mid stay before after sent o q m);
}

pub few-sent : (rules : Rules) (depth mask mask' : ℕ) (mid stay before after : List Leaving) → HasSent rules depth mask mask' mid stay before after → AreFew rules depth mask' stay
few-sent rules depth mask mask' mid stay before after sent = record {
  shut = λ o h isn't. let at = sent.each o h in
      ap (λ (w : List Point). opens_with rules depth (length w)) (at.shut isn't).0 ∙ (or_false (opened mask o) (opens_with rules depth (length (points_at mid o))) (sym at.opens ∙ isn't)).1;
  gone = λ o h is. (sent.each o h).gone is;
}

-- ---- counts

count_at : (test : Point → Bool) (rules : Rules) (depth mask mask' o : ℕ) (mid stay before after : Leaving) → HasSentAt rules depth mask mask' o mid stay before after → count_by test stay.points + count_by test after.points ≡ count_by test mid.points + count_by test before.points
count_at test rules depth mask mask' o mid stay before after at =
    elim (either (opened mask' o)) [
      | inl is ↦ omega (arith, ap (λ (w : List Point). count_by test w) (at.gone is), ap (λ (w : List Point). count_by test w) at.grows, count_by-append test before.points at.added, count_by-IsPermutation test mid.points at.added (at.leave is))
      | inr isn't ↦ omega (arith, ap (λ (w : List Point). count_by test w) (at.shut isn't).0, ap (λ (w : List Point). count_by test w) (at.shut isn't).1)
    ]

-- lists whose numbers of points are equal, octant by octant, have equal numbers of points
count_all : (test : Point → Bool) (a b c d : List Leaving) → length b ≡ length a → length c ≡ length a → length d ≡ length a → ((o : ℕ) → o < length a → count_by test (points_at a o) + count_by test (points_at b o) ≡ count_by test (points_at c o) + count_by test (points_at d o)) → count_by test (all_points a) + count_by test (all_points b) ≡ count_by test (all_points c) + count_by test (all_points d)
count_all test [] [] [] [] e f g each = refl
count_all test [] (l ∷ b) c d e f g each = absurd (omega arith)
count_all test [] [] (l ∷ c) d e f g each = absurd (omega arith)
count_all test [] [] [] (l ∷ d) e f g each = absurd (omega arith)
count_all test (k ∷ a) [] c d e f g each = absurd (omega arith)
count_all test (k ∷ a) (l ∷ b) [] d e f g each = absurd (omega arith)
count_all test (k ∷ a) (l ∷ b) (m ∷ c) [] e f g each = absurd (omega arith)
count_all test (k ∷ a) (l ∷ b) (m ∷ c) (n ∷ d) e f g each =
    omega (arith, each 0 (omega arith), count_all test a b c d (omega arith) (omega arith) (omega arith) (λ o h. each (suc o) (omega arith)), count_by-append test k.points (all_points a), count_by-append test l.points (all_points b), count_by-append test m.points (all_points c), count_by-append test n.points (all_points d))

pub count-sent : (test : Point → Bool) (rules : Rules) (depth mask mask' : ℕ) (mid stay before after : List Leaving) → HasSent rules depth mask mask' mid stay before after → count_by test (all_points stay) + count_by test (all_points after) ≡ count_by test (all_points mid) + count_by test (all_points before)
count-sent test rules depth mask mask' mid stay before after sent =
    count_all test stay after mid before (omega (arith, sent.stay_eight, sent.after_eight)) (omega (arith, sent.stay_eight, sent.mid_eight)) (omega (arith, sent.stay_eight, sent.before_eight)) (λ o h. count_at test rules depth mask mask' o _ _ _ _ (sent.each o (omega (arith, sent.stay_eight))))

-- ---- what leaves

pub added-octant : (rules : Rules) (depth mask mask' : ℕ) (ws : List Point) (mid stay before after : List Leaving) → IsSettled rules depth ws mid → (o : ℕ) → (at : HasSentAt rules depth mask mask' o (leaving_at mid o) (leaving_at stay o) (leaving_at before o) (leaving_at after o)) → opened mask' o ≡ true → All (λ q. octant rules depth q ≡ o) at.added
added-octant rules depth mask mask' ws mid stay before after s o at is =
    All-members (λ q. octant rules depth q ≡ o) at.added (λ q m. (s.behind o q (IsMember-IsPermutation q at.added (points_at mid o) (IsPermutation-sym (points_at mid o) at.added (at.leave is)) m)).in_octant)

same_ends : (ps qs added : List Point) → qs ≡ ps ++ added → qs ≡ ps → length added ≡ 0
same_ends ps qs added grows same =
    omega (arith, sym (ap (λ (w : List Point). length w) grows) ∙ ap (λ (w : List Point). length w) same, length-append ps added)

pub none-added : (rules : Rules) (depth mask mask' o : ℕ) (mid stay before after : Leaving) → (at : HasSentAt rules depth mask mask' o mid stay before after) → opened mask' o ≡ false → length at.added ≡ 0
none-added rules depth mask mask' o mid stay before after at isn't =
    same_ends before.points after.points at.added at.grows (at.shut isn't).1

-- an open octant stays open
pub stays-open : (rules : Rules) (depth mask mask' o : ℕ) (mid stay before after : Leaving) → HasSentAt rules depth mask mask' o mid stay before after → opened mask o ≡ true → opened mask' o ≡ true
stays-open rules depth mask mask' o mid stay before after at is =
    at.opens ∙ or_left (opened mask o) (opens_with rules depth (length mid.points)) is

-- an octant that opens does so above the greatest depth, and has losers
pub opens-above : (rules : Rules) (depth mask mask' o : ℕ) (mid stay before after : Leaving) → HasSentAt rules depth mask mask' o mid stay before after → opened mask o ≡ false → opened mask' o ≡ true → (depth < rules.cube.depth) × (rules.threshold < length mid.points)
opens-above rules depth mask mask' o mid stay before after at isn't is =
    let many : opens_with rules depth (length mid.points) ≡ true = sym (ap (λ (b : Bool). b || opens_with rules depth (length mid.points)) isn't) ∙ (sym at.opens ∙ is) in
    (ltb-true depth rules.cube.depth (and_left (nat_lt depth rules.cube.depth) (nat_lt rules.threshold (length mid.points)) many), ltb-true rules.threshold (length mid.points) (and_right (nat_lt depth rules.cube.depth) (nat_lt rules.threshold (length mid.points)) many))

pub some-added : (rules : Rules) (depth mask mask' o : ℕ) (mid stay before after : Leaving) → (at : HasSentAt rules depth mask mask' o mid stay before after) → opened mask o ≡ false → opened mask' o ≡ true → 0 < length at.added
some-added rules depth mask mask' o mid stay before after at isn't is =
    omega (arith, (opens-above rules depth mask mask' o mid stay before after at isn't is).1, length_permutation mid.points at.added (at.leave is))
