-- Counts over one list, and over two.
use Rattle.std.proofs.Common.{◌≡◌, ◌∙◌, ℕ, ◌+◌, ◌*◌, ◌≤◌, Bool, true, false, cond, inl, inr, List, [], ◌∷◌, refl, sym, ap, subst, arith, length, count_by}
use Rattle.std.proofs.lemmas.List.Sums.{sum_by-cons}
use Rattle.ept_sample.specs.Members.{IsMember}
use Rattle.ept_sample.proofs.Ascending.{IsOrder, IsRising}
use Rattle.ept_sample.proofs.Choices.{either, is_false, not_both}

-- ---- over one list

pub count_by-cons : {X : Type 0} (test : X → Bool) (x : X) (xs : List X) → count_by test (x ∷ xs) ≡ cond (test x) 1 0 + count_by test xs
count_by-cons test x xs = sum_by-cons (λ y. cond (test y) 1 0) x xs

count_by-yes : {X : Type 0} (test : X → Bool) (x : X) (xs : List X) → test x ≡ true → count_by test (x ∷ xs) ≡ 1 + count_by test xs
count_by-yes test x xs e = count_by-cons test x xs ∙ ap (λ (b : Bool). cond b 1 0 + count_by test xs) e

count_by-no : {X : Type 0} (test : X → Bool) (x : X) (xs : List X) → test x ≡ false → count_by test (x ∷ xs) ≡ 0 + count_by test xs
count_by-no test x xs e = count_by-cons test x xs ∙ ap (λ (b : Bool). cond b 1 0 + count_by test xs) e

-- if all pass, all are counted
pub count_by-all : {X : Type 0} (test : X → Bool) (xs : List X) → ((x : X) → IsMember x xs → test x ≡ true) → count_by test xs ≡ length xs
count_by-all test [] all = refl
count_by-all test (x ∷ xs) all =
    omega (arith, count_by-yes test x xs (all x (inl refl)), count_by-all test xs (λ y m. all y (inr m)))

-- if none passes, none is counted
pub count_by-none : {X : Type 0} (test : X → Bool) (xs : List X) → ((x : X) → IsMember x xs → test x ≡ false) → count_by test xs ≡ 0
count_by-none test [] none = refl
count_by-none test (x ∷ xs) none =
    omega (arith, count_by-no test x xs (none x (inl refl)), count_by-none test xs (λ y m. none y (inr m)))

-- in a list without repetitions, a test that at most one item passes counts at most one
pub count_by-once : {X : Type 0} (before : X → X → Bool) → IsOrder before → (test : X → Bool) (xs : List X) → IsRising before xs → ((x y : X) → IsMember x xs → IsMember y xs → test x ≡ true → test y ≡ true → x ≡ y) → count_by test xs ≤ 1
count_by-once before o test [] up one = omega arith
count_by-once {X} before o test (x ∷ xs) up one =
    elim (either (test x)) [
      | inl passes ↦ omega (arith, count_by-yes test x xs passes, count_by-none test xs (λ y m. is_false (test y) (λ also. again y m (one x y (inl refl) (inr m) passes also))))
      | inr fails ↦ omega (arith, count_by-no test x xs fails, count_by-once before o test xs up.1 (λ y z m n. one y z (inr m) (inr n)))
    ]
  where
    again : (y : X) → IsMember y xs → x ≡ y → ⊥
    again y m same =
        not_both (before x x) (subst (λ (z : X). before x z ≡ true) (sym same) (up.0 y m)) (o.none_itself x)

-- ---- over two lists

-- how many pairs of an item of the first list and one of the second meet
abbrev pub meetings : {X Y : Type 0} → (X → Y → Bool) → List X → List Y → ℕ
meetings meets [] ys = 0
meetings meets (x ∷ xs) ys = count_by (meets x) ys + meetings meets xs ys

meetings-nil : {X Y : Type 0} (meets : X → Y → Bool) (xs : List X) → meetings meets xs [] ≡ 0
meetings-nil meets [] = refl
meetings-nil meets (x ∷ xs) = omega (arith, meetings-nil meets xs)

-- by the items of the second list
meetings-cons : {X Y : Type 0} (meets : X → Y → Bool) (xs : List X) (y : Y) (ys : List Y) → meetings meets xs (y ∷ ys) ≡ count_by (λ x. meets x y) xs + meetings meets xs ys
meetings-cons meets [] y ys = refl
meetings-cons meets (x ∷ xs) y ys =
    omega (arith, count_by-cons (meets x) y ys, count_by-cons (λ w. meets w y) x xs, meetings-cons meets xs y ys)

-- each item of the second meets at most one
pub meetings-le : {X Y : Type 0} (meets : X → Y → Bool) (xs : List X) (ys : List Y) → ((y : Y) → count_by (λ x. meets x y) xs ≤ 1) → meetings meets xs ys ≤ length ys
meetings-le meets xs [] once = omega (arith, meetings-nil meets xs)
meetings-le meets xs (y ∷ ys) once = omega (arith, meetings-cons meets xs y ys, once y, meetings-le meets xs ys once)

-- each item of the first meets at least n
pub le-meetings : {X Y : Type 0} (meets : X → Y → Bool) (n : ℕ) (xs : List X) (ys : List Y) → ((x : X) → IsMember x xs → n ≤ count_by (meets x) ys) → length xs * n ≤ meetings meets xs ys
le-meetings meets n [] ys many = omega arith
le-meetings meets n (x ∷ xs) ys many =
    omega (arith, many x (inl refl), le-meetings meets n xs ys (λ z m. many z (inr m)))
