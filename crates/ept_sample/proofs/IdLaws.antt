-- Points in id order.
use Rattle.std.proofs.Common.{◌≡◌, ◌∙◌, ◌↔◌, ℕ, zero, suc, ◌+◌, ◌≤◌, ◌<◌, Bool, true, false, cond, ◌&&◌, ◌||◌, ◌==◌, nat_lt, ◌⊎◌, inl, inr, List, [], ◌∷◌, ◌++◌, refl, sym, ap, subst, arith, eq-eqb, filter, count_by, length, get_or}
use Rattle.std.specs.Ordering.{is_lt, ordering_then, nat_cmp}
use Rattle.std.proofs.lemmas.Bool.Decides.{nat_tests}
use Rattle.std.proofs.lemmas.List.Sums.{sum_by-cons, sum_by-append}
use Rattle.std.proofs.lemmas.List.Sorted.{IsPermutation-refl, IsPermutation-cons, IsPermutation-trans, IsPermutation-middle, IsPermutation-sym, sum_by-IsPermutation, Contains-permutation}
use Rattle.std.specs.List.{IsAllAdjacentAnswer}
use Rattle.std.proofs.lemmas.Bool.{false≢true}
use Rattle.std.specs.List.Sorted.{IsPermutation}
use Rattle.ept_point.specs.declared.point.Point.{Point}
use Rattle.ept_point.specs.declared.id.PointId.{PointId}
use Rattle.ept_point.specs.Order.{IsAscending, IsBefore, id}
use Rattle.ept_sample.specs.Ids.{same_id, comes_before, HasDistinctIds, placed_by_id, in_id_order}
use Rattle.ept_sample.specs.Members.{IsMember}
use Rattle.ept_sample.proofs.Members.{IsMember-contains, contains-IsMember}
use Rattle.ept_sample.proofs.Ascending.{IsOrder, IsBeforeAll, IsRising, same_rising}
use Rattle.ept_sample.proofs.Choices.{either, is_false, not_both, and_left, and_right, and_both}

-- ---- the order of ids

before : ℕ → ℕ → ℕ → ℕ → Bool
before a b x y = nat_lt a x || ((a == x) && nat_lt b y)

before-self : (a b : ℕ) → before a b a b ≡ false
unfolding before
before-self a b = grind (arith, nat_tests)

before-trans : (a b k l x y : ℕ) → before a b k l ≡ true → before k l x y ≡ true → before a b x y ≡ true
unfolding before
before-trans a b k l x y e f = grind (arith, nat_tests)

before-total : (a b x y : ℕ) → before a b x y ≡ false → ((a == x) && (b == y)) ≡ false → before x y a b ≡ true
unfolding before
before-total a b x y e f = grind (arith, nat_tests)

before-fact : (a b x y : ℕ) → before a b x y ≡ true → (a < x) ⊎ ((a ≡ x) × (b < y))
unfolding before
before-fact a b x y e = elim (either (nat_lt a x)) [ inl less ↦ inl (grind (arith, nat_tests)) | inr more ↦ inr (grind (arith, nat_tests), grind (arith, nat_tests)) ]

pub id_order : IsOrder comes_before
unfolding before
id_order = record {
  none_itself = λ p. before-self p.origin p.number;
  goes_on = λ p q r e f. before-trans p.origin p.number q.origin q.number r.origin r.number e f;
}

-- if two points have different ids, one comes before the other
pub comes_before-total : (p q : Point) → comes_before p q ≡ false → same_id p q ≡ false → comes_before q p ≡ true
unfolding before
comes_before-total p q e f = before-total p.origin p.number q.origin q.number e f

-- what `ept_point` says of two points in order
pub IsBefore-comes_before : (p q : Point) → comes_before p q ≡ true → IsBefore (id p) (id q)
unfolding before
IsBefore-comes_before p q e = before-fact p.origin p.number q.origin q.number e

pub same_id-self : (p : Point) → same_id p p ≡ true
same_id-self p = and_both _ _ (eq-eqb p.origin p.origin refl) (eq-eqb p.number p.number refl)

-- points with one id, as `ept_point` says it
pub same_id-id : (p q : Point) → same_id p q ≡ true → id p ≡ id q
same_id-id p q e = λ i. record { origin = same p.origin q.origin (and_left (p.origin == q.origin) (p.number == q.number) e) i; number = same p.number q.number (and_right (p.origin == q.origin) (p.number == q.number) e) i }
  where
    same : (a b : ℕ) → (a == b) ≡ true → a ≡ b
    same a b e = grind (arith, nat_tests)

pub id-same_id : (p q : Point) → id p ≡ id q → same_id p q ≡ true
id-same_id p q e =
    and_both _ _ (eq-eqb p.origin q.origin (ap (λ (i : PointId). i.origin) e)) (eq-eqb p.number q.number (ap (λ (i : PointId). i.number) e))

pub same_id-sym : (p q : Point) → same_id p q ≡ true → same_id q p ≡ true
same_id-sym p q e = ids (p.origin) p.number q.origin q.number e
  where
    ids : (a b x y : ℕ) → ((a == x) && (b == y)) ≡ true → ((x == a) && (y == b)) ≡ true
    ids a b x y e = grind (arith, nat_tests)

pub same_id-trans : (p q r : Point) → same_id p q ≡ true → same_id q r ≡ true → same_id p r ≡ true
same_id-trans p q r e f = ids p.origin p.number q.origin q.number r.origin r.number e f
  where
    ids : (a b k l x y : ℕ) → ((a == k) && (b == l)) ≡ true → ((k == x) && (l == y)) ≡ true → ((a == x) && (b == y)) ≡ true
    ids a b k l x y e f = grind (arith, nat_tests)

-- ---- counts

count-yes : (test : Point → Bool) (q : Point) (ps : List Point) → test q ≡ true → count_by test (q ∷ ps) ≡ 1 + count_by test ps
count-yes test q ps e = sum_by-cons (λ x. cond (test x) 1 0) q ps ∙ ap (λ (b : Bool). cond b 1 0 + count_by test ps) e

pub count_by-cons : (test : Point → Bool) (q : Point) (ps : List Point) → count_by test (q ∷ ps) ≡ cond (test q) 1 0 + count_by test ps
count_by-cons test q ps = sum_by-cons (λ x. cond (test x) 1 0) q ps

pub count_by-append : (test : Point → Bool) (ps qs : List Point) → count_by test (ps ++ qs) ≡ count_by test ps + count_by test qs
count_by-append test ps qs = sum_by-append (λ x. cond (test x) 1 0) ps qs

-- an item that passes is counted
pub count_by-member : (test : Point → Bool) (q : Point) (ps : List Point) → IsMember q ps → test q ≡ true → 1 ≤ count_by test ps
count_by-member test q [] m e = absurd m
count_by-member test q (p ∷ ps) (inl is) e = omega (arith, count-yes test p ps (ap test is ∙ e))
count_by-member test q (p ∷ ps) (inr m) e = omega (arith, count_by-cons test p ps, count_by-member test q ps m e)

-- the count is the same in any order
pub count_by-IsPermutation : (test : Point → Bool) (ps qs : List Point) → IsPermutation ps qs → count_by test qs ≡ count_by test ps
count_by-IsPermutation test ps qs h = sum_by-IsPermutation (λ x. cond (test x) 1 0) ps qs h

-- ---- distinct ids

pub HasDistinctIds-tail : (p : Point) (ps : List Point) → HasDistinctIds (p ∷ ps) → HasDistinctIds ps
unfolding HasDistinctIds
HasDistinctIds-tail p ps once q = omega (arith, once q, count_by-cons (same_id q) p ps)

-- no later point has the head's id
pub HasDistinctIds-head : (p : Point) (ps : List Point) → HasDistinctIds (p ∷ ps) → (q : Point) → IsMember q ps → same_id p q ≡ false
unfolding HasDistinctIds
HasDistinctIds-head p ps once q m =
    elim (either (same_id p q)) [
      | inl same ↦ absurd (omega (arith, once p, count-yes (same_id p) p ps (same_id-self p), count_by-member (same_id p) q ps m same))
      | inr apart ↦ apart
    ]

pub HasDistinctIds-IsPermutation : (ps qs : List Point) → IsPermutation ps qs → HasDistinctIds ps → HasDistinctIds qs
unfolding HasDistinctIds
HasDistinctIds-IsPermutation ps qs h once p = omega (arith, once p, count_by-IsPermutation (same_id p) ps qs h)

count_filter_step : (test keep : Point → Bool) (p : Point) (ps : List Point) (b : Bool) → count_by test (filter keep ps) ≤ count_by test ps → count_by test (cond b (p ∷ filter keep ps) (filter keep ps)) ≤ count_by test (p ∷ ps)
count_filter_step test keep p ps true h = omega (arith, h, count_by-cons test p ps, count_by-cons test p (filter keep ps))
count_filter_step test keep p ps false h = omega (arith, h, count_by-cons test p ps)

pub count_by-filter-le : (test keep : Point → Bool) (ps : List Point) → count_by test (filter keep ps) ≤ count_by test ps
count_by-filter-le test keep [] = omega arith
count_by-filter-le test keep (p ∷ ps) = count_filter_step test keep p ps (keep p) (count_by-filter-le test keep ps)

pub HasDistinctIds-filter : (keep : Point → Bool) (ps : List Point) → HasDistinctIds ps → HasDistinctIds (filter keep ps)
unfolding HasDistinctIds
HasDistinctIds-filter keep ps once p = omega (arith, once p, count_by-filter-le (same_id p) keep ps)

-- two points of a list with distinct ids that have the same id are the same
pub same_member : (ps : List Point) → HasDistinctIds ps → (p q : Point) → IsMember p ps → IsMember q ps → same_id p q ≡ true → p ≡ q
same_member [] once p q m n e = absurd m
same_member (r ∷ ps) once p q (inl a) (inl b) e = sym a ∙ b
same_member (r ∷ ps) once p q (inl a) (inr n) e =
    absurd (not_both (same_id r q) (ap (λ (w : Point). same_id w q) a ∙ e) (HasDistinctIds-head r ps once q n))
same_member (r ∷ ps) once p q (inr m) (inl b) e =
    absurd (not_both (same_id r p) (ap (λ (w : Point). same_id w p) b ∙ same_id-sym p q e) (HasDistinctIds-head r ps once p m))
same_member (r ∷ ps) once p q (inr m) (inr n) e = same_member ps (HasDistinctIds-tail r ps once) p q m n e

-- ---- points put in id order

place_step : (p q : Point) (ps : List Point) (b : Bool) → IsPermutation (p ∷ ps) (placed_by_id p ps) → IsPermutation (p ∷ q ∷ ps) (cond b (p ∷ q ∷ ps) (q ∷ placed_by_id p ps))
place_step p q ps true h = IsPermutation-refl (p ∷ q ∷ ps)
place_step p q ps false h =
    IsPermutation-trans (p ∷ q ∷ ps) (q ∷ p ∷ ps) (q ∷ placed_by_id p ps) (IsPermutation-sym (q ∷ p ∷ ps) (p ∷ q ∷ ps) (IsPermutation-middle (q ∷ []) p ps)) (IsPermutation-cons q (p ∷ ps) (placed_by_id p ps) h)

pub IsPermutation-placed : (p : Point) (ps : List Point) → IsPermutation (p ∷ ps) (placed_by_id p ps)
IsPermutation-placed p [] = IsPermutation-refl (p ∷ [])
IsPermutation-placed p (q ∷ ps) = place_step p q ps (comes_before p q) (IsPermutation-placed p ps)

-- the points in id order are the points
pub IsPermutation-in_id_order : (ps : List Point) → IsPermutation ps (in_id_order ps)
unfolding in_id_order
IsPermutation-in_id_order [] = IsPermutation-refl []
IsPermutation-in_id_order (p ∷ ps) =
    IsPermutation-trans (p ∷ ps) (p ∷ in_id_order ps) (placed_by_id p (in_id_order ps)) (IsPermutation-cons p ps (in_id_order ps) (IsPermutation-in_id_order ps)) (IsPermutation-placed p (in_id_order ps))

-- ---- members in any order

pub IsMember-IsPermutation : {X : Type 0} (x : X) (xs ys : List X) → IsPermutation xs ys → IsMember x xs → IsMember x ys
IsMember-IsPermutation x xs ys h m = IsMember-contains x ys (Contains-permutation xs ys x h (contains-IsMember x xs m))

pub IsMember-in_id_order : (p : Point) (ps : List Point) → IsMember p ps → IsMember p (in_id_order ps)
IsMember-in_id_order p ps m = IsMember-IsPermutation p ps (in_id_order ps) (IsPermutation-in_id_order ps) m

pub in_id_order-IsMember : (p : Point) (ps : List Point) → IsMember p (in_id_order ps) → IsMember p ps
in_id_order-IsMember p ps m =
    IsMember-IsPermutation p (in_id_order ps) ps (IsPermutation-sym ps (in_id_order ps) (IsPermutation-in_id_order ps)) m

-- ---- in id order points with distinct ids rise

before_placed : (p q : Point) (ps : List Point) → comes_before p q ≡ true → IsRising comes_before (q ∷ ps) → IsBeforeAll comes_before p (q ∷ ps)
before_placed p q ps e up r (inl is) = subst (λ (w : Point). comes_before p w ≡ true) is e
before_placed p q ps e up r (inr m) = id_order.goes_on p q r e (up.0 r m)

rise_step : (p q : Point) (ps : List Point) (b : Bool) → comes_before p q ≡ b → same_id p q ≡ false → IsRising comes_before (q ∷ ps) → IsRising comes_before (placed_by_id p ps) → IsRising comes_before (cond b (p ∷ q ∷ ps) (q ∷ placed_by_id p ps))
rise_step p q ps true e apart up more = (before_placed p q ps e up, up)
rise_step p q ps false e apart up more = (behind_placed, more)
  where
    behind_placed : IsBeforeAll comes_before q (placed_by_id p ps)
    behind_placed r m =
        elim (IsMember-IsPermutation r (placed_by_id p ps) (p ∷ ps) (IsPermutation-sym (p ∷ ps) (placed_by_id p ps) (IsPermutation-placed p ps)) m) [
          | inl is ↦ subst (λ (w : Point). comes_before q w ≡ true) is (comes_before-total p q e apart)
          | inr n ↦ up.0 r n
        ]

IsRising-placed : (p : Point) (ps : List Point) → ((q : Point) → IsMember q ps → same_id p q ≡ false) → IsRising comes_before ps → IsRising comes_before (placed_by_id p ps)
IsRising-placed p [] apart up = (λ q m. absurd m, tt)
IsRising-placed p (q ∷ ps) apart up =
    rise_step p q ps (comes_before p q) refl (apart q (inl refl)) up (IsRising-placed p ps (λ r m. apart r (inr m)) up.1)

pub IsRising-in_id_order : (ps : List Point) → HasDistinctIds ps → IsRising comes_before (in_id_order ps)
unfolding in_id_order
IsRising-in_id_order [] once = tt
IsRising-in_id_order (p ∷ ps) once =
    IsRising-placed p (in_id_order ps) (λ q m. HasDistinctIds-head p ps once q (in_id_order-IsMember q ps m)) (IsRising-in_id_order ps (HasDistinctIds-tail p ps once))

-- two lists of the same points, with distinct ids, are the same in id order
pub in_id_order-members : (ps qs : List Point) → HasDistinctIds ps → HasDistinctIds qs → ((p : Point) → IsMember p ps → IsMember p qs) → ((p : Point) → IsMember p qs → IsMember p ps) → in_id_order ps ≡ in_id_order qs
in_id_order-members ps qs once once' there back =
    same_rising comes_before id_order (in_id_order ps) (in_id_order qs) (IsRising-in_id_order ps once) (IsRising-in_id_order qs once') (λ p m. IsMember-in_id_order p qs (there p (in_id_order-IsMember p ps m))) (λ p m. IsMember-in_id_order p ps (back p (in_id_order-IsMember p qs m)))

pub in_id_order-IsPermutation : (ps qs : List Point) → HasDistinctIds ps → IsPermutation ps qs → in_id_order ps ≡ in_id_order qs
in_id_order-IsPermutation ps qs once h =
    in_id_order-members ps qs once (HasDistinctIds-IsPermutation ps qs h once) (λ p m. IsMember-IsPermutation p ps qs h m) (λ p m. IsMember-IsPermutation p qs ps (IsPermutation-sym ps qs h) m)

-- and each is a permutation of the other
pub IsPermutation-members : (ps qs : List Point) → HasDistinctIds ps → HasDistinctIds qs → ((p : Point) → IsMember p ps → IsMember p qs) → ((p : Point) → IsMember p qs → IsMember p ps) → IsPermutation ps qs
IsPermutation-members ps qs once once' there back =
    IsPermutation-trans ps (in_id_order ps) qs (IsPermutation-in_id_order ps) (subst (λ (w : List Point). IsPermutation w qs) (sym (in_id_order-members ps qs once once' there back)) (IsPermutation-sym qs (in_id_order qs) (IsPermutation-in_id_order qs)))

-- ---- rising points have distinct ids, and are in id order

count_by-none : (test : Point → Bool) (ps : List Point) → ((q : Point) → IsMember q ps → test q ≡ false) → count_by test ps ≡ 0
count_by-none test [] none = refl
count_by-none test (p ∷ ps) none =
    count_by-cons test p ps ∙ (ap (λ (b : Bool). cond b 1 0 + count_by test ps) (none p (inl refl)) ∙ omega (arith, count_by-none test ps (λ q m. none q (inr m))))

before_apart : (p q : Point) → comes_before p q ≡ true → same_id p q ≡ false
before_apart p q e = numbers p.origin p.number q.origin q.number e
  where
    numbers : (a b x y : ℕ) → (nat_lt a x || ((a == x) && nat_lt b y)) ≡ true → ((a == x) && (b == y)) ≡ false
    numbers a b x y e = grind (arith, nat_tests)

pub HasDistinctIds-IsRising : (ps : List Point) → IsRising comes_before ps → HasDistinctIds ps
unfolding HasDistinctIds
HasDistinctIds-IsRising [] up p = omega arith
HasDistinctIds-IsRising (q ∷ ps) up p =
    elim (either (same_id p q)) [
      | inl same ↦ omega (arith, count_by-cons (same_id p) q ps, count_by-none (same_id p) ps (λ r m. apart r m same), one (same_id p q))
      | inr other ↦ omega (arith, HasDistinctIds-IsRising ps up.1 p, count_by-cons (same_id p) q ps ∙ ap (λ (b : Bool). cond b 1 0 + count_by (same_id p) ps) other)
    ]
  where
    one : (b : Bool) → cond b 1 0 ≤ 1
    one true = omega arith
    one false = omega arith

    apart : (r : Point) → IsMember r ps → same_id p q ≡ true → same_id p r ≡ false
    apart r m same =
        elim (either (same_id p r)) [
          | inl also ↦ absurd (not_both (same_id q r) (same_id-trans q p r (same_id-sym p q same) also) (before_apart q r (up.0 r m)))
          | inr fine ↦ fine
        ]

pub in_id_order-IsRising : (ps : List Point) → IsRising comes_before ps → in_id_order ps ≡ ps
in_id_order-IsRising ps up =
    same_rising comes_before id_order (in_id_order ps) ps (IsRising-in_id_order ps (HasDistinctIds-IsRising ps up)) up (λ p m. in_id_order-IsMember p ps m) (λ p m. IsMember-in_id_order p ps m)

-- rising points are ascending ones
pub IsAscending-IsRising : (ps : List Point) → IsRising comes_before ps → IsAscending ps
IsAscending-IsRising [] up = tt
IsAscending-IsRising (p ∷ []) up = (tt, tt)
IsAscending-IsRising (p ∷ q ∷ ps) up = (IsBefore-comes_before p q (up.0 q (inl refl)), IsAscending-IsRising (q ∷ ps) up.1)

-- ---- sorted points

-- no point has a lesser id than the one before it
abbrev pub IsSortedById : List Point → Type 0
IsSortedById ps = (k : ℕ) (d : Point) → 0 ≤ k → k + 1 < length ps → is_lt (ordering_then (nat_cmp (get_or ps (k + 1) d).origin (get_or ps k d).origin) (nat_cmp (get_or ps (k + 1) d).number (get_or ps k d).number)) ≡ false

not_less : Point → Point → Type 0
not_less q p = is_lt (ordering_then (nat_cmp q.origin p.origin) (nat_cmp q.number p.number)) ≡ false

sorted_pair : (p q : Point) → not_less q p → same_id p q ≡ false → comes_before p q ≡ true
unfolding not_less
sorted_pair p q e apart = numbers p.origin p.number q.origin q.number e apart
  where
    numbers : (a b x y : ℕ) → is_lt (ordering_then (nat_cmp x a) (nat_cmp y b)) ≡ false → ((a == x) && (b == y)) ≡ false → (nat_lt a x || ((a == x) && nat_lt b y)) ≡ true
    numbers a b x y e apart = grind (arith, nat_tests)

adjacent_rise : (ps : List Point) → HasDistinctIds ps → ((k : ℕ) (d : Point) → suc k < length ps → not_less (get_or ps (suc k) d) (get_or ps k d)) → IsRising comes_before ps
adjacent_rise [] once up = tt
adjacent_rise (p ∷ []) once up = (λ q m. absurd m, tt)
adjacent_rise (p ∷ q ∷ ps) once up =
    let more : IsRising comes_before (q ∷ ps) = adjacent_rise (q ∷ ps) (HasDistinctIds-tail p (q ∷ ps) once) (λ k d h. up (suc k) d (omega arith)) in
    (before_placed p q ps (sorted_pair p q (up 0 p (omega arith)) (HasDistinctIds-head p (q ∷ ps) once q (inl refl))) more, more)

-- points with distinct ids that are sorted are the points in id order
pub sorted-in_id_order : (ps qs : List Point) → HasDistinctIds ps → IsPermutation ps qs → IsSortedById qs → qs ≡ in_id_order ps
unfolding not_less
sorted-in_id_order ps qs once h up =
    sym (in_id_order-IsRising qs (adjacent_rise qs (HasDistinctIds-IsPermutation ps qs h once) (λ k d small. at k d small)))
    ∙ sym (in_id_order-IsPermutation ps qs once h)
  where
    at : (k : ℕ) (d : Point) → suc k < length qs → not_less (get_or qs (suc k) d) (get_or qs k d)
    at k d small =
        subst (λ (n : ℕ). not_less (get_or qs n d) (get_or qs k d)) (let e : k + 1 ≡ suc k = omega arith in e) (up k d (omega arith) (omega arith))

-- ---- ascending points

pub comes_before-IsBefore : (p q : Point) → IsBefore (id p) (id q) → comes_before p q ≡ true
comes_before-IsBefore p q (inl less) = numbers p.origin p.number q.origin q.number less
  where
    numbers : (a b x y : ℕ) → a < x → (nat_lt a x || ((a == x) && nat_lt b y)) ≡ true
    numbers a b x y less = grind (arith, nat_tests)
comes_before-IsBefore p q (inr both) = numbers p.origin p.number q.origin q.number both.0 both.1
  where
    numbers : (a b x y : ℕ) → a ≡ x → b < y → (nat_lt a x || ((a == x) && nat_lt b y)) ≡ true
    numbers a b x y same less = grind (arith, nat_tests)

-- ascending points rise
pub IsRising-IsAscending : (ps : List Point) → IsAscending ps → IsRising comes_before ps
IsRising-IsAscending [] up = tt
IsRising-IsAscending (p ∷ []) up = (λ q m. absurd m, tt)
IsRising-IsAscending (p ∷ q ∷ ps) up =
    let more : IsRising comes_before (q ∷ ps) = IsRising-IsAscending (q ∷ ps) up.1 in
    (before_placed p q ps (comes_before-IsBefore p q up.0) more, more)

-- so they have distinct ids
pub HasDistinctIds-IsAscending : (ps : List Point) → IsAscending ps → HasDistinctIds ps
HasDistinctIds-IsAscending ps up = HasDistinctIds-IsRising ps (IsRising-IsAscending ps up)

-- what the test of each two neighbours means

pub tested : (told : Bool) (p q : Point) → (told ≡ true ↔ IsBefore (id p) (id q)) → told ≡ comes_before p q
tested true p q is = sym (comes_before-IsBefore p q (is.0 refl))
tested false p q is = sym (is_false (comes_before p q) (λ e. false≢true (is.1 (IsBefore-comes_before p q e))))

rise : (ps : List Point) → ((k : ℕ) (d : Point) → suc k < length ps → true ≡ comes_before (get_or ps k d) (get_or ps (suc k) d)) → IsAscending ps
rise [] up = tt
rise (p ∷ []) up = (tt, tt)
rise (p ∷ q ∷ ps) up =
    (IsBefore-comes_before p q (sym (up 0 p (omega arith))), rise (q ∷ ps) (λ k d low. up (suc k) d (omega arith)))

fall : (ps : List Point) (k : ℕ) → suc k < length ps → ((d : Point) → false ≡ comes_before (get_or ps k d) (get_or ps (suc k) d)) → IsAscending ps → ⊥
fall [] k low down up = omega (arith, low)
fall (p ∷ []) k low down up = omega (arith, low)
fall (p ∷ q ∷ ps) zero low down up = false≢true (down p ∙ comes_before-IsBefore p q up.0)
fall (p ∷ q ∷ ps) (suc k) low down up = fall (q ∷ ps) k (omega (arith, low)) down up.1

pub ascending-told : (ps : List Point) (told : Bool) → IsAllAdjacentAnswer (λ p q b. b ≡ comes_before p q) ps told → told ≡ true ↔ IsAscending ps
ascending-told ps true all =
    (λ e. rise ps (λ k d low. subst (λ (n : ℕ). true ≡ comes_before (get_or ps k d) (get_or ps n d)) (let e : k + 1 ≡ suc k = omega arith in e) (all k d (omega (arith, low)))), λ up. refl)
ascending-told ps false (k, low, down) =
    (λ e. absurd (false≢true e), λ up. absurd (fall ps k (omega (arith, low)) (λ d. subst (λ (n : ℕ). false ≡ comes_before (get_or ps k d) (get_or ps n d)) (let e : k + 1 ≡ suc k = omega arith in e) (down d)) up))
