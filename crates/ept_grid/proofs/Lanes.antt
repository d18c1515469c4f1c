-- Lists of points by octant.
use Rattle.std.proofs.Common.{◌≡◌, ◌≢◌, ◌∙◌, ℕ, zero, suc, ◌+◌, ◌-◌, ◌<◌, ◌≤◌, Bool, false, ◌⊎◌, inl, inr, List, [], ◌∷◌, ◌++◌, length, count_by, append_assoc, take, get_or, refl, ap, sym, subst, arith}
use Rattle.std.proofs.lemmas.List.{take_more, append-nil}
use Rattle.std.specs.List.Sorted.{IsPermutation}
use Rattle.std.proofs.lemmas.List.Sorted.{IsPermutation-refl, IsPermutation-sym, IsPermutation-trans, IsPermutation-middle, IsPermutation-append_right}
use Rattle.ept_point.specs.declared.point.Point.{Point}
use Rattle.ept_sample.specs.Members.{IsMember}
use Rattle.ept_sample.specs.Ids.{same_id, HasDistinctIds}
use Rattle.ept_sample.proofs.Members.{IsMember-left, IsMember-right, IsMember-append}
use Rattle.ept_sample.proofs.IdLaws.{count_by-append, HasDistinctIds-head, HasDistinctIds-tail}
use Rattle.ept_grid.specs.Outgoing.{Leaving, leaving_at, points_at, all_points}
use Rattle.ept_grid.specs.Contents.{joined}

-- ---- the points of all lists

pub member-at : (losers : List Leaving) (q : Point) → IsMember q (all_points losers) → (o : ℕ) × (o < length losers) × IsMember q (points_at losers o)
member-at [] q m = absurd m
member-at (l ∷ losers) q m =
    elim (IsMember-append q l.points (all_points losers) m) [
      | inl here ↦ (0, omega arith, here)
      | inr there ↦ let more = member-at losers q there in (suc more.0, omega (arith, more.1), more.2)
    ]

pub at-member : (losers : List Leaving) (o : ℕ) (q : Point) → IsMember q (points_at losers o) → IsMember q (all_points losers)
at-member [] o q m = absurd m
at-member (l ∷ losers) zero q m = IsMember-left q l.points (all_points losers) m
at-member (l ∷ losers) (suc o) q m = IsMember-right q l.points (all_points losers) (at-member losers o q m)

pub at-beyond : (losers : List Leaving) (o : ℕ) → length losers ≤ o → points_at losers o ≡ []
at-beyond [] o h = refl
at-beyond (l ∷ losers) zero h = absurd (omega arith)
at-beyond (l ∷ losers) (suc o) h = at-beyond losers o (omega arith)

pub in-range : (losers : List Leaving) (o : ℕ) (q : Point) → IsMember q (points_at losers o) → o < length losers
in-range [] o q m = absurd m
in-range (l ∷ losers) zero q m = omega arith
in-range (l ∷ losers) (suc o) q m = omega (arith, in-range losers o q m)

-- ---- ids

count-at : (test : Point → Bool) (losers : List Leaving) (o : ℕ) → count_by test (points_at losers o) ≤ count_by test (all_points losers)
count-at test [] o = omega arith
count-at test (l ∷ losers) zero = omega (arith, count_by-append test l.points (all_points losers))
count-at test (l ∷ losers) (suc o) = omega (arith, count_by-append test l.points (all_points losers), count-at test losers o)

pub once-at : (losers : List Leaving) (o : ℕ) → HasDistinctIds (all_points losers) → HasDistinctIds (points_at losers o)
unfolding HasDistinctIds
once-at losers o once p = omega (arith, once p, count-at (same_id p) losers o)

pub once-right : (ps qs : List Point) → HasDistinctIds (ps ++ qs) → HasDistinctIds qs
unfolding HasDistinctIds
once-right ps qs once p = omega (arith, once p, count_by-append (same_id p) ps qs)

-- points of two lists that together have distinct ids
pub ids-apart : (ps qs : List Point) → HasDistinctIds (ps ++ qs) → (p q : Point) → IsMember p ps → IsMember q qs → same_id p q ≡ false
ids-apart [] qs once p q m n = absurd m
ids-apart (r ∷ ps) qs once p q (inl is) n =
    subst (λ (w : Point). same_id w q ≡ false) is (HasDistinctIds-head r (ps ++ qs) once q (IsMember-right q ps qs n))
ids-apart (r ∷ ps) qs once p q (inr m) n = ids-apart ps qs (HasDistinctIds-tail r (ps ++ qs) once) p q m n

-- ---- one more point

pub length-joined : (losers : List Leaving) (o : ℕ) (q : Point) → length (joined losers o q) ≡ length losers
length-joined [] o q = refl
length-joined (l ∷ losers) zero q = refl
length-joined (l ∷ losers) (suc o) q = omega (arith, length-joined losers o q)

pub joined-there : (losers : List Leaving) (o : ℕ) (q : Point) → o < length losers → (points_at (joined losers o q) o ≡ points_at losers o ++ q ∷ []) × ((leaving_at (joined losers o q) o).room ≡ (leaving_at losers o).room - 1)
joined-there [] o q h = absurd (omega arith)
joined-there (l ∷ losers) zero q h = (refl, refl)
joined-there (l ∷ losers) (suc o) q h = joined-there losers o q (omega arith)

pub joined-other : (losers : List Leaving) (o k : ℕ) (q : Point) → k ≢ o → leaving_at (joined losers o q) k ≡ leaving_at losers k
joined-other [] o k q h = refl
joined-other (l ∷ losers) zero zero q h = absurd (h refl)
joined-other (l ∷ losers) zero (suc k) q h = refl
joined-other (l ∷ losers) (suc o) zero q h = refl
joined-other (l ∷ losers) (suc o) (suc k) q h = joined-other losers o k q (λ e. h (ap suc e))

pub joined-member : (losers : List Leaving) (o k : ℕ) (r q : Point) → IsMember q (points_at (joined losers o r) k) → IsMember q (points_at losers k) ⊎ ((r ≡ q) × (k ≡ o))
joined-member [] o k r q m = absurd m
joined-member (l ∷ losers) zero zero r q m =
    elim (IsMember-append q l.points (r ∷ []) m) [
      | inl old ↦ inl old
      | inr new ↦ elim new [ inl is ↦ inr (is, refl) | inr none ↦ absurd none ]
    ]
joined-member (l ∷ losers) zero (suc k) r q m = inl m
joined-member (l ∷ losers) (suc o) zero r q m = inl m
joined-member (l ∷ losers) (suc o) (suc k) r q m =
    elim (joined-member losers o k r q m) [ inl old ↦ inl old | inr new ↦ inr (new.0, ap suc new.1) ]

-- a point before two lists may be between them
pub between : {X : Type 0} (x : X) (xs ys zs : List X) → IsPermutation (x ∷ ys) zs → IsPermutation (x ∷ (xs ++ ys)) (xs ++ zs)
between x xs ys zs h =
    IsPermutation-trans (x ∷ (xs ++ ys)) (xs ++ x ∷ ys) (xs ++ zs) (IsPermutation-sym (xs ++ x ∷ ys) (x ∷ (xs ++ ys)) (IsPermutation-middle xs x ys)) (IsPermutation-append_right xs (x ∷ ys) zs h)

pub all-joined : (losers : List Leaving) (o : ℕ) (q : Point) → o < length losers → IsPermutation (q ∷ all_points losers) (all_points (joined losers o q))
all-joined [] o q h = absurd (omega arith)
all-joined (l ∷ losers) zero q h =
    subst (λ (w : List Point). IsPermutation (q ∷ (l.points ++ all_points losers)) w) (sym (append_assoc l.points (q ∷ []) (all_points losers))) (between q l.points (all_points losers) (q ∷ all_points losers) (IsPermutation-refl (q ∷ all_points losers)))
all-joined (l ∷ losers) (suc o) q h =
    between q l.points (all_points losers) (all_points (joined losers o q)) (all-joined losers o q (omega arith))

-- ---- the lists one after the other

all-append : (xs ys : List Leaving) → all_points (xs ++ ys) ≡ all_points xs ++ all_points ys
all-append [] ys = refl
all-append (x ∷ xs) ys = ap (λ (w : List Point). x.points ++ w) (all-append xs ys) ∙ sym (append_assoc x.points (all_points xs) (all_points ys))

pub all-took : (items : List Leaving) (i : ℕ) (l : Leaving) → i < length items → l ≡ get_or items i l → all_points (take (i + 1) items) ≡ all_points (take i items) ++ l.points
all-took items i l h is =
    ap (λ (w : List Leaving). all_points w) (take_more items i l h ∙ ap (λ (k : Leaving). take i items ++ k ∷ []) (sym is)) ∙ all-append (take i items) (l ∷ []) ∙ ap (λ (w : List Point). all_points (take i items) ++ w) (append-nil l.points)
