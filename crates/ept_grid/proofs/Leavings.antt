-- The points that leave, by octant.
use Rattle.std.proofs.Common.{◌≡◌, ◌≢◌, ◌∙◌, ℕ, zero, suc, ◌+◌, ◌<◌, Bool, List, [], ◌∷◌, ◌++◌, length, count_by, refl, ap, arith}
use Rattle.ept_point.specs.declared.point.Point.{Point}
use Rattle.ept_sample.proofs.IdLaws.{count_by-append}
use Rattle.ept_grid.specs.Outgoing.{Leaving, leaving_at, points_at, all_points}

-- the same points at each octant are the same points
pub all-same : (old new : List Leaving) → length new ≡ length old → ((o : ℕ) → points_at new o ≡ points_at old o) → all_points new ≡ all_points old
all-same [] [] len each = refl
all-same [] (m ∷ new) len each = absurd (omega arith)
all-same (l ∷ old) [] len each = absurd (omega arith)
all-same (l ∷ old) (m ∷ new) len each =
    ap (λ (w : List Point). w ++ all_points new) (each 0) ∙ ap (λ (w : List Point). l.points ++ w) (all-same old new (omega arith) (λ o. each (suc o)))

-- if no points leave at any octant, none leave at all
pub all-none : (out : List Leaving) → ((o : ℕ) → o < length out → points_at out o ≡ []) → all_points out ≡ []
all-none [] each = refl
all-none (l ∷ out) each =
    ap (λ (w : List Point). w ++ all_points out) (each 0 (omega arith)) ∙ all-none out (λ o h. each (suc o) (omega arith))

pub none-beyond : (out : List Leaving) → ((o : ℕ) → o < length out → points_at out o ≡ []) → (o : ℕ) → points_at out o ≡ []
none-beyond [] each o = refl
none-beyond (l ∷ out) each zero = each 0 (omega arith)
none-beyond (l ∷ out) each (suc o) = none-beyond out (λ k h. each (suc k) (omega arith)) o

-- one more point for an octant is one more point
pub count-added : (test : Point → Bool) (old new : List Leaving) (k : ℕ) (p : Point) → k < length old → length new ≡ length old → points_at new k ≡ points_at old k ++ p ∷ [] → ((o : ℕ) → o ≢ k → leaving_at new o ≡ leaving_at old o) → count_by test (all_points new) ≡ count_by test (all_points old) + count_by test (p ∷ [])
count-added test [] new k p h len added others = absurd (omega arith)
count-added test (l ∷ old) [] k p h len added others = absurd (omega arith)
count-added test (l ∷ old) (m ∷ new) zero p h len added others =
    let rest : all_points new ≡ all_points old = all-same old new (omega arith) (λ o. ap (λ (w : Leaving). w.points) (others (suc o) (omega arith))) in
    let first : count_by test m.points ≡ count_by test l.points + count_by test (p ∷ []) = ap (λ (w : List Point). count_by test w) added ∙ count_by-append test l.points (p ∷ []) in
    omega (arith, first, count_by-append test m.points (all_points new), count_by-append test l.points (all_points old), ap (λ (w : List Point). count_by test w) rest)
count-added test (l ∷ old) (m ∷ new) (suc k) p h len added others =
    let first : m.points ≡ l.points = ap (λ (w : Leaving). w.points) (others 0 (omega arith)) in
    let rest : count_by test (all_points new) ≡ count_by test (all_points old) + count_by test (p ∷ []) = count-added test old new k p (omega arith) (omega arith) added (λ o apart. others (suc o) (omega (arith, apart))) in
    omega (arith, rest, count_by-append test m.points (all_points new), count_by-append test l.points (all_points old), ap (λ (w : List Point). count_by test w) first)
