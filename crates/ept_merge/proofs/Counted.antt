-- How many points the parts have together.
use Rattle.std.proofs.Common.{◌≡◌, ◌∙◌, ℕ, ◌+◌, ◌<◌, ◌≤◌, List, [], ◌∷◌, ◌++◌, length, get_or, take, drop, ap, arith}
use Rattle.std.specs.Prelude.{sum_by}
use Rattle.std.proofs.lemmas.List.{take-append-drop, map-append}
use Rattle.std.proofs.lemmas.List.Sums.{sum_by-cons, sum_by-append}
use Rattle.ept_ckpt.specs.declared.checkpoint.Checkpoint.{Checkpoint}
use Rattle.ept_merge.specs.declared.bodies.PartBody.{PartBody}
use Rattle.ept_merge.specs.Joining.{bodies_in}
use Rattle.ept_merge.proofs.Loads.{take-more}

abbrev pub points_of : List PartBody → ℕ
points_of parts = sum_by (λ (c : Checkpoint). c.inserted) (bodies_in parts)

points-append : (xs ys : List PartBody) → points_of (xs ++ ys) ≡ points_of xs + points_of ys
points-append xs ys =
    ap (λ (w : List Checkpoint). sum_by (λ (c : Checkpoint). c.inserted) w) (map-append (λ (p : PartBody). p.body) xs ys)
    ∙ sum_by-append (λ (c : Checkpoint). c.inserted) (bodies_in xs) (bodies_in ys)

points-one : (part : PartBody) → points_of (part ∷ []) ≡ part.body.inserted
points-one part = omega (arith, sum_by-cons (λ (c : Checkpoint). c.inserted) part.body [])

-- with one part more
pub points-more : (parts : List PartBody) (i : ℕ) (part : PartBody) → i < length parts → part ≡ get_or parts i part → points_of (take (i + 1) parts) ≡ points_of (take i parts) + part.body.inserted
points-more parts i part low is =
    omega (arith, ap points_of (take-more parts i part low is), points-append (take i parts) (part ∷ []), points-one part)

-- the first parts have no more than all
pub points-front : (parts : List PartBody) (i : ℕ) → points_of (take i parts) ≤ points_of parts
points-front parts i = omega (arith, ap points_of (take-append-drop i parts), points-append (take i parts) (drop i parts))
