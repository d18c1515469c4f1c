-- The first points of some.
use Rattle.std.proofs.Common.{◌≡◌, ◌∙◌, ℕ, ◌+◌, ◌≤◌, List, ◌++◌, length, take, drop, sym, ap, subst, arith}
use Rattle.std.specs.Prelude.{Contains}
use Rattle.std.proofs.lemmas.List.{take-append-drop, take-take, take_all, drop-drop}
use Rattle.std.proofs.lemmas.List.Elements.{All-take, Contains-append_left}
use Rattle.std.proofs.Math.Seq.{take-add}
use Rattle.ept_sample.proofs.IdLaws.{count_by-append}
use Rattle.ept_point.specs.declared.point.Point.{Point}
use Rattle.ept_space.specs.declared.cube.Rules.{Rules}
use Rattle.ept_space.specs.OctreeCube.{InCube}
use Rattle.ept_sample.specs.Place.{place}
use Rattle.ept_sample.specs.Ids.{same_id, HasDistinctIds}
use Rattle.ept_sample.specs.SamplingLaws.{CanBeSampled}

-- the first `n`, and the next `k`
pub front-then : (n k : ℕ) (points : List Point) → take n points ++ take k (drop n points) ≡ take (n + k) points
front-then n k points = sym (take-add n k points)

pub rest-then : (n k : ℕ) (points : List Point) → drop k (drop n points) ≡ drop (n + k) points
rest-then n k points = drop-drop k n points

-- some of them are among more
pub front-among : (n m : ℕ) (points : List Point) → n ≤ m → (p : Point) → Contains (take n points) p → Contains (take m points) p
front-among n m points more p among =
    let joined : take n points ++ drop n (take m points) ≡ take m points =
    ap (λ (w : List Point). w ++ drop n (take m points)) (sym (take-take n m points more)) ∙ take-append-drop n (take m points) in
    subst (λ (w : List Point). Contains w p) joined (Contains-append_left (take n points) (drop n (take m points)) p among)

front_distinct : (xs ys : List Point) → HasDistinctIds (xs ++ ys) → HasDistinctIds xs
unfolding HasDistinctIds
front_distinct xs ys distinct p = omega (arith, count_by-append (same_id p) xs ys, distinct p)

-- they can be sampled too
pub can-front : (rules : Rules) (n : ℕ) (points : List Point) → CanBeSampled rules points → CanBeSampled rules (take n points)
can-front rules n points can = record {
  cube = can.cube;
  inside = All-take (λ p. InCube rules.cube (place p)) n points can.inside;
  distinct = front_distinct (take n points) (drop n points) (subst HasDistinctIds (sym (take-append-drop n points)) can.distinct);
}

pub all-front : (points : List Point) (n : ℕ) → length points ≡ n → take n points ≡ points
all-front points n is = take_all n points (omega (arith, is))
