-- How many points inputs may have if each has few.
use Rattle.std.proofs.Common.{◌≡◌, ◌∙◌, ◌+◌, ◌*◌, ◌^◌, ◌<◌, ◌≤◌, ℕ, zero, suc, Bool, true, false, cond, ◌==◌, List, [], ◌∷◌, length, filter, refl, ap, arith}
use Rattle.std.specs.Prelude.{nat_lt, not, ◌&&◌}
use Rattle.std.specs.List.{All}
use Rattle.std.proofs.lemmas.Bool.Decides.{nat_tests}
use Rattle.std.proofs.lemmas.List.Elements.{All-head, All-tail}
use Rattle.std.proofs.lemmas.List.Sorted.{length_permutation}
use Rattle.ept_point.specs.declared.point.Point.{Point}
use Rattle.ept_space.specs.declared.cube.Rules.{Rules}
use Rattle.ept_space.specs.VoxelKey.{VoxelKey, root, same_key, parent, octant_of}
use Rattle.ept_sample.specs.Ids.{in_id_order}
use Rattle.ept_sample.specs.Arrivals.{none_open, leaves, octant, kept, sent}
use Rattle.ept_sample.specs.Sampling.{given_at, given, sampling}
use Rattle.ept_sample.proofs.IdLaws.{IsPermutation-in_id_order}
use Rattle.ept_config.specs.declared.kept.Kept.{Kept}
use Rattle.ept_config.specs.Counts.{most_points}
use Rattle.ept_meta.specs.Output.{points_from}
use Rattle.ept_save.specs.Complete.{AreOfInputs}

-- ---- of all inputs

-- the points of the first inputs
before : ℕ → List Point → List Point
before n points = filter (λ (p : Point). nat_lt p.origin n) points

size-kept : (p : Point) (points : List Point) (b : Bool) → length (cond b (p ∷ points) points) ≡ cond b 1 0 + length points
size-kept p points true = omega arith
size-kept p points false = omega arith

one-of-three : (m n : ℕ) → cond (nat_lt m (n + 1)) 1 0 ≡ cond (nat_lt m n) 1 0 + cond (m == n) 1 0
one-of-three m n = grind (arith, nat_tests)

never-less : (m : ℕ) → nat_lt m 0 ≡ false
never-less m = grind (arith, nat_tests)

is-less : (m n : ℕ) → m < n → nat_lt m n ≡ true
is-less m n less = grind (arith, nat_tests)

before-none : (points : List Point) → before 0 points ≡ []
unfolding before
before-none [] = refl
before-none (p ∷ points) = ap (λ (b : Bool). cond b (p ∷ before 0 points) (before 0 points)) (never-less p.origin) ∙ before-none points

before-more : (n : ℕ) (points : List Point) → length (before (n + 1) points) ≡ length (before n points) + length (points_from n points)
unfolding before
before-more n [] = omega arith
before-more n (p ∷ points) =
    let others = before-more n points in
    let tests = one-of-three p.origin n in
    let more = size-kept p (before (n + 1) points) (nat_lt p.origin (n + 1)) in
    let less = size-kept p (before n points) (nat_lt p.origin n) in
    let same = size-kept p (points_from n points) (p.origin == n) in
    omega (arith, others, tests, more, less, same)

before-all : (n : ℕ) (points : List Point) → All (λ (p : Point). p.origin < n) points → before n points ≡ points
unfolding before
before-all n [] origins = refl
before-all n (p ∷ points) origins =
    ap (λ (b : Bool). cond b (p ∷ before n points) (before n points)) (is-less p.origin n (All-head (λ (q : Point). q.origin < n) p points origins))
    ∙ ap (λ (l : List Point). p ∷ l) (before-all n points (All-tail (λ (q : Point). q.origin < n) p points origins))

before-few : (points : List Point) → ((source : ℕ) → length (points_from source points) ≤ most_points) → (n : ℕ) → length (before n points) ≤ n * most_points
before-few points few zero = (let none = ap (λ (l : List Point). length l) (before-none points) in omega (arith, none))
before-few points few (suc n) =
    let moved : suc n ≡ n + 1 = omega arith in
    let first = before-few points few n in
    let all = ap (λ (i : ℕ). length (before i points)) moved ∙ before-more n points in
    let mine = few n in
    omega (arith, first, all, mine)

few-points : (points : List Point) (inputs : ℕ) → inputs ≤ 65535 → All (λ (p : Point). p.origin < inputs) points → ((source : ℕ) → length (points_from source points) ≤ most_points) → length points < 2 ^ 63
few-points points inputs most origins few =
    let all = ap (λ (l : List Point). length l) (before-all inputs points origins) in
    let some = before-few points few inputs in
    omega (arith, all, some, most)

pub few-of-inputs : (kept : Kept) (points : List Point) → AreOfInputs kept points → length points < 2 ^ 63
few-of-inputs kept points are =
    few-points points (length kept.inputs) kept.layout.inputs_most are.origins (λ source. let few = are.few source in omega (arith, few))

-- ---- of a node

pub length-filter_le : {X : Type 0} (test : X → Bool) (xs : List X) → length (filter test xs) ≤ length xs
length-filter_le test [] = omega arith
length-filter_le test (x ∷ xs) = by-test (test x) (length-filter_le test xs)
  where
    by-test : (b : Bool) → length (filter test xs) ≤ length xs → length (cond b (x ∷ filter test xs) (filter test xs)) ≤ suc (length xs)
    by-test true rest = omega (arith, rest)
    by-test false rest = omega (arith, rest)

-- a node has no more points than there are
module _ (rules : Rules) (points : List Point) where
  given-le : (depth : ℕ) (key : VoxelKey) → length (given_at rules points depth key) ≤ length points
  unfolding given_at sent
  given-le zero key = at-root (same_key key root)
    where
      at-root : (b : Bool) → length (cond b (in_id_order points) []) ≤ length points
      at-root true = (let same = length_permutation points (in_id_order points) (IsPermutation-in_id_order points) in omega (arith, same))
      at-root false = omega arith
  given-le (suc depth) key =
      let fewer = length-filter_le (λ (p : Point). leaves rules depth none_open (given_at rules points depth (parent key)) p && (octant rules depth p == octant_of key)) (given_at rules points depth (parent key)) in
      let above = given-le depth (parent key) in
      omega (arith, fewer, above)

  pub sampling-le : (key : VoxelKey) → length (sampling rules points key) ≤ length points
  unfolding sampling kept
  sampling-le key =
      let fewer = length-filter_le (λ (p : Point). not (leaves rules key.depth none_open (given rules points key) p)) (given rules points key) in
      let above = given-le key.depth key in
      omega (arith, fewer, above)
