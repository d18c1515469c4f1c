-- What holds of each walk.
use Rattle.std.proofs.Common.{◌≡◌, ◌∙◌, ◌↔◌, ℕ, ◌+◌, ◌≤◌, ◌<◌, Bool, true, false, inl, inr, List, [], ◌∷◌, ◌++◌, refl, sym, ap, subst, arith, length, get_or, count_by}
use Rattle.std.specs.Ordering.{nat_cmp, is_lt}
use Rattle.std.specs.Cmp.{IsStrictWeakOrder}
use Rattle.std.specs.Cmp.Lexicographic.{slice_cmp}
use Rattle.std.specs.List.{All, sum_by}
use Rattle.std.specs.List.Sorted.{IsPermutation}
use Rattle.std.proofs.lemmas.Bool.{cases_lt}
use Rattle.std.proofs.lemmas.Cmp.{nat_list_cmp_total}
use Rattle.std.proofs.lemmas.List.MinMax.{ranks_by}
use Rattle.std.proofs.lemmas.List.Sorted.{sorted_far, sum_by-IsPermutation}
use Rattle.std.proofs.lemmas.List.Sums.{sum_by-cons}
use Rattle.ept_point.specs.declared.point.Point.{Point}
use Rattle.ept_space.specs.VoxelKey.{VoxelKey, child, is_within, is_below}
use Rattle.ept_sample.specs.declared.tiles.Tile.{Tile}
use Rattle.ept_sample.specs.Ids.{same_id, HasDistinctIds}
use Rattle.ept_sample.proofs.IdLaws.{count_by-append}
use Rattle.ept_sample.proofs.Choices.{not_both}
use Rattle.ept_fit.specs.Fit.{points_in}
use Rattle.ept_fit.specs.Walk.{path, InPreorder, IsWalk}
use Rattle.ept_fit.specs.WalkLaws.{HasKey}
use Rattle.ept_fit.proofs.Paths.{is_less, path-within, within-path, below-less, octants-less, between}

ranks : IsStrictWeakOrder (λ (a b : Tile). is_lt (slice_cmp nat_cmp (path a.key) (path b.key)))
ranks = ranks_by nat_list_cmp_total (λ (t : Tile). path t.key)

-- no node has a lesser path than one before it
far : (walk : List Tile) (i j : ℕ) (d : Tile) → InPreorder walk → i ≤ j → j < length walk → is_less (path (get_or walk j d).key) (path (get_or walk i d).key) ≡ false
far walk i j d is near inside =
    sorted_far (λ (a b : Tile). is_lt (slice_cmp nat_cmp (path a.key) (path b.key))) ranks walk is i j d near inside

-- so the first of two nodes is the one with the lesser path
lesser_first : (walk : List Tile) (i j : ℕ) (d : Tile) → InPreorder walk → i < length walk → is_less (path (get_or walk i d).key) (path (get_or walk j d).key) ≡ true → i < j
lesser_first walk i j d is inside less =
    elim (cases_lt i j) [
      | inl first ↦ first
      | inr later ↦
          absurd (not_both (is_less (path (get_or walk i d).key) (path (get_or walk j d).key)) less (far walk j i d is later inside))
    ]

pub above-first : (walk : List Tile) (i j : ℕ) (d : Tile) → InPreorder walk → i < length walk → is_below (get_or walk i d).key (get_or walk j d).key ≡ true → i < j
above-first walk i j d is inside below =
    lesser_first walk i j d is inside (below-less (get_or walk i d).key (get_or walk j d).key below)

pub octants-ascend : (walk : List Tile) (key : VoxelKey) (a b i j : ℕ) (d : Tile) → InPreorder walk → a < b → b < 8 → i < length walk → is_within (child key a) (get_or walk i d).key ≡ true → is_within (child key b) (get_or walk j d).key ≡ true → i < j
octants-ascend walk key a b i j d is less small inside v w =
    lesser_first walk i j d is inside (octants-less key (get_or walk i d).key (get_or walk j d).key a b less small v w)

pub subtrees-together : (walk : List Tile) (i j k : ℕ) (d : Tile) → InPreorder walk → All HasKey walk → i < j → j < k → k < length walk → is_within (get_or walk i d).key (get_or walk k d).key ≡ true → is_within (get_or walk i d).key (get_or walk j d).key ≡ true
subtrees-together walk i j k d is keys first second inside w =
    let r = path-within (get_or walk i d).key (get_or walk k d).key w in
    let after : is_less (path (get_or walk j d).key) (path (get_or walk i d).key) ≡ false = far walk i j d is (omega (arith, first)) (omega (arith, second, inside)) in
    let before : is_less (path (get_or walk i d).key ++ r.0) (path (get_or walk j d).key) ≡ false = subst (λ (p : List ℕ). is_less p (path (get_or walk j d).key) ≡ false) r.1 (far walk j k d is (omega (arith, second)) inside) in
    let b = between (path (get_or walk i d).key) (path (get_or walk j d).key) r.0 after before in
    within-path (get_or walk i d).key (get_or walk j d).key b.0 (keys i d (omega (arith, first, second, inside))) (keys j d (omega (arith, second, inside))) b.1

-- ---- ids

count_each : (test : Point → Bool) (nodes : List Tile) → count_by test (points_in nodes) ≡ sum_by (λ (t : Tile). count_by test t.points) nodes
count_each test [] = refl
count_each test (node ∷ nodes) =
    count_by-append test node.points (points_in nodes)
    ∙ (ap (λ (n : ℕ). count_by test node.points + n) (count_each test nodes) ∙ sym (sum_by-cons (λ (t : Tile). count_by test t.points) node nodes))

count_alike : (test : Point → Bool) (nodes walk : List Tile) → IsPermutation nodes walk → count_by test (points_in walk) ≡ count_by test (points_in nodes)
count_alike test nodes walk each =
    count_each test walk
    ∙ (sum_by-IsPermutation (λ (t : Tile). count_by test t.points) nodes walk each ∙ sym (count_each test nodes))

pub walk-once : (nodes walk : List Tile) → IsWalk nodes walk → HasDistinctIds (points_in nodes) ↔ HasDistinctIds (points_in walk)
unfolding HasDistinctIds
walk-once nodes walk is = (
  λ once p. (let same = count_alike (same_id p) nodes walk is.each in omega (arith, same, once p)),
  λ once p. (let same = count_alike (same_id p) nodes walk is.each in omega (arith, same, once p)),
)
