-- Inputs and their counts, with one more pair.
use Rattle.std.proofs.Common.{◌≡◌, ℕ, ◌+◌, ◌*◌, ◌≤◌, List, [], ◌∷◌, ◌++◌, length, fold, refl, ap, arith}
use Rattle.std.specs.List.{All}
use Rattle.std.proofs.lemmas.List.Sums.{sum_by-le}
use Rattle.ept_config.specs.declared.input.Input.{Input}
use Rattle.ept_config.specs.declared.source_count.SourceCount.{SourceCount}
use Rattle.ept_ckpt.specs.Facts.{Source, source_facts, sources_of}
use Rattle.ept_ckpt.specs.Forms.{points_of_sources}
use Rattle.ept_config.specs.Counts.{most_points, total}

pub one_pair_more : (inputs : List Input) (counts : List SourceCount) (input : Input) (count : SourceCount) → length inputs ≡ length counts
    → sources_of (inputs ++ input ∷ []) (counts ++ count ∷ []) ≡ sources_of inputs counts ++ source_facts (input, count) ∷ []
unfolding sources_of
one_pair_more [] [] input count same = refl
one_pair_more [] (c ∷ counts) input count same = absurd (omega (arith, same))
one_pair_more (i ∷ inputs) [] input count same = absurd (omega (arith, same))
one_pair_more (i ∷ inputs) (c ∷ counts) input count same = ap (λ (w : List Source). source_facts (i, c) ∷ w) (one_pair_more inputs counts input count (omega (arith, same)))

-- the points of inputs with their counts are those of the counts
sum_from : (sum : ℕ) (inputs : List Input) (counts : List SourceCount) → length counts ≡ length inputs
    → fold (λ (a : ℕ) (source : Source). a + source.1.points) sum (sources_of inputs counts) ≡ fold (λ (a : ℕ) (count : SourceCount). a + count.points) sum counts
unfolding sources_of
sum_from sum [] [] same = refl
sum_from sum [] (c ∷ counts) same = absurd (omega (arith, same))
sum_from sum (i ∷ inputs) [] same = absurd (omega (arith, same))
sum_from sum (i ∷ inputs) (c ∷ counts) same = sum_from (sum + c.points) inputs counts (omega (arith, same))

pub points_of_pairs : (inputs : List Input) (counts : List SourceCount) → length counts ≡ length inputs → points_of_sources (sources_of inputs counts) ≡ total counts
points_of_pairs inputs counts same = sum_from 0 inputs counts same

-- their number is limited
pub total_few : (counts : List SourceCount) → length counts ≤ 65535 → All (λ count. count.points ≤ most_points) counts → total counts ≤ 65535 * most_points
total_few counts few each =
    let most = sum_by-le (λ (count : SourceCount). count.points) most_points counts (λ k d inside. let small = each k d inside in omega (arith, small)) in
    omega (arith, most, few)
