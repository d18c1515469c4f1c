-- Inputs with their counts that are written read back.
use Rattle.std.proofs.Common.{◌≡◌, ℕ, zero, suc, ◌^◌, ◌≤◌, true, List, [], ◌∷◌, ◌++◌, length, Option, Some, None, Ok, refl, arith}
use Rattle.std.specs.Prelude.{◌==◌, ◌<◌, ◌↔◌, IsSome, if◌then◌else◌}
use Rattle.std.specs.List.{All}
use Rattle.std.proofs.lemmas.Bool.{false≢true}
use Rattle.std.proofs.lemmas.Bool.Decides.{nat_tests}
use Rattle.std.proofs.lemmas.List.Elements.{All-nil, All-cons, All-head, All-tail}
use Rattle.byteorder.specs.Endian.{little_bytes}
use Rattle.ept_space.specs.declared.bounds.Bounds.{Bounds}
use Rattle.ept_config.specs.declared.input.Input.{Input}
use Rattle.ept_config.specs.declared.source_count.SourceCount.{SourceCount}
use Rattle.ept_config.specs.Counts.{IsCount}
use Rattle.ept_config.specs.Facts.{input_facts}
use Rattle.ept_config.specs.Ranges.{BoundsInRange}
use Rattle.ept_ckpt.specs.Body as body
use Rattle.ept_ckpt.specs.Body.{text_bytes, i64_bytes, bounds_bytes, flag, source_bytes}
use Rattle.ept_ckpt.specs.Facts.{source_facts, sources_of}
use Rattle.ept_ckpt.specs.Fields.{number, bytes}
use Rattle.ept_ckpt.specs.Forms.{input_form, count_form, source_form, box_within}
use Rattle.ept_ckpt.specs.Valid.{ExtentInRange}
use Rattle.ept_ckpt.proofs.WrittenNumbers.{read_then, field_read, within_read, byte_within, byte_written, bytes_written, number_written}
use Rattle.ept_ckpt.proofs.WrittenPlaces.{three_written, extent_written}
use Rattle.ept_ckpt.proofs.WrittenTexts.{path_written, optional_written, flag-most}
use Rattle.ept_ckpt.proofs.WrittenLists.{eight_then, ReadsBack}

-- ---- inputs

input_tail : Input → List ℕ → List ℕ
input_tail input rest = input.scale ∷ (i64_bytes input.shift ++ (flag input.expect ∷ (body.optional (λ bytes. bytes) input.expect ++ rest)))

input_written : (total scale : ℕ) (input : Input) (rest : List ℕ) → input.scale ≤ scale → input_form scale total (text_bytes input.path ++ input_tail input rest) ≡ Ok (input_facts input, rest)
unfolding input_form input_tail
input_written total scale input rest most =
    let is = input.in_range in
    let expect : List ℕ = body.optional (λ bytes. bytes) input.expect ++ rest in
    let there : List ℕ = flag input.expect ∷ expect in
    read_then _ (path_written total input.path (input_tail input rest) is.path_is)
    (read_then _ (byte_within total 0 scale input.scale (i64_bytes input.shift ++ there) (omega arith) most)
    (read_then _ (three_written total (10 ^ 15) input.shift there (omega arith) is.shift_within)
    (read_then _ (byte_within total 0 1 (flag input.expect) expect (omega arith) (flag-most input.expect))
    (read_then _ (optional_written total (bytes 48) (λ bytes. bytes) input.expect _ rest refl (λ xs some. bytes_written total 48 xs rest (is.expect_is xs some).width_is)) refl))))

-- ---- counts

-- an extent is there if and only if there are points
there_is : (points : ℕ) (extent : Option Bounds) → IsSome extent ↔ (0 < points) → (flag extent == (if points == 0 then 0 else 1)) ≡ true
there_is zero None there = refl
there_is zero (Some extent) there = absurd (omega (arith, there.0 refl))
there_is (suc n) None there = absurd (false≢true (there.1 (omega arith)))
there_is (suc n) (Some extent) there = grind (arith, nat_tests)

count_tail : SourceCount → List ℕ → List ℕ
count_tail count rest = flag count.extent ∷ (body.optional bounds_bytes count.extent ++ rest)

count_written : (total most : ℕ) (bounds : Bounds) (count : SourceCount) (rest : List ℕ) → BoundsInRange bounds → count.points ≤ most → IsCount bounds count → ExtentInRange count → count_form most bounds total (little_bytes 8 count.points ++ count_tail count rest) ≡ Ok (count, rest)
unfolding count_form count_tail
count_written total most bounds count rest are few is in_range =
    let extent : List ℕ = body.optional bounds_bytes count.extent ++ rest in
    read_then _ (within_read 0 most (number 8) total _ (count_tail count rest) count.points (number_written total 8 count.points (count_tail count rest) (omega (arith, is.few))) (omega arith) few)
    (read_then _ (field_read (λ (n : ℕ). n == (if count.points == 0 then 0 else 1)) (number 1) total _ extent (flag count.extent) (byte_written total (flag count.extent) extent) (there_is count.points count.extent is.there))
    (read_then _ (optional_written total (box_within bounds) bounds_bytes count.extent _ rest refl (λ box some. extent_written total bounds box rest are (is.inside box some) (in_range box some))) refl))

-- ---- both

source_reads : (total greatest scale : ℕ) (bounds : Bounds) (input : Input) (count : SourceCount) → BoundsInRange bounds → input.scale ≤ scale → count.points ≤ greatest → IsCount bounds count → ExtentInRange count → ReadsBack (source_form greatest scale bounds) source_bytes total (source_facts (input, count))
unfolding source_form source_bytes input_tail count_tail
source_reads total greatest scale bounds input count are most few is in_range rest =
    let counted : List ℕ = little_bytes 8 count.points ++ count_tail count rest in
    rw (eight_then (text_bytes input.path) (input.scale ∷ []) (i64_bytes input.shift) (flag input.expect ∷ []) (body.optional (λ bytes. bytes) input.expect) (little_bytes 8 count.points) (flag count.extent ∷ []) (body.optional bounds_bytes count.extent) rest)
    (read_then _ (input_written total scale input counted most)
    (read_then _ (count_written total greatest bounds count rest are few is in_range) refl))

-- each input, with its count, reads back
pub sources_read : (total greatest scale : ℕ) (bounds : Bounds) (inputs : List Input) (counts : List SourceCount) → BoundsInRange bounds → length counts ≡ length inputs → All (λ input. input.scale ≤ scale) inputs → All (λ count. count.points ≤ greatest) counts → All (IsCount bounds) counts → All ExtentInRange counts → All (ReadsBack (source_form greatest scale bounds) source_bytes total) (sources_of inputs counts)
unfolding sources_of
sources_read total greatest scale bounds [] counts are same most few is in_range = All-nil (ReadsBack (source_form greatest scale bounds) source_bytes total)
sources_read total greatest scale bounds (input ∷ inputs) [] are same most few is in_range = absurd (omega (arith, same))
sources_read total greatest scale bounds (input ∷ inputs) (count ∷ counts) are same most few is in_range =
    All-cons (ReadsBack (source_form greatest scale bounds) source_bytes total) (source_facts (input, count)) (sources_of inputs counts)
    (source_reads total greatest scale bounds input count are (All-head (λ (i : Input). i.scale ≤ scale) input inputs most) (All-head (λ (n : SourceCount). n.points ≤ greatest) count counts few) (All-head (IsCount bounds) count counts is) (All-head ExtentInRange count counts in_range))
    (sources_read total greatest scale bounds inputs counts are (omega (arith, same)) (All-tail (λ (i : Input). i.scale ≤ scale) input inputs most) (All-tail (λ (n : SourceCount). n.points ≤ greatest) count counts few) (All-tail (IsCount bounds) count counts is) (All-tail ExtentInRange count counts in_range))
