-- The bytes of an input and its count, one field after another.
use Rattle.std.proofs.Common.{◌≡◌, ◌∙◌, ◌++◌, ◌+◌, ◌<◌, ℕ, List, [], ◌∷◌, sym, ap, arith, map, take, length, get_or, Some}
use Rattle.std.specs.List.{flat_map, zip, slice_get}
use Rattle.std.proofs.lemmas.List.{length-map}
use Rattle.std.proofs.lemmas.Option.{get_or_from_slice_get}
use Rattle.std.proofs.lemmas.Slice.Zip.{length-zip, get_or-zip}
use Rattle.std.proofs.Math.ListN.{get_or-map}
use Rattle.byteorder.specs.Endian.{little_bytes}
use Rattle.ept_config.specs.Facts.{InputFacts, input_facts}
use Rattle.ept_config.specs.declared.input.Input.{Input}
use Rattle.ept_config.specs.declared.source_count.SourceCount.{SourceCount}
use Rattle.ept_ckpt.specs.Facts.{Source}
use Rattle.ept_ckpt.specs.Body.{source_bytes, text_bytes, i64_bytes, bounds_bytes, flag, optional}
use Rattle.ept_ckpt.proofs.Appending.{item_written, eight_written}

byte : (n m : ℕ) (t u : List ℕ) → n ≡ m → u ≡ t ++ (n ∷ []) → u ≡ t ++ (m ∷ [])
byte n m t u same is = is ∙ ap (λ (k : ℕ). t ++ (k ∷ [])) same

pub source_written : (source : Source) (expected there : ℕ) (start t0 t1 t2 t3 t4 t5 t6 end : List ℕ) → expected ≡ flag source.0.expect → there ≡ flag source.1.extent
    → t0 ≡ start ++ text_bytes source.0.path → t1 ≡ t0 ++ (source.0.scale ∷ []) → t2 ≡ t1 ++ i64_bytes source.0.shift → t3 ≡ t2 ++ (expected ∷ []) → t4 ≡ t3 ++ optional (λ bytes. bytes) source.0.expect
    → t5 ≡ t4 ++ little_bytes 8 source.1.points → t6 ≡ t5 ++ (there ∷ []) → end ≡ t6 ++ optional bounds_bytes source.1.extent → end ≡ start ++ source_bytes source
unfolding source_bytes
source_written source expected there start t0 t1 t2 t3 t4 t5 t6 end expected_is there_is e0 e1 e2 e3 e4 e5 e6 e7 =
    eight_written start (text_bytes source.0.path) (source.0.scale ∷ []) (i64_bytes source.0.shift) (flag source.0.expect ∷ []) (optional (λ bytes. bytes) source.0.expect) (little_bytes 8 source.1.points) (flag source.1.extent ∷ []) (optional bounds_bytes source.1.extent)
    t0 t1 t2 t3 t4 t5 t6 end e0 e1 e2 (byte _ _ t2 t3 expected_is e3) e4 e5 (byte _ _ t5 t6 there_is e6) e7

-- the number of pairs is that of the inputs, if there is a count for each input
pub length_sources : (inputs : List Input) (counts : List SourceCount) → length counts ≡ length inputs → length (zip (map input_facts inputs) counts) ≡ length counts
length_sources inputs counts same = omega (arith, length-zip (map input_facts inputs) counts, length-map inputs input_facts)

source_at : (inputs : List Input) (counts : List SourceCount) (k : ℕ) (input : Input) (d : SourceCount) → length counts ≡ length inputs → k < length counts → slice_get inputs k ≡ Some input → (let s : Source = (input_facts input, get_or counts k d) in s) ≡ get_or (zip (map input_facts inputs) counts) k (input_facts input, d)
source_at inputs counts k input d same inside is =
    ap (λ (a : InputFacts). let s : Source = (a, get_or counts k d) in s) (sym (get_or-map input_facts inputs k input ∙ ap input_facts (get_or_from_slice_get inputs k input input is)))
    ∙ sym (get_or-zip (map input_facts inputs) counts k (input_facts input, d) (omega (arith, length-map inputs input_facts, same, inside)) inside)

-- one more input, with its count, after those before it
pub next_source : (inputs : List Input) (counts : List SourceCount) (k : ℕ) (input : Input) (d : SourceCount) (start before after : List ℕ) → length counts ≡ length inputs → k < length counts → slice_get inputs k ≡ Some input
    → before ≡ start ++ flat_map source_bytes (take k (zip (map input_facts inputs) counts)) → after ≡ before ++ source_bytes (input_facts input, get_or counts k d) → after ≡ start ++ flat_map source_bytes (take (k + 1) (zip (map input_facts inputs) counts))
next_source inputs counts k input d start before after same inside is so_far then_source =
    item_written source_bytes (zip (map input_facts inputs) counts) k (input_facts input, d) start before after
    (omega (arith, length_sources inputs counts same, inside)) so_far (then_source ∙ ap (λ s. before ++ source_bytes s) (source_at inputs counts k input d same inside is))
