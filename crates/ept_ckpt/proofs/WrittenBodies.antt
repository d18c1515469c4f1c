-- The body of a checkpoint reads back as that checkpoint.
use Rattle.std.proofs.Common.{◌≡◌, ◌≢◌, ◌∙◌, ℕ, ◌+◌, ◌^◌, ◌<◌, ◌≤◌, Bool, true, false, List, [], ◌∷◌, ◌++◌, length, Ok, refl, sym, ap, arith, append-nil, append_assoc, get_or}
use Rattle.std.specs.Prelude.{◌==◌, if◌then◌else◌}
use Rattle.std.specs.List.{All, flat_map}
use Rattle.std.proofs.lemmas.Bool.{le-leb}
use Rattle.std.proofs.lemmas.List.Sums.{sum_by-le, get_or-le-sum_by}
use Rattle.byteorder.specs.Endian.{little_bytes}
use Rattle.ept_space.specs.declared.bounds.Bounds.{Bounds}
use Rattle.ept_config.specs.declared.input.Input.{Input}
use Rattle.ept_config.specs.declared.source_count.SourceCount.{SourceCount}
use Rattle.ept_config.specs.Counts.{total, IsCount}
use Rattle.ept_ckpt.specs.declared.checkpoint.Checkpoint.{Checkpoint}
use Rattle.ept_ckpt.specs.declared.node_line.NodeLine.{NodeLine}
use Rattle.ept_class.proofs.Bits.{no_member_bytes}
use Rattle.ept_ckpt.specs.declared.version.BodyVersion.{BodyVersion}
use Rattle.ept_ckpt.specs.declared.version.BodyVersion.TheVariants.{V1, V2, V3}
use Rattle.ept_ckpt.specs.Versions.{most_points_of, spare_of}
use Rattle.ept_ckpt.specs.Body.{mark_bytes, kept_bytes, precedence_bytes, source_bytes, node_bytes, body}
use Rattle.ept_ckpt.specs.Facts.{PrecedenceFacts, Source, sources_of, kept_facts, precedence_of, facts}
use Rattle.ept_ckpt.specs.Fields.{number}
use Rattle.ept_ckpt.specs.Forms.{mark, precedence_form, no_precedence, ripe, node_form, source_form, deepest_of, points_of_sources, end, fields}
use Rattle.ept_ckpt.specs.Octree.{points_in}
use Rattle.ept_ckpt.proofs.Paired.{points_of_pairs}
use Rattle.ept_ckpt.proofs.SourceText.{length_sources}
use Rattle.ept_ckpt.proofs.WrittenLists.{nine_then, ReadsBack, times_written}
use Rattle.ept_ckpt.proofs.WrittenNodes.{line_written}
use Rattle.ept_ckpt.proofs.WrittenNumbers.{read_then, within_read, byte_within, bytes_written, number_written}
use Rattle.ept_ckpt.proofs.WrittenSettings.{kept_written}
use Rattle.ept_ckpt.proofs.WrittenSources.{sources_read}

mark_written : (total : ℕ) (version : BodyVersion) (rest : List ℕ) → mark total (mark_bytes version ++ rest) ≡ Ok (version, rest)
unfolding mark mark_bytes
mark_written total V1 rest = read_then _ (bytes_written total 8 (mark_bytes V1) rest refl) refl
mark_written total V2 rest = read_then _ (bytes_written total 8 (mark_bytes V2) rest refl) refl
mark_written total V3 rest = read_then _ (bytes_written total 8 (mark_bytes V3) rest refl) refl

-- 1 is true, and 0 is not
one_is_true : (b : Bool) → ((if b then 1 else 0) == 1) ≡ b
one_is_true true = refl
one_is_true false = refl

flag_most : (b : Bool) → (if b then 1 else 0) ≤ 1
flag_most true = omega arith
flag_most false = omega arith

precedence_written : (total : ℕ) (version : BodyVersion) (p : PrecedenceFacts) (rest : List ℕ) → length p.first ≡ 32 → (version ≢ V3 → p ≡ no_precedence) → precedence_form version total (precedence_bytes version p ++ rest) ≡ Ok (p, rest)
unfolding precedence_form
precedence_written total V1 p rest len plain = rw (plain (λ same. cc)) refl
precedence_written total V2 p rest len plain = rw (plain (λ same. cc)) refl
precedence_written total V3 p rest len plain =
    let last : ℕ = if p.withheld_last then 1 else 0 in
    rw (append_assoc p.first (last ∷ []) rest)
    (read_then _ (bytes_written total 32 p.first (last ∷ rest) len)
    (read_then _ (byte_within total 0 1 last rest (omega arith) (flag_most p.withheld_last))
    (ap (λ (b : Bool). Ok (record { first = p.first; withheld_last = b }, rest)) (one_is_true p.withheld_last))))

plain_is : (c : Checkpoint) → c.version ≢ V3 → precedence_of c.kept ≡ no_precedence
plain_is c older =
    let plain = c.is_checkpoint.plain older in
    let bytes = no_member_bytes c.kept.first plain.0 in
    λ i. record { first = bytes i; withheld_last = plain.1 i }

ripe_written : (total generation most : ℕ) (rest : List ℕ) → 1 ≤ generation → generation ≤ most → ripe generation most total rest ≡ Ok (tt, rest)
unfolding ripe
ripe_written total generation most rest low high = rw (le-leb 1 generation low, le-leb generation most high) refl

-- ---- how large the numbers are

points_few : (bounds : Bounds) (counts : List SourceCount) → length counts ≤ 65535 → All (IsCount bounds) counts → total counts < 2 ^ 56
points_few bounds counts few is =
    let most = sum_by-le (λ (count : SourceCount). count.points) (2 ^ 40) counts (λ k d inside. let small = (is k d inside).few in omega (arith, small)) in
    omega (arith, most, few)

inserted_few : (c : Checkpoint) → c.inserted < 2 ^ 56
inserted_few c = omega (arith, points_few c.kept.bounds c.counts (omega (arith, c.is_checkpoint.each, c.kept.layout.inputs_most)) c.is_checkpoint.counted, c.is_checkpoint.inserted_most)

spare_few : (version : BodyVersion) → spare_of version ≤ 1
spare_few V1 = omega arith
spare_few V2 = omega arith
spare_few V3 = omega arith

generation_few : (c : Checkpoint) → c.generation < 2 ^ 64
generation_few c = omega (arith, inserted_few c, c.is_checkpoint.generation_most, c.kept.layout.inputs_most, spare_few c.version)

-- the number of sources is that of the inputs
sources_number : (inputs : List Input) (counts : List SourceCount) → length counts ≡ length inputs → length (sources_of inputs counts) ≡ length inputs
unfolding sources_of
sources_number inputs counts same = length_sources inputs counts same ∙ same

nodes_read : (total : ℕ) (c : Checkpoint) → All (ReadsBack (node_form (deepest_of (kept_facts c.kept))) node_bytes total) c.nodes
nodes_read total c k d inside rest =
    let count : (get_or c.nodes k d).count ≤ points_in c.nodes = get_or-le-sum_by (λ (line : NodeLine). line.count) c.nodes k d inside in
    line_written total (deepest_of (kept_facts c.kept)) (get_or c.nodes k d) rest (c.is_checkpoint.lines k d inside).is_key (c.is_checkpoint.lines k d inside).depth_most (omega (arith, count, c.is_checkpoint.nodes_are.counted, inserted_few c))

-- ---- all fields

fields_written : (total : ℕ) (c : Checkpoint) → fields total (body (facts c) ++ []) ≡ Ok (facts c, [])
unfolding fields body end
fields_written total c =
    let is = c.is_checkpoint in
    let kept = kept_facts c.kept in
    let sources : List Source = sources_of c.kept.inputs c.counts in
    let number_is = sources_number c.kept.inputs c.counts is.each in
    let nodes : List ℕ = flat_map node_bytes c.nodes ++ [] in
    let lines : List ℕ = little_bytes 4 (length c.nodes) ++ nodes in
    let inserted : List ℕ = little_bytes 8 c.inserted ++ lines in
    let each : List ℕ = flat_map source_bytes sources ++ inserted in
    let inputs : List ℕ = little_bytes 4 (length sources) ++ each in
    let precedence : List ℕ = precedence_bytes c.version (precedence_of c.kept) ++ inputs in
    let settings : List ℕ = kept_bytes kept ++ precedence in
    let generation : List ℕ = little_bytes 8 c.generation ++ settings in
    let few = inserted_few c in
    let points = points_of_pairs c.kept.inputs c.counts is.each in
    rw (nine_then (mark_bytes c.version) (little_bytes 8 c.generation) (kept_bytes kept) (precedence_bytes c.version (precedence_of c.kept)) (little_bytes 4 (length sources)) (flat_map source_bytes sources) (little_bytes 8 c.inserted) (little_bytes 4 (length c.nodes)) (flat_map node_bytes c.nodes) [])
    (read_then _ (mark_written total c.version generation)
    (read_then _ (number_written total 8 c.generation settings (omega (arith, generation_few c)))
    (read_then _ (kept_written total c.kept precedence)
    (read_then _ (precedence_written total c.version (precedence_of c.kept) inputs c.kept.first.set_bytes.len (plain_is c))
    (read_then _ (within_read 1 65535 (number 4) total inputs each (length sources) (number_written total 4 (length sources) each (omega (arith, number_is, c.kept.layout.inputs_most))) (omega (arith, number_is, c.kept.layout.inputs_some)) (omega (arith, number_is, c.kept.layout.inputs_most)))
    (read_then _ (times_written (source_form (most_points_of c.version) kept.scale kept.bounds) source_bytes total sources inserted (sources_read total (most_points_of c.version) kept.scale kept.bounds c.kept.inputs c.counts c.kept.has_bounds is.each c.kept.layout.inputs_scale is.few is.counted is.extents))
    (read_then _ (within_read 0 (points_of_sources sources) (number 8) total inserted lines c.inserted (number_written total 8 c.inserted lines (omega (arith, few))) (omega arith) (omega (arith, points, is.inserted_most)))
    (read_then _ (number_written total 4 (length c.nodes) nodes (omega (arith, is.nodes_few)))
    (read_then _ (times_written (node_form (deepest_of kept)) node_bytes total c.nodes [] (nodes_read total c))
    (read_then _ (ripe_written total c.generation (c.inserted + length sources + spare_of c.version) [] is.generation_least (omega (arith, number_is, is.generation_most))) refl))))))))))

-- the body of a checkpoint reads back as that checkpoint
pub written : (c : Checkpoint) → fields (length (body (facts c))) (body (facts c)) ≡ Ok (facts c, [])
written c =
    let total : ℕ = length (body (facts c)) in
    ap (fields total) (sym (append-nil (body (facts c)))) ∙ fields_written total c
