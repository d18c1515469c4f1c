-- A body whose fields are all read is the body of what is read.
use Rattle.std.proofs.Common.{◌≡◌, ◌∙◌, ℕ, ◌+◌, ◌<◌, ◌^◌, List, [], ◌++◌, length, slice_index, Ok, append-nil}
use Rattle.std.specs.Prelude.{⊤}
use Rattle.std.specs.List.{flat_map}
use Rattle.byteorder.specs.Endian.{little_bytes}
use Rattle.ept_ckpt.specs.Facts.{CheckpointFacts}
use Rattle.ept_ckpt.specs.Body.{mark_bytes, kept_bytes, precedence_bytes, source_bytes, node_bytes, body}
use Rattle.ept_ckpt.specs.Fields.{bytes, number, within, times}
use Rattle.ept_ckpt.specs.Forms.{mark, kept_form, precedence_form, source_form, node_form, points_of_sources, deepest_of, end, ripe, fields}
use Rattle.ept_ckpt.proofs.ReadNumbers.{CutsOff, steps, same_read, tested, uncut, cut_by, all_cut, field_cut, number_cut}
use Rattle.ept_ckpt.specs.Versions.{most_points_of, spare_of}
use Rattle.ept_ckpt.proofs.ReadSettings.{kept_cut}
use Rattle.ept_ckpt.proofs.ReadPrecedence.{mark_cut, precedence_cut}
use Rattle.ept_ckpt.proofs.ReadSources.{source_cut}
use Rattle.ept_ckpt.proofs.ReadNodes.{node_cut, times_cut, times_count}

-- nothing is read at the end, or when the generation is judged
end_cut : CutsOff ⊤ end (λ _. [])
unfolding end
end_cut = record { cut = λ total rest left seen fit read. (same_read (tested _ _ _ read).1).1 }

ripe_cut : (generation most : ℕ) → CutsOff ⊤ (ripe generation most) (λ _. [])
unfolding ripe
ripe_cut generation most = record { cut = λ total rest left judged fit read. (same_read (tested _ _ _ read).1).1 }

-- the counts of the inputs and of the nodes are their lengths
counted : (front sources inserted nodes : List ℕ) (inputs lines m n : ℕ) → inputs ≡ m → lines ≡ n
    → ((((((front ++ little_bytes 4 inputs) ++ sources) ++ inserted) ++ little_bytes 4 lines) ++ nodes) ++ []) ++ [] ≡ ((((front ++ little_bytes 4 m) ++ sources) ++ inserted) ++ little_bytes 4 n) ++ nodes
counted front sources inserted nodes inputs lines m n inputs_are lines_are = rw (inputs_are, lines_are) (append-nil _ ∙ append-nil _)

fields_cut : CutsOff CheckpointFacts fields body
unfolding fields body
fields_cut = record {
  cut = λ total rest left f fit read.
      steps (mark total rest) _ read (λ version m1 r1 read1.
      steps (number 8 total m1) _ read1 (λ generation m2 r2 read2.
      steps (kept_form total m2) _ read2 (λ kept m3 r3 read3.
      steps (precedence_form version total m3) _ read3 (λ precedence m4 r4 read4.
      steps (within 1 65535 (number 4) total m4) _ read4 (λ inputs m5 r5 read5.
      steps (times inputs (source_form (most_points_of version) kept.scale kept.bounds) total m5) _ read5 (λ sources m6 r6 read6.
      steps (within 0 (points_of_sources sources) (number 8) total m6) _ read6 (λ inserted m7 r7 read7.
      steps (number 4 total m7) _ read7 (λ lines m8 r8 read8.
      steps (times lines (node_form (deepest_of kept)) total m8) _ read8 (λ nodes m9 r9 read9.
      steps (end total m9) _ read9 (λ ended m10 r10 read10.
      steps (ripe generation (inserted + inputs + spare_of version) total m10) _ read10 (λ judged m11 r11 last.
      let settings = cut_by total (precedence_cut version) (cut_by total kept_cut (cut_by total (number_cut 8) (cut_by total mark_cut (uncut rest fit) r1) r2) r3) r4 in
      let inputs_read = cut_by total (times_cut inputs (source_cut (most_points_of version) kept.scale kept.bounds)) (cut_by total (field_cut _ (number_cut 4)) settings r5) r6 in
      let lines_read = cut_by total (number_cut 4) (cut_by total (field_cut _ (number_cut 8)) inputs_read r7) r8 in
      let nodes_read = cut_by total (times_cut lines (node_cut (deepest_of kept))) lines_read r9 in
      all_cut body (cut_by total (ripe_cut generation (inserted + inputs + spare_of version)) (cut_by total end_cut nodes_read r10) r11)
      (counted (mark_bytes version ++ little_bytes 8 generation ++ kept_bytes kept ++ precedence_bytes version precedence) (flat_map source_bytes sources) (little_bytes 8 inserted) (flat_map node_bytes nodes) inputs lines (length sources) (length nodes)
      (times_count (source_form (most_points_of version) kept.scale kept.bounds) inputs total m5 m6 sources r6) (times_count (node_form (deepest_of kept)) lines total m8 m9 nodes r9)) last)))))))))));
}

-- bytes whose fields are all read are the body of what is read
pub read_back : (bytes : List ℕ) (f : CheckpointFacts) → ((i : ℕ) → slice_index bytes i < 2 ^ 8) → fields (length bytes) bytes ≡ Ok (f, []) → bytes ≡ body f
read_back bytes f fit read = fields_cut.cut (length bytes) bytes [] f fit read ∙ append-nil (body f)
