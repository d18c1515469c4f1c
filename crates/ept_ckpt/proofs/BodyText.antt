-- The bytes of a checkpoint, one field after another.
use Rattle.std.proofs.Common.{◌≡◌, ◌∙◌, ◌++◌, ℕ, List, sym, ap, map, length}
use Rattle.std.specs.List.{flat_map, zip}
use Rattle.byteorder.specs.Endian.{little_bytes}
use Rattle.ept_config.specs.Facts.{input_facts}
use Rattle.ept_config.specs.declared.source_count.SourceCount.{SourceCount}
use Rattle.ept_ckpt.specs.declared.node_line.NodeLine.{NodeLine}
use Rattle.ept_ckpt.specs.declared.checkpoint.Checkpoint.{Checkpoint}
use Rattle.ept_ckpt.specs.Facts.{sources_of, kept_facts, precedence_of, facts}
use Rattle.ept_ckpt.specs.Body.{mark_bytes, kept_bytes, precedence_bytes, source_bytes, node_bytes, body}
use Rattle.ept_ckpt.proofs.Appending.{nine_written}
use Rattle.ept_ckpt.proofs.SourceText.{length_sources}

-- the body with n sources of these counts, and these nodes
body_with : Checkpoint → ℕ → List SourceCount → List NodeLine → List ℕ
body_with c n counts nodes =
    mark_bytes c.version
    ++ little_bytes 8 c.generation
    ++ kept_bytes (kept_facts c.kept)
    ++ precedence_bytes c.version (precedence_of c.kept)
    ++ little_bytes 4 n
    ++ flat_map source_bytes (zip (map input_facts c.kept.inputs) counts)
    ++ little_bytes 8 c.inserted
    ++ little_bytes 4 (length nodes)
    ++ flat_map node_bytes nodes

pub body_written : (c : Checkpoint) (counts : List SourceCount) (nodes : List NodeLine) (start t0 t1 t2 t3 t4 t5 t6 t7 end : List ℕ) → counts ≡ c.counts → nodes ≡ c.nodes
    → t0 ≡ start ++ mark_bytes c.version → t1 ≡ t0 ++ little_bytes 8 c.generation → t2 ≡ t1 ++ kept_bytes (kept_facts c.kept) → t3 ≡ t2 ++ precedence_bytes c.version (precedence_of c.kept) → t4 ≡ t3 ++ little_bytes 4 (length counts)
    → t5 ≡ t4 ++ flat_map source_bytes (zip (map input_facts c.kept.inputs) counts) → t6 ≡ t5 ++ little_bytes 8 c.inserted → t7 ≡ t6 ++ little_bytes 4 (length nodes) → end ≡ t7 ++ flat_map node_bytes nodes
    → end ≡ start ++ body (facts c)
unfolding body body_with sources_of
body_written c counts nodes start t0 t1 t2 t3 t4 t5 t6 t7 end counts_are nodes_are e0 e1 e2 e3 e4 e5 e6 e7 e8 =
    nine_written start (mark_bytes c.version) (little_bytes 8 c.generation) (kept_bytes (kept_facts c.kept)) (precedence_bytes c.version (precedence_of c.kept)) (little_bytes 4 (length counts)) (flat_map source_bytes (zip (map input_facts c.kept.inputs) counts)) (little_bytes 8 c.inserted) (little_bytes 4 (length nodes)) (flat_map node_bytes nodes)
    t0 t1 t2 t3 t4 t5 t6 t7 end e0 e1 e2 e3 e4 e5 e6 e7 e8
    ∙ ap (λ cs. start ++ body_with c (length cs) cs nodes) counts_are
    ∙ ap (λ ns. start ++ body_with c (length c.counts) c.counts ns) nodes_are
    ∙ ap (λ n. start ++ body_with c n c.counts c.nodes) (sym (length_sources c.kept.inputs c.counts c.is_checkpoint.each))
