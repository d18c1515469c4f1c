-- What is kept of the configuration except the inputs is written and reads back.
use Rattle.std.proofs.Common.{◌≡◌, ℕ, ◌^◌, List, ◌∷◌, ◌++◌, Ok, refl, arith}
use Rattle.byteorder.specs.Endian.{little_bytes}
use Rattle.ept_config.specs.declared.kept.Kept.{Kept}
use Rattle.ept_ckpt.specs.Body.{i64_bytes, bounds_bytes, srs_bytes, kept_bytes}
use Rattle.ept_ckpt.specs.Facts.{kept_facts}
use Rattle.ept_ckpt.specs.Fields.{number}
use Rattle.ept_ckpt.specs.Forms.{kept_form}
use Rattle.ept_ckpt.proofs.WrittenLists.{three_then}
use Rattle.ept_ckpt.proofs.WrittenNumbers.{read_then, within_read, byte_within, number_written}
use Rattle.ept_ckpt.proofs.WrittenPlaces.{three_written, bounds_written}
use Rattle.ept_ckpt.proofs.WrittenTexts.{srs_written}

pub kept_written : (total : ℕ) (kept : Kept) (rest : List ℕ) → kept_form total (kept_bytes (kept_facts kept) ++ rest) ≡ Ok (kept_facts kept, rest)
unfolding kept_form kept_bytes
kept_written total kept rest =
    let is = kept.layout in
    let facts = kept_facts kept in
    let srs : List ℕ = srs_bytes facts.srs ++ rest in
    let bounds : List ℕ = bounds_bytes kept.bounds ++ srs in
    let offset : List ℕ = i64_bytes kept.offset ++ bounds in
    let threshold : List ℕ = little_bytes 4 kept.threshold ++ offset in
    let step : List ℕ = kept.step ∷ threshold in
    let depth : List ℕ = kept.max_depth ∷ step in
    let span : List ℕ = kept.s ∷ depth in
    rw (three_then (i64_bytes kept.offset) (bounds_bytes kept.bounds) (srs_bytes facts.srs) rest)
    (read_then _ (byte_within total 0 9 kept.scale span (omega arith) is.scale_most)
    (read_then _ (byte_within total 1 10 kept.s depth is.span_least is.span_most)
    (read_then _ (byte_within total 0 32 kept.max_depth step (omega arith) is.depth_most)
    (read_then _ (byte_within total 0 32 kept.step threshold (omega arith) is.step_most)
    (read_then _ (within_read 0 (2 ^ 31) (number 4) total threshold offset kept.threshold (number_written total 4 kept.threshold offset (omega (arith, is.threshold_most))) (omega arith) is.threshold_most)
    (read_then _ (three_written total (10 ^ 9) kept.offset bounds (omega arith) is.offset_within)
    (read_then _ (bounds_written total kept.bounds srs kept.has_bounds)
    (read_then _ (srs_written total facts.srs rest kept.srs.in_range) refl))))))))
