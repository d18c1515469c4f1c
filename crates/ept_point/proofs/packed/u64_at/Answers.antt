use Rattle.std.proofs.Common.{◌∙◌}
use Rattle.ept_point.proofs.Pieces.{word_8}
use Rattle.ept_point.proofs.packed.u64_at.Goals as goal

pub returns : goal.returns
returns c =
    word_8 c.chunk_at.result _ c.chunk_at.ensures.len c.chunk_at.ensures.bytes c.from_le_bytes.ensures ∙ c.chunk_at.ensures.value
