use Rattle.std.proofs.Common.{◌∙◌}
use Rattle.ept_point.proofs.Pieces.{word_4}
use Rattle.ept_point.proofs.packed.u32_at.Goals as goal

pub returns : goal.returns
returns c =
    word_4 c.chunk_at.result _ c.chunk_at.ensures.len c.chunk_at.ensures.bytes c.from_le_bytes.ensures ∙ c.chunk_at.ensures.value
