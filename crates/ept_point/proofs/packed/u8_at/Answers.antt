use Rattle.std.proofs.Common.{arith}
use Rattle.ept_point.proofs.Pieces.{word_1}
use Rattle.ept_point.proofs.packed.u8_at.Goals as goal

pub returns : goal.returns
returns c =
    word_1 c.args.bytes.now c.args.at c.requires (λ i. omega (arith, c.type_inv.bytes i))
