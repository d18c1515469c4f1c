use Rattle.std.proofs.Common.{◌≡◌, ℕ, ◌/◌, ◌^◌, ◌==◌, ap, bit_and}
use Rattle.std.proofs.lemmas.Nat.Bits.{shr_and_one}
use Rattle.ept_grid.specs.Mask.{opened}
use Rattle.ept_part.proofs.names.has_octant.Goals as goal

opened_shift : (octants o : ℕ) → (bit_and (octants / 2 ^ o) 1 == 1) ≡ opened octants o
unfolding opened
opened_shift octants o = ap (λ n. n == 1) (shr_and_one octants o)

pub returns : goal.returns
returns c = opened_shift c.args.octants c.args.octant
