use Rattle.std.proofs.Common.{ℕ, eqb, ap}
use Rattle.std.proofs.lemmas.Nat.Bits.{shr_and_one}
use Rattle.ept_space.proofs.groups.is_withheld.Goals as goal

pub returns : goal.returns
returns c = ap (λ (n : ℕ). eqb n 1) (shr_and_one c.args.flags 2)
