-- A signed number that fits its width is the number that its bits represent.
use Rattle.std.proofs.lemmas.Int.{to_z-of_z}

pub ruleset signed = to_z-of_z
