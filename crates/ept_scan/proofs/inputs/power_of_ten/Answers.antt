use Rattle.std.proofs.Common.{ap, pos, ◌^◌, ℕ, ◌∙◌}
use Rattle.ept_scan.proofs.Powers.{power_least}
use Rattle.ept_scan.proofs.inputs.power_of_ten.Goals as goal

pub returns-clause-least : goal.returns-clause-least
returns-clause-least c =
    power_least c.pow.result c.args.exponent (c.pow.ensures ∙ ap (λ (e : ℕ). pos (10 ^ e)) c.from.ensures) c.requires
