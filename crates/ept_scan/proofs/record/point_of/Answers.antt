use Rattle.std.proofs.Common.{◌≡◌, true, false, inr}
use Rattle.ept_scan.proofs.record.point_of.Goals as goal

pub returns-else-is_allowed-clause-bytes : goal.returns-else-is_allowed-clause-bytes
returns-else-is_allowed-clause-bytes c =
    inr (c.in-Ok.point, c.in-Ok.ensures.reads, λ allowed. let wrong : false ≡ true = c.if-is_allowed.ensures.1 allowed in cc)
