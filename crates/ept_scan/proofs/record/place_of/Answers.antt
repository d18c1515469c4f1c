use Rattle.std.proofs.Common.{◌≡◌, true, false, inr, refl, arith}
use Rattle.ept_las.proofs.SomePoint.{place_has_point}
use Rattle.ept_scan.proofs.record.place_of.Goals as goal

pub returns-then-may_lie : goal.returns-then-may_lie
returns-then-may_lie c format n is room fits =
    let some = place_has_point format c.args.reading.now.shift c.args.reading.now.origin n c.args.bytes.now c.in-Ok.place is room (λ i. omega (arith, c.type_inv.bytes i)) c.args.reading.now.origin_fits fits c.in-Ok.ensures in
    (some.0, some.2, (c.if-may_lie.ensures some.0 some.2).0 refl, some.1)

pub returns-else-may_lie : goal.returns-else-may_lie
returns-else-may_lie c format n is room fits =
    let some = place_has_point format c.args.reading.now.shift c.args.reading.now.origin n c.args.bytes.now c.in-Ok.place is room (λ i. omega (arith, c.type_inv.bytes i)) c.args.reading.now.origin_fits fits c.in-Ok.ensures in
    inr (some.0, some.1, λ allowed. let wrong : false ≡ true = (c.if-may_lie.ensures some.0 some.2).1 allowed in cc)
