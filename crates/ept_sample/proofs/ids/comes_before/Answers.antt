use Rattle.std.proofs.Common.{◌≡◌, ◌↔◌, true, subst}
use Rattle.ept_point.specs.declared.id.PointId.{PointId}
use Rattle.ept_point.specs.Order.{id, IsBefore}
use Rattle.ept_sample.proofs.IdLaws.{tested}
use Rattle.ept_sample.proofs.ids.comes_before.Goals as goal

pub returns : goal.returns
returns c =
    tested c.is_before.result c.args.first.now c.args.second.now
    (subst (λ (a : PointId). c.is_before.result ≡ true ↔ IsBefore a (id c.args.second.now)) c.id.ensures (subst (λ (b : PointId). c.is_before.result ≡ true ↔ IsBefore c.id.result b) c.id-2.ensures c.is_before.ensures))
