use Rattle.ept_point.proofs.OrderLaws.{not_before_itself, before_trans, before_total}
use Rattle.ept_point.proofs.laws.id_order_law.Goals as goal

pub returns : goal.returns
returns c = record {
  irreflexive = not_before_itself;
  transitive = before_trans;
  total = before_total;
}
