use Rattle.ept_space.proofs.KeyOrder.{key_cmp_total, key_cmp-less, key_cmp-before, key_cmp-equal, key_cmp-same, before-child}
use Rattle.ept_space.proofs.laws.order_law.Goals as goal

pub returns-clause-total : goal.returns-clause-total
returns-clause-total c = key_cmp_total

pub returns-clause-less : goal.returns-clause-less
returns-clause-less c = λ a b. (key_cmp-less a b, key_cmp-before a b)

pub returns-clause-equal : goal.returns-clause-equal
returns-clause-equal c = λ a b. (key_cmp-equal a b, key_cmp-same a b)

pub returns-clause-parent_first : goal.returns-clause-parent_first
returns-clause-parent_first c = before-child
