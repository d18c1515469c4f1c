use Rattle.std.proofs.Common.{◌-◌, arith}
use Rattle.ept_space.proofs.Within.{is_within-parents, parents-within, is_below-within, is_below-deeper, is_below-from, is_within-self, is_within-trans, is_within-chain, is_within-unique, is_within-root, same_key-true, same_key-same, is_below-child, is_within-some_child, is_within-one_child, is_within-above, is_below-parent}
use Rattle.ept_space.proofs.laws.within_law.Goals as goal

pub returns-clause-by_parents : goal.returns-clause-by_parents
returns-clause-by_parents c = λ top key. (
  (λ h. (key.depth - top.depth, omega arith, parents-within top key h)),
  (λ steps. is_within-parents steps.0 top key steps.1 steps.2),
)

pub returns-clause-below : goal.returns-clause-below
returns-clause-below c = λ top key. (
  (λ h. (is_below-within top key h, is_below-deeper top key h)),
  (λ h. is_below-from top key h.0 h.1),
)

pub returns-clause-itself : goal.returns-clause-itself
returns-clause-itself c = is_within-self

pub returns-clause-and_on : goal.returns-clause-and_on
returns-clause-and_on c = is_within-trans

pub returns-clause-in_order : goal.returns-clause-in_order
returns-clause-in_order c = is_within-chain

pub returns-clause-one_a_depth : goal.returns-clause-one_a_depth
returns-clause-one_a_depth c = is_within-unique

pub returns-clause-root_has_all : goal.returns-clause-root_has_all
returns-clause-root_has_all c = is_within-root

pub returns-clause-same_key : goal.returns-clause-same_key
returns-clause-same_key c = λ a b. (same_key-true a b, same_key-same a b)

pub returns-clause-in_a_child : goal.returns-clause-in_a_child
returns-clause-in_a_child c = λ key lower.
    (is_within-some_child key lower, (λ w. is_below-child key w.0 lower w.2))

pub returns-clause-in_one_child : goal.returns-clause-in_one_child
returns-clause-in_one_child c = is_within-one_child

pub returns-clause-below_by_parent : goal.returns-clause-below_by_parent
returns-clause-below_by_parent c = λ top key deep.
    (is_within-above top key, (λ h. is_below-parent top key h deep))
