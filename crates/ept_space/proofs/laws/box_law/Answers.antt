use Rattle.std.proofs.Common.{arith, sym, ◌∙◌}
use Rattle.ept_space.proofs.PlaceKeys.{InCube-root, InBox-root, InCube-box, InBox-within, InBox-child_within, InBox-child, octant_at-child}
use Rattle.ept_space.proofs.laws.box_law.Goals as goal

pub returns-clause-root : goal.returns-clause-root
returns-clause-root c = λ cube place. (InCube-root cube place, InBox-root cube place)

pub returns-clause-in_cube : goal.returns-clause-in_cube
returns-clause-in_cube c = λ cube key place h is_key low. InCube-box cube key place is_key (omega arith)

pub returns-clause-nest : goal.returns-clause-nest
returns-clause-nest c = λ cube top key place h low inside. InBox-within cube top key place inside (omega arith)

pub returns-clause-child_in_parent : goal.returns-clause-child_in_parent
returns-clause-child_in_parent c = λ cube key octant place h low.
    InBox-child_within cube key octant place (omega arith)

pub returns-clause-has_child : goal.returns-clause-has_child
returns-clause-has_child c = λ cube key place h low. InBox-child cube key place (omega arith)

pub returns-clause-has_one_child : goal.returns-clause-has_one_child
returns-clause-has_one_child c = octant_at-child

pub returns-clause-apart : goal.returns-clause-apart
returns-clause-apart c = λ cube key a b place small_a small_b in_a in_b.
    sym (octant_at-child cube key a place small_a in_a) ∙ octant_at-child cube key b place small_b in_b
